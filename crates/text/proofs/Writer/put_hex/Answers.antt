-- `text::Writer::put_hex` meets its contract. A law for each of the two answers.
use Rattle.text.proofs.Laws.{hex_none, hex_some}
use Rattle.text.proofs.Writer.put_hex.Goals as goal

pub returns-then-is_empty : goal.returns-then-is_empty
returns-then-is_empty c = hex_none _ c.if-is_empty.ensures c.put_byte.ensures

pub returns-else-is_empty : goal.returns-else-is_empty
returns-else-is_empty c = hex_some _ c.if-is_empty.ensures c.put_bytes.ensures
