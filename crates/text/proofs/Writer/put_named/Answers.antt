-- `text::Writer::put_named` meets its contract. The letter, and the number behind it.
use Rattle.text.proofs.WroteLaws.{wrote_then}
use Rattle.text.proofs.Writer.put_named.Goals as goal

pub returns : goal.returns
returns c = wrote_then c.put_byte.ensures c.put_decimal.ensures
