-- `text::Writer::put_bytes` meets its contract: no byte is written at first, and each turn writes one more.
use Rattle.text.proofs.Laws.{bytes_start, bytes_turn}
use Rattle.text.proofs.Writer.put_bytes.Goals as goal

pub loop-b-init : goal.loop-b-init
loop-b-init c = bytes_start _

pub loop-b-preserved : goal.loop-b-preserved
loop-b-preserved c = bytes_turn _ _ c.loop-b-test.true c.digit_of.ensures c.digit_of-in-loop-b.ensures c.loop-b.invariant c.put_byte.ensures c.put_byte-in-loop-b.ensures
