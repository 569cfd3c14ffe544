-- `text::Writer::put_numbers` meets its contract: no number is written at first, and each turn writes one more.
use Rattle.text.proofs.Laws.{numbers_start, numbers_turn}
use Rattle.text.proofs.Writer.put_numbers.Goals as goal

pub loop-i-init : goal.loop-i-init
loop-i-init c = numbers_start _

pub loop-i-preserved : goal.loop-i-preserved
loop-i-preserved c = numbers_turn _ _ c.loop-i-test.true c.loop-i.invariant c.put_if.ensures c.put_decimal.ensures
