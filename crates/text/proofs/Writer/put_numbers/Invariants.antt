-- `text::Writer::put_numbers` meets its contract. The invariant: the first i numbers are written.
use Rattle.std.proofs.Common.{take}
use Rattle.text.specs.Text.{numbers_text}
use Rattle.text.specs.Wrote.{Wrote}
use Rattle.text.proofs.Writer.put_numbers.Given as goal

abbrev pub invariant-loop-i : goal.invariant-loop-i
invariant-loop-i l = Wrote l.fn.self (numbers_text (take l.i l.numbers)) l.self
