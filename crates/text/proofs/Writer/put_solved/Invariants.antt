-- `text::Writer::put_solved` meets its contract. The invariant: the lines of the first x variables are written.
use Rattle.table.specs.Reading.{table_of}
use Rattle.output.specs.Written.{set_in}
use Rattle.text.specs.Listing.{variable_lines}
use Rattle.text.specs.Wrote.{Wrote}
use Rattle.text.proofs.Writer.put_solved.Given as goal

abbrev pub invariant-loop-x : goal.invariant-loop-x
invariant-loop-x l = Wrote l.fn.self (variable_lines (table_of l.table.bytes.now) (set_in l.output) l.x) l.self
