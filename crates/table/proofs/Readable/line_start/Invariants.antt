-- `table::Readable::line_start` meets its contract. The invariant: `at` is where line i begins; the layout of a readable table keeps it inside.
use mathlib.Core.Path.{◌≡◌}
use Rattle.table.specs.Layout.{line_start}
use Rattle.table.proofs.Readable.line_start.Given as goal

abbrev pub invariant-loop : goal.invariant-loop
invariant-loop l = l.at ≡ line_start l.self.bytes.now l.counter
