-- `level::fresh_fails` meets its contract. The invariant: none of the first lines listed fails.
use Rattle.std.proofs.Common.{◌≡◌, false}
use Rattle.table.specs.Reading.{table_of}
use Rattle.level.specs.Level.{fresh_fails}
use Rattle.level.proofs.fresh_fails.Given as goal

abbrev pub invariant-loop-n : goal.invariant-loop-n
invariant-loop-n l = fresh_fails (table_of l.table.bytes.now) l.sets.set l.level.fresh l.n-index ≡ false
