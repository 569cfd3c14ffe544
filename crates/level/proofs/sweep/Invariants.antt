-- `level::sweep` meets its contract. The invariant: so many siblings are passed, all dead, and the sets are the next.
use Rattle.table.specs.Reading.{table_of}
use Rattle.level.specs.Sweep.{At}
use Rattle.level.proofs.sweep.Given as goal

abbrev pub invariant-loop-passed : goal.invariant-loop-passed
invariant-loop-passed l = At (table_of l.table.bytes.now) l.initial.sets l.last l.passed l.sets
