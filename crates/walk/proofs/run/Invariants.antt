-- `walk::run` meets its contract. The invariant: so far it went along nodes none of which ends the walk, but where it has ended. The
-- measure is what is left of the share.
use Rattle.std.proofs.Common.{◌-◌}
use Rattle.table.specs.Reading.{table_of}
use Rattle.walk.specs.Step.{Running}
use Rattle.walk.proofs.run.Given as goal

abbrev pub invariant-loop-prepared : goal.invariant-loop-prepared
invariant-loop-prepared l = Running (table_of l.table.bytes.now) l.fn.state.sets l.fn.state.count l.end l.state

abbrev pub decreases-loop-prepared : goal.decreases-loop-prepared
decreases-loop-prepared l = l.end - l.state.count
