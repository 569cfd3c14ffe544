-- `node::first_failing` meets its contract. The invariant: none of the first n lines is ready and fails.
use Rattle.table.specs.Reading.{table_of}
use Rattle.node.specs.Node.{NoneFails}
use Rattle.node.proofs.first_failing.Given as goal

abbrev pub invariant-loop-n : goal.invariant-loop-n
invariant-loop-n l = NoneFails (table_of l.table.bytes.now) l.sets.set l.lines.mask l.settled l.n
