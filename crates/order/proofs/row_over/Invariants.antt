-- `order::row_over` meets its contract. The invariant: the mask has those of the first k rows whose roles lie under row j's.
use Rattle.order.specs.Given.{Over}
use Rattle.order.proofs.row_over.Given as goal

abbrev pub invariant-loop-k : goal.invariant-loop-k
invariant-loop-k l = Over l.table.bytes.now l.j l.k l.mask
