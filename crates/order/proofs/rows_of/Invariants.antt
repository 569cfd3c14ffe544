-- `order::rows_of` meets its contract. The invariant: the first j rows are prepared.
use Rattle.order.specs.Given.{RowsTo}
use Rattle.order.proofs.rows_of.Given as goal

abbrev pub invariant-loop-j : goal.invariant-loop-j
invariant-loop-j l = RowsTo l.table.bytes.now l.j l.over l.inner
