-- `order::left_set` meets its contract. The loop: what is joined so far is the union of the sets of the entries passed (`union_to`).
use Rattle.std.proofs.Common.{◌≡◌}
use Rattle.table.specs.Reading.{table_of}
use Rattle.table.specs.Layout.{AtLine}
use Rattle.order.specs.Rule.{union_to}
use Rattle.order.proofs.left_set.Given as goal

abbrev pub invariant-loop-i : goal.invariant-loop-i
invariant-loop-i l = AtLine l.table.bytes.now l.at (λ n. l.left ≡ union_to (table_of l.table.bytes.now) l.set n.left l.i)
