-- `walk::next_node` meets its contract. The invariant: what comes after the first node comes after the one at hand.
use Rattle.std.proofs.Common.{◌≡◌, ◌+◌, ◌^◌}
use Rattle.el.specs.Table.{Table, atoms}
use Rattle.walk.specs.Step.{Climbs}
use Rattle.walk.proofs.next_node.Given as goal

abbrev pub invariant-loop-k : goal.invariant-loop-k
invariant-loop-k l = (t : Table) → 2 ^ atoms t ≡ l.last + 1 → Climbs t l.fn.sets.set l.fn.sets.chosen l.sets.set l.k
