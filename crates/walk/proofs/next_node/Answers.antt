-- `walk::next_node` meets its contract.
use Rattle.std.proofs.Common.{◌≡◌, ◌+◌, ◌-◌, arith, rules, length}
use Rattle.bounds.specs.Bounds.{max_variables}
use Rattle.walk.specs.StepLaws.{climbs_start, climbs_up, next_sibling, next_none}
use Rattle.walk.proofs.next_node.Goals as goal

pub loop-k-init : goal.loop-k-init
loop-k-init c = λ t e. climbs_start t _ _

pub returns-then-sets-k : goal.returns-then-sets-k
returns-then-sets-k c = λ t e.
    let n : length c.loop-k.sets.set ≡ max_variables = search rules in let h = c.requires.0 in
    let same : c.loop-k.k - 1 + 1 ≡ c.loop-k.k = omega arith in
    rw same (next_sibling t _ _ _ _ (c.loop-k.invariant t e) c.loop-k-test.true (omega arith) _ e c.if-sets-k.true)

pub loop-k-preserved : goal.loop-k-preserved
loop-k-preserved c = λ t e.
    let n : length c.loop-k.sets.set ≡ max_variables = search rules in let h = c.requires.0 in
    climbs_up t _ _ _ _ (c.loop-k.invariant t e) c.loop-k-test.true (omega arith) _ e c.if-sets-k.false

pub returns : goal.returns
returns c = λ t e. next_none t _ _ _ _ (c.loop-k.invariant t e) (omega arith)
