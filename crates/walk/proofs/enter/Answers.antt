-- `walk::enter` meets its contract: one law for each of its two ends.
use Rattle.std.proofs.Common.{◌≡◌, ℕ, refl, ap, arith, rules, length, set}
use Rattle.bounds.specs.Bounds.{max_variables}
use Rattle.walk.specs.StepLaws.{looks_solved, looks_down}
use Rattle.walk.proofs.enter.Goals as goal

pub returns-then-sets-v : goal.returns-then-sets-v
returns-then-sets-v c = λ t hv live. (let p = c.requires in let n : length c.args.sets.now.set ≡ max_variables = search rules in
    looks_solved t c.args.sets.now (omega arith) live (omega arith))

pub returns : goal.returns
returns c = λ t hv live. (let p = c.requires in let n : length c.args.sets.now.set ≡ max_variables = search rules in
    looks_down t c.args.sets.now (omega arith) live _ (omega arith) (omega arith) (ap (λ (n : ℕ). set c.args.sets.now.set c.args.sets.now.chosen n) (omega arith)) refl)
