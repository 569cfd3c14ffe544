-- `level::level_of` meets its contract: the marks of what leads to the newest variable and to those after it, and the lines that pass.
use Rattle.std.proofs.Common.{◌≡◌, ◌-◌, ◌*◌, ◌%◌, ◌^◌, subst, arith, rules, ℕ, List, length, take, take_all, length-take-le}
use Rattle.bounds.specs.Bounds.{max_variables, masks}
use Rattle.node.specs.Marks.{depends_in, LeadsInto}
use Rattle.level.specs.Level.{Levels}
use Rattle.level.specs.LevelLaws.{parent_depends, level_made}
use Rattle.level.proofs.level_of.Goals as goal

pub returns : goal.returns
returns c = λ t known small fills made chosen.
    let p = c.requires in let s = p.some in
    let set = c.args.sets.now.set in let y = c.args.sets.now.chosen - 1 in let f = c.args.fillers in
    let r : length set ≡ max_variables = search rules in
    let given = parent_depends {fill = f.masks.now} {c = f.constants} {e = length f.masks.now} {n = c.args.sets.now.chosen} set (record { few_atoms = f.few_atoms; room = omega arith; few_variables = p.few_variables }) s r in
    let d = p.few_variables in
    let many : length (take y set) ≡ y = length-take-le y set given.1 in
    let back = subst (λ (n : ℕ). LeadsInto (depends_in f.masks.now f.constants (length f.masks.now) (take y set) n) (1 * 2 ^ y % masks) c.leading_to-back.result.marked) many c.leading_to-back.ensures.0 in
    let out = subst (λ (n : ℕ). LeadsInto (depends_in f.masks.now f.constants (length f.masks.now) (take y set) n) c.others-later.result c.leading_to-out.result.marked) many c.leading_to-out.ensures.0 in
    subst (λ (z : List ℕ). Levels t z c.args.lines.now.count c.collect.result) (take_all y (take y set) (omega arith))
    (level_made t known small _ _ _ fills (take y set) y (omega arith) (omega arith)
    _ _ c.first_mask.ensures c.others-later.ensures _ _ _ _ _ _ _ c.collect.result made
    back c.leading_to-back.ensures.1 out c.leading_to-out.ensures.1 c.others-near.ensures
    c.collect.ensures.0 c.collect.ensures.1 c.collect.ensures.2)
