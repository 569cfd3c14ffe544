-- `level::fresh_fails` meets its contract.
use Rattle.std.proofs.Common.{◌≡◌, ◌<◌, ap, ◌∙◌, arith, rules, not, length, get_or-take, length-take-le}
use Rattle.bounds.specs.Bounds.{max_lines}
use Rattle.level.specs.ListedLaws.{lines_start, lines_fail, lines_next, lines_whole}
use Rattle.level.proofs.fresh_fails.Goals as goal

pub loop-n-init : goal.loop-n-init
loop-n-init c = lines_start _ _ _

pub bounds-prepared-from : goal.bounds-prepared-from
bounds-prepared-from c =
    let f = c.requires.few_fit in let level = c.args.level.now in let r : length level.fresh ≡ max_lines = search rules in
    let h : c.loop-n.n-index < level.few = omega (arith, length-take-le level.few level.fresh (omega arith)) in
    (c.requires.each _ _ h (c.from.ensures ∙ get_or-take _ _ _ _ h)).inside

pub returns-then-not-line_holds : goal.returns-then-not-line_holds
returns-then-not-line_holds c =
    let f = c.requires.few_fit in let level = c.args.level.now in let r : length level.fresh ≡ max_lines = search rules in
    let h : c.loop-n.n-index < level.few = omega (arith, length-take-le level.few level.fresh (omega arith)) in
    let is = c.from.ensures ∙ get_or-take _ _ _ _ h in let g = c.requires.each _ _ h is in
    lines_fail _ _ _ _ _ is _ (c.line_holds.ensures _ g.line (c.from-at.ensures ∙ g.begins)) _ h (ap not c.if-not-line_holds.true)

pub loop-n-preserved : goal.loop-n-preserved
loop-n-preserved c =
    let f = c.requires.few_fit in let level = c.args.level.now in let r : length level.fresh ≡ max_lines = search rules in
    let h : c.loop-n.n-index < level.few = omega (arith, length-take-le level.few level.fresh (omega arith)) in
    let is = c.from.ensures ∙ get_or-take _ _ _ _ h in let g = c.requires.each _ _ h is in
    lines_next _ _ _ _ _ is _ (c.line_holds.ensures _ g.line (c.from-at.ensures ∙ g.begins)) (ap not c.if-not-line_holds.false) c.loop-n.invariant

pub returns : goal.returns
returns c =
    let f = c.requires.few_fit in let level = c.args.level.now in let r : length level.fresh ≡ max_lines = search rules in
    let many = length-take-le level.few level.fresh (omega arith) in
    lines_whole _ _ _ level.few c.loop-n.n-index (omega arith) (omega arith) c.loop-n.invariant
