-- The invariant: the lines of the axioms before byte `at` are passed; the measure is what is left of the text.
use Rattle.owl_make.proofs.LinesLaws as laws
use Rattle.owl_make.proofs.axioms.Goals as goal

pub loop-found-init : goal.loop-found-init
loop-found-init c = (c.first_item-at.ensures.1, laws.axioms_start _ _ _ _ c.first_item-at.ensures.0 c.none-passed.ensures.lines c.none-passed.ensures.end)

pub returns-in_err-passed-clause-lines : goal.returns-in_err-passed-clause-lines
returns-in_err-passed-clause-lines c =
    rw c.from_residual.ensures (laws.axioms_over _ _ _ _ (laws.axioms_turn _ _ _ _ _ _ c.loop-found.invariant.1 _ _ _ _ c.in-Some.ensures.is _ _ (laws.some_axiom _) c.in_err-passed.ensures.lines))

pub loop-found-preserved : goal.loop-found-preserved
loop-found-preserved c = (c.in-Some.ensures.end, laws.axioms_turn _ _ _ _ _ _ c.loop-found.invariant.1 _ _ _ _ c.in-Some.ensures.is _ _ (laws.some_axiom _) c.in_ok-passed.ensures.lines)

pub returns-clause-lines : goal.returns-clause-lines
returns-clause-lines c = laws.axioms_end _ _ _ _ _ c.loop-found.invariant.1 _ _ _ c.in_default.ensures
