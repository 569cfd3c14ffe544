-- The invariant: the lines of the fillers before byte `at` are passed; the measure is what is left of the text.
use Rattle.std.proofs.Common.{arith}
use Rattle.owl_make.proofs.LinesLaws as laws
use Rattle.owl_make.proofs.fillers.Goals as goal

pub loop-next-init : goal.loop-next-init
loop-next-init c = (c.first_item-at.ensures.1, omega arith, laws.fillers_start _ _ _ _ c.first_item-at.ensures.0)

pub returns-in_err-passed-clause-lines : goal.returns-in_err-passed-clause-lines
returns-in_err-passed-clause-lines c =
    rw c.from_residual.ensures (laws.fillers_over _ _ _ _ _ _ _ (laws.fillers_turn _ _ _ _ _ _ _ _ _ _ _ _ c.requires c.loop-next.invariant.2 c.in-Some.ensures.0 c.in-Some.ensures.2 c.in_err-passed.ensures.lines))

pub loop-next-preserved : goal.loop-next-preserved
loop-next-preserved c = (
  c.in-Some.ensures.2,
  omega (arith, c.loop-next.invariant.1, c.in-Some.ensures.1),
  laws.fillers_turn _ _ _ _ _ _ _ _ _ _ _ _ c.requires c.loop-next.invariant.2 c.in-Some.ensures.0 c.in-Some.ensures.2 c.in_ok-passed.ensures.lines,
)

pub returns-clause-lines : goal.returns-clause-lines
returns-clause-lines c = laws.fillers_end _ _ _ _ _ _ _ _ _ c.loop-next.invariant.2 c.in_default.ensures
