-- The axioms, then the fresh variables.
use Rattle.owl_make.proofs.LinesLaws as laws
use Rattle.owl_make.proofs.lines.Goals as goal

pub returns-in_err-first-clause-lines : goal.returns-in_err-first-clause-lines
returns-in_err-first-clause-lines c = rw c.from_residual.ensures (laws.lines_over _ _ _ c.in_err-first.ensures.lines)

pub returns-clause-lines : goal.returns-clause-lines
returns-clause-lines c = laws.lines_made _ _ _ _ _ _ c.in_ok-first.ensures.lines c.fillers.ensures.lines
