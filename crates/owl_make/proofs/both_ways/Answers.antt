-- The first side below the second, then the reverse.
use Rattle.owl_make.proofs.LinesLaws as laws
use Rattle.owl_make.proofs.both_ways.Goals as goal

pub returns-in_err-first-clause-lines : goal.returns-in_err-first-clause-lines
returns-in_err-first-clause-lines c = rw c.from_residual.ensures (laws.both_over _ _ _ _ _ _ _ c.in_err-first.ensures.lines)

pub returns-clause-lines : goal.returns-clause-lines
returns-clause-lines c = laws.both_put _ _ _ _ _ _ _ _ _ _ c.in_ok-first.ensures.lines c.group-2.ensures.lines
