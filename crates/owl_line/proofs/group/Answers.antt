-- By what was passed, and by what the two sides have.
use Rattle.std.proofs.Common.{refl, arith}
use Rattle.owl_line.proofs.LineLaws as laws
use Rattle.owl_line.proofs.group.Goals as goal
use Rattle.owl_line.proofs.group.Goals.{then-p-gt-MAX_LEFT-via-then-p-gt-MAX_LEFT, then-p-gt-MAX_LEFT-via-else-p-gt-MAX_LEFT+then-passed-q}

pub returns-in_err-passed-clause-lines : goal.returns-in_err-passed-clause-lines
returns-in_err-passed-clause-lines c = rw (c.in_err-passed.was, c.from_residual.ensures) (laws.group_over _ _ _ _ _)

pub returns-then-q-eq0-clause-lines : goal.returns-then-q-eq0-clause-lines
returns-then-q-eq0-clause-lines c = rw c.in_ok-passed.was (laws.group_none _ _ _ _ _ _ _ c.count-q.ensures c.if-q-eq0.true)

pub returns-then-p-gt-MAX_LEFT-clause-lines : goal.returns-then-p-gt-MAX_LEFT-clause-lines
returns-then-p-gt-MAX_LEFT-clause-lines c =
    rw c.in_ok-passed.was
    (elim c.then-p-gt-MAX_LEFT.branch [
      | then-p-gt-MAX_LEFT-via-then-p-gt-MAX_LEFT w ↦ laws.group_long _ _ _ _ _ _ _ _ c.count-p.ensures c.count-q.ensures c.if-q-eq0.false w.if-p-gt-MAX_LEFT.true
      | then-p-gt-MAX_LEFT-via-else-p-gt-MAX_LEFT+then-passed-q w ↦ laws.group_many _ _ _ _ _ _ _ c.count-q.ensures (omega (arith, c.in_ok-passed.passed.few, w.if-passed-q.true))
    ])

pub returns-clause-lines : goal.returns-clause-lines
returns-clause-lines c =
    rw c.in_ok-passed.was
    (laws.group_put _ _ _ _ _ _ _ _ _ _ c.count-p.ensures c.count-q.ensures (omega (arith, c.if-p-gt-MAX_LEFT.false)) (omega (arith, c.in_ok-passed.passed.few, c.if-passed-q.false)) c.put_lines-end.ensures.put refl)
