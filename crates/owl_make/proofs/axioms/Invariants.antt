-- The invariant: the lines of the axioms before byte `at` are passed; the measure is what is left of the text.
use Rattle.std.proofs.Common.{◌-◌, ◌≤◌, length, Some}
use Rattle.owl_make.proofs.LinesLaws as laws
use Rattle.owl_make.proofs.axioms.Given as goal

abbrev pub invariant-loop-found : goal.invariant-loop-found
invariant-loop-found l = (l.at ≤ length l.source.text.now) × laws.Axioms l.source.text.now l.initial.out l.at (Some l.passed) l.out

abbrev pub decreases-loop-found : goal.decreases-loop-found
decreases-loop-found l = length l.source.text.now - l.at
