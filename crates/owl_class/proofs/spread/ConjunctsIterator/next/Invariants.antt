-- The invariant: the same conjuncts are left; the measure is what is left of the text.
use Rattle.std.proofs.Common.{◌-◌, ◌≤◌, length}
use Rattle.owl_class.proofs.GiveLaws as laws
use Rattle.owl_class.proofs.spread.ConjunctsIterator.next.Given as goal

abbrev pub invariant-loop-self : goal.invariant-loop-self
invariant-loop-self l = laws.Same l.initial.self l.self × (l.initial.self.walk.at ≤ l.self.walk.at)

abbrev pub decreases-loop-self : goal.decreases-loop-self
decreases-loop-self l = length l.self.walk.text.now - l.self.walk.at
