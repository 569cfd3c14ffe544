-- The invariant: what is left of the head and the items stand here.
use Rattle.owl_axiom.proofs.HeadLaws as laws
use Rattle.owl_axiom.proofs.behind_names.Given as goal

abbrev pub invariant-loop-stop : goal.invariant-loop-stop
invariant-loop-stop l = laws.Heading l.s l.from l.at l.stop-iterator
