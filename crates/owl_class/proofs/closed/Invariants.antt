-- The invariant: what is left behind from the start is what is left behind from here.
use Rattle.owl_class.proofs.ClosedLaws as laws
use Rattle.owl_class.proofs.closed.Given as goal

abbrev pub invariant-loop-stop : goal.invariant-loop-stop
invariant-loop-stop l = laws.Closing l.s l.from l.stop-iterator l.end l.depth
