-- The invariant: the fillers from the start on are those from here on.
use Rattle.owl_name.specs.Walk.{does_number}
use Rattle.owl_axiom.proofs.FillerLaws as laws
use Rattle.owl_axiom.proofs.next_filler.Given as goal

abbrev pub invariant-loop-stop : goal.invariant-loop-stop
invariant-loop-stop l = laws.Walked l.s l.from (does_number l.fn.does) l.stop-iterator
