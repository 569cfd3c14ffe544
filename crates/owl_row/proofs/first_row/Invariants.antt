-- The invariant: the first from the start is the first from here.
use Rattle.owl_name.specs.Walk.{written}
use Rattle.owl_row.proofs.LikeLaws as laws
use Rattle.owl_row.proofs.first_row.Given as goal

abbrev pub invariant-loop-stop : goal.invariant-loop-stop
invariant-loop-stop l = laws.Seeking l.s (written l.role) (written l.filler) l.stop-iterator
