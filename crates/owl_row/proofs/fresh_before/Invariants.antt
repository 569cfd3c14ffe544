-- The invariant: so many stand before the next stop.
use Rattle.owl_row.proofs.FreshLaws as laws
use Rattle.owl_row.proofs.fresh_before.Given as goal

abbrev pub invariant-loop-stop : goal.invariant-loop-stop
invariant-loop-stop l = laws.Walked l.s l.limit l.stop-iterator l.count
