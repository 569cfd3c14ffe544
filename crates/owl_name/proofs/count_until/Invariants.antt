-- The invariant: so many stand before the next stop.
use Rattle.owl_name.specs.Declarations.{group_number}
use Rattle.owl_name.proofs.CountLaws as laws
use Rattle.owl_name.proofs.count_until.Given as goal

abbrev pub invariant-loop-stop : goal.invariant-loop-stop
invariant-loop-stop l = laws.Walked l.s (group_number l.group) l.limit l.stop-iterator l.count
