-- The invariant: the first declaration from the start is the first from here.
use Rattle.std.proofs.Common.{length}
use Rattle.owl_name.specs.Walk.{written, does_number}
use Rattle.owl_name.specs.Declarations.{declares, declared_at}
use Rattle.owl_name.proofs.RestLaws as laws
use Rattle.owl_name.proofs.declared_at.Given as goal

abbrev pub invariant-loop-stop : goal.invariant-loop-stop
invariant-loop-stop l = laws.Seeking (declares (does_number l.sort) (written l.name)) (length l.s) (declared_at l.s (does_number l.sort) (written l.name)) l.s l.stop-iterator
