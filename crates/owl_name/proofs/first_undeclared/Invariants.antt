-- The invariant: the first from the start is the first from here.
use Rattle.std.proofs.Common.{length, not}
use Rattle.owl.specs.Mention.{names_in, is_known, undeclared}
use Rattle.owl_name.proofs.RestLaws as laws
use Rattle.owl_name.proofs.first_undeclared.Given as goal

abbrev pub invariant-loop-stop : goal.invariant-loop-stop
invariant-loop-stop l = laws.Seeking (λ m. not (is_known (names_in l.s) m)) (length l.s) (undeclared l.s) l.s l.stop-iterator
