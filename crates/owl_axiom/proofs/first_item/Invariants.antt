-- The invariant: the Prefix lines that are left and the Ontology stand here; the measure is what is left of the text.
use Prim.Native.Nat.{◌-◌, ◌≤◌}
use lib.ListN.{length}
use Rattle.owl_axiom.proofs.HeadLaws as laws
use Rattle.owl_axiom.proofs.first_item.Given as goal

abbrev pub invariant-loop-word : goal.invariant-loop-word
invariant-loop-word l = (l.at ≤ length l.s) × laws.Prefixed l.s l.at

abbrev pub decreases-loop-word : goal.decreases-loop-word
decreases-loop-word l = length l.s - l.at
