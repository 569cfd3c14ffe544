-- The invariant: the axioms from the start on are those from here on; the measure is what is left of the text.
use Prim.Native.Nat.{◌-◌, ◌≤◌}
use lib.ListN.{length}
use Rattle.owl_axiom.proofs.AxiomLaws as laws
use Rattle.owl_axiom.proofs.next_axiom.Given as goal

abbrev pub invariant-loop-at : goal.invariant-loop-at
invariant-loop-at l = (l.at ≤ length l.s) × (l.from ≤ l.at) × laws.Sought l.s l.from l.at

abbrev pub decreases-loop-at : goal.decreases-loop-at
decreases-loop-at l = length l.s - l.at
