-- The invariant: what is left of the two says whether the run is the word.
use mathlib.Core.Path.{◌≡◌}
use Prim.Native.Nat.{◌≤◌}
use lib.ListN.{length, drop}
use Rattle.owl.specs.Naming.{same_bytes}
use Rattle.owl_token.specs.Keyword.{run_of}
use Rattle.owl_token.proofs.is_word.Given as goal

abbrev pub invariant-loop-i : goal.invariant-loop-i
invariant-loop-i l = (l.i ≤ length l.w) × (l.i ≤ length l.s) × (same_bytes (run_of l.s) l.w ≡ same_bytes (run_of (drop l.i l.s)) (drop l.i l.w))
