-- The invariant: the blanks from the start are those passed and those from here.
use mathlib.Core.Path.{◌≡◌}
use Prim.Native.Nat.{◌<◌, ◌+◌, ◌≤◌}
use lib.ListN.{length, drop}
use Rattle.owl.specs.Token.{blank, place_at}
use Rattle.owl_token.proofs.skip.Given as goal

abbrev pub invariant-loop-i : goal.invariant-loop-i
invariant-loop-i l = (l.at ≤ l.i) × (l.i ≤ length l.s) × (l.c < 2) × (place_at l.s l.at ≡ l.i + blank l.c (drop l.i l.s))
