-- Laws of the call for C.
--
--   owl_in == the numbers, one by one
use mathlib.Core.List.{List, [], ◌∷◌}
use Prim.Native.Nat.{ℕ}
use Rattle.owl_answer.specs.Owl.{owl, OwlAt}
use Rattle.owl_call_c.specs.C.{OwlIn}

pub owl_in : (s b : List ℕ) (number count place : ℕ) (a : List ℕ) → OwlAt s b (owl number count place a) → OwlIn s b number (count ∷ place ∷ []) a
unfolding OwlIn
owl_in s b number count place a x = x
