-- Tests over the numbers below a bound, and over a list.
--
--   any_below n p == some number below n passes p
--   all_below n p == every number below n passes p
--   any_of p l    == some element of l passes p
--   every_of p l  == every element of l passes p
--   bit i s      == bit i of the number s is 1
use Rattle.std.specs.Prelude.{Bool, true, false, ◌&&◌, ◌||◌, List, [], ◌∷◌, ℕ, zero, suc, ◌/◌, ◌%◌, ◌^◌, eqb}

unfoldable pub any_below : ℕ → (ℕ → Bool) → Bool
any_below zero p = false
any_below (suc n) p = any_below n p || p n

unfoldable pub all_below : ℕ → (ℕ → Bool) → Bool
all_below zero p = true
all_below (suc n) p = all_below n p && p n

unfoldable pub any_of {ℓ} : {A : Type ℓ} → (A → Bool) → List A → Bool
any_of p [] = false
any_of p (x ∷ l) = p x || any_of p l

unfoldable pub every_of {ℓ} : {A : Type ℓ} → (A → Bool) → List A → Bool
every_of p [] = true
every_of p (x ∷ l) = p x && every_of p l

unfoldable pub bit : ℕ → ℕ → Bool
bit i s = eqb (s / 2 ^ i % 2) 1
