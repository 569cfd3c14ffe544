-- Striking out: which numbers below v still stand after some rounds.
--
--   Stand d p        == each number that passes p has a step of d to one that passes p
--   standing d v k x == x stands after k rounds, each of which strikes out what has no step of d to what still stood
use Rattle.std.specs.Prelude.{Bool, ◌&&◌, ℕ, zero, suc, T, ltb}
use Rattle.el.specs.Test.{any_below}

-- each depends on something still standing
abbrev pub Stand : (ℕ → ℕ → Bool) → (ℕ → Bool) → Type 0
Stand d p = (x : ℕ) → T (p x) → (y : ℕ) × T (p y) × T (d x y)

-- "Strike out variables that depend on nothing still standing": at first all stand
unfoldable pub standing : (ℕ → ℕ → Bool) → ℕ → ℕ → ℕ → Bool
standing d v zero x = ltb x v
standing d v (suc k) x = standing d v k x && any_below v (λ y. d x y && standing d v k y)
