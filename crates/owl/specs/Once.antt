-- Equal ones once, and where one stands.
--
--   is_among same x l   == some element of l is the same as x
--   place same x l     == where the first such element stands, from 0
--   once same seen l   == seen, then the elements of l in order, each that is already there left out
use Rattle.std.specs.Prelude.{Bool, true, false, List, [], ◌∷◌, ◌++◌, ℕ, suc}
use Rattle.el.specs.Test.{any_of}

module _ {A : Type 0} (same : A → A → Bool) where
  unfoldable pub is_among : A → List A → Bool
  is_among x l = any_of (same x) l

  -- "numbered by first declaration", "rows by first writing"
  unfoldable pub place : A → List A → ℕ
  place x [] = 0
  place x (y ∷ l) = elim (same x y) [ true ↦ 0 | false ↦ suc (place x l) ]

  -- "equal ones once"
  unfoldable pub once : List A → List A → List A
  once seen [] = seen
  once seen (x ∷ l) = elim (is_among x seen) [ true ↦ once seen l | false ↦ once (seen ++ (x ∷ [])) l ]
