-- Things that stand in a text, in its order: each has the byte where it begins and a key by which it is told from others.
--
--   keys l              == their keys
--   before limit l      == those up to the first that begins at byte `limit` or behind it
--   first_of x end l     == the byte of the first whose key is x; `end` if there is none
--   different_before limit l == how many different keys there are before byte `limit`
--   Rising lo end l     == their bytes rise from `lo` on and stay below `end`
use Rattle.std.specs.Prelude.{Bool, true, false, List, [], ◌∷◌, ℕ, suc, ◌≤◌, ◌<◌, ltb, length}
use Rattle.owl.specs.Once.{once}

module _ {X : Type 0} (place_of : X → ℕ) where
  unfoldable pub before : ℕ → List X → List X
  before limit [] = []
  before limit (x ∷ l) = elim (ltb (place_of x) limit) [ true ↦ x ∷ before limit l | false ↦ [] ]

  abbrev pub Rising : ℕ → ℕ → List X → Type 0
  Rising lo end [] = lo ≤ end
  Rising lo end (x ∷ l) = (lo ≤ place_of x) × (place_of x < end) × Rising (suc (place_of x)) end l

  module _ {A : Type 0} (key_of : X → A) where
    unfoldable pub keys : List X → List A
    keys [] = []
    keys (x ∷ l) = key_of x ∷ keys l

    module _ (same : A → A → Bool) where
      unfoldable pub first_of : A → ℕ → List X → ℕ
      first_of x end [] = end
      first_of x end (y ∷ l) = elim (same x (key_of y)) [ true ↦ place_of y | false ↦ first_of x end l ]

      unfoldable pub different_before : ℕ → List X → ℕ
      different_before limit l = length (once same [] (keys (before limit l)))
