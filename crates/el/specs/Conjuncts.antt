-- The conjuncts of a description, its depth, and Corollary 1 of 004 as a statement about them.
--
--   Among x l               == x is among the elements of l
--   names C                 == the names among C's conjuncts
--   Restriction             == a restriction: its role and its filler
--   restrictions C          == the restrictions among C's conjuncts
--   Serves under s P C      == among C's conjuncts is a restriction whose role lies under s and whose filler has P
--   Corollary1 under R C D == what Corollary 1 asks of C and D for C to be below D, where R says when a filler is below another
--   Below under C D         == C is below D, as it is computed
--   depth C                 == how many restrictions of C stand inside each other
use Rattle.std.specs.Prelude.{◌≡◌, Bool, ◌⊎◌, List, [], ◌∷◌, ◌++◌, ℕ, suc, max, T}
use Rattle.el.specs.Description.{Description, top, name, meet, some, below}

abbrev pub Among : {A : Type 0} → A → List A → Type 0
Among x [] = ⊥
Among x (y ∷ l) = (x ≡ y) ⊎ Among x l

-- "A description is a conjunction of atoms; the empty one is top."
abbrev pub names : Description → List ℕ
names top = []
names (name a) = a ∷ []
names (meet C D) = names C ++ names D
names (some r C) = []

pub record Restriction : Type 0 where
  pub role : ℕ
  pub filler : Description

abbrev pub restrictions : Description → List Restriction
restrictions top = []
restrictions (name a) = []
restrictions (meet C D) = restrictions C ++ restrictions D
restrictions (some r C) = record { role = r; filler = C } ∷ []

-- "C has a restriction with the same role s whose filler is ..": where roles are compared by `under`
unfoldable pub Serves : (ℕ → ℕ → Bool) → ℕ → (Description → Type 0) → Description → Type 0
Serves under s P C = (q : Restriction) × Among q (restrictions C) × T (under q.role s) × P q.filler

-- "every constant among D's conjuncts is among C's, and for each restriction of D, role s and filler D', C has a
-- restriction with the same role s whose filler is below D' (004, Corollary 1)": where fillers are compared by R
unfoldable pub Corollary1 : (ℕ → ℕ → Bool) → (Description → Description → Type 0) → Description → Description → Type 0
Corollary1 under R C D =
    ((a : ℕ) → Among a (names D) → Among a (names C))
    × ((q : Restriction) → Among q (restrictions D) → Serves under q.role (λ E. R E q.filler) C)

-- the computed order as a statement
abbrev pub Below : (ℕ → ℕ → Bool) → Description → Description → Type 0
Below under C D = T (below under C D)

abbrev pub depth : Description → ℕ
depth top = 0
depth (name a) = 0
depth (meet C D) = max (depth C) (depth D)
depth (some r C) = suc (depth C)
