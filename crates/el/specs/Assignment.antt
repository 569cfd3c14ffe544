-- Assignments: a set of non-variable atoms for each variable, and what one induces.
--
--   Assignment          == the set numbers of variables 0, 1, and so on
--   set_of a x           == the set number of variable x; 0 where a gives none
--   IsAssignment t a    == a gives each variable of t a set of t's atoms
--   depends t a x y     == x depends directly on y
--   Reaches d x y       == x leads to y over one or more steps of d
--   Acyclic t a         == no variable depends on itself over one or more steps
--   path d j x y        == x leads to y over one or more steps of d whose inner variables are below j
--   reaches t a x y     == x depends on y over one or more steps, as a test
--   acyclic t a         == Acyclic t a, as a test
--   atom_under t σ i     == atom i with σ carried out
--   conjoin n p d       == the conjunction of those d i, i below n, whose i passes p
--   set_under t σ s      == the conjunction of the atoms of the set s, with σ carried out
--   induced_to t a k x   == x with the assignment carried out k times
--   induced t a         == the substitution that the acyclic assignment a induces
--   Solves under t a    == a solves t
--   solves under t a    == Solves under t a, as a test
--   Before a b          == a stands before b in counting order
use Rattle.std.specs.Prelude.{◌≡◌, Bool, true, false, ◌&&◌, ◌||◌, not, ◌⊎◌, List, [], ◌∷◌, ℕ, zero, suc, ◌+◌, ◌-◌, ◌^◌, ◌<◌, T, eqb, ltb, length, get_or}
use Rattle.el.specs.Test.{any_below, all_below, every_of, bit}
use Rattle.el.specs.Description.{Description, top, name, meet}
use Rattle.el.specs.Table.{Filler, top_f, constant_f, variable_f, Table, row_at, atoms}
use Rattle.el.specs.Meaning.{Substitution, row_under, makes}

-- "An assignment gives each variable a set of non-variable atoms." "bit i of a variable's set number says that atom i is in"
abbrev pub Assignment : Type 0
Assignment = List ℕ

unfoldable pub set_of : Assignment → ℕ → ℕ
set_of a x = get_or a x 0

unfoldable pub IsAssignment : Table → Assignment → Type 0
IsAssignment t a = (length a ≡ t.variables) × T (every_of (λ s. ltb s (2 ^ atoms t)) a)

abbrev pub is_variable : ℕ → Filler → Bool
is_variable y top_f = false
is_variable y (constant_f k) = false
is_variable y (variable_f x) = eqb x y

-- "X depends directly on Y if a restriction with filler Y is in X's set." "restriction k is c + k"
unfoldable pub depends : Table → Assignment → ℕ → ℕ → Bool
depends t a x y = any_below (length t.rows) (λ k. bit (t.constants + k) (set_of a x) && is_variable y (row_at t.rows k).filler)

-- "over one or more steps"
pub data Reaches (d : ℕ → ℕ → Bool) : ℕ → ℕ → Type 0 where
  once : {x y : ℕ} → T (d x y) → Reaches d x y
  then : {x y z : ℕ} → T (d x y) → Reaches d y z → Reaches d x z

-- "The assignment is acyclic if no variable depends on itself over one or more steps."
unfoldable pub Acyclic : Table → Assignment → Type 0
Acyclic t a = (x : ℕ) → Reaches (depends t a) x x → ⊥

-- the same as tests
unfoldable pub path : (ℕ → ℕ → Bool) → ℕ → ℕ → ℕ → Bool
path d zero x y = d x y
path d (suc j) x y = path d j x y || (path d j x j && path d j j y)

unfoldable pub reaches : Table → Assignment → ℕ → ℕ → Bool
reaches t a = path (depends t a) t.variables

unfoldable pub acyclic : Table → Assignment → Bool
acyclic t a = all_below t.variables (λ x. not (reaches t a x x))

-- "constant k is k, restriction k is c + k"
unfoldable pub atom_under : Table → Substitution → ℕ → Description
atom_under t σ i = elim (ltb i t.constants) [ true ↦ name i | false ↦ row_under σ (row_at t.rows (i - t.constants)) ]

unfoldable pub conjoin : ℕ → (ℕ → Bool) → (ℕ → Description) → Description
conjoin zero p d = top
conjoin (suc n) p d = elim (p n) [ true ↦ meet (conjoin n p d) (d n) | false ↦ conjoin n p d ]

unfoldable pub set_under : Table → Substitution → ℕ → Description
set_under t σ s = conjoin (atoms t) (λ i. bit i s) (atom_under t σ)

-- "each variable becomes the conjunction of its set's atoms, with the substitution carried out inside them; the empty set becomes top"
unfoldable pub induced_to : Table → Assignment → ℕ → Substitution
induced_to t a zero x = top
induced_to t a (suc k) x = set_under t (induced_to t a k) (set_of a x)

-- as many times as there are variables: `induced_equation` says that this is enough
unfoldable pub induced : Table → Assignment → Substitution
induced t a = induced_to t a t.variables

-- "It solves the table if for every line the left conjunction lies below the right atom after substitution."
unfoldable pub Solves : (ℕ → ℕ → Bool) → Table → Assignment → Type 0
Solves under t a = Acyclic t a × T (makes under t (induced t a))

unfoldable pub solves : (ℕ → ℕ → Bool) → Table → Assignment → Bool
solves under t a = acyclic t a && makes under t (induced t a)

-- "Counting order: compare variable 0's set numbers, then variable 1's, and so on."
abbrev pub Before : Assignment → Assignment → Type 0
Before [] b = ⊥
Before (x ∷ a) [] = ⊥
Before (x ∷ a) (y ∷ b) = (x < y) ⊎ ((x ≡ y) × Before a b)
