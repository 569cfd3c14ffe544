-- Marks on variables: a mask says which are marked, and from it come the atoms whose filler is marked and the variables that lead to it.
--
--   depends_by fill c s k y == bit c + i of s is set for some i below k whose mask of `fill` has the bit y
--   depends_in fill c e set n x y == x is one of the first n variables and depends on y so, where `set` has the set numbers
--   atoms_to fill c m k i   == i is the atom of one of the first k restrictions whose mask of `fill` has a bit of the mask m
--   AtomsInto fill c e m atoms == a variable depends directly on a variable of the mask m exactly if its set has one of the atoms
--   has_one set atoms x     == the set of the variable x has one of the atoms
--   Leading d seed m       == m has the variables of the mask `seed`, and of the others only such as lead to one of them
--   LeadsInto d seed m     == m has all of those
--   ones n m               == how many variables below n the mask m has
--   Marking fill c e set n seed m atoms i == after i rounds that each marked more: m leads to `seed`, and the atoms lead to m
use Rattle.std.specs.Prelude.{◌≡◌, Bool, ◌&&◌, not, ◌⊎◌, List, ℕ, ◌+◌, ◌≤◌, T, eqb, ltb, get_or}
use Rattle.std.specs.Int.Bits.{bit_and}
use Rattle.el.specs.Test.{any_below, bit}
use Rattle.el.specs.Assignment.{Reaches}
use Rattle.el.specs.Rank.{count_below}

-- "X depends directly on Y if a restriction with filler Y is in X's set."
unfoldable pub depends_by : List ℕ → ℕ → ℕ → ℕ → ℕ → Bool
depends_by fill c s k y = any_below k (λ i. bit (c + i) s && bit y (get_or fill i 0))

-- a variable that is not chosen depends on nothing
unfoldable pub depends_in : List ℕ → ℕ → ℕ → List ℕ → ℕ → ℕ → ℕ → Bool
depends_in fill c e set n x y = ltb x n && depends_by fill c (get_or set x 0) e y

unfoldable pub atoms_to : List ℕ → ℕ → ℕ → ℕ → ℕ → Bool
atoms_to fill c m k i = any_below k (λ j. not (eqb (bit_and (get_or fill j 0) m) 0) && eqb (c + j) i)

pub record AtomsInto (fill : List ℕ) (c e m atoms : ℕ) : Type 0 where
  pub some : (s : ℕ) → (bit_and s atoms ≡ 0 → ⊥) → (y : ℕ) × T (bit y m) × T (depends_by fill c s e y)
  pub none : (s y : ℕ) → bit_and s atoms ≡ 0 → T (bit y m) → T (depends_by fill c s e y) → ⊥

unfoldable pub has_one : List ℕ → ℕ → ℕ → Bool
has_one set atoms x = not (eqb (bit_and (get_or set x 0) atoms) 0)

pub record Leading (d : ℕ → ℕ → Bool) (seed m : ℕ) : Type 0 where
  pub seeds : (x : ℕ) → T (bit x seed) → T (bit x m)
  pub only : (x : ℕ) → T (bit x m) → T (bit x seed) ⊎ ((y : ℕ) × T (bit y seed) × Reaches d x y)

pub record LeadsInto (d : ℕ → ℕ → Bool) (seed m : ℕ) : Type 0 where
  pub leading : Leading d seed m
  pub all : (x y : ℕ) → T (d x y) → T (bit y m) → T (bit x m)

unfoldable pub ones : ℕ → ℕ → ℕ
ones n m = count_below n (λ x. bit x m)

pub record Marking (fill : List ℕ) (c e : ℕ) (set : List ℕ) (n seed m atoms i : ℕ) : Type 0 where
  pub leading : Leading (depends_in fill c e set n) seed m
  pub into : AtomsInto fill c e m atoms
  pub rounds : i ≤ ones n m
