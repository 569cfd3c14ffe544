-- The rule as two questions that ask each other, over atom numbers and set numbers.
--
--   filler_set a f             == the set of the filler f: what its conjuncts are, where a gives the variables their sets
--   entry_set t a x            == the set of the entry x
--   union_to t a l i           == the union of the sets of the first i entries of l
--   left_set t a l             == the set of the left entries l: the union of their sets
--   atom_test under t fb i j   == atom i lies below atom j, where fb answers for fillers
--   set_test under t fb s j    == the conjunction of the set s lies below atom j, where fb answers for fillers
--   filler_test under t a k f g == the filler f lies below the filler g, where k dependences are left
--   left_test under t a l j    == the left entries l lie below atom j: one of them does
--   line_test under t a l      == the line l holds
use Rattle.std.specs.Prelude.{Bool, true, false, ◌&&◌, ◌||◌, not, List, ℕ, zero, suc, ◌+◌, ◌-◌, ◌^◌, eqb, ltb, length, get_or}
use Rattle.std.specs.Int.Bits.{bit_or}
use Rattle.el.specs.Test.{any_below, all_below, any_of, bit}
use Rattle.el.specs.Table.{Filler, top_f, constant_f, variable_f, Entry, constant, restriction, variable, Row, Line, Table, row_at, atoms}
use Rattle.el.specs.Assignment.{Assignment, set_of}

-- "constant k is k, restriction k is c + k": a constant is a set of one atom, and top the empty one
unfoldable pub filler_set : Assignment → Filler → ℕ
filler_set a top_f = 0
filler_set a (constant_f k) = 2 ^ k
filler_set a (variable_f x) = set_of a x

unfoldable pub entry_set : Table → Assignment → Entry → ℕ
entry_set t a (constant k) = 2 ^ k
entry_set t a (restriction k) = 2 ^ (t.constants + k)
entry_set t a (variable x) = set_of a x

-- the left side is the conjunction of its entries
unfoldable pub union_to : Table → Assignment → List Entry → ℕ → ℕ
union_to t a l zero = 0
union_to t a l (suc i) = bit_or (union_to t a l i) (entry_set t a (get_or l i (constant 0)))

unfoldable pub left_set : Table → Assignment → List Entry → ℕ
left_set t a l = union_to t a l (length l)

-- the row of the restriction whose atom number is i
unfoldable pub atom_row : Table → ℕ → Row
atom_row t i = row_at t.rows (i - t.constants)

-- where no dependence is left, each variable stands for top
abbrev pub is_constant : ℕ → Filler → Bool
is_constant k top_f = false
is_constant k (constant_f i) = eqb i k
is_constant k (variable_f x) = false

abbrev pub flat_test : Filler → Filler → Bool
flat_test f top_f = true
flat_test f (constant_f k) = is_constant k f
flat_test f (variable_f y) = true

module _ (under : ℕ → ℕ → Bool) (t : Table) where
  -- "every constant among D's conjuncts is among C's, and for each restriction of D, role s and filler D', C has a
  -- restriction with the same role s whose filler is below D'"
  unfoldable pub atom_test : (Filler → Filler → Bool) → ℕ → ℕ → Bool
  atom_test fb i j =
      elim (ltb j t.constants) [
        | true ↦ eqb i j
        | false ↦ not (ltb i t.constants) && (under (atom_row t i).role (atom_row t j).role && fb (atom_row t i).filler (atom_row t j).filler)
      ]

  -- "whether a conjunction lies below one atom"
  unfoldable pub set_test : (Filler → Filler → Bool) → ℕ → ℕ → Bool
  set_test fb s j = any_below (atoms t) (λ i. bit i s && atom_test fb i j)

  -- "and whether one filler lies below another"
  unfoldable pub filler_test : Assignment → ℕ → Filler → Filler → Bool
  filler_test a zero f g = flat_test f g
  filler_test a (suc k) f g = all_below (atoms t) (λ j. not (bit j (filler_set a g)) || set_test (filler_test a k) (filler_set a f) j)

  -- as many dependences as there are variables
  unfoldable pub entry_test : Assignment → Entry → ℕ → Bool
  entry_test a x j = set_test (filler_test a t.variables) (entry_set t a x) j

  unfoldable pub left_test : Assignment → List Entry → ℕ → Bool
  left_test a l j = any_of (λ x. entry_test a x j) l

  unfoldable pub line_test : Assignment → Line → Bool
  line_test a l = all_below (atoms t) (λ j. not (bit j (entry_set t a l.right)) || left_test a l.left j)
