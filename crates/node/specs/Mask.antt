-- Masks: numbers whose bits say which variables are meant, and the masks that are made of a table.
--
--   Masks p m            == the bits of the mask m are the numbers that pass p
--   Picks q n m          == they are those below n that pass q
--   is_among l y          == y is among the numbers of l
--   is_named k y          == a code of the kind k names the variable y
--   Names b              == a variable that the code b names has a bit in a mask
--   MaskFits fill b      == so, and `fill` has a place for a restriction that b names
--   left_to rows l i y    == the variable y stands in one of the first i left entries of the line l, fillers included
--   Each P n l           == P of each of the first n places of the list l, and of what stands there
--   FillMask rows k m    == m is the mask of the variable inside restriction k; `FillMasks rows n fill`, for each of the first n
--   Fills t c e fill     == t has c constants and e restrictions, and `fill` has their masks
--   LineMask rows l m    == m is the mask of the variables of the line l, fillers included
--   LineMasks t n mask   == `mask` has such a mask for each of the first n lines of t
--   LineStarts s n start == `start` has the byte where each of the first n lines begins
use Rattle.std.specs.Prelude.{◌≡◌, Bool, false, ◌&&◌, List, ℕ, ◌<◌, eqb, ltb, length, get_or, take}
use Rattle.el.specs.Test.{any_of, bit}
use Rattle.el.specs.Table.{Row, Line, Table, row_at}
use Rattle.el.specs.Assignment.{is_variable}
use Rattle.el.specs.Walk.{entries_variables, line_variables}
use Rattle.bounds.specs.Bounds.{mask_bits}
use Rattle.table.specs.declared.Kind.{Kind}
use Rattle.table.specs.declared.Kind.TheVariants.{Top, Constant, Restriction, Variable, Other}
use Rattle.table.specs.Code.{kind_of}
use Rattle.table.specs.Layout.{line_at, line_start}

abbrev pub Masks : (ℕ → Bool) → ℕ → Type 0
Masks p m = (y : ℕ) → bit y m ≡ p y

pub record Picks (q : ℕ → Bool) (n m : ℕ) : Type 0 where
  pub bits : Masks (λ y. ltb y n && q y) m

unfoldable pub is_among : List ℕ → ℕ → Bool
is_among l y = any_of (λ x. eqb x y) l

abbrev pub is_named : Kind → ℕ → Bool
is_named Top y = false
is_named (Constant k) y = false
is_named (Restriction k) y = false
is_named (Variable k) y = eqb k y
is_named Other y = false

unfoldable pub Names : ℕ → Type 0
Names b = (k : ℕ) → kind_of b ≡ Variable k → k < mask_bits

pub record MaskFits (fill : List ℕ) (b : ℕ) : Type 0 where
  pub names : Names b
  pub row : (k : ℕ) → kind_of b ≡ Restriction k → k < length fill

unfoldable pub left_to : List Row → Line → ℕ → ℕ → Bool
left_to rows l i = is_among (entries_variables rows (take i l.left))

pub record Each (P : ℕ → ℕ → Type 0) (n : ℕ) (l : List ℕ) : Type 0 where
  pub at : (i : ℕ) → i < n → P i (get_or l i 0)

abbrev pub FillMask : List Row → ℕ → ℕ → Type 0
FillMask rows k m = Masks (λ y. is_variable y (row_at rows k).filler) m

abbrev pub FillMasks : List Row → ℕ → List ℕ → Type 0
FillMasks rows n fill = Each (FillMask rows) n fill

pub record Fills (t : Table) (c e : ℕ) (fill : List ℕ) : Type 0 where
  pub constants : c ≡ t.constants
  pub restrictions : e ≡ length t.rows
  pub masks : FillMasks t.rows e fill

-- "every variable in it, fillers included"
abbrev pub LineMask : List Row → Line → ℕ → Type 0
LineMask rows l m = Masks (is_among (line_variables rows l)) m

abbrev pub LineMasks : Table → ℕ → List ℕ → Type 0
LineMasks t n mask = Each (λ i. LineMask t.rows (line_at t.lines i)) n mask

abbrev pub LineStarts : List ℕ → ℕ → List ℕ → Type 0
LineStarts s n start = Each (λ i at. at ≡ line_start s i) n start
