-- What the children of one live node share.
--
--   Back y w, Out y w       == w is y itself, w comes after y
--   Tells t p W mask        == a child of p whose newest set has an atom of the mask leads to a variable of W by it, and no other child does
--   passing q n             == the numbers below n that pass q, in rising order
--   fresh_mask own a k       == the mask `own` has a bit of the mask a, and only bits of the mask k
--   is_fresh mask a k n      == line n has a variable of the mask a, and only variables of the mask k
--   Listed q n fresh few    == the first `few` numbers of `fresh` are those below n that pass q
--   Levels t p m level      == the level is that of the children of the node p
--   LevelGiven lines sets    == what a level is made of besides the masks of restrictions: those of lines, and the sets of a node that has a parent
--   LevelFor fill c lines sets level == the level is that of the parent's children, whatever table within the bounds has these masks and counts
--   fails_at t set n         == line n does not hold under the sets
--   fresh_fails t set fresh few == one of the lines listed does not
use Rattle.std.specs.Prelude.{◌≡◌, Bool, true, false, ◌&&◌, not, List, [], ◌∷◌, ◌++◌, ℕ, zero, suc, ◌-◌, ◌≤◌, ◌<◌, T, eqb, length, get_or, take}
use Rattle.std.specs.Int.Bits.{bit_and}
use Rattle.bounds.specs.Bounds.{max_variables, max_lines}
use Rattle.el.specs.Test.{any_below}
use Rattle.el.specs.Table.{Table, declared, role_order}
use Rattle.el.specs.Meaning.{holds}
use Rattle.el.specs.Assignment.{induced}
use Rattle.el.specs.Walk.{Node}
use Rattle.el.specs.Below.{newly, freshly}
use Rattle.table.specs.Layout.{line_at}
use Rattle.node.specs.declared.Sets.{Sets}
use Rattle.node.specs.declared.Lines.{Lines}
use Rattle.node.specs.Mask.{Fills, LineMasks}
use Rattle.level.specs.declared.Level.{Level}

abbrev pub Back : ℕ → ℕ → Type 0
Back y w = w ≡ y

abbrev pub Out : ℕ → ℕ → Type 0
Out y w = y < w

pub record Tells (t : Table) (p : Node) (W : ℕ → Type 0) (mask : ℕ) : Type 0 where
  pub some : (x : ℕ) → (bit_and x mask ≡ 0 → ⊥) → (w : ℕ) × W w × (newly t p x w ≡ true)
  pub none : (x : ℕ) → bit_and x mask ≡ 0 → (w : ℕ) → W w → newly t p x w ≡ false

unfoldable pub passing : (ℕ → Bool) → ℕ → List ℕ
passing q zero = []
passing q (suc n) = elim (q n) [ true ↦ passing q n ++ (n ∷ []) | false ↦ passing q n ]

unfoldable pub fresh_mask : ℕ → ℕ → ℕ → Bool
fresh_mask own a k = not (eqb (bit_and own a) 0) && eqb (bit_and own k) own

unfoldable pub is_fresh : List ℕ → ℕ → ℕ → ℕ → Bool
is_fresh mask a k n = fresh_mask (get_or mask n 0) a k

pub record Listed (q : ℕ → Bool) (n : ℕ) (fresh : List ℕ) (few : ℕ) : Type 0 where
  pub numbers : take few fresh ≡ passing q n
  pub fits : few ≤ n
  pub room : length fresh ≡ max_lines

pub record Levels (t : Table) (p : Node) (m : ℕ) (level : Level) : Type 0 where
  pub turning : Tells t p (Back (length p)) level.turning
  pub leaving : Tells t p (Out (length p)) level.leaving
  pub lines : Listed (λ n. freshly t p (line_at t.lines n)) m level.fresh level.few

pub record LevelGiven (lines : Lines) (sets : Sets) : Type 0 where
  pub few_variables : sets.chosen ≤ max_variables
  pub few_lines : lines.count ≤ max_lines
  pub some : 0 < sets.chosen

abbrev pub LevelFor : List ℕ → ℕ → Lines → Sets → Level → Type 0
LevelFor fill c lines sets level =
    (t : Table) → T (declared t) → t.variables ≤ max_variables → Fills t c (length fill) fill → LineMasks t lines.count lines.mask → sets.chosen ≤ t.variables
    → Levels t (take (sets.chosen - 1) sets.set) lines.count level

unfoldable pub fails_at : Table → List ℕ → ℕ → Bool
fails_at t set n = not (holds (role_order t) t.rows (induced t set) (line_at t.lines n))

unfoldable pub fresh_fails : Table → List ℕ → List ℕ → ℕ → Bool
fresh_fails t set fresh few = any_below few (λ i. fails_at t set (get_or fresh i 0))
