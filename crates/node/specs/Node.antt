-- A node as the code holds it, what its test is given, and the first line that fails there.
--
--   node_of sets       == the node: the set numbers of the chosen variables
--   Clean sets        == a variable that is not chosen has the empty set
--   CountsOf s p      == the counts that p holds are those of the bytes s
--   Prepares s p      == p is what is prepared of the bytes s, each list with room for the longest table
--   NodeGiven s sets  == the sets are a node of the table s
--   DependsGiven fill c e n == what dependences are read from: masks for e restrictions, c + e not too many, and n variables
--   first_at p l       == the number of the first line of l that passes p; how many there are where none does
--   first_failing t s  == so of the lines of t, for those that are ready and fail at the node s
--   fails_by t set mask k n == line n, whose variables are those of `mask`, has only variables of the mask k, and does not hold under the sets
--   NoneFails t set mask k n == none of the first n lines fails so
use Rattle.std.specs.Prelude.{◌≡◌, Bool, true, false, ◌&&◌, not, List, [], ◌∷◌, ℕ, suc, ◌+◌, ◌≤◌, ◌<◌, eqb, length, get_or, take}
use Rattle.std.specs.Int.Bits.{bit_and}
use Rattle.el.specs.Table.{Line, Table, role_order}
use Rattle.el.specs.Meaning.{holds}
use Rattle.el.specs.Assignment.{induced}
use Rattle.el.specs.Walk.{Node, fails}
use Rattle.bounds.specs.Bounds.{max_restrictions, max_atoms, max_variables, max_lines}
use Rattle.table.specs.Reading.{table_of, header_of}
use Rattle.table.specs.Layout.{line_at}
use Rattle.order.specs.Given.{RowsGiven}
use Rattle.node.specs.declared.Sets.{Sets}
use Rattle.node.specs.declared.Prepared.{Prepared}
use Rattle.node.specs.Mask.{FillMasks, LineMasks, LineStarts}

-- "One set per variable, held together as one value"; "A node is a choice of sets for variables 0 to k-1"
unfoldable pub node_of : Sets → Node
node_of sets = take sets.chosen sets.set

unfoldable pub Clean : Sets → Type 0
Clean sets = (x : ℕ) → sets.chosen ≤ x → get_or sets.set x 0 ≡ 0

pub record CountsOf (s : List ℕ) (p : Prepared) : Type 0 where
  pub constants : p.rows.c ≡ (header_of s).c
  pub restrictions : p.rows.e ≡ (header_of s).e
  pub variables : p.rows.v ≡ (header_of s).v
  pub lines : p.lines.count ≡ (header_of s).m

pub record Prepares (s : List ℕ) (p : Prepared) : Type 0 where
  pub rows : RowsGiven s p.rows
  pub line_count : p.lines.count ≡ (header_of s).m
  pub fills : FillMasks (table_of s).rows (header_of s).e p.fill
  pub masks : LineMasks (table_of s) (header_of s).m p.lines.mask
  pub starts : LineStarts s (header_of s).m p.lines.start
  pub fill_room : length p.fill ≡ max_restrictions
  pub mask_room : length p.lines.mask ≡ max_lines
  pub start_room : length p.lines.start ≡ max_lines

pub record NodeGiven (s : List ℕ) (sets : Sets) : Type 0 where
  pub chosen : sets.chosen ≤ (header_of s).v
  pub clean : Clean sets

pub record DependsGiven (fill : List ℕ) (c e n : ℕ) : Type 0 where
  pub few_atoms : c + e ≤ max_atoms
  pub room : e ≤ length fill
  pub few_variables : n ≤ max_variables

unfoldable pub first_at : (Line → Bool) → List Line → ℕ
first_at p [] = 0
first_at p (l ∷ ls) = elim (p l) [ true ↦ 0 | false ↦ suc (first_at p ls) ]

-- "a ready line fails": the number of the first that does
unfoldable pub first_failing : Table → Node → ℕ
first_failing t s = first_at (fails (role_order t) t s) t.lines

unfoldable pub fails_by : Table → List ℕ → List ℕ → ℕ → ℕ → Bool
fails_by t set mask k n = eqb (bit_and (get_or mask n 0) k) (get_or mask n 0) && not (holds (role_order t) t.rows (induced t set) (line_at t.lines n))

unfoldable pub NoneFails : Table → List ℕ → List ℕ → ℕ → ℕ → Type 0
NoneFails t set mask k n = (i : ℕ) → i < n → fails_by t set mask k i ≡ false
