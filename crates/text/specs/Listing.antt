-- The text of an answer, as the listing program writes it.
--
--   filler_text f         == `top`, `c0`, `v1`
--   code_text kind        == a filler by the kind of its code; nothing for a code that is no filler
--   row_text row          == `r0.v1`, `r0.c0`, `r0.top`
--   atom_text t i         == atom i
--   atoms_in n s          == the atoms of the set s with a number below n, in rising number
--   atom_texts t s n      == their texts
--   conjunction_text ts   == the texts joined by ` & `, or `top` for none
--   set_text t s          == the set s
--   variable_line t s x   == the line of variable x, whose set is s
--   variable_lines t a n  == the lines of variables 0 to n - 1, whose sets a gives
--   solved_text t out     == the lines of all variables, where the output holds a set for each
--   first_line a          == number, count and place on a line
--   listing_text s a out  == the whole text of what is handed back, with the output
use Rattle.std.specs.Prelude.{true, false, List, [], ◌∷◌, ◌++◌, map, ℕ, zero, suc, ◌*◌, ◌-◌, ltb, length}
use Rattle.bounds.specs.Bounds.{set_bytes}
use Rattle.el.specs.Test.{bit}
use Rattle.el.specs.Table.{Filler, top_f, constant_f, variable_f, Row, Table, row_at, atoms}
use Rattle.answer.specs.declared.Handed.{Handed}
use Rattle.table.specs.declared.Kind.{Kind}
use Rattle.table.specs.declared.Kind.TheVariants.{Top, Constant, Restriction, Variable, Other}
use Rattle.table.specs.Reading.{table_of}
use Rattle.output.specs.Written.{set_in}
use Rattle.text.specs.Text.{newline, decimal, joined, answer_text}

abbrev pub top_text : List ℕ
top_text = 0x74 ∷ 0x6F ∷ 0x70 ∷ []

-- a constant, a variable: `c` or `v`, and its number
abbrev pub constant_text : ℕ → List ℕ
constant_text k = 0x63 ∷ decimal k

abbrev pub variable_text : ℕ → List ℕ
variable_text k = 0x76 ∷ decimal k

-- "Atoms print as `c0` or `r0.v1`, `r0.c0`, `r0.top`."
unfoldable pub filler_text : Filler → List ℕ
filler_text top_f = top_text
filler_text (constant_f k) = constant_text k
filler_text (variable_f k) = variable_text k

-- the same by its code
unfoldable pub code_text : Kind → List ℕ
code_text Top = top_text
code_text (Constant k) = constant_text k
code_text (Restriction k) = []
code_text (Variable k) = variable_text k
code_text Other = []

unfoldable pub row_text : Row → List ℕ
row_text row = 0x72 ∷ (decimal row.role ++ (0x2E ∷ filler_text row.filler))

-- "constant k is k, restriction k is c + k"
unfoldable pub atom_text : Table → ℕ → List ℕ
atom_text t i = elim (ltb i t.constants) [ true ↦ constant_text i | false ↦ row_text (row_at t.rows (i - t.constants)) ]

-- "its atoms in rising number"
unfoldable pub atoms_in : ℕ → ℕ → List ℕ
atoms_in zero s = []
atoms_in (suc n) s = elim (bit n s) [ true ↦ atoms_in n s ++ (n ∷ []) | false ↦ atoms_in n s ]

-- "joined by ` & `, or `top` for none"
abbrev pub ampersand : List ℕ
ampersand = 0x20 ∷ 0x26 ∷ 0x20 ∷ []

unfoldable pub conjunction_text : List (List ℕ) → List ℕ
conjunction_text [] = top_text
conjunction_text (t ∷ ts) = joined ampersand (t ∷ ts)

abbrev pub atom_texts : Table → ℕ → ℕ → List (List ℕ)
atom_texts t s n = map (atom_text t) (atoms_in n s)

unfoldable pub set_text : Table → ℕ → List ℕ
set_text t s = conjunction_text (atom_texts t s (atoms t))

-- "a line per variable follows: `v`, number, `: `, then its atoms"
unfoldable pub variable_line : Table → ℕ → ℕ → List ℕ
variable_line t s x = variable_text x ++ (0x3A ∷ 0x20 ∷ (set_text t s ++ newline))

unfoldable pub variable_lines : Table → (ℕ → ℕ) → ℕ → List ℕ
variable_lines t a zero = []
variable_lines t a (suc n) = variable_lines t a n ++ variable_line t (a n) n

unfoldable pub solved_text : Table → List ℕ → List ℕ
solved_text t out = elim (ltb (length out) (set_bytes * t.variables)) [ true ↦ [] | false ↦ variable_lines t (set_in out) t.variables ]

-- "If the number is 0"
abbrev pub under_number : ℕ → List ℕ → List ℕ
under_number zero text = text
under_number (suc n) text = []

-- "First line: number, count, place, with single spaces."
unfoldable pub first_line : Handed → List ℕ
first_line a = answer_text a ++ newline

-- of an unreadable table there are no variables: the first line alone
unfoldable pub listing_text : List ℕ → Handed → List ℕ → List ℕ
listing_text s a out = first_line a ++ under_number a.number (solved_text (table_of s) out)
