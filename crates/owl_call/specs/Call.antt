-- What the parts of the call are told, and what they answer.
--
--   constants_in, roles_in, freshes_in, row_count s == how many constants, roles, fresh variables and rows the table of the text s has
--   Within most n r      == r is n where n is no more than `most`; else there is no r
--   WithinCounts s       == they are within their bounds
--   Counted s t          == so many constants, roles, open names, variables and rows there are, and they are within their bounds
--   CountsAre s r        == so many there are; or a bound is passed, and there is no r
--   lines_room           == how many bytes lines have at most
--   LinesIn s x lines    == the lines of the table were passed, and stand in the first bytes of `lines`
--   header_bytes c r v e m == the header of a table
--   PutTable             == a whole table is appended to a buffer
--   refusal_number r, refusal_place r == the number and the place that a refusal is answered by
--   answer_of r a        == the answer with the buffer a: how long the table is, or a refusal
--   TableMade s b a r    == the answer to a text s whose names are declared, where the buffer was b and is a
use Rattle.std.specs.Prelude.{◌≡◌, ℕ, ◌+◌, ◌*◌, ◌≤◌, ◌<◌, T, length, Option, Some, None, Result, Ok, Err}
use mathlib.Core.List.{List, [], ◌∷◌, ◌++◌, flat_map}
use Rattle.el.specs.Test.{every_of}
use Rattle.bounds.specs.Bounds.{max_constants, max_restrictions, max_atoms, max_roles, max_variables, max_lines}
use Rattle.table.specs.Bytes.{written_row, longest_line}
use Rattle.text.specs.Append.{Appended}
use Rattle.owl.specs.Once.{once}
use Rattle.owl.specs.Tree.{File}
use Rattle.owl.specs.Written.{Says}
use Rattle.owl.specs.Mention.{names_in, undeclared}
use Rattle.owl.specs.Flattening.{flat_table}
use Rattle.owl.specs.Restriction.{standing, restrictions_of, owns_of, same_restriction}
use Rattle.owl_make.specs.Lines.{opens_in, LinesDone}
use Rattle.owl_table.specs.Rows.{small_row, rows_of}
use Rattle.owl_answer.specs.Owl.{Owl, owl, TableAt}
use Rattle.owl_line.specs.declared.parts.Passed.{Passed}
use Rattle.owl_text.specs.Verdict.{reason_number}
use Rattle.owl_call.specs.declared.parts.Totals.{Totals}
use Rattle.owl_call.specs.declared.Refusal.{Refusal}
use Rattle.owl_call.specs.declared.Refusal.TheVariants.{Spoiled, Undeclared, OverBound, Short}

abbrev pub constants_in : List ℕ → ℕ
constants_in s = length (names_in s).constants

abbrev pub roles_in : List ℕ → ℕ
roles_in s = length (names_in s).roles

abbrev pub freshes_in : List ℕ → ℕ
freshes_in s = owns_of (restrictions_of (standing s))

abbrev pub row_count : List ℕ → ℕ
row_count s = length (once same_restriction [] (restrictions_of (standing s)))

abbrev pub Within : ℕ → ℕ → Option ℕ → Type 0
Within most n None = most < n
Within most n (Some k) = (k ≡ n) × (n ≤ most)

-- "Constants and restrictions go up to 32 each, 56 together, variables to 24."; "r at most 16"
pub record WithinCounts (s : List ℕ) : Type 0 where
  pub few_constants : constants_in s ≤ max_constants
  pub few_rows : row_count s ≤ max_restrictions
  pub few_atoms : constants_in s + row_count s ≤ max_atoms
  pub few_roles : roles_in s ≤ max_roles
  pub few_variables : opens_in s + freshes_in s ≤ max_variables

pub record Counted (s : List ℕ) (t : Totals) : Type 0 where
  pub constants : t.constants ≡ constants_in s
  pub roles : t.roles ≡ roles_in s
  pub opens : t.opens ≡ opens_in s
  pub variables : t.variables ≡ opens_in s + freshes_in s
  pub rows : t.rows ≡ row_count s
  pub within : WithinCounts s

abbrev pub CountsAre : List ℕ → Option Totals → Type 0
CountsAre s None = WithinCounts s → ⊥
CountsAre s (Some t) = Counted s t

abbrev pub lines_room : ℕ
lines_room = longest_line * max_lines

unfoldable pub LinesIn : List ℕ → Passed → List ℕ → Type 0
LinesIn s x lines = (b : List ℕ) × (length b ≡ lines_room) × (length lines ≡ lines_room) × LinesDone s b (Some x) lines

abbrev pub header_bytes : ℕ → ℕ → ℕ → ℕ → ℕ → List ℕ
header_bytes c r v e m = 0x56 ∷ 0x4F ∷ 0x43 ∷ 1 ∷ 0 ∷ c ∷ r ∷ v ∷ e ∷ m ∷ []

unfoldable pub PutTable : List ℕ → ℕ → Totals → ℕ → List ℕ → List ℕ → List ℕ → ℕ → Type 0
PutTable s opens t m lines b a end =
    T (every_of small_row (rows_of s opens)) → Appended b 0 (header_bytes t.constants t.roles t.variables t.rows m ++ (flat_map written_row (rows_of s opens) ++ lines)) a end

abbrev pub refusal_number : Refusal → ℕ
refusal_number (Spoiled r) = reason_number r.reason
refusal_number (Undeclared at) = 11
refusal_number OverBound = 12
refusal_number (Short long) = 17

abbrev pub refusal_place : Refusal → ℕ
refusal_place (Spoiled r) = r.place
refusal_place (Undeclared at) = at
refusal_place OverBound = 0
refusal_place (Short long) = long

abbrev pub answer_of : Result ℕ Refusal → List ℕ → Owl
answer_of (Ok count) a = owl 0 count 0 a
answer_of (Err r) a = owl (refusal_number r) 0 (refusal_place r) a

unfoldable pub TableMade : List ℕ → List ℕ → List ℕ → Result ℕ Refusal → Type 0
TableMade s b a r = (f : File) → Says s f → undeclared s ≡ length s → TableAt (flat_table f) b (answer_of r a)
