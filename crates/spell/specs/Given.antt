-- What the writers are given: where the names of a text stand in it, its table, and the output of the solver.
--
--   span_at spans k          == where name k stands
--   span_text s spans k       == the bytes of the text s there; none where there is no such name
--   Inside s spans           == each name stands in the text s
--   SpansOf s l spans        == they are the names of l
--   Given s constants opens roles table output == those of the text s, a readable table with a variable for each open name, and a set for each variable
use Rattle.std.specs.Prelude.{◌≡◌, true, false, List, [], ℕ, ◌*◌, ◌-◌, ◌≤◌, ◌<◌, T, ltb, length, get_or, take, drop}
use Rattle.bounds.specs.Bounds.{set_bytes}
use Rattle.table.specs.Reading.{reading, is_readable, header_of}
use Rattle.owl.specs.Tree.{Name}
use Rattle.owl.specs.Mention.{names_in}
use Rattle.spell.specs.declared.Span.{Span}
use Rattle.spell.specs.Spelling.{name_of}

abbrev pub span_at : List Span → ℕ → Span
span_at spans k = get_or spans k (record { from = 0; to = 0 })

unfoldable pub span_text : List ℕ → List Span → ℕ → List ℕ
span_text s spans k = elim (ltb k (length spans)) [ true ↦ take ((span_at spans k).to - (span_at spans k).from) (drop (span_at spans k).from s) | false ↦ [] ]

abbrev pub Inside : List ℕ → List Span → Type 0
Inside s spans = (k : ℕ) → k < length spans → ((span_at spans k).from ≤ (span_at spans k).to) × ((span_at spans k).to ≤ length s)

pub record SpansOf (s : List ℕ) (l : List Name) (spans : List Span) : Type 0 where
  pub many : length spans ≡ length l
  pub inside : Inside s spans
  pub said : (k : ℕ) → k < length l → span_text s spans k ≡ name_of l k

pub record Given (s : List ℕ) (constants opens roles : List Span) (table output : List ℕ) : Type 0 where
  pub constants_at : SpansOf s (names_in s).constants constants
  pub opens_at : SpansOf s (names_in s).opens opens
  pub roles_at : SpansOf s (names_in s).roles roles
  pub ok : T (is_readable (reading table))
  pub named : length (names_in s).opens ≤ (header_of table).v
  pub room : set_bytes * (header_of table).v ≤ length output
