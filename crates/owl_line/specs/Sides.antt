-- The lines of two sides: what the code tells of them, and their bytes.
--
--   SideHas s opens side es == the entries of a side of lines of the text s: a fresh variable is the one with that number behind `opens` open
--                         names, a class expression is the one that begins with the next token after that byte
--   SideIn s side        == such a byte is one of the text
--   none                 == an entry
--   small e, small_line l == the codes of an entry, of a line are below 128
--   CountIs, CodeIs      == the number of entries of a side, and the code of one
--   PutEntries, PutLines == the bytes of a side's entries, of the lines of two sides, are appended to a buffer
--   Few lines            == so many lines, with so many left entries, may stand in a table
--   Done b passed a lines == the lines were passed: where nothing is told they are too many or too long; else there are as many as told, and their
--                          bytes stand in the buffer, which was b and is a, from its first byte to the byte that is told
--   Grouped              == the lines of two sides are passed besides
use Rattle.std.specs.Prelude.{◌≡◌, Bool, ◌&&◌, ℕ, ◌+◌, ◌≤◌, ◌<◌, T, leb, ltb, length, get_or, Option, Some, None}
use mathlib.Core.List.{List, [], ◌∷◌, ◌++◌, flat_map}
use Rattle.el.specs.Test.{every_of}
use Rattle.el.specs.Table.{Entry, constant, variable, Line}
use Rattle.bounds.specs.Bounds.{max_lines, max_left}
use Rattle.table.specs.Bytes.{entry_code, written_entry, written_line}
use Rattle.text.specs.Append.{Appended}
use Rattle.owl.specs.Flattening.{lines_of}
use Rattle.owl_class.specs.Conjuncts.{Reached}
use Rattle.owl_axiom.specs.Entries.{entries_at}
use Rattle.owl_line.specs.declared.parts.Side.{Side}
use Rattle.owl_line.specs.declared.parts.Side.TheVariants.{Fresh, Class}
use Rattle.owl_line.specs.declared.parts.Passed.{Passed}

abbrev pub SideHas : List ℕ → ℕ → Side → List Entry → Type 0
SideHas s opens (Fresh n) es = es ≡ variable (opens + n) ∷ []
SideHas s opens (Class at) es = (n : ℕ) × Reached s at 3 n × (es ≡ entries_at s at n)

abbrev pub SideIn : List ℕ → Side → Type 0
SideIn s (Fresh n) = Unit {0}
SideIn s (Class at) = at ≤ length s

abbrev pub none : Entry
none = constant 0

unfoldable pub small : Entry → Bool
small e = ltb (entry_code e) 128

abbrev pub small_line : Line → Bool
small_line l = every_of small l.left && small l.right

unfoldable pub CountIs : List ℕ → Side → ℕ → Type 0
CountIs s side r = (opens : ℕ) (es : List Entry) → SideHas s opens side es → r ≡ length es

unfoldable pub CodeIs : List ℕ → ℕ → Side → ℕ → ℕ → Type 0
CodeIs s opens side i r = (es : List Entry) → SideHas s opens side es → i < length es → T (small (get_or es i none)) → r ≡ entry_code (get_or es i none)

unfoldable pub PutEntries : List ℕ → ℕ → Side → ℕ → List ℕ → ℕ → List ℕ → ℕ → Type 0
PutEntries s opens side p b from a r = (es : List Entry) → SideHas s opens side es → p ≡ length es → T (every_of small es) → Appended b from (flat_map written_entry es) a r

unfoldable pub PutLines : List ℕ → ℕ → Side → Side → ℕ → ℕ → List ℕ → ℕ → List ℕ → ℕ → Type 0
PutLines s opens left right p q b from a r =
    (ls rs : List Entry) → SideHas s opens left ls → SideHas s opens right rs → p ≡ length ls → q ≡ length rs → T (every_of small_line (lines_of ls rs)) →
    Appended b from (flat_map written_line (lines_of ls rs)) a r

-- "m at most 64, p at most 8"
pub record Few (lines : List Line) : Type 0 where
  pub few : length lines ≤ max_lines
  pub short : T (every_of (λ (l : Line). leb (length l.left) max_left) lines)

abbrev pub Done : List ℕ → Option Passed → List ℕ → List Line → Type 0
Done b None a lines = Few lines → ⊥
Done b (Some x) a lines = Few lines × (x.lines ≡ length lines) × (T (every_of small_line lines) → Appended b 0 (flat_map written_line lines) a x.end)

unfoldable pub Grouped : List ℕ → ℕ → Side → Side → Option Passed → List ℕ → Option Passed → List ℕ → Type 0
Grouped s opens left right o a r a' =
    (b : List ℕ) (lines : List Line) (ls rs : List Entry) → SideHas s opens left ls → SideHas s opens right rs →
    Done b o a lines → Done b r a' (lines ++ lines_of ls rs)
