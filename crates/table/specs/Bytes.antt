-- How a table is written as bytes, and what it must keep to.
--
--   filler_code f, entry_code x  == the code of a filler, of an entry
--   written_header h            == the bytes of the mark, the version and the counts h; written_role_count h, that of q
--   written_role_row, written_row, written_entry, written_line == the bytes of a role row, of a row, of an entry, of a line
--   bytes_with h role_rows rows lines == the header h, and these role rows, rows and lines behind it
--   counts_of n t               == the header of the table t in version n
--   bytes_of n t                == the bytes of the table t in version n
--   IsVersion h                == the version of h is known, and version 1 has no role rows
--   Within b h                 == the counts h are within the bounds b
--   line_right t l              == the line l has at most `max_left` left entries, and all it names is declared in t
--   Right h role_rows rows lines == a known version, counts within their bounds, and role rows, rows and lines that may stand under them
--   Fits n t                   == the table t keeps to all that in version n
--   IsTable s t                == the bytes s are a readable table, t: the bytes of t in a version in which it fits
--   longest_line, longest_front n, longest_length n == how long a line, a header with its role rows and a table of version n can be
--   enough_length               == how much of an input is looked at
--   longest_table n             == a longest table of version n
use Rattle.std.specs.Prelude.{◌≡◌, Bool, ◌&&◌, cond, ℕ, ◌+◌, ◌*◌, ◌≤◌, T, leb, length, replicate}
use mathlib.Core.List.{List, [], ◌∷◌, ◌++◌, flat_map}
use Rattle.el.specs.Test.{every_of}
use Rattle.el.specs.Roles.{RoleRow}
use Rattle.el.specs.Table.{Filler, top_f, constant_f, variable_f, Entry, constant, restriction, variable, Row, Line, Table, role_row_declared, row_declared, line_declared}
use Rattle.bounds.specs.Bounds.{Bounds, bounds, max_restrictions, max_lines, max_left, max_role_rows}
use Rattle.table.specs.declared.Header.{Header}
use Rattle.table.specs.Reading.{header_length, has_role_rows, table_with}

-- "0x00 top; 0x20+k constant k; 0x40+k restriction k; 0x60+k variable k"
unfoldable pub filler_code : Filler → ℕ
filler_code top_f = 0x00
filler_code (constant_f k) = 0x20 + k
filler_code (variable_f k) = 0x60 + k

unfoldable pub entry_code : Entry → ℕ
entry_code (constant k) = 0x20 + k
entry_code (restriction k) = 0x40 + k
entry_code (variable k) = 0x60 + k

-- "In version 2 byte 10 is the count q of role rows"
unfoldable pub written_role_count : Header → List ℕ
written_role_count h = cond (has_role_rows h.version) (h.q ∷ []) []

-- "Bytes 0 to 2: the mark VOC (56 4F 43). Bytes 3 and 4: version. Bytes 5 to 9, one count each"
unfoldable pub written_header : Header → List ℕ
written_header h = 0x56 ∷ 0x4F ∷ 0x43 ∷ h.version ∷ 0 ∷ h.c ∷ h.r ∷ h.v ∷ h.e ∷ h.m ∷ written_role_count h

-- "rows of two roles (narrower, then wider)"
unfoldable pub written_role_row : RoleRow → List ℕ
written_role_row row = row.narrower ∷ row.wider ∷ []

-- "restriction rows of two bytes: a role, less than r, and a filler code"
unfoldable pub written_row : Row → List ℕ
written_row row = row.role ∷ filler_code row.filler ∷ []

unfoldable pub written_entry : Entry → List ℕ
written_entry x = entry_code x ∷ []

-- "a left count p, p atom codes, and one right atom code"
unfoldable pub written_line : Line → List ℕ
written_line l = length l.left ∷ (flat_map written_entry l.left ++ written_entry l.right)

-- "and q rows of two roles follow it". "Then e restriction rows", "Then m lines". "Nothing follows."
unfoldable pub bytes_with : Header → List RoleRow → List Row → List Line → List ℕ
bytes_with h role_rows rows lines = written_header h ++ (flat_map written_role_row role_rows ++ (flat_map written_row rows ++ flat_map written_line lines))

unfoldable pub counts_of : ℕ → Table → Header
counts_of n t =
    record { version = n; c = t.constants; r = t.roles; v = t.variables; e = length t.rows; m = length t.lines; q = length t.role_rows }

unfoldable pub bytes_of : ℕ → Table → List ℕ
bytes_of n t = bytes_with (counts_of n t) t.role_rows t.rows t.lines

-- "3 now means neither 1 nor 2"; in version 1 there are no role rows
pub data IsVersion (h : Header) : Type 0 where
  version_one : h.version ≡ 1 → h.q ≡ 0 → IsVersion h
  version_two : h.version ≡ 2 → IsVersion h

-- "Constants and restrictions go up to 32 each, 56 together, variables to 24."; "r at most 16", "m at most 64"; "the count q of role rows, at
-- most 32"
pub record Within (b : Bounds) (h : Header) : Type 0 where
  pub few_constants : h.c ≤ b.constants
  pub few_roles : h.r ≤ b.roles
  pub few_variables : h.v ≤ b.variables
  pub few_restrictions : h.e ≤ b.restrictions
  pub few_atoms : h.c + h.e ≤ b.atoms
  pub few_lines : h.m ≤ b.lines
  pub few_role_rows : h.q ≤ b.role_rows

-- "p at most 8"
unfoldable pub line_right : Table → Line → Bool
line_right t l = leb (length l.left) max_left && line_declared t l

pub record Right (h : Header) (role_rows : List RoleRow) (rows : List Row) (lines : List Line) : Type 0 where
  pub version : IsVersion h
  pub counts : Within bounds h
  pub role_rows_right : T (every_of (role_row_declared (table_with h role_rows rows lines)) role_rows)
  pub rows_right : T (every_of (row_declared (table_with h role_rows rows lines)) rows)
  pub lines_right : T (every_of (line_right (table_with h role_rows rows lines)) lines)

unfoldable pub Fits : ℕ → Table → Type 0
Fits n t = Right (counts_of n t) t.role_rows t.rows t.lines

unfoldable pub IsTable : List ℕ → Table → Type 0
IsTable s t = (n : ℕ) × (s ≡ bytes_of n t) × Fits n t

-- a line of as many left entries as are allowed
abbrev pub longest_line : ℕ
longest_line = max_left + 2

-- "The longest tables are 714 bytes in version 1 and 779 in version 2"
unfoldable pub longest_front : ℕ → ℕ
longest_front n = cond (has_role_rows n) (header_length + 1 + 2 * max_role_rows) header_length

abbrev pub longest_length : ℕ → ℕ
longest_length n = longest_front n + 2 * max_restrictions + longest_line * max_lines

-- "and the listing program reads one byte more", which is enough to refuse
abbrev pub enough_length : ℕ
enough_length = header_length + 1 + 2 * max_role_rows + 2 * max_restrictions + longest_line * max_lines + 1

-- as many role rows, rows, lines and left entries as are allowed
unfoldable pub longest_table : ℕ → Table
longest_table n =
    record {
      constants = 0;
      roles = 1;
      variables = 0;
      role_rows = cond (has_role_rows n) (replicate max_role_rows (record { narrower = 0; wider = 0 })) [];
      rows = replicate max_restrictions (record { role = 0; filler = top_f });
      lines = replicate max_lines (record { left = replicate max_left (restriction 0); right = restriction 0 });
    }
