-- What a list of bytes says: a refusal, or a table. No other file says at which byte a count or a row stands.
--
--   Read A               == a refusal, or something read and the place after it
--   refuse_if t why x     == the refusal `why` where the test t passes, else x
--   and_then x f          == what is read next, from the place after x
--   or_refused at o       == what the code at `at` writes, or its refusal
--   read_many one k at    == k of a kind from the byte `at` on, each read by `one`
--   read_code s of at     == what the byte `at` writes by `of`
--   read_pair one two make at == two one after the other, made into one thing
--   byte_at s i           == byte i
--   missing s i          == there is no byte i
--   version_place, constants_place, roles_place, variables_place, restrictions_place, lines_place, role_rows_place == the byte of the version and of each count
--   header_length         == how many bytes a header has without its count of role rows
--   has_role_rows n        == tables of version n have role rows
--   header_end h          == how many bytes the header h has
--   role_count s          == the count q of role rows; 0 in version 1
--   header_of s           == the version and the counts
--   role_row_start s k, wider_place s k == the byte where role row k begins, and that of its wider role
--   rows_at s             == the byte where the rows begin
--   row_start s k, filler_place s k == the byte where row k begins, and that of its filler
--   marked s, version_known s == the mark and the version are right
--   read_counts b h, read_header b s == the counts h within the bounds b; the header with such counts, where it is all there (then_there)
--   read_role, read_filler, read_entry s h at == the role, the filler, the entry at the byte `at`, where h is declared
--   role_row_of n w, row_of r f == a role row and a row of these two
--   read_role_row, read_row s h at, read_line b s h at == the role row, the row, the line that begins at the byte `at`
--   read_role_rows, read_rows, read_entries, read_lines == k of them
--   then_right, then_end, then_lines, then_rows == the rest of a line, and of a table
--   table_with h role_rows rows lines == the table of a header, with these role rows, rows and lines
--   read_body b s h       == the role rows, rows and lines, and nothing after them
--   Reading              == a refusal, or a table with its counts
--   reading_within b s, reading s == the whole, within the bounds b, and within those of today
--   Wider b w            == the bounds w are nowhere smaller than b
--   the_table r, table_of s == the table that was read; of an unreadable input an empty one
--   is_readable r         == it is a table
use Rattle.std.specs.Prelude.{Bool, true, false, ◌&&◌, ◌||◌, not, cond, List, [], ◌∷◌, ℕ, zero, suc, ◌+◌, ◌*◌, ◌≤◌, eqb, leb, ltb, length, get_or}
use Rattle.std.proofs.Math.Option.{Option, none, some}
use Rattle.el.specs.Roles.{RoleRow}
use Rattle.el.specs.Table.{Filler, Entry, Row, Line, Table}
use Rattle.answer.specs.declared.Answer.{Answer}
use Rattle.answer.specs.declared.Answer.TheVariants.{EndsEarly, WrongMark, WrongVersion, OverBound, NotAllowed, BytesAfter}
use Rattle.bounds.specs.Bounds.{Bounds, bounds}
use Rattle.table.specs.declared.Header.{Header}
use Rattle.table.specs.Code.{role_of, filler_of, entry_of}

pub data Read (A : Type 0) : Type 0 where
  refused : Answer → Read A
  got : A → ℕ → Read A

abbrev pub refuse_if : {A : Type 0} → Bool → Answer → Read A → Read A
refuse_if true why x = refused why
refuse_if false why x = x

-- what is read next goes on from the place after what was read
abbrev pub and_then : {A B : Type 0} → Read A → (A → ℕ → Read B) → Read B
and_then (refused why) f = refused why
and_then (got a at) f = f a at

-- "code or role not declared or not allowed there", "its byte"
abbrev pub or_refused : {A : Type 0} → ℕ → Option A → Read A
or_refused at none = refused (NotAllowed at)
or_refused at (some a) = got a (at + 1)

-- many of a kind, one after the other
unfoldable pub read_many : {A : Type 0} → (ℕ → Read A) → ℕ → ℕ → Read (List A)
read_many one zero at = got [] at
read_many one (suc k) at = and_then (one at) (λ a next. and_then (read_many one k next) (λ l end. got (a ∷ l) end))

-- two, one after the other
unfoldable pub read_pair : {A B C : Type 0} → (ℕ → Read A) → (ℕ → Read B) → (A → B → C) → ℕ → Read C
read_pair one two make at = and_then (one at) (λ a next. and_then (two next) (λ b end. got (make a b) end))

------------------------------------------------------------------ where bytes lie

abbrev pub byte_at : List ℕ → ℕ → ℕ
byte_at s i = get_or s i 0

abbrev pub missing : List ℕ → ℕ → Bool
missing s i = leb (length s) i

-- one byte by itself; "a missing byte gives 1"
unfoldable pub read_code : {A : Type 0} → List ℕ → (ℕ → Option A) → ℕ → Read A
read_code s of at = refuse_if (missing s at) (EndsEarly (length s)) (or_refused at (of (byte_at s at)))

-- "Bytes 3 and 4: version"
abbrev pub version_place : ℕ
version_place = 3

-- "Bytes 5 to 9, one count each: constants c, roles r, open names (variables) v, restrictions e, lines m."
abbrev pub constants_place : ℕ
constants_place = 5

abbrev pub roles_place : ℕ
roles_place = 6

abbrev pub variables_place : ℕ
variables_place = 7

abbrev pub restrictions_place : ℕ
restrictions_place = 8

abbrev pub lines_place : ℕ
lines_place = 9

abbrev pub header_length : ℕ
header_length = 10

-- "In version 2 byte 10 is the count q of role rows"
abbrev pub role_rows_place : ℕ
role_rows_place = 10

unfoldable pub has_role_rows : ℕ → Bool
has_role_rows n = eqb n 2

unfoldable pub header_end : Header → ℕ
header_end h = cond (has_role_rows h.version) (header_length + 1) header_length

unfoldable pub role_count : List ℕ → ℕ
role_count s = cond (has_role_rows (byte_at s version_place)) (byte_at s role_rows_place) 0

abbrev pub header_of : List ℕ → Header
header_of s =
    record {
      version = byte_at s version_place;
      c = byte_at s constants_place;
      r = byte_at s roles_place;
      v = byte_at s variables_place;
      e = byte_at s restrictions_place;
      m = byte_at s lines_place;
      q = role_count s;
    }

-- "and q rows of two roles (narrower, then wider) follow it"
abbrev pub role_row_start : List ℕ → ℕ → ℕ
role_row_start s k = header_end (header_of s) + 2 * k

abbrev pub wider_place : List ℕ → ℕ → ℕ
wider_place s k = header_end (header_of s) + 1 + 2 * k

-- "Then e restriction rows of two bytes: a role, less than r, and a filler code."
abbrev pub rows_at : List ℕ → ℕ
rows_at s = role_row_start s (header_of s).q

abbrev pub row_start : List ℕ → ℕ → ℕ
row_start s k = rows_at s + 2 * k

abbrev pub filler_place : List ℕ → ℕ → ℕ
filler_place s k = rows_at s + 1 + 2 * k

------------------------------------------------------------------ the header

-- "Bytes 0 to 2: the mark VOC (56 4F 43)."; "3 now means neither 1 nor 2"
unfoldable pub marked : List ℕ → Bool
marked s = eqb (byte_at s 0) 0x56 && (eqb (byte_at s 1) 0x4F && eqb (byte_at s 2) 0x43)

unfoldable pub version_known : List ℕ → Bool
version_known s = (eqb (byte_at s version_place) 1 || eqb (byte_at s version_place) 2) && eqb (byte_at s 4) 0

-- "counts in byte order (c + e is judged at byte 8)"; "a c or e over 32 is 4 at its own byte, before the sum"; "a q over 32 is 4", "judged
-- in byte order"
unfoldable pub read_counts : Bounds → Header → Read Header
read_counts b h =
    refuse_if (ltb b.constants h.c) (OverBound constants_place)
    (refuse_if (ltb b.roles h.r) (OverBound roles_place)
    (refuse_if (ltb b.variables h.v) (OverBound variables_place)
    (refuse_if (ltb b.restrictions h.e) (OverBound restrictions_place)
    (refuse_if (ltb b.atoms (h.c + h.e)) (OverBound restrictions_place)
    (refuse_if (ltb b.lines h.m) (OverBound lines_place)
    (refuse_if (ltb b.role_rows h.q) (OverBound role_rows_place)
    (got h (header_end h))))))))

-- "a missing byte gives 1": where that of q is missing, q is 0 and within its bound
abbrev pub then_there : List ℕ → Header → ℕ → Read Header
then_there s h end = refuse_if (ltb (length s) end) (EndsEarly (length s)) (got h end)

-- "fewer than 10 bytes gives 1 before anything else. Then mark, version, counts"
unfoldable pub read_header : Bounds → List ℕ → Read Header
read_header b s =
    refuse_if (ltb (length s) header_length) (EndsEarly (length s))
    (refuse_if (not (marked s)) WrongMark
    (refuse_if (not (version_known s)) WrongVersion
    (and_then (read_counts b (header_of s)) (then_there s))))

------------------------------------------------------------------ rows and lines

abbrev pub role_row_of : ℕ → ℕ → RoleRow
role_row_of n w = record { narrower = n; wider = w }

abbrev pub row_of : ℕ → Filler → Row
row_of r f = record { role = r; filler = f }

module _ (s : List ℕ) (h : Header) where
  abbrev pub read_role : ℕ → Read ℕ
  read_role = read_code s (role_of h.r)

  abbrev pub read_filler : ℕ → Read Filler
  read_filler = read_code s (filler_of h.c h.v)

  abbrev pub read_entry : ℕ → Read Entry
  read_entry = read_code s (entry_of h.c h.e h.v)

  -- "rows of two roles (narrower, then wider)"
  abbrev pub read_role_row : ℕ → Read RoleRow
  read_role_row = read_pair read_role read_role role_row_of

  abbrev pub read_role_rows : ℕ → ℕ → Read (List RoleRow)
  read_role_rows = read_many read_role_row

  -- "two bytes: a role, less than r, and a filler code"
  abbrev pub read_row : ℕ → Read Row
  read_row = read_pair read_role read_filler row_of

  abbrev pub read_rows : ℕ → ℕ → Read (List Row)
  read_rows = read_many read_row

  abbrev pub read_entries : ℕ → ℕ → Read (List Entry)
  read_entries = read_many read_entry

  abbrev pub then_right : List Entry → ℕ → Read Line
  then_right left next = and_then (read_entry next) (λ right end. got (record { left = left; right = right }) end)

-- the table of a header, with these role rows, rows and lines
abbrev pub table_with : Header → List RoleRow → List Row → List Line → Table
table_with h role_rows rows lines = record { constants = h.c; roles = h.r; variables = h.v; role_rows = role_rows; rows = rows; lines = lines }

module _ (b : Bounds) (s : List ℕ) (h : Header) where
  -- "a left count p, p atom codes, and one right atom code"; "an over-large p gives 4 before its entries are read"
  unfoldable pub read_line : ℕ → Read Line
  read_line at =
      refuse_if (missing s at) (EndsEarly (length s))
      (refuse_if (ltb b.left (byte_at s at)) (OverBound at)
      (and_then (read_entries s h (byte_at s at) (at + 1)) (then_right s h)))

  abbrev pub read_lines : ℕ → ℕ → Read (List Line)
  read_lines = read_many read_line

  module _ (role_rows : List RoleRow) where
    -- "Then 6": "bytes after the last line", place "first of them"
    abbrev pub then_end : List Row → List Line → ℕ → Read Table
    then_end rows lines end = refuse_if (ltb end (length s)) (BytesAfter end) (got (table_with h role_rows rows lines) end)

    abbrev pub then_lines : List Row → ℕ → Read Table
    then_lines rows next = and_then (read_lines h.m next) (then_end rows)

    abbrev pub then_rows : ℕ → Read Table
    then_rows next = and_then (read_rows s h h.e next) then_lines

  -- "rows and lines in byte order", the role rows first
  unfoldable pub read_body : Read Table
  read_body = and_then (read_role_rows s h h.q (header_end h)) then_rows

------------------------------------------------------------------ the whole

pub data Reading : Type 0 where
  refusal : Answer → Reading
  readable : Header → Table → Reading

abbrev pub whole : Header → Read Table → Reading
whole h (refused why) = refusal why
whole h (got t end) = readable h t

abbrev pub from_header : Bounds → List ℕ → Read Header → Reading
from_header b s (refused why) = refusal why
from_header b s (got h at) = whole h (read_body b s h)

abbrev pub reading_within : Bounds → List ℕ → Reading
reading_within b s = from_header b s (read_header b s)

unfoldable pub reading : List ℕ → Reading
reading = reading_within bounds

-- bounds that are nowhere smaller
pub record Wider (b w : Bounds) : Type 0 where
  pub constants : b.constants ≤ w.constants
  pub restrictions : b.restrictions ≤ w.restrictions
  pub atoms : b.atoms ≤ w.atoms
  pub roles : b.roles ≤ w.roles
  pub variables : b.variables ≤ w.variables
  pub lines : b.lines ≤ w.lines
  pub left : b.left ≤ w.left
  pub role_rows : b.role_rows ≤ w.role_rows

-- the table of a readable list of bytes; of an unreadable one an empty table
abbrev pub the_table : Reading → Table
the_table (refusal why) = record { constants = 0; roles = 0; variables = 0; role_rows = []; rows = []; lines = [] }
the_table (readable h t) = t

unfoldable pub table_of : List ℕ → Table
table_of s = the_table (reading s)

abbrev pub is_readable : Reading → Bool
is_readable (refusal why) = false
is_readable (readable h t) = true
