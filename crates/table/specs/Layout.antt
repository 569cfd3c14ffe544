-- How the bytes of a readable table lie: where each row and each line stands, and what its bytes say.
--
--   role_row_at rows k == role row k
--   line_at lines n == line n
--   line_start s n  == the byte where line n begins
--   IsRowFiller s k b == the code b writes the filler of row k
--   IsEntryCode s x b == the code b writes the entry x
--   LineBegins s at   == a line begins at the byte `at`
--   AtLine s at P     == P is true of the line that begins there
--   Layout s t     == the bytes s lie as the table t says
use Rattle.std.specs.Prelude.{◌≡◌, List, [], ℕ, zero, suc, ◌+◌, ◌≤◌, ◌<◌, T, length, get_or}
use Rattle.std.proofs.Math.Option.{some}
use Rattle.el.specs.Roles.{RoleRow}
use Rattle.el.specs.Table.{Entry, constant, Line, Table, row_at, declared}
use Rattle.table.specs.Code.{filler_of, entry_of}
use Rattle.bounds.specs.Bounds.{max_constants, max_restrictions, max_atoms, max_roles, max_variables, max_lines, max_left, max_role_rows}
use Rattle.table.specs.Bytes.{bytes_with}
use Rattle.table.specs.Reading.{byte_at, header_length, header_of, role_row_start, wider_place, row_start, filler_place, table_of}

unfoldable pub role_row_at : List RoleRow → ℕ → RoleRow
role_row_at rows k = get_or rows k (record { narrower = 0; wider = 0 })

unfoldable pub line_at : List Line → ℕ → Line
line_at lines n = get_or lines n (record { left = []; right = constant 0 })

unfoldable pub line_start : List ℕ → ℕ → ℕ
line_start s zero = row_start s (header_of s).e
line_start s (suc n) = line_start s n + byte_at s (line_start s n) + 2

unfoldable pub IsRowFiller : List ℕ → ℕ → ℕ → Type 0
IsRowFiller s k b = filler_of (header_of s).c (header_of s).v b ≡ some (row_at (table_of s).rows k).filler

unfoldable pub IsEntryCode : List ℕ → Entry → ℕ → Type 0
IsEntryCode s x b = entry_of (header_of s).c (header_of s).e (header_of s).v b ≡ some x

pub record LineBegins (s : List ℕ) (at : ℕ) : Type 0 where
  pub number : ℕ
  pub few : number < (header_of s).m
  pub begins : at ≡ line_start s number

abbrev pub AtLine : List ℕ → ℕ → (Line → Type 0) → Type 0
AtLine s at P = (n : ℕ) → n < (header_of s).m → at ≡ line_start s n → P (line_at (table_of s).lines n)

pub record Layout (s : List ℕ) (t : Table) : Type 0 where
  pub constants : t.constants ≡ (header_of s).c
  pub roles : t.roles ≡ (header_of s).r
  pub variables : t.variables ≡ (header_of s).v
  pub role_rows_are : length t.role_rows ≡ (header_of s).q
  pub rows : length t.rows ≡ (header_of s).e
  pub lines : length t.lines ≡ (header_of s).m
  pub few_constants : (header_of s).c ≤ max_constants
  pub few_roles : (header_of s).r ≤ max_roles
  pub few_variables : (header_of s).v ≤ max_variables
  pub few_restrictions : (header_of s).e ≤ max_restrictions
  pub few_atoms : (header_of s).c + (header_of s).e ≤ max_atoms
  pub few_lines : (header_of s).m ≤ max_lines
  pub few_role_rows : (header_of s).q ≤ max_role_rows
  pub header_in : header_length ≤ length s
  pub role_row_in : (k : ℕ) → k < (header_of s).q → wider_place s k < length s
  pub row_narrower : (k : ℕ) → k < (header_of s).q → (role_row_at t.role_rows k).narrower ≡ byte_at s (role_row_start s k)
  pub row_wider : (k : ℕ) → k < (header_of s).q → (role_row_at t.role_rows k).wider ≡ byte_at s (wider_place s k)
  pub row_in : (k : ℕ) → k < (header_of s).e → filler_place s k < length s
  pub row_role : (k : ℕ) → k < (header_of s).e → (row_at t.rows k).role ≡ byte_at s (row_start s k)
  pub row_filler : (k : ℕ) → k < (header_of s).e → filler_of (header_of s).c (header_of s).v (byte_at s (filler_place s k)) ≡ some (row_at t.rows k).filler
  pub line_in : (n : ℕ) → n < (header_of s).m → line_start s n + byte_at s (line_start s n) + 2 ≤ length s
  pub line_few : (n : ℕ) → n < (header_of s).m → byte_at s (line_start s n) ≤ max_left
  pub line_left : (n : ℕ) → n < (header_of s).m → length (line_at t.lines n).left ≡ byte_at s (line_start s n)
  pub line_entry : (n i : ℕ) → n < (header_of s).m → i < byte_at s (line_start s n)
      → entry_of (header_of s).c (header_of s).e (header_of s).v (byte_at s (line_start s n + 1 + i)) ≡ some (get_or (line_at t.lines n).left i (constant 0))
  pub line_right_is : (n : ℕ) → n < (header_of s).m
      → entry_of (header_of s).c (header_of s).e (header_of s).v (byte_at s (line_start s n + 1 + byte_at s (line_start s n))) ≡ some (line_at t.lines n).right
  pub line_end : line_start s (header_of s).m ≡ length s
  pub all_declared : T (declared t)
  pub whole : s ≡ bytes_with (header_of s) t.role_rows t.rows t.lines
