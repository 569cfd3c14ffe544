-- A table, as it is read: counts, role rows, restriction rows and lines.
--
--   Filler       == what stands inside a restriction: top, a constant or a variable
--   Entry        == what stands in a line: a constant, a restriction (by its row's number) or a variable
--   Row          == a restriction row: a role and a filler
--   Line         == the left entries and the right one
--   Table        == the counts c, r and v, the role rows (there are q), the rows (there are e) and the lines (there are m)
--   row_at rows k == row k
--   atoms t      == c + e, how many non-variable atoms there are
--   role_order t  == which roles lie under which over the role rows of t
--   declared t   == every constant, restriction, variable and role that the table names is declared
use Rattle.std.specs.Prelude.{Bool, true, ◌&&◌, List, ℕ, ◌+◌, ltb, length, get_or}
use Rattle.el.specs.Test.{every_of}
use Rattle.el.specs.Roles.{RoleRow, reaches_role}

-- "A filler is top, a constant or a variable."
pub data Filler : Type 0 where
  top_f : Filler
  constant_f variable_f : ℕ → Filler

-- "A left or right entry is a constant, a restriction or a variable."
pub data Entry : Type 0 where
  constant restriction variable : ℕ → Entry

-- "restriction rows of two bytes: a role, less than r, and a filler code"
pub record Row : Type 0 where
  pub role : ℕ
  pub filler : Filler

-- "lines, each a left count p, p atom codes, and one right atom code"
pub record Line : Type 0 where
  pub left : List Entry
  pub right : Entry

pub record Table : Type 0 where
  pub constants : ℕ
  pub roles : ℕ
  pub variables : ℕ
  pub role_rows : List RoleRow
  pub rows : List Row
  pub lines : List Line

unfoldable pub row_at : List Row → ℕ → Row
row_at rows k = get_or rows k (record { role = 0; filler = top_f })

-- "The non-variable atoms are all declared constants and restriction rows, used or not."
unfoldable pub atoms : Table → ℕ
atoms t = t.constants + length t.rows

-- "if its role reaches the other's over these rows in zero or more steps"
unfoldable pub role_order : Table → ℕ → ℕ → Bool
role_order t = reaches_role t.role_rows

-- "k < c", "k < e", "k < v", "a role, less than r"; "an undeclared role is 5"
abbrev pub role_row_declared : Table → RoleRow → Bool
role_row_declared t row = ltb row.narrower t.roles && ltb row.wider t.roles

abbrev pub filler_declared : Table → Filler → Bool
filler_declared t top_f = true
filler_declared t (constant_f k) = ltb k t.constants
filler_declared t (variable_f k) = ltb k t.variables

abbrev pub row_declared : Table → Row → Bool
row_declared t row = ltb row.role t.roles && filler_declared t row.filler

abbrev pub entry_declared : Table → Entry → Bool
entry_declared t (constant k) = ltb k t.constants
entry_declared t (restriction k) = ltb k (length t.rows)
entry_declared t (variable k) = ltb k t.variables

abbrev pub line_declared : Table → Line → Bool
line_declared t l = every_of (entry_declared t) l.left && entry_declared t l.right

unfoldable pub declared : Table → Bool
declared t = every_of (role_row_declared t) t.role_rows && (every_of (row_declared t) t.rows && every_of (line_declared t) t.lines)
