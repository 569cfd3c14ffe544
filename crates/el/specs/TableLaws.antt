-- Laws of a table whose names are declared.
--
--   role_rows_declared, rows_declared, lines_declared, all_declared == a table's names are declared exactly if those of its role rows, rows and lines are
--   row_declared_lem  == the filler of each row is declared
--   line_declared_lem == each line is
use Rattle.std.specs.Prelude.{◌&&◌, List, [], ◌∷◌, ℕ, zero, suc, ◌<◌, T, ltb, length, get_or}
use Rattle.el.specs.Test.{every_of}
use Rattle.el.specs.TestLaws.{and_make, and_left, and_right, every_of_at}
use Rattle.el.specs.Table.{Row, Line, Table, row_at, role_row_declared, filler_declared, row_declared, line_declared, declared}

-- beyond the last row stands the filler top
row_among : (t : Table) (rows : List Row) → T (every_of (row_declared t) rows) → (k : ℕ) → T (filler_declared t (row_at rows k).filler)
unfolding every_of row_at
row_among t [] u k = tt
row_among t (row ∷ rows) u zero = and_right (ltb row.role t.roles) (filler_declared t row.filler) (and_left (row_declared t row) (every_of (row_declared t) rows) u)
row_among t (row ∷ rows) u (suc k) = row_among t rows (and_right (row_declared t row) (every_of (row_declared t) rows) u) k

module _ (t : Table) (known : T (declared t)) where
  pub role_rows_declared : T (every_of (role_row_declared t) t.role_rows)
  unfolding declared
  role_rows_declared = and_left (every_of (role_row_declared t) t.role_rows) (every_of (row_declared t) t.rows && every_of (line_declared t) t.lines) known

  rows_and_lines : T (every_of (row_declared t) t.rows && every_of (line_declared t) t.lines)
  unfolding declared
  rows_and_lines = and_right (every_of (role_row_declared t) t.role_rows) (every_of (row_declared t) t.rows && every_of (line_declared t) t.lines) known

  pub rows_declared : T (every_of (row_declared t) t.rows)
  rows_declared = and_left (every_of (row_declared t) t.rows) (every_of (line_declared t) t.lines) rows_and_lines

  pub lines_declared : T (every_of (line_declared t) t.lines)
  lines_declared = and_right (every_of (row_declared t) t.rows) (every_of (line_declared t) t.lines) rows_and_lines

  pub row_declared_lem : (k : ℕ) → T (filler_declared t (row_at t.rows k).filler)
  row_declared_lem = row_among t t.rows rows_declared

  pub line_declared_lem : (n : ℕ) (d : Line) → n < length t.lines → T (line_declared t (get_or t.lines n d))
  line_declared_lem n d h = every_of_at (line_declared t) t.lines n d lines_declared h

-- each kind by itself
pub all_declared : (t : Table) → T (every_of (role_row_declared t) t.role_rows) → T (every_of (row_declared t) t.rows) → T (every_of (line_declared t) t.lines) → T (declared t)
unfolding declared
all_declared t a b c =
    and_make (every_of (role_row_declared t) t.role_rows) (every_of (row_declared t) t.rows && every_of (line_declared t) t.lines) a
    (and_make (every_of (row_declared t) t.rows) (every_of (line_declared t) t.lines) b c)
