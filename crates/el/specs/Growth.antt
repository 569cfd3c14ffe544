-- When one table grows from another, on tables.
--
--   Grows t u   == u grows from t
use Rattle.std.specs.Prelude.{◌≡◌, List, ◌++◌, ◌≤◌}
use Rattle.el.specs.Table.{Row, Line, Table}

-- "a grown table keeps its version and role rows"; "each of its counts c, r, v, e, m is at least the other's, and the other's rows and lines stand first among its own, in order"
pub record Grows (t u : Table) : Type 0 where
  pub constants : t.constants ≤ u.constants
  pub roles : t.roles ≤ u.roles
  pub variables : t.variables ≤ u.variables
  pub role_rows : u.role_rows ≡ t.role_rows
  pub rows : (more : List Row) × (u.rows ≡ t.rows ++ more)
  pub lines : (more : List Line) × (u.lines ≡ t.lines ++ more)
