-- Roles with an order.
--
--   RoleRow              == a role row: a narrower role and a wider one
--   ReachesRole rows r s == r reaches s over the role rows in zero or more steps
--   reaches_role rows r s == the same as a test: a way that takes the first row takes it once
use Rattle.std.specs.Prelude.{Bool, ◌&&◌, ◌||◌, List, [], ◌∷◌, ℕ}
use Rattle.el.specs.Description.{same_role}
use Rattle.el.specs.Conjuncts.{Among}

-- "rows of two roles (narrower, then wider)"
pub record RoleRow : Type 0 where
  pub narrower : ℕ
  pub wider : ℕ

-- "its role reaches the other's over these rows in zero or more steps"
pub data ReachesRole (rows : List RoleRow) : ℕ → ℕ → Type 0 where
  no_step : {r : ℕ} → ReachesRole rows r r
  a_step : {r w s : ℕ} → Among (record { narrower = r; wider = w }) rows → ReachesRole rows w s → ReachesRole rows r s

-- the same as a test
unfoldable pub reaches_role : List RoleRow → ℕ → ℕ → Bool
reaches_role [] r s = same_role r s
reaches_role (row ∷ rows) r s = reaches_role rows r s || (reaches_role rows r row.narrower && reaches_role rows row.wider s)
