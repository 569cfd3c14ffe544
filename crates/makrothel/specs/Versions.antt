-- What the version of a table says of its roles.
--
--   version_one_order == IN VERSION 1 A ROLE LIES UNDER ITSELF ALONE: there are no role rows
use Rattle.std.specs.Prelude.{◌≡◌, refl, List, [], ◌∷◌, ℕ, T, length}
use Rattle.std.proofs.Math.Path.{ap}
use Rattle.std.proofs.Common.{◌∙◌, arith}
use Rattle.std.proofs.Math.Bool.{cond}
use Rattle.el.specs.Description.{same_role}
use Rattle.el.specs.Roles.{RoleRow}
use Rattle.el.specs.Table.{role_order}
use Rattle.el.proofs.RoleLaws.{no_role_rows}
use Rattle.table.specs.Reading.{byte_at, role_rows_place, has_role_rows, role_count, header_of, reading, is_readable, table_of}
use Rattle.table.specs.LayoutLaws.{layout}

none_left : (rows : List RoleRow) → length rows ≡ 0 → rows ≡ []
none_left [] e = refl
none_left (row ∷ rows) e = absurd (let z : ⊥ = omega arith in z)

module _ (s : List ℕ) (ok : T (is_readable (reading s))) where
  pub version_one_order : (header_of s).version ≡ 1 → role_order (table_of s) ≡ same_role
  unfolding role_count has_role_rows
  version_one_order e =
      no_role_rows (table_of s) (none_left (table_of s).role_rows ((layout s ok).role_rows_are ∙ ap (λ (n : ℕ). cond (has_role_rows n) (byte_at s role_rows_place) 0) e))
