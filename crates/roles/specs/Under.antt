-- The order of a table's roles as masks: bit r of the mask of role s says that r lies under s.
--
--   Says p masks       == the masks say p of the roles that a table may have
--   Alone masks        == each role lies under itself alone
--   more u n w r s     == r lies under s by the masks u, or over one role row more, narrower n and wider w
--   Widened u n w m    == m is u with that row more
--   RolesUnder t masks == the masks say the order of t's roles
--   SaysTo p n masks   == the masks say p of the first n roles
--   WidenedTo u n w i m == m is u with that row more for the first i roles, and u for the others
--   UnderFrom t k masks == the masks say the order over t's role rows from row k on
use Rattle.std.specs.Prelude.{◌≡◌, Bool, ◌&&◌, ◌||◌, List, ℕ, ◌≤◌, ◌<◌, length, get_or, drop}
use Rattle.bounds.specs.Bounds.{max_roles}
use Rattle.el.specs.Test.{bit}
use Rattle.el.specs.Description.{same_role}
use Rattle.el.specs.Roles.{reaches_role}
use Rattle.el.specs.Table.{Table, role_order}

pub record Says (p : ℕ → ℕ → Bool) (masks : List ℕ) : Type 0 where
  pub many : length masks ≡ max_roles
  pub bits : (r s : ℕ) → r < max_roles → s < max_roles → bit r (get_or masks s 0) ≡ p r s

unfoldable pub Alone : List ℕ → Type 0
Alone = Says same_role

abbrev pub more : List ℕ → ℕ → ℕ → ℕ → ℕ → Bool
more under n w r s = bit r (get_or under s 0) || (bit r (get_or under n 0) && bit w (get_or under s 0))

unfoldable pub Widened : List ℕ → ℕ → ℕ → List ℕ → Type 0
Widened under n w = Says (more under n w)

unfoldable pub RolesUnder : Table → List ℕ → Type 0
RolesUnder t = Says (role_order t)

------------------------------------------------------------------ under way

pub record SaysTo (p : ℕ → ℕ → Bool) (n : ℕ) (masks : List ℕ) : Type 0 where
  pub many : length masks ≡ max_roles
  pub bits : (r s : ℕ) → r < max_roles → s < n → bit r (get_or masks s 0) ≡ p r s

pub record WidenedTo (under : List ℕ) (n w i : ℕ) (masks : List ℕ) : Type 0 where
  pub says : SaysTo (more under n w) i masks
  pub rest : (s : ℕ) → i ≤ s → get_or masks s 0 ≡ get_or under s 0

unfoldable pub UnderFrom : Table → ℕ → List ℕ → Type 0
UnderFrom t k = Says (reaches_role (drop k t.role_rows))
