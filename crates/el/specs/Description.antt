-- Descriptions without variables, and the order between them.
--
--   Description   == top, a name, a conjunction of two, or a restriction; names and roles are any natural numbers
--   has_name a C   == the name a is among C's conjuncts
--   has_some s p C == C has a restriction whose role lies under s and whose filler passes p
--   below C D     == C is below D
--
-- The role relation `under` is open: `under r s` says that a restriction with role r can lie below one with role s.
-- A table puts the order of its roles there; without role rows that is equality of numbers, `same_role`.
use Rattle.std.specs.Prelude.{Bool, true, false, ◌&&◌, ◌||◌, ℕ, eqb}

-- "A description is a conjunction of atoms; the empty one is top."
-- "The order is between descriptions without variables, over any constants and roles, declared or not".
pub data Description : Type 0 where
  top : Description
  name : ℕ → Description
  meet : Description → Description → Description
  some : ℕ → Description → Description

-- "C has a restriction with the same role s"
unfoldable pub same_role : ℕ → ℕ → Bool
same_role r s = eqb r s

abbrev pub has_name : ℕ → Description → Bool
has_name a top = false
has_name a (name b) = eqb b a
has_name a (meet C D) = has_name a C || has_name a D
has_name a (some r C) = false

module _ (under : ℕ → ℕ → Bool) where
  abbrev pub has_some : ℕ → (Description → Bool) → Description → Bool
  has_some s p top = false
  has_some s p (name b) = false
  has_some s p (meet C D) = has_some s p C || has_some s p D
  has_some s p (some r C) = under r s && p C

  -- "C is below D when every constant among D's conjuncts is among C's, and for each restriction of D, role s and
  -- filler D', C has a restriction with the same role s whose filler is below D' (004, Corollary 1)."
  abbrev pub below : Description → Description → Bool
  below C top = true
  below C (name a) = has_name a C
  below C (meet D E) = below C D && below C E
  below C (some s D) = has_some s (λ E. below E D) C
