-- What a declaration of a name of a group does.
--
--   own_name                                             == what a mention of the group does
--   idle_out, in_does                                    == a name that does nothing is in no group
use mathlib.Core.Path.{◌≡◌, refl, sym, subst, ◌∙◌}
use mathlib.Core.Bool.{Bool, true, false, ◌&&◌}
use Prim.Native.Nat.{ℕ, zero, suc, ◌<◌}
use native.Mathlib.Omega.{arith}
use lib.Dec.{T, eqb, eqb→eq}
use Rattle.owl.specs.Tree.{Name}
use Rattle.el.specs.TestLaws.{is_true, true_is, and_left, and_right}
use Rattle.owl.specs.Mention.{Mention, mentioned}
use Rattle.owl_name.specs.Declarations.{group_sort, group_takes, in_group}

-- a name that does nothing is in no group
pub idle_out : (g : ℕ) (n : Name) → in_group g (mentioned 0 n) ≡ false
unfolding in_group group_sort
idle_out g n = go (eqb g 2)
  where
    go : (b : Bool) → (eqb 0 (elim b [ true ↦ 2 | false ↦ 1 ]) && group_takes g n) ≡ false
    go true = refl
    go false = refl

pub in_does : (g does : ℕ) (n : Name) → in_group g (mentioned does n) ≡ true → 0 < does
in_does g zero n e = absurd (subst T (sym e ∙ idle_out g n) tt)
in_does g (suc does) n e = omega arith

-- what a mention of the group does
pub own_name : (g : ℕ) (m : Mention) → in_group g m ≡ true → (m.sort ≡ group_sort g) × (group_takes g m.name ≡ true)
unfolding in_group
own_name g m e =
    let t = true_is (eqb m.sort (group_sort g) && group_takes g m.name) e in (
      eqb→eq m.sort (group_sort g) (and_left (eqb m.sort (group_sort g)) (group_takes g m.name) t),
      is_true (group_takes g m.name) (and_right (eqb m.sort (group_sort g)) (group_takes g m.name) t),
    )
