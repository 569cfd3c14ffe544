-- The number of a name is the number of different names that are declared before it.
--
--   number_in                                 == a name's place among those of its group, by its first declaration
--   open_number_lem, constant_number_lem, role_number_lem == the numbers of names
--   group_count                               == how many names of a group there are
use mathlib.Core.Path.{◌≡◌, refl, sym, ap, ap₂, ◌∙◌}
use mathlib.Core.Bool.{Bool, true, false, ◌||◌, not}
use mathlib.Core.List.{List, []}
use Prim.Native.Nat.{ℕ}
use lib.ListN.{length}
use Rattle.owl.specs.Once.{place, once}
use Rattle.owl.specs.Tree.{Name}
use Rattle.owl.specs.Naming.{same_name, is_thing, is_open, constant_number, open_number, role_number}
use Rattle.owl.specs.NamingLaws.{same_name_refl, same_name_means}
use Rattle.owl.specs.Mention.{placed, names_in}
use Rattle.owl_name.specs.declared.Group.{Group}
use Rattle.owl_name.specs.declared.Group.TheVariants.{Constants, Opens, Roles}
use Rattle.owl_name.specs.Declarations.{group_number, group_names, declared_at, group_sort, group_takes, inside, place_in, name_in, different, class_number}
use Rattle.owl_name.proofs.GroupLaws.{all_rising, inside_first, constants_group, opens_group, roles_group}
use Rattle.owl_name.specs.Ordered.{keys, different_before}
use Rattle.owl_name.proofs.OrderedLaws.{place_count, count_all}

number_in : (s : List ℕ) (g : ℕ) (n : Name) → group_takes g n ≡ true →
    place same_name n (once same_name [] (keys place_in name_in (inside g (placed s)))) ≡ different s g (declared_at s (group_sort g) n)
unfolding different declared_at
number_in s g n t =
    place_count place_in name_in same_name same_name_refl same_name_means n (length s) (inside g (placed s)) (all_rising s g)
    ∙ ap (λ (k : ℕ). different_before place_in name_in same_name k (inside g (placed s))) (inside_first g (length s) n (placed s) t)

pub open_number_lem : (s : List ℕ) (n : Name) → is_open n ≡ true → different s 1 (declared_at s 1 n) ≡ class_number (names_in s) n
unfolding class_number open_number group_sort group_takes
open_number_lem s n o =
    sym (ap (λ (b : Bool). elim b [ true ↦ open_number (names_in s) n | false ↦ constant_number (names_in s) n ]) o ∙ ap (place same_name n) (opens_group s) ∙ number_in s 1 n o)

pub constant_number_lem : (s : List ℕ) (n : Name) → is_open n ≡ false → is_thing n ≡ false → different s 0 (declared_at s 1 n) ≡ class_number (names_in s) n
unfolding class_number constant_number group_sort group_takes
constant_number_lem s n o t =
    sym (ap (λ (b : Bool). elim b [ true ↦ open_number (names_in s) n | false ↦ constant_number (names_in s) n ]) o ∙ ap (place same_name n) (constants_group s)
    ∙ number_in s 0 n (ap₂ (λ (a b : Bool). not (a || b)) t o))

pub role_number_lem : (s : List ℕ) (n : Name) → different s 2 (declared_at s 2 n) ≡ role_number (names_in s) n
unfolding role_number group_sort group_takes
role_number_lem s n = sym (ap (place same_name n) (roles_group s) ∙ number_in s 2 n refl)

all_in_lem : (s : List ℕ) (g : ℕ) → different s g (length s) ≡ length (once same_name [] (keys place_in name_in (inside g (placed s))))
unfolding different
all_in_lem s g = count_all place_in name_in same_name same_name_refl same_name_means (length s) (inside g (placed s)) (all_rising s g)

pub group_count : (s : List ℕ) (g : Group) → different s (group_number g) (length s) ≡ length (group_names (names_in s) (group_number g))
unfolding group_names
group_count s Constants = all_in_lem s 0 ∙ ap length (sym (constants_group s))
group_count s Opens = all_in_lem s 1 ∙ ap length (sym (opens_group s))
group_count s Roles = all_in_lem s 2 ∙ ap length (sym (roles_group s))
