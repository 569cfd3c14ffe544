-- Small definitions that the code's promises name.
--
--   rest_of s at q          == the mentions of the text s from byte `at` on, where q is what the next name does
--   declares k n m         == the mention m declares the name n, as a class where k is 1, as an object property where it is 2
--   declared_at s k n       == the byte of the first mention of the text s that does; the length of s if there is none
--   Groups: 0 constants, 1 open names, 2 roles
--   group_number g          == the number of a group of the code
--   group_of n              == the number of the group that n stands for: what is no group's number stands for 0
--   group_sort g            == what a declaration of a name of the group does
--   group_takes g n         == such a name is one of the group; owl:Thing is in none
--   in_group g m            == the mention m declares a name of the group
--   inside g l             == the mentions of l that do
--   place_in x, name_in x    == a mention's byte and name
--   different s g limit    == how many different names of the group are declared before byte `limit`
--   first_in s g p m       == the mention m at byte p is the first declaration of a name of the group
--   Reaches s g limit most r == r is how many are declared before byte `limit`; or there are more than `most`, and r is more than `most`
--   UpTo s g most r        == r is how many different names of the group the text s declares; or there are more than `most`, and r is more than `most`
--   one_if b                == 1 if b holds, else 0
--   group_names d g         == the names of a group, in order of first declaration
--   class_number d n        == the number of n, among the open names or among the constants
use Rattle.std.specs.Prelude.{◌≡◌, Bool, true, false, ◌&&◌, ◌||◌, not, List, [], ◌∷◌, ℕ, suc, ◌-◌, ◌≤◌, ◌<◌, eqb, length}
use Rattle.owl.specs.Tree.{Name}
use Rattle.owl.specs.Naming.{same_name, is_thing, is_open, Names, constant_number, open_number}
use Rattle.owl_name.specs.declared.Group.{Group}
use Rattle.owl_name.specs.declared.Group.TheVariants.{Constants, Opens, Roles}
use Rattle.owl_name.specs.Ordered.{different_before}
use Rattle.owl.specs.Mention.{Mention, Placed, placed_from, placed, first_place}

abbrev pub group_number : Group → ℕ
group_number Constants = 0
group_number Opens = 1
group_number Roles = 2

unfoldable pub group_of : ℕ → ℕ
group_of n = elim (eqb n 2) [ true ↦ 2 | false ↦ elim (eqb n 1) [ true ↦ 1 | false ↦ 0 ] ]

-- each token has a byte, so there are no more tokens than bytes
unfoldable pub rest_of : List ℕ → ℕ → ℕ → List Placed
rest_of s at q = placed_from s (suc (length s - at)) at q

unfoldable pub declares : ℕ → Name → Mention → Bool
declares k n m = eqb m.sort k && same_name n m.name

unfoldable pub declared_at : List ℕ → ℕ → Name → ℕ
declared_at s k n = first_place (declares k n) (length s) (placed s)

unfoldable pub group_sort : ℕ → ℕ
group_sort g = elim (eqb g 2) [ true ↦ 2 | false ↦ 1 ]

unfoldable pub group_takes : ℕ → Name → Bool
group_takes g n = elim (eqb g 2) [ true ↦ true | false ↦ elim (eqb g 1) [ true ↦ is_open n | false ↦ not (is_thing n || is_open n) ] ]

unfoldable pub in_group : ℕ → Mention → Bool
in_group g m = eqb m.sort (group_sort g) && group_takes g m.name

unfoldable pub inside : ℕ → List Placed → List Placed
inside g [] = []
inside g (x ∷ l) = elim (in_group g x.mention) [ true ↦ x ∷ inside g l | false ↦ inside g l ]

abbrev pub place_in : Placed → ℕ
place_in x = x.place

abbrev pub name_in : Placed → Name
name_in x = x.mention.name

unfoldable pub different : List ℕ → ℕ → ℕ → ℕ
different s g limit = different_before place_in name_in same_name limit (inside g (placed s))

unfoldable pub Reaches : List ℕ → ℕ → ℕ → ℕ → ℕ → Type 0
Reaches s g limit most r = (r ≤ most → r ≡ different s g limit) × (most < r → most < different s g limit)

unfoldable pub UpTo : List ℕ → ℕ → ℕ → ℕ → Type 0
UpTo s g most r = (r ≤ most → r ≡ different s g (length s)) × (most < r → most < different s g (length s))

-- a name of the group, at its first declaration
abbrev pub first_in : List ℕ → ℕ → ℕ → Mention → Bool
first_in s g p m = in_group g m && eqb (declared_at s m.sort m.name) p

unfoldable pub group_names : Names → ℕ → List Name
group_names d g = elim (eqb g 2) [ true ↦ d.roles | false ↦ elim (eqb g 1) [ true ↦ d.opens | false ↦ d.constants ] ]

unfoldable pub class_number : Names → Name → ℕ
class_number d n = elim (is_open n) [ true ↦ open_number d n | false ↦ constant_number d n ]

unfoldable pub one_if : Bool → ℕ
one_if b = elim b [ true ↦ 1 | false ↦ 0 ]
