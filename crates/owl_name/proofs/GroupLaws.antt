-- The declared names of a text, group by group, and whether a name is declared.
--
--   placed_rising       == the bytes of a text's mentions rise
--   inside_rising       == so do those of a group
--   inside_first        == a name's first declaration is the first of its group that has it
--   constants_group, opens_group, roles_group == the names of a text, by groups
--   known_in            == a name of a group is declared exactly if its first declaration lies in the text
--   use_thing, use_class, use_role, use_idle == whether the name of a mention is known
use mathlib.Core.Path.{◌≡◌, refl, sym, ap, ap₂, subst, ◌∙◌}
use mathlib.Core.Bool.{Bool, true, false, ◌&&◌, ◌||◌, not}
use mathlib.Core.List.{List, [], ◌∷◌}
use Prim.Native.Nat.{ℕ, zero, suc, ◌+◌, ◌≤◌, ◌<◌}
use native.Mathlib.Omega.{arith}
use lib.Dec.{T, eqb, eqb→eq, ltb}
use lib.ListN.{length, get_or, drop}
use Rattle.el.specs.Test.{any_of}
use Rattle.owl.specs.Once.{is_among, once}
use Rattle.owl.specs.DistinctLaws.{among_once}
use Rattle.owl.specs.Tree.{Name, class, object_property, Item, declaration, classes_of, properties_of}
use Rattle.owl.specs.Naming.{same_name, is_thing, is_open, keep, Names, names_of, class_known, role_known}
use Rattle.owl.specs.NamingLaws.{same_name_means}
use Rattle.owl.specs.Token.{size_of, place_at, kind_at, end_at}
use Rattle.owl.specs.TokenLaws.{drop_cons, size_pos, place_after, place_le, end_le}
use Rattle.owl.specs.Grammar.{is_name}
use Rattle.owl.specs.Mention.{sort_after, Placed, mentioned, placed_at, placed_from, placed, mentions_of, declarations, names_in, is_known, first_place}
use Rattle.owl.specs.UndeclaredLaws.{place_within}
use Rattle.owl_name.specs.Declarations.{declares, declared_at, group_sort, group_takes, in_group, inside, place_in, name_in}
use Rattle.owl_name.specs.Ordered.{Rising, keys, first_of}
use Rattle.owl_name.proofs.OrderedLaws.{rising_lower, among_first}

----------------------------------------------------------------------------------------------------
-- The bytes of mentions rise

-- a token has a byte
token_long : (s : List ℕ) (at : ℕ) → place_at s at < length s → place_at s at < end_at s at
unfolding end_at
token_long s at h =
    let z : size_of (drop (place_at s at) s) ≡ size_of (get_or s (place_at s at) 0 ∷ drop (place_at s at + 1) s) = ap size_of (drop_cons s (place_at s at) h) in
    let y : 0 < size_of (get_or s (place_at s at) 0 ∷ drop (place_at s at + 1) s) = size_pos (get_or s (place_at s at) 0) (drop (place_at s at + 1) s) in
    omega arith

-- the token after a token begins behind it
pub token_next : (s : List ℕ) (at : ℕ) → eqb (kind_at s at) 0 ≡ false → place_at s at < place_at s (end_at s at)
token_next s at e =
    let m : place_at s at < end_at s at = token_long s at (place_within s at e) in
    let n : end_at s at ≤ place_at s (end_at s at) = place_after s (end_at s at) in
    omega arith

pub placed_rising : (s : List ℕ) (f at q : ℕ) → at ≤ length s → Rising place_in (place_at s at) (length s) (placed_from s f at q)
unfolding placed_from
placed_rising s zero at q h = place_le s at h
placed_rising s (suc f) at q h = go (eqb (kind_at s at) 0) refl (is_name (kind_at s at) && ltb 0 q) (placed_rising s f (end_at s at) (sort_after q (kind_at s at)) (end_le s at h))
  where
    l : List Placed
    l = placed_from s f (end_at s at) (sort_after q (kind_at s at))

    go : (b : Bool) → eqb (kind_at s at) 0 ≡ b → (c : Bool) → Rising place_in (place_at s (end_at s at)) (length s) l →
        Rising place_in (place_at s at) (length s) (elim b [ true ↦ [] | false ↦ elim c [ true ↦ placed_at s at q ∷ l | false ↦ l ] ])
    go true e c r = place_le s at h
    go false e true r = (omega arith, place_within s at e, rising_lower place_in (suc (place_at s at)) (place_at s (end_at s at)) (length s) l (token_next s at e) r)
    go false e false r =
        let m : place_at s at < place_at s (end_at s at) = token_next s at e in
        let n : place_at s at ≤ place_at s (end_at s at) = omega arith in
        rising_lower place_in (place_at s at) (place_at s (end_at s at)) (length s) l n r

pub inside_rising : (g lo end : ℕ) (l : List Placed) → Rising place_in lo end l → Rising place_in lo end (inside g l)
unfolding inside
inside_rising g lo end [] r = r
inside_rising g lo end (x ∷ l) r = go (in_group g x.mention) (inside_rising g (suc x.place) end l r.2)
  where
    go : (b : Bool) → Rising place_in (suc x.place) end (inside g l) → Rising place_in lo end (elim b [ true ↦ x ∷ inside g l | false ↦ inside g l ])
    go true h = (r.0, r.1, h)
    go false h = let z : lo ≤ x.place = r.0 in let y : lo ≤ suc x.place = omega arith in rising_lower place_in lo (suc x.place) end (inside g l) y h

pub all_rising : (s : List ℕ) (g : ℕ) → Rising place_in 0 (length s) (inside g (placed s))
unfolding placed
all_rising s g =
    inside_rising g 0 (length s) (placed s) (rising_lower place_in 0 (place_at s 0) (length s) (placed s) (omega arith) (placed_rising s (suc (length s)) 0 0 (omega arith)))

----------------------------------------------------------------------------------------------------
-- Groups

pub inside_first : (g end : ℕ) (n : Name) (l : List Placed) → group_takes g n ≡ true → first_of place_in name_in same_name n end (inside g l) ≡ first_place (declares (group_sort g) n) end l
unfolding first_of inside in_group declares first_place
inside_first g end n [] e = refl
inside_first g end n (x ∷ l) e =
    go (eqb x.mention.sort (group_sort g)) (group_takes g m) (same_name n m) refl (λ t. ap (group_takes g) (sym (same_name_means n m t)) ∙ e) (inside_first g end n l e)
  where
    m : Name
    m = x.mention.name

    go : (b t c : Bool) → same_name n m ≡ c → (T c → t ≡ true) → first_of place_in name_in same_name n end (inside g l) ≡ first_place (declares (group_sort g) n) end l →
        first_of place_in name_in same_name n end (elim (b && t) [ true ↦ x ∷ inside g l | false ↦ inside g l ]) ≡ elim (b && c) [ true ↦ x.place | false ↦ first_place (declares (group_sort g) n) end l ]
    go true true c d f h = ap₂ (λ (b : Bool) (k : ℕ). elim b [ true ↦ x.place | false ↦ k ]) d h
    go true false true d f h = absurd (subst T (sym (f tt)) tt)
    go true false false d f h = h
    go false t c d f h = h

class_group : (g : ℕ) (l : List Placed) → group_sort g ≡ 1 → keep (group_takes g) (classes_of (declarations (mentions_of l))) ≡ keys place_in name_in (inside g l)
unfolding keep classes_of declarations mentions_of keys inside in_group
class_group g [] e = refl
class_group g (x ∷ l) e =
    go (eqb x.mention.sort 1) (eqb x.mention.sort 2) (class_group g l e)
    ∙ ap (λ (k : ℕ). keys place_in name_in (elim (eqb x.mention.sort k && group_takes g m) [ true ↦ x ∷ inside g l | false ↦ inside g l ])) (sym e)
  where
    m : Name
    m = x.mention.name

    items : List Item
    items = declarations (mentions_of l)

    kept : (b : Bool) → keep (group_takes g) (classes_of items) ≡ keys place_in name_in (inside g l) →
        elim b [ true ↦ m ∷ keep (group_takes g) (classes_of items) | false ↦ keep (group_takes g) (classes_of items) ] ≡ keys place_in name_in (elim b [ true ↦ x ∷ inside g l | false ↦ inside g l ])
    kept true h = ap (λ (k : List Name). m ∷ k) h
    kept false h = h

    go : (a b : Bool) → keep (group_takes g) (classes_of items) ≡ keys place_in name_in (inside g l) →
        keep (group_takes g) (classes_of (elim a [ true ↦ declaration (class m) ∷ items | false ↦ elim b [ true ↦ declaration (object_property m) ∷ items | false ↦ items ] ]))
        ≡ keys place_in name_in (elim (a && group_takes g m) [ true ↦ x ∷ inside g l | false ↦ inside g l ])
    go true b h = kept (group_takes g m) h
    go false true h = h
    go false false h = h

role_group : (l : List Placed) → properties_of (declarations (mentions_of l)) ≡ keys place_in name_in (inside 2 l)
unfolding properties_of declarations mentions_of keys inside in_group group_sort group_takes
role_group [] = refl
role_group (x ∷ l) = go (eqb x.mention.sort 1) (eqb x.mention.sort 2) refl refl (role_group l)
  where
    m : Name
    m = x.mention.name

    items : List Item
    items = declarations (mentions_of l)

    go : (a b : Bool) → eqb x.mention.sort 1 ≡ a → eqb x.mention.sort 2 ≡ b → properties_of items ≡ keys place_in name_in (inside 2 l) →
        properties_of (elim a [ true ↦ declaration (class m) ∷ items | false ↦ elim b [ true ↦ declaration (object_property m) ∷ items | false ↦ items ] ])
        ≡ keys place_in name_in (elim (b && true) [ true ↦ x ∷ inside 2 l | false ↦ inside 2 l ])
    go true true d e h =
        absurd (let y : x.mention.sort ≡ 1 = eqb→eq x.mention.sort 1 (subst T (sym d) tt) in
        let w : x.mention.sort ≡ 2 = eqb→eq x.mention.sort 2 (subst T (sym e) tt) in let z : ⊥ = omega arith in z)
    go true false d e h = h
    go false true d e h = ap (λ (k : List Name). m ∷ k) h
    go false false d e h = h

pub constants_group : (s : List ℕ) → (names_in s).constants ≡ once same_name [] (keys place_in name_in (inside 0 (placed s)))
unfolding names_in names_of group_sort group_takes
constants_group s = ap (once same_name []) (class_group 0 (placed s) refl)

pub opens_group : (s : List ℕ) → (names_in s).opens ≡ once same_name [] (keys place_in name_in (inside 1 (placed s)))
unfolding names_in names_of group_sort group_takes
opens_group s = ap (once same_name []) (class_group 1 (placed s) refl)

pub roles_group : (s : List ℕ) → (names_in s).roles ≡ once same_name [] (keys place_in name_in (inside 2 (placed s)))
unfolding names_in names_of
roles_group s = ap (once same_name []) (role_group (placed s))

----------------------------------------------------------------------------------------------------
-- Known names

known_in : (s : List ℕ) (g : ℕ) (n : Name) → group_takes g n ≡ true →
    is_among same_name n (once same_name [] (keys place_in name_in (inside g (placed s)))) ≡ ltb (declared_at s (group_sort g) n) (length s)
unfolding declared_at is_among any_of
known_in s g n e =
    among_once same_name same_name_means n (keys place_in name_in (inside g (placed s))) []
    ∙ among_first place_in name_in same_name n 0 (length s) (inside g (placed s)) (all_rising s g)
    ∙ ap (λ (k : ℕ). ltb k (length s)) (inside_first g (length s) n (placed s) e)

-- a class by what it is: owl:Thing, an open name or a constant
class_known_lem : (s : List ℕ) (n : Name) → is_thing n ≡ false → class_known (names_in s) n ≡ ltb (declared_at s 1 n) (length s)
unfolding class_known group_sort group_takes
class_known_lem s n e =
    ap (λ (b : Bool). b || elim (is_open n) [ true ↦ is_among same_name n (names_in s).opens | false ↦ is_among same_name n (names_in s).constants ]) e
    ∙ go (is_open n) refl
  where
    go : (b : Bool) → is_open n ≡ b → elim b [ true ↦ is_among same_name n (names_in s).opens | false ↦ is_among same_name n (names_in s).constants ] ≡ ltb (declared_at s 1 n) (length s)
    go true d = ap (is_among same_name n) (opens_group s) ∙ known_in s 1 n d
    go false d = ap (is_among same_name n) (constants_group s) ∙ known_in s 0 n (ap₂ (λ (a b : Bool). not (a || b)) e d)

role_known_lem : (s : List ℕ) (n : Name) → role_known (names_in s) n ≡ ltb (declared_at s 2 n) (length s)
unfolding role_known group_sort group_takes
role_known_lem s n = ap (is_among same_name n) (roles_group s) ∙ known_in s 2 n refl

-- what a use asks for
asks_class : (d : Names) (does : ℕ) (n : Name) → does ≡ 3 → is_known d (mentioned does n) ≡ class_known d n
unfolding is_known
asks_class d does n e = ap (λ (k : ℕ). is_known d (mentioned k n)) e

asks_role : (d : Names) (does : ℕ) (n : Name) → does ≡ 4 → is_known d (mentioned does n) ≡ role_known d n
unfolding is_known
asks_role d does n e = ap (λ (k : ℕ). is_known d (mentioned k n)) e

pub use_thing : (d : Names) (does : ℕ) (n : Name) → does ≡ 3 → is_thing n ≡ true → true ≡ is_known d (mentioned does n)
unfolding class_known
use_thing d does n e t =
    sym (asks_class d does n e ∙ ap (λ (b : Bool). b || elim (is_open n) [ true ↦ is_among same_name n d.opens | false ↦ is_among same_name n d.constants ]) t)

pub use_class : (s : List ℕ) (does at : ℕ) (n : Name) → does ≡ 3 → is_thing n ≡ false → at ≡ declared_at s 1 n → ltb at (length s) ≡ is_known (names_in s) (mentioned does n)
use_class s does at n e t a = ap (λ (k : ℕ). ltb k (length s)) a ∙ sym (asks_class (names_in s) does n e ∙ class_known_lem s n t)

pub use_role : (s : List ℕ) (does at : ℕ) (n : Name) → does ≡ 4 → at ≡ declared_at s 2 n → ltb at (length s) ≡ is_known (names_in s) (mentioned does n)
use_role s does at n e a = ap (λ (k : ℕ). ltb k (length s)) a ∙ sym (asks_role (names_in s) does n e ∙ role_known_lem s n)

-- a name that does nothing uses nothing
pub use_idle : (d : Names) (n : Name) → not (is_known d (mentioned 0 n)) ≡ false
unfolding is_known
use_idle d n = refl
