-- Numbers that are no kind's, no use's and no group's: of each the definitions say what they say of the number that stands for it in the code,
-- `min k 17` for a kind, `min q 5` for a use, `group_of g` for a group.
--
--   cut, cut_test       == a number below a bound stands for itself; a test for such a number asks the same
--   kind_any, name_any  == whether a token is a name, and which
--   after_any           == what the next name does
--   sort_few            == it is at most 4 where it was before: a walk that begins at most there comes to no use above
--   declared_none       == a use above 4 declares no name
--   declared_any        == where a name is declared first
--   in_group_any, different_any, up_to_any, group_names_any == the names of a group, and how many there are
use Rattle.std.specs.Prelude.{◌≡◌, ◌⊎◌, Bool, true, false, ◌&&◌, ◌||◌, not, List, [], ◌∷◌, ℕ, zero, suc, ◌≤◌, ◌<◌, min, eqb, ltb, leb, length, get_or}
use Rattle.std.proofs.Common.{refl, sym, ap, ap₂, subst, ◌∙◌, inl, inr, arith, ne_eqb, le-ltb, leb→le}
use Rattle.std.proofs.Math.Nat.{min-eq_left, min-eq_right}
use Rattle.std.proofs.lemmas.Bool.{cases_lt}
use Rattle.std.proofs.lemmas.List.{get_or_past}
use Rattle.el.specs.Test.{every_of}
use Rattle.el.specs.TestLaws.{every_of_at}
use Rattle.owl.specs.Tree.{Name, short, full}
use Rattle.owl.specs.Naming.{same_name, is_thing, is_open, Names}
use Rattle.owl.specs.Token.{place_at, kind_at, end_at}
use Rattle.owl.specs.Grammar.{is_name}
use Rattle.owl.specs.Mention.{word_sorts, sort_after, name_by, name_at, Mention, Placed, placed_at, placed_from, placed, first_place}
use Rattle.owl_name.specs.Ordered.{different_before}
use Rattle.owl_name.specs.Declarations.{group_of, declares, declared_at, group_sort, group_takes, in_group, inside, place_in, name_in, different, UpTo, group_names}

----------------------------------------------------------------------------------------------------
-- Numbers that are cut

pub cut : (n c : ℕ) → (min n c ≡ n) ⊎ ((c ≤ n) × (min n c ≡ c))
cut n c = elim (cases_lt n c) [ inl h ↦ inl (min-eq_left (omega arith)) | inr h ↦ inr (h, min-eq_right h) ]

pub cut_test : (n c j : ℕ) → j < c → eqb (min n c) j ≡ eqb n j
cut_test n c j h =
    elim (cut n c) [
      | inl e ↦ ap (λ (m : ℕ). eqb m j) e
      | inr d ↦ ap (λ (m : ℕ). eqb m j) d.1 ∙ ne_eqb c j (λ z. omega arith) ∙ sym (let far : c ≤ n = d.0 in ne_eqb n j (λ z. omega arith))
    ]

----------------------------------------------------------------------------------------------------
-- Kinds and uses

pub kind_any : (k : ℕ) → is_name (min k 17) ≡ is_name k
unfolding is_name
kind_any k = ap₂ ◌||◌ (cut_test k 17 13 (omega arith)) (cut_test k 17 14 (omega arith))

pub name_any : (k : ℕ) (w : List ℕ) → name_by (min k 17) w ≡ name_by k w
unfolding name_by
name_any k w = ap (λ (b : Bool). elim b [ true ↦ short w | false ↦ full w ]) (cut_test k 17 13 (omega arith))

-- a number that is no kind's changes nothing
kind_idle : (q k : ℕ) → 17 ≤ k → sort_after q k ≡ q
unfolding sort_after is_name
kind_idle q k h =
    ap (λ (b : Bool). elim (ltb 3 k && b) [ true ↦ get_or word_sorts k 0 | false ↦ elim ((eqb k 13 || eqb k 14) && eqb q 4) [ true ↦ 3 | false ↦ q ] ]) (le-ltb k 13 (omega arith))
    ∙ go (ltb 3 k)
    ∙ ap₂ (λ (a b : Bool). elim ((a || b) && eqb q 4) [ true ↦ 3 | false ↦ q ]) (ne_eqb k 13 (λ z. omega arith)) (ne_eqb k 14 (λ z. omega arith))
  where
    go : (a : Bool) →
        ◌≡◌ {A = ℕ} (elim (a && false) [ true ↦ get_or word_sorts k 0 | false ↦ elim ((eqb k 13 || eqb k 14) && eqb q 4) [ true ↦ 3 | false ↦ q ] ])
        (elim ((eqb k 13 || eqb k 14) && eqb q 4) [ true ↦ 3 | false ↦ q ])
    go true = refl
    go false = refl

word_few : (k : ℕ) → get_or word_sorts k 0 ≤ 4
unfolding word_sorts every_of
word_few k =
    elim (cases_lt k 13) [
      | inl h ↦ leb→le (get_or word_sorts k 0) 4 (every_of_at (λ x. leb x 4) word_sorts k 0 tt h)
      | inr h ↦ let none : get_or word_sorts k 0 ≡ 0 = get_or_past word_sorts k 0 h in omega arith
    ]

-- what a name of a text does is at most 4
pub sort_few : (q k : ℕ) → q ≤ 4 → sort_after q k ≤ 4
unfolding sort_after
sort_few q k h = go (ltb 3 k && ltb k 13) (is_name k && eqb q 4)
  where
    go : (a b : Bool) → elim a [ true ↦ get_or word_sorts k 0 | false ↦ elim b [ true ↦ 3 | false ↦ q ] ] ≤ 4
    go true b = word_few k
    go false true = omega arith
    go false false = h

pub after_use : (q k : ℕ) → sort_after (min q 5) k ≡ min (sort_after q k) 5
unfolding sort_after
after_use q k =
    ap (λ (c : Bool). elim (ltb 3 k && ltb k 13) [ true ↦ get_or word_sorts k 0 | false ↦ elim (is_name k && c) [ true ↦ 3 | false ↦ min q 5 ] ]) (cut_test q 5 4 (omega arith))
    ∙ go (ltb 3 k && ltb k 13) (is_name k && eqb q 4)
  where
    go : (a b : Bool) → ◌≡◌ {A = ℕ} (elim a [ true ↦ get_or word_sorts k 0 | false ↦ elim b [ true ↦ 3 | false ↦ min q 5 ] ]) (min (elim a [ true ↦ get_or word_sorts k 0 | false ↦ elim b [ true ↦ 3 | false ↦ q ] ]) 5)
    go true b = sym (min-eq_left (let few : get_or word_sorts k 0 ≤ 4 = word_few k in omega arith))
    go false true = refl
    go false false = refl

pub after_any : (q k : ℕ) → sort_after (min q 5) (min k 17) ≡ min (sort_after q k) 5
after_any q k =
    elim (cut k 17) [
      | inl e ↦ ap (sort_after (min q 5)) e ∙ after_use q k
      | inr d ↦ ap (sort_after (min q 5)) d.1 ∙ kind_idle (min q 5) 17 (omega arith) ∙ ap (λ (r : ℕ). min r 5) (sym (kind_idle q k d.0))
    ]

----------------------------------------------------------------------------------------------------
-- Declarations

none_from : (n : ℕ) (m : Name) (end : ℕ) (s : List ℕ) (f at q : ℕ) → 4 < n → q ≤ 4 → first_place (declares n m) end (placed_from s f at q) ≡ end
unfolding first_place placed_from declares
none_from n m end s zero at q h w = refl
none_from n m end s (suc f) at q h w = go (eqb (kind_at s at) 0) (is_name (kind_at s at) && ltb 0 q) (none_from n m end s f (end_at s at) (sort_after q (kind_at s at)) h (sort_few q (kind_at s at) w))
  where
    l : List Placed
    l = placed_from s f (end_at s at) (sort_after q (kind_at s at))

    go : (b c : Bool) → first_place (declares n m) end l ≡ end → first_place (declares n m) end (elim b [ true ↦ [] | false ↦ elim c [ true ↦ placed_at s at q ∷ l | false ↦ l ] ]) ≡ end
    go true c ih = refl
    go false true ih = ap (λ (b : Bool). elim (b && same_name m (name_at s at)) [ true ↦ place_at s at | false ↦ first_place (declares n m) end l ]) (ne_eqb q n (λ z. omega arith)) ∙ ih
    go false false ih = ih

pub declared_none : (s : List ℕ) (n : ℕ) (m : Name) → 4 < n → declared_at s n m ≡ length s
unfolding declared_at placed
declared_none s n m h = none_from n m (length s) s (suc (length s)) 0 0 h (omega arith)

pub declared_any : (s : List ℕ) (n : ℕ) (m : Name) → declared_at s (min n 5) m ≡ declared_at s n m
declared_any s n m =
    elim (cut n 5) [
      | inl e ↦ ap (λ (k : ℕ). declared_at s k m) e
      | inr d ↦ ap (λ (k : ℕ). declared_at s k m) d.1 ∙ declared_none s 5 m (omega arith) ∙ sym (let far : 5 ≤ n = d.0 in declared_none s n m (omega arith))
    ]

----------------------------------------------------------------------------------------------------
-- Groups

-- a choice by the tests for the groups
chosen {ℓ} : {X : Type ℓ} (g : ℕ) (a b c : X) →
    ◌≡◌ {A = X} (elim (eqb (group_of g) 2) [ true ↦ a | false ↦ elim (eqb (group_of g) 1) [ true ↦ b | false ↦ c ] ]) (elim (eqb g 2) [ true ↦ a | false ↦ elim (eqb g 1) [ true ↦ b | false ↦ c ] ])
unfolding group_of
chosen {X = X} g a b c = go (eqb g 2) (eqb g 1)
  where
    number : Bool → Bool → ℕ
    number p q = elim p [ true ↦ 2 | false ↦ elim q [ true ↦ 1 | false ↦ 0 ] ]

    go : (p q : Bool) →
        ◌≡◌ {A = X} (elim (eqb (number p q) 2) [ true ↦ a | false ↦ elim (eqb (number p q) 1) [ true ↦ b | false ↦ c ] ]) (elim p [ true ↦ a | false ↦ elim q [ true ↦ b | false ↦ c ] ])
    go true q = refl
    go false true = refl
    go false false = refl

roles_any : (g : ℕ) → eqb (group_of g) 2 ≡ eqb g 2
unfolding group_of
roles_any g = go (eqb g 2) (eqb g 1)
  where
    go : (p q : Bool) → eqb (elim p [ true ↦ 2 | false ↦ elim q [ true ↦ 1 | false ↦ 0 ] ]) 2 ≡ p
    go true q = refl
    go false true = refl
    go false false = refl

pub in_group_any : (g : ℕ) (m : Mention) → in_group (group_of g) m ≡ in_group g m
unfolding in_group group_sort group_takes
in_group_any g m =
    ap₂ (λ (b c : Bool). eqb m.sort (elim b [ true ↦ 2 | false ↦ 1 ]) && c) (roles_any g) (chosen g true (is_open m.name) (not (is_thing m.name || is_open m.name)))

inside_any : (g : ℕ) (l : List Placed) → inside (group_of g) l ≡ inside g l
unfolding inside
inside_any g [] = refl
inside_any g (x ∷ l) = ap₂ (λ (b : Bool) (k : List Placed). elim b [ true ↦ x ∷ k | false ↦ k ]) (in_group_any g x.mention) (inside_any g l)

pub different_any : (s : List ℕ) (g limit : ℕ) → different s (group_of g) limit ≡ different s g limit
unfolding different
different_any s g limit = ap (different_before place_in name_in same_name limit) (inside_any g (placed s))

pub up_to_any : (s : List ℕ) (g most r : ℕ) → UpTo s (group_of g) most r → UpTo s g most r
unfolding UpTo
up_to_any s g most r u = subst (λ (n : ℕ). (r ≤ most → r ≡ n) × (most < r → most < n)) (different_any s g (length s)) u

pub group_names_any : (d : Names) (g : ℕ) → group_names d (group_of g) ≡ group_names d g
unfolding group_names
group_names_any d g = chosen g d.roles d.opens d.constants
