-- The restrictions of a text, token by token.
--
--   standing_fuel   == any number of tokens that is enough gives the same restrictions
--   rest_start, rest_end, rest_turn == from byte 0 on they are all; at the end there are none; at a token, its own and those behind it
--   standing_rising == their bytes rise
--   Numbered n l    == the fillers of l that are no names have the numbers from n on
--   fresh_own       == a restriction whose filler is no name stands nowhere before
--   fresh_number    == the number of a filler that is no name is how many of these came before it
--   standing_named  == the role of a restriction is a name
--   same_restriction_refl, same_restriction_means == the test says that they are equal
use mathlib.Core.Path.{◌≡◌, refl, sym, ap, ap₂, subst, ◌∙◌}
use mathlib.Core.Bool.{Bool, true, false, ◌&&◌, ◌||◌}
use mathlib.Core.List.{List, [], ◌∷◌, ◌++◌}
use Prim.Native.Nat.{ℕ, zero, suc, ◌+◌, ◌-◌, ◌≤◌, ◌<◌}
use native.Mathlib.Omega.{arith}
use lib.Dec.{T, eqb, eqb→eq, eqb_refl}
use lib.ListN.{length, drop}
use borrow.Author.Tests.{eq-eqb, ne_eqb}
use Rattle.el.specs.Test.{any_of}
use Rattle.el.specs.TestLaws.{and_make, and_left, and_right}
use Rattle.owl.specs.Once.{is_among}
use Rattle.owl.specs.Naming.{same_name}
use Rattle.owl.specs.NamingLaws.{same_name_refl, same_name_means}
use Rattle.owl.specs.Token.{kind_of, place_at, kind_at, end_at}
use Rattle.owl.specs.TokenLaws.{place_le, end_le}
use Rattle.owl.specs.Grammar.{is_name}
use Rattle.owl.specs.Mention.{sort_after, name_at}
use Rattle.owl.specs.UndeclaredLaws.{place_within}
use Rattle.owl.specs.Restriction.{Part, by_name, by_number, Restriction, restricted, part_at, own_at, Standing, standing_at, standing_from, standing, restrictions_of, own_one, owns_of, same_part, same_restriction}
use Rattle.owl_name.specs.Ordered.{Rising}
use Rattle.owl_name.proofs.RestLaws.{goes}
use Rattle.owl_name.proofs.GroupLaws.{token_next}
use Rattle.owl_name.proofs.OrderedLaws.{rising_lower}
use Rattle.owl_row.specs.Rows.{place_in, rest_of}

----------------------------------------------------------------------------------------------------
-- The same

part_refl : (p : Part) → T (same_part p p)
part_refl (by_name n) = same_name_refl n
part_refl (by_number k) = eqb_refl k

part_means : (p q : Part) → T (same_part p q) → p ≡ q
part_means (by_name n) (by_name m) t = ap by_name (same_name_means n m t)
part_means (by_name n) (by_number j) t = absurd t
part_means (by_number k) (by_name m) t = absurd t
part_means (by_number k) (by_number j) t = ap by_number (eqb→eq k j t)

pub same_restriction_refl : (r : Restriction) → T (same_restriction r r)
unfolding same_restriction
same_restriction_refl r = and_make (same_name r.role r.role) (same_part r.part r.part) (same_name_refl r.role) (part_refl r.part)

pub same_restriction_means : (a b : Restriction) → T (same_restriction a b) → a ≡ b
unfolding same_restriction
same_restriction_means a b t =
    ap₂ restricted (same_name_means a.role b.role (and_left (same_name a.role b.role) (same_part a.part b.part) t))
    (part_means a.part b.part (and_right (same_name a.role b.role) (same_part a.part b.part) t))

----------------------------------------------------------------------------------------------------
-- From a byte on

-- the restriction of a token, if it is a role, before those behind it
abbrev pub turned : List ℕ → ℕ → ℕ → ℕ → (ℕ → List Standing) → List Standing
turned s at q n rest = elim (is_name (kind_at s at) && eqb q 4) [ true ↦ standing_at s at n ∷ rest (n + own_at s (end_at s at)) | false ↦ rest n ]

turned_same : (s : List ℕ) (at q n : ℕ) (a b : ℕ → List Standing) → ((m : ℕ) → a m ≡ b m) → turned s at q n a ≡ turned s at q n b
turned_same s at q n a b e = go (is_name (kind_at s at) && eqb q 4)
  where
    go : (c : Bool) →
        ◌≡◌ {A = List Standing} (elim c [ true ↦ standing_at s at n ∷ a (n + own_at s (end_at s at)) | false ↦ a n ]) (elim c [ true ↦ standing_at s at n ∷ b (n + own_at s (end_at s at)) | false ↦ b n ])
    go true = ap (λ (l : List Standing). standing_at s at n ∷ l) (e (n + own_at s (end_at s at)))
    go false = e n

standing_turn : (s : List ℕ) (f at q n : ℕ) → eqb (kind_at s at) 0 ≡ false → standing_from s (suc f) at q n ≡ turned s at q n (standing_from s f (end_at s at) (sort_after q (kind_at s at)))
unfolding standing_from
standing_turn s f at q n e = ap (λ (b : Bool). elim b [ true ↦ [] | false ↦ turned s at q n (standing_from s f (end_at s at) (sort_after q (kind_at s at))) ]) e

standing_end : (s : List ℕ) (f at q n : ℕ) → eqb (kind_at s at) 0 ≡ true → standing_from s (suc f) at q n ≡ []
unfolding standing_from
standing_end s f at q n e = ap (λ (b : Bool). elim b [ true ↦ [] | false ↦ turned s at q n (standing_from s f (end_at s at) (sort_after q (kind_at s at))) ]) e

standing_fuel : (s : List ℕ) (f g at q n : ℕ) → at ≤ length s → length s < at + f → length s < at + g → standing_from s f at q n ≡ standing_from s g at q n
standing_fuel s zero g at q n h l m = absurd (let z : ⊥ = omega arith in z)
standing_fuel s (suc f) zero at q n h l m = absurd (let z : ⊥ = omega arith in z)
standing_fuel s (suc f) (suc g) at q n h l m = go (eqb (kind_at s at) 0) refl (λ k. standing_fuel s f g (end_at s at) (sort_after q (kind_at s at)) k)
  where
    go : (b : Bool) → eqb (kind_at s at) 0 ≡ b →
        ((k : ℕ) → end_at s at ≤ length s → length s < end_at s at + f → length s < end_at s at + g → standing_from s f (end_at s at) (sort_after q (kind_at s at)) k ≡ standing_from s g (end_at s at) (sort_after q (kind_at s at)) k) →
        standing_from s (suc f) at q n ≡ standing_from s (suc g) at q n
    go true e ih = standing_end s f at q n e ∙ sym (standing_end s g at q n e)
    go false e ih =
        let d = goes s at h e in
        let on : at < end_at s at = d.0 in
        let u : length s < end_at s at + f = omega arith in
        let v : length s < end_at s at + g = omega arith in
        standing_turn s f at q n e
        ∙ turned_same s at q n (standing_from s f (end_at s at) (sort_after q (kind_at s at))) (standing_from s g (end_at s at) (sort_after q (kind_at s at))) (λ k. ih k d.1 u v)
        ∙ sym (standing_turn s g at q n e)

pub rest_start : (s : List ℕ) → standing s ≡ rest_of s 0 0 0
unfolding standing rest_of
rest_start s = ap (λ (n : ℕ). standing_from s (suc n) 0 0 0) (let z : length s ≡ length s - 0 = omega arith in z)

pub rest_end : (s : List ℕ) (at q n : ℕ) → kind_at s at ≡ 0 → rest_of s at q n ≡ []
unfolding rest_of
rest_end s at q n e = standing_end s (length s - at) at q n (eq-eqb (kind_at s at) 0 e)

pub rest_turn : (s : List ℕ) (at q n : ℕ) → at ≤ length s → (kind_at s at ≡ 0 → ⊥) → rest_of s at q n ≡ turned s at q n (rest_of s (end_at s at) (sort_after q (kind_at s at)))
unfolding rest_of
rest_turn s at q n h k =
    let e : eqb (kind_at s at) 0 ≡ false = ne_eqb (kind_at s at) 0 k in
    let d = goes s at h e in
    let on : at < end_at s at = d.0 in
    let far : end_at s at ≤ length s = d.1 in
    let u : length s < end_at s at + (length s - at) = omega arith in
    let v : length s < end_at s at + suc (length s - end_at s at) = omega arith in
    standing_turn s (length s - at) at q n e
    ∙ turned_same s at q n (standing_from s (length s - at) (end_at s at) (sort_after q (kind_at s at))) (standing_from s (suc (length s - end_at s at)) (end_at s at) (sort_after q (kind_at s at)))
    (λ m. standing_fuel s (length s - at) (suc (length s - end_at s at)) (end_at s at) (sort_after q (kind_at s at)) m far u v)

----------------------------------------------------------------------------------------------------
-- Bytes and numbers rise

pub standing_rising : (s : List ℕ) (f at q n : ℕ) → at ≤ length s → Rising place_in (place_at s at) (length s) (standing_from s f at q n)
unfolding standing_from
standing_rising s zero at q n h = place_le s at h
standing_rising s (suc f) at q n h = go (eqb (kind_at s at) 0) refl (is_name (kind_at s at) && eqb q 4) (λ m. standing_rising s f (end_at s at) (sort_after q (kind_at s at)) m (end_le s at h))
  where
    rest : ℕ → List Standing
    rest m = standing_from s f (end_at s at) (sort_after q (kind_at s at)) m

    go : (b : Bool) → eqb (kind_at s at) 0 ≡ b → (c : Bool) → ((m : ℕ) → Rising place_in (place_at s (end_at s at)) (length s) (rest m)) →
        Rising place_in (place_at s at) (length s) (elim b [ true ↦ [] | false ↦ elim c [ true ↦ standing_at s at n ∷ rest (n + own_at s (end_at s at)) | false ↦ rest n ] ])
    go true e c r = place_le s at h
    go false e true r =
        (omega arith, place_within s at e, rising_lower place_in (suc (place_at s at)) (place_at s (end_at s at)) (length s) (rest (n + own_at s (end_at s at))) (token_next s at e) (r (n + own_at s (end_at s at))))
    go false e false r =
        let m : place_at s at < place_at s (end_at s at) = token_next s at e in
        let k : place_at s at ≤ place_at s (end_at s at) = omega arith in
        rising_lower place_in (place_at s at) (place_at s (end_at s at)) (length s) (rest n) k (r n)

pub all_rising : (s : List ℕ) → Rising place_in 0 (length s) (standing s)
unfolding standing
all_rising s = rising_lower place_in 0 (place_at s 0) (length s) (standing s) (omega arith) (standing_rising s (suc (length s)) 0 0 0 (omega arith))

-- the number of the next filler that is no name, behind this one
abbrev after : ℕ → Part → ℕ
after n (by_name m) = n
after n (by_number k) = suc n

abbrev NumberedPart : ℕ → Part → Type 0
NumberedPart n (by_name m) = Unit {0}
NumberedPart n (by_number k) = k ≡ n

abbrev Numbered : ℕ → List Standing → Type 0
Numbered n [] = Unit {0}
Numbered n (x ∷ l) = NumberedPart n x.restriction.part × Numbered (after n x.restriction.part) l

standing_numbered : (s : List ℕ) (f at q n : ℕ) → Numbered n (standing_from s f at q n)
unfolding standing_from part_at own_at
standing_numbered s zero at q n = tt
standing_numbered s (suc f) at q n = go (eqb (kind_at s at) 0) (is_name (kind_at s at) && eqb q 4) (λ m. standing_numbered s f (end_at s at) (sort_after q (kind_at s at)) m)
  where
    rest : ℕ → List Standing
    rest m = standing_from s f (end_at s at) (sort_after q (kind_at s at)) m

    -- by whether the filler is a name
    used : (b : Bool) → ((m : ℕ) → Numbered m (rest m)) →
        NumberedPart n (elim b [ true ↦ by_name (name_at s (end_at s at)) | false ↦ by_number n ])
        × Numbered (after n (elim b [ true ↦ by_name (name_at s (end_at s at)) | false ↦ by_number n ])) (rest (n + elim b [ true ↦ 0 | false ↦ 1 ]))
    used true ih = (tt, subst (λ (m : ℕ). Numbered n (rest m)) (let z : n ≡ n + 0 = omega arith in z) (ih n))
    used false ih = (refl, subst (λ (m : ℕ). Numbered (suc n) (rest m)) (let z : suc n ≡ n + 1 = omega arith in z) (ih (suc n)))

    go : (b c : Bool) → ((m : ℕ) → Numbered m (rest m)) → Numbered n (elim b [ true ↦ [] | false ↦ elim c [ true ↦ standing_at s at n ∷ rest (n + own_at s (end_at s at)) | false ↦ rest n ] ])
    go true c ih = tt
    go false true ih = used (is_name (kind_at s (end_at s at))) ih
    go false false ih = ih n

-- the number of a filler is how many came before it
numbered_behind : (n k : ℕ) (pre post : List Standing) (x : Standing) → x.restriction.part ≡ by_number k → Numbered n (pre ++ (x ∷ post)) → k ≡ n + owns_of (restrictions_of pre)
unfolding owns_of
numbered_behind n k [] post x e r = let z : k ≡ n = subst (NumberedPart n) e r.0 in omega arith
numbered_behind n k (y ∷ pre) post x e r = go y.restriction.part r.1 (λ m. numbered_behind m k pre post x e)
  where
    go : (p : Part) → Numbered (after n p) (pre ++ (x ∷ post)) → ((m : ℕ) → Numbered m (pre ++ (x ∷ post)) → k ≡ m + owns_of (restrictions_of pre)) → k ≡ n + (own_one p + owns_of (restrictions_of pre))
    go (by_name m) b ih = let z : k ≡ n + owns_of (restrictions_of pre) = ih n b in omega arith
    go (by_number j) b ih = let z : k ≡ suc n + owns_of (restrictions_of pre) = ih (suc n) b in omega arith

numbered_first : (n k : ℕ) (pre post : List Standing) (x : Standing) → x.restriction.part ≡ by_number k → Numbered n (pre ++ (x ∷ post)) →
    is_among same_restriction x.restriction (restrictions_of pre) ≡ false
unfolding is_among any_of same_restriction
numbered_first n k [] post x e r = refl
numbered_first n k (y ∷ pre) post x e r =
    ap₂ ◌||◌
    (ap (λ (p : Part). same_name x.restriction.role y.restriction.role && same_part p y.restriction.part) e
    ∙ other (same_name x.restriction.role y.restriction.role) y.restriction.part r.0 r.1)
    (numbered_first (after n y.restriction.part) k pre post x e r.1)
  where
    none : (b : Bool) → (b && false) ≡ false
    none true = refl
    none false = refl

    other : (b : Bool) (p : Part) → NumberedPart n p → Numbered (after n p) (pre ++ (x ∷ post)) → (b && same_part (by_number k) p) ≡ false
    other b (by_name m) y z = none b
    other b (by_number j) y z =
        let w : k ≡ suc n + owns_of (restrictions_of pre) = numbered_behind (suc n) k pre post x e z in
        ap (λ (c : Bool). b && c) (ne_eqb k j (λ d. omega arith)) ∙ none b

pub fresh_own : (s : List ℕ) (k : ℕ) (pre post : List Standing) (x : Standing) → standing s ≡ pre ++ (x ∷ post) → x.restriction.part ≡ by_number k →
    is_among same_restriction x.restriction (restrictions_of pre) ≡ false
unfolding standing
fresh_own s k pre post x d e = numbered_first 0 k pre post x e (subst (Numbered 0) d (standing_numbered s (suc (length s)) 0 0 0))

pub fresh_number : (s : List ℕ) (k : ℕ) (pre post : List Standing) (x : Standing) → standing s ≡ pre ++ (x ∷ post) → x.restriction.part ≡ by_number k → k ≡ owns_of (restrictions_of pre)
unfolding standing
fresh_number s k pre post x d e =
    let z : k ≡ 0 + owns_of (restrictions_of pre) = numbered_behind 0 k pre post x e (subst (Numbered 0) d (standing_numbered s (suc (length s)) 0 0 0)) in
    omega arith

----------------------------------------------------------------------------------------------------
-- Roles are names

abbrev AllNamed : List ℕ → List Standing → Type 0
AllNamed s [] = Unit {0}
AllNamed s (x ∷ l) = (is_name (kind_of (drop x.place s)) ≡ true) × AllNamed s l

standing_names : (s : List ℕ) (f at q n : ℕ) → AllNamed s (standing_from s f at q n)
unfolding standing_from kind_at
standing_names s zero at q n = tt
standing_names s (suc f) at q n =
    go (eqb (kind_at s at) 0) (is_name (kind_at s at)) (eqb q 4) refl (λ m. standing_names s f (end_at s at) (sort_after q (kind_at s at)) m)
  where
    rest : ℕ → List Standing
    rest m = standing_from s f (end_at s at) (sort_after q (kind_at s at)) m

    go : (b c d : Bool) → is_name (kind_at s at) ≡ c → ((m : ℕ) → AllNamed s (rest m)) →
        AllNamed s (elim b [ true ↦ [] | false ↦ elim (c && d) [ true ↦ standing_at s at n ∷ rest (n + own_at s (end_at s at)) | false ↦ rest n ] ])
    go true c d e ih = tt
    go false true true e ih = (e, ih (n + own_at s (end_at s at)))
    go false true false e ih = ih n
    go false false d e ih = ih n

named_behind : (s : List ℕ) (pre post : List Standing) (x : Standing) → AllNamed s (pre ++ (x ∷ post)) → is_name (kind_of (drop x.place s)) ≡ true
named_behind s [] post x h = h.0
named_behind s (y ∷ pre) post x h = named_behind s pre post x h.1

pub standing_named : (s : List ℕ) (at n : ℕ) (pre post : List Standing) → standing s ≡ pre ++ (standing_at s at n ∷ post) → is_name (kind_at s at) ≡ true
unfolding standing kind_at
standing_named s at n pre post d = named_behind s pre post (standing_at s at n) (subst (AllNamed s) d (standing_names s (suc (length s)) 0 0 0))
