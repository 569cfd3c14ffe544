-- Laws of the order between descriptions.
--
--   among_left, among_right, among_cases    == what is among two lists one after the other
--   has_name_means, has_some_means            == the two questions of the order, by the lists of conjuncts
--   corollary_1, corollary_1_only           == the computed order is what Corollary 1 of 004 says, and nothing else is
--   below_left, below_right                 == one conjunct below is enough
--   has_some_map                             == the second question along an implication
--   below_refl, below_trans                 == the order is reflexive and transitive, where the roles' is
--   below_depth                             == what lies below is at least as deep
--   same_role_refl, same_role_trans           == equality of roles is such a relation
--   joining_is_wrong                        == two restrictions with one role are not one restriction on the joined fillers
use Rattle.std.specs.Prelude.{◌≡◌, refl, Bool, true, false, ◌&&◌, ◌⊎◌, ◌↔◌, List, [], ◌∷◌, ◌++◌, ℕ, ◌≤◌, ◌<◌, eqb}
use Rattle.std.proofs.Common.{sym, ap, subst, arith, eqb→eq}
use Rattle.std.proofs.Math.Logic.{inl, inr}
use Rattle.std.proofs.Math.Dec.{T, eqb_refl}
use Rattle.el.specs.TestLaws.{or_left, or_right, or_cases, and_make, and_left, and_right}
use Rattle.el.specs.Description.{Description, top, name, meet, some, same_role, has_name, has_some, below}
use Rattle.el.specs.Conjuncts.{Among, names, Restriction, restrictions, Serves, Corollary1, Below, depth}

module _ {A : Type 0} (x : A) where
  pub among_left : (l m : List A) → Among x l → Among x (l ++ m)
  among_left [] m h = absurd h
  among_left (y ∷ l) m (inl e) = inl e
  among_left (y ∷ l) m (inr h) = inr (among_left l m h)

  pub among_right : (l m : List A) → Among x m → Among x (l ++ m)
  among_right [] m h = h
  among_right (y ∷ l) m h = inr (among_right l m h)

  pub among_cases : (l m : List A) → Among x (l ++ m) → Among x l ⊎ Among x m
  among_cases [] m h = inr h
  among_cases (y ∷ l) m (inl e) = inl (inl e)
  among_cases (y ∷ l) m (inr h) = elim (among_cases l m h) [ inl k ↦ inl (inr k) | inr k ↦ inr k ]

----------------------------------------------------------------------------------------------------
-- Corollary 1

pub has_name_means : (a : ℕ) (C : Description) → T (has_name a C) ↔ Among a (names C)
has_name_means a top = ((λ t. t), λ t. t)
has_name_means a (name b) = ((λ t. inl (sym (eqb→eq b a t))), back)
  where
    back : Among a (b ∷ []) → T (eqb b a)
    back (inl e) = subst (λ (k : ℕ). T (eqb b k)) (sym e) (eqb_refl b)
    back (inr h) = absurd h
has_name_means a (meet C D) = go (has_name_means a C) (has_name_means a D)
  where
    go : (T (has_name a C) ↔ Among a (names C)) → (T (has_name a D) ↔ Among a (names D)) → T (has_name a (meet C D)) ↔ Among a (names (meet C D))
    go f g = (
      (λ t. elim (or_cases (has_name a C) (has_name a D) t) [ inl u ↦ among_left a (names C) (names D) (f.0 u) | inr u ↦ among_right a (names C) (names D) (g.0 u) ]),
      λ m. elim (among_cases a (names C) (names D) m) [ inl u ↦ or_left (has_name a C) (has_name a D) (f.1 u) | inr u ↦ or_right (has_name a C) (has_name a D) (g.1 u) ],
    )
has_name_means a (some r C) = ((λ t. t), λ t. t)

-- the name b has one conjunct, which C has
only_name : (b : ℕ) (C : Description) → T (has_name b C) → (a : ℕ) → Among a (b ∷ []) → Among a (names C)
only_name b C t a (inl e) = subst (λ (k : ℕ). Among k (names C)) (sym e) ((has_name_means b C).0 t)
only_name b C t a (inr h) = absurd h

module _ (under : ℕ → ℕ → Bool) where
  pub has_some_means : (s : ℕ) (p : Description → Bool) (C : Description) → T (has_some under s p C) ↔ Serves under s (λ E. T (p E)) C
  unfolding Serves
  has_some_means s p top = ((λ t. absurd t), λ q. q.1)
  has_some_means s p (name b) = ((λ t. absurd t), λ q. q.1)
  has_some_means s p (meet C D) = go (has_some_means s p C) (has_some_means s p D)
    where
      go : (T (has_some under s p C) ↔ Serves under s (λ E. T (p E)) C) → (T (has_some under s p D) ↔ Serves under s (λ E. T (p E)) D) → T (has_some under s p (meet C D)) ↔ Serves under s (λ E. T (p E)) (meet C D)
      go f g = (there, back)
        where
          there : T (has_some under s p (meet C D)) → Serves under s (λ E. T (p E)) (meet C D)
          there t =
              elim (or_cases (has_some under s p C) (has_some under s p D) t) [
                | inl u ↦ let q = f.0 u in (q.0, among_left q.0 (restrictions C) (restrictions D) q.1, q.2, q.3)
                | inr u ↦ let q = g.0 u in (q.0, among_right q.0 (restrictions C) (restrictions D) q.1, q.2, q.3)
              ]

          back : Serves under s (λ E. T (p E)) (meet C D) → T (has_some under s p (meet C D))
          back q =
              elim (among_cases q.0 (restrictions C) (restrictions D) q.1) [
                | inl u ↦ or_left (has_some under s p C) (has_some under s p D) (f.1 (q.0, u, q.2, q.3))
                | inr u ↦ or_right (has_some under s p C) (has_some under s p D) (g.1 (q.0, u, q.2, q.3))
              ]
  has_some_means s p (some r C) =
      ((λ t. (record { role = r; filler = C }, inl refl, and_left (under r s) (p C) t, and_right (under r s) (p C) t)), λ q. back q.0 q.1 q.2 q.3)
    where
      back : (q : Restriction) → Among q (record { role = r; filler = C } ∷ []) → T (under q.role s) → T (p q.filler) → T (under r s && p C)
      back q (inl e) u w =
          and_make (under r s) (p C)
          (subst (λ (k : ℕ). T (under k s)) (ap (λ (n : Restriction). n.role) e) u)
          (subst (λ (E : Description). T (p E)) (ap (λ (n : Restriction). n.filler) e) w)
      back q (inr h) u w = absurd h

  -- "C is below D when ..": the computed order says exactly this
  pub corollary_1 : (C D : Description) → T (below under C D) ↔ Corollary1 under (Below under) C D
  unfolding Corollary1 Serves
  corollary_1 C top = ((λ t. ((λ a m. absurd m), λ q m. absurd m)), λ c. tt)
  corollary_1 C (name b) = ((λ t. (only_name b C t, λ q m. absurd m)), λ c. (has_name_means b C).1 (c.0 b (inl refl)))
  corollary_1 C (meet D E) = go (corollary_1 C D) (corollary_1 C E)
    where
      go : (T (below under C D) ↔ Corollary1 under (Below under) C D) → (T (below under C E) ↔ Corollary1 under (Below under) C E) → T (below under C (meet D E)) ↔ Corollary1 under (Below under) C (meet D E)
      go f g = (there, back)
        where
          there : T (below under C D && below under C E) → Corollary1 under (Below under) C (meet D E)
          there t =
              let d = f.0 (and_left (below under C D) (below under C E) t) in
              let e = g.0 (and_right (below under C D) (below under C E) t) in (
                (λ a m. elim (among_cases a (names D) (names E) m) [ inl u ↦ d.0 a u | inr u ↦ e.0 a u ]),
                λ q m. elim (among_cases q (restrictions D) (restrictions E) m) [ inl u ↦ d.1 q u | inr u ↦ e.1 q u ],
              )

          back : Corollary1 under (Below under) C (meet D E) → T (below under C D && below under C E)
          back c =
              and_make (below under C D) (below under C E)
              (f.1 ((λ a m. c.0 a (among_left a (names D) (names E) m)), λ q m. c.1 q (among_left q (restrictions D) (restrictions E) m)))
              (g.1 ((λ a m. c.0 a (among_right a (names D) (names E) m)), λ q m. c.1 q (among_right q (restrictions D) (restrictions E) m)))
  corollary_1 C (some s D) =
      ((λ t. ((λ a m. absurd m), only t)), λ c. (has_some_means s (λ E. below under E D) C).1 (c.1 (record { role = s; filler = D }) (inl refl)))
    where
      only : T (has_some under s (λ E. below under E D) C) → (q : Restriction) → Among q (record { role = s; filler = D } ∷ []) →
          Serves under q.role (λ E. T (below under E q.filler)) C
      only t q (inl e) =
          subst (λ (q : Restriction). Serves under q.role (λ E. T (below under E q.filler)) C) (sym e)
          ((has_some_means s (λ E. below under E D) C).0 t)
      only t q (inr h) = absurd h

  -- and no other relation does
  pub corollary_1_only : (R : Description → Description → Type 0) → ((C D : Description) → R C D ↔ Corollary1 under R C D) → (C D : Description) → R C D ↔ T (below under C D)
  unfolding Corollary1 Serves
  corollary_1_only R f C top = ((λ r. tt), λ t. (f C top).1 ((λ a m. absurd m), λ q m. absurd m))
  corollary_1_only R f C (name b) = ((λ r. (has_name_means b C).1 (((f C (name b)).0 r).0 b (inl refl))), λ t. (f C (name b)).1 (only_name b C t, λ q m. absurd m))
  corollary_1_only R f C (meet D E) = go (corollary_1_only R f C D) (corollary_1_only R f C E)
    where
      go : (R C D ↔ T (below under C D)) → (R C E ↔ T (below under C E)) → R C (meet D E) ↔ T (below under C (meet D E))
      go g h = (there, back)
        where
          there : R C (meet D E) → T (below under C D && below under C E)
          there r =
              let c = (f C (meet D E)).0 r in
              and_make (below under C D) (below under C E)
              (g.0 ((f C D).1 ((λ a m. c.0 a (among_left a (names D) (names E) m)), λ q m. c.1 q (among_left q (restrictions D) (restrictions E) m))))
              (h.0 ((f C E).1 ((λ a m. c.0 a (among_right a (names D) (names E) m)), λ q m. c.1 q (among_right q (restrictions D) (restrictions E) m))))

          back : T (below under C D && below under C E) → R C (meet D E)
          back t =
              let d = (f C D).0 (g.1 (and_left (below under C D) (below under C E) t)) in
              let e = (f C E).0 (h.1 (and_right (below under C D) (below under C E) t)) in
              (f C (meet D E)).1 (
                (λ a m. elim (among_cases a (names D) (names E) m) [ inl u ↦ d.0 a u | inr u ↦ e.0 a u ]),
                λ q m. elim (among_cases q (restrictions D) (restrictions E) m) [ inl u ↦ d.1 q u | inr u ↦ e.1 q u ],
              )
  corollary_1_only R f C (some s D) = go (λ E. corollary_1_only R f E D)
    where
      go : ((E : Description) → R E D ↔ T (below under E D)) → R C (some s D) ↔ T (below under C (some s D))
      go g = (there, back)
        where
          there : R C (some s D) → T (below under C (some s D))
          there r =
              let q = ((f C (some s D)).0 r).1 (record { role = s; filler = D }) (inl refl) in
              (has_some_means s (λ E. below under E D) C).1 (q.0, q.1, q.2, (g q.0.filler).0 q.3)

          only : T (below under C (some s D)) → (q : Restriction) → Among q (record { role = s; filler = D } ∷ []) → Serves under q.role (λ E. R E q.filler) C
          only t q (inl e) =
              let p = (has_some_means s (λ E. below under E D) C).0 t in
              subst (λ (q : Restriction). Serves under q.role (λ E. R E q.filler) C) (sym e) (p.0, p.1, p.2, (g p.0.filler).1 p.3)
          only t q (inr h) = absurd h

          back : T (below under C (some s D)) → R C (some s D)
          back t = (f C (some s D)).1 ((λ a m. absurd m), only t)

  ----------------------------------------------------------------------------------------------------
  -- Conjunctions

  pub below_left : (C D E : Description) → T (below under C E) → T (below under (meet C D) E)
  below_left C D top t = tt
  below_left C D (name a) t = or_left (has_name a C) (has_name a D) t
  below_left C D (meet E F) t =
      and_make (below under (meet C D) E) (below under (meet C D) F)
      (below_left C D E (and_left (below under C E) (below under C F) t))
      (below_left C D F (and_right (below under C E) (below under C F) t))
  below_left C D (some s E) t = or_left (has_some under s (λ F. below under F E) C) (has_some under s (λ F. below under F E) D) t

  pub below_right : (C D E : Description) → T (below under D E) → T (below under (meet C D) E)
  below_right C D top t = tt
  below_right C D (name a) t = or_right (has_name a C) (has_name a D) t
  below_right C D (meet E F) t =
      and_make (below under (meet C D) E) (below under (meet C D) F)
      (below_right C D E (and_left (below under D E) (below under D F) t))
      (below_right C D F (and_right (below under D E) (below under D F) t))
  below_right C D (some s E) t = or_right (has_some under s (λ F. below under F E) C) (has_some under s (λ F. below under F E) D) t

  ----------------------------------------------------------------------------------------------------
  -- Reflexive

  module _ (under_refl : (r : ℕ) → T (under r r)) where
    pub below_refl : (C : Description) → T (below under C C)
    below_refl top = tt
    below_refl (name a) = eqb_refl a
    below_refl (meet C D) = and_make (below under (meet C D) C) (below under (meet C D) D) (below_left C D C (below_refl C)) (below_right C D D (below_refl D))
    below_refl (some r C) = and_make (under r r) (below under C C) (under_refl r) (below_refl C)

  ----------------------------------------------------------------------------------------------------
  -- Transitive

  -- a restriction that serves s and p serves u and q, where each filler that passes p passes q and s lies under u
  pub has_some_map : (s u : ℕ) (p q : Description → Bool) → ((r : ℕ) → T (under r s) → T (under r u)) → ((E : Description) → T (p E) → T (q E)) →
      (C : Description) → T (has_some under s p C) → T (has_some under u q C)
  has_some_map s u p q f g top t = t
  has_some_map s u p q f g (name b) t = t
  has_some_map s u p q f g (meet C D) t =
      elim (or_cases (has_some under s p C) (has_some under s p D) t) [
        | inl w ↦ or_left (has_some under u q C) (has_some under u q D) (has_some_map s u p q f g C w)
        | inr w ↦ or_right (has_some under u q C) (has_some under u q D) (has_some_map s u p q f g D w)
      ]
  has_some_map s u p q f g (some r C) t = and_make (under r u) (q C) (f r (and_left (under r s) (p C) t)) (g C (and_right (under r s) (p C) t))

  name_trans : (a : ℕ) (C D : Description) → T (below under C D) → T (has_name a D) → T (has_name a C)
  name_trans a C top t n = absurd n
  name_trans a C (name b) t n = subst (λ (k : ℕ). T (has_name k C)) (eqb→eq b a n) t
  name_trans a C (meet D E) t n =
      elim (or_cases (has_name a D) (has_name a E) n) [
        | inl w ↦ name_trans a C D (and_left (below under C D) (below under C E) t) w
        | inr w ↦ name_trans a C E (and_right (below under C D) (below under C E) t) w
      ]
  name_trans a C (some s D) t n = absurd n

  module _ (under_trans : (r s u : ℕ) → T (under r s) → T (under s u) → T (under r u)) where
    some_trans : (u : ℕ) (q : Description → Bool) → ((E F : Description) → T (below under E F) → T (q F) → T (q E)) →
        (C D : Description) → T (below under C D) → T (has_some under u q D) → T (has_some under u q C)
    some_trans u q f C top t n = absurd n
    some_trans u q f C (name b) t n = absurd n
    some_trans u q f C (meet D E) t n =
        elim (or_cases (has_some under u q D) (has_some under u q E) n) [
          | inl w ↦ some_trans u q f C D (and_left (below under C D) (below under C E) t) w
          | inr w ↦ some_trans u q f C E (and_right (below under C D) (below under C E) t) w
        ]
    some_trans u q f C (some s D) t n =
        has_some_map s u (λ E. below under E D) q
        (λ r k. under_trans r s u k (and_left (under s u) (q D) n))
        (λ E e. f E D e (and_right (under s u) (q D) n)) C t

    pub below_trans : (C D E : Description) → T (below under C D) → T (below under D E) → T (below under C E)
    below_trans C D top t n = tt
    below_trans C D (name a) t n = name_trans a C D t n
    below_trans C D (meet E F) t n =
        and_make (below under C E) (below under C F)
        (below_trans C D E t (and_left (below under D E) (below under D F) n))
        (below_trans C D F t (and_right (below under D E) (below under D F) n))
    below_trans C D (some s E) t n = some_trans s (λ X. below under X E) (λ X Y e k. below_trans X Y E e k) C D t n

  ----------------------------------------------------------------------------------------------------
  -- Depth

  some_depth : (s n : ℕ) (p : Description → Bool) → ((E : Description) → T (p E) → n ≤ depth E) → (C : Description) → T (has_some under s p C) → n < depth C
  some_depth s n p f top t = absurd t
  some_depth s n p f (name a) t = absurd t
  some_depth s n p f (meet C D) t =
      elim (or_cases (has_some under s p C) (has_some under s p D) t) [
        | inl w ↦ let k : n < depth C = some_depth s n p f C w in omega arith
        | inr w ↦ let k : n < depth D = some_depth s n p f D w in omega arith
      ]
  some_depth s n p f (some r C) t = let k : n ≤ depth C = f C (and_right (under r s) (p C) t) in omega arith

  pub below_depth : (C D : Description) → T (below under C D) → depth D ≤ depth C
  below_depth C top t = omega arith
  below_depth C (name a) t = omega arith
  below_depth C (meet D E) t =
      let k : depth D ≤ depth C = below_depth C D (and_left (below under C D) (below under C E) t) in
      let l : depth E ≤ depth C = below_depth C E (and_right (below under C D) (below under C E) t) in
      omega arith
  below_depth C (some s D) t = some_depth s (depth D) (λ E. below under E D) (λ E e. below_depth E D e) C t

----------------------------------------------------------------------------------------------------
-- Equality of roles

pub same_role_refl : (r : ℕ) → T (same_role r r)
unfolding same_role
same_role_refl r = eqb_refl r

pub same_role_trans : (r s u : ℕ) → T (same_role r s) → T (same_role s u) → T (same_role r u)
unfolding same_role
same_role_trans r s u h k = subst (λ (q : ℕ). T (eqb r q)) (eqb→eq s u k) h

-- "Treating two restrictions with one role as one restriction on the joined fillers. P12 rules it out."
-- some r A and some r B does not lie below some r (A and B), and some r (A and B) does

pub joining_is_wrong :
    (below same_role (meet (some 0 (name 0)) (some 0 (name 1))) (some 0 (meet (name 0) (name 1))) ≡ false)
    × (below same_role (some 0 (meet (name 0) (name 1))) (some 0 (meet (name 0) (name 1))) ≡ true)
unfolding same_role
joining_is_wrong = (refl, refl)
