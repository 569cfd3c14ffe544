-- A substitution of the named variables extends to the fresh ones.
--
--   Within c r v C    == the constants, roles and variables of C are below c, r and v
--   fillers_of C       == the fillers of C that become fresh variables, in their order
--   extended γ v Fs   == γ on the named variables, and what the fillers Fs are worth from v on
--   good_all          == it gives each fresh variable what its filler is worth
--   statements_named  == it says of the axioms what γ says
use Rattle.std.specs.Prelude.{◌≡◌, refl, Bool, true, false, cond, ◌&&◌, ℕ, suc, ◌+◌, ◌-◌, ◌≤◌, ◌<◌, T, ltb, length, get_or}
use Rattle.std.proofs.Common.{sym, ap, ap₂, subst, ◌∙◌, length-append, lt-ltb, le-ltb}
use mathlib.Core.List.{List, [], ◌∷◌, ◌++◌}
use native.Mathlib.Omega.{arith}
use Rattle.el.specs.Test.{every_of}
use Rattle.el.specs.TestLaws.{and_make, and_left, and_right}
use Rattle.el.specs.Description.{Description, meet, some, below}
use Rattle.el.specs.Table.{Row}
use Rattle.el.specs.Meaning.{Substitution}
use Rattle.owl.specs.Flattening.{Concept, top_c, constant_c, variable_c, both_c, some_c, Statement, own, fresh, fresh_of}
use Rattle.owl.specs.FlatLaws.{concept_under, one_way, statement_holds, Same, same_refl, OwnGood, Good, GoodAll}

abbrev pub Within : ℕ → ℕ → ℕ → Concept → Type 0
Within c r v top_c = Unit {0}
Within c r v (constant_c k) = k < c
Within c r v (variable_c x) = x < v
Within c r v (both_c C D) = Within c r v C × Within c r v D
Within c r v (some_c s C) = (s < r) × Within c r v C

abbrev pub WithinAll : ℕ → ℕ → ℕ → List Statement → Type 0
WithinAll c r v [] = Unit {0}
WithinAll c r v (A ∷ As) = Within c r v (both_c A.less A.greater) × WithinAll c r v As

abbrev own_filler : Concept → List Concept
own_filler top_c = []
own_filler (constant_c k) = []
own_filler (variable_c x) = []
own_filler (both_c C D) = both_c C D ∷ []
own_filler (some_c r C) = some_c r C ∷ []

abbrev pub fillers_of : Concept → List Concept
fillers_of top_c = []
fillers_of (constant_c k) = []
fillers_of (variable_c x) = []
fillers_of (both_c C D) = fillers_of C ++ fillers_of D
fillers_of (some_c r C) = own_filler C ++ fillers_of C

abbrev pub fillers_all : List Statement → List Concept
fillers_all [] = []
fillers_all (A ∷ As) = fillers_of (both_c A.less A.greater) ++ fillers_all As

length_own : (C : Concept) → length (own_filler C) ≡ own C
length_own top_c = refl
length_own (constant_c k) = refl
length_own (variable_c x) = refl
length_own (both_c C D) = refl
length_own (some_c r C) = refl

length_fillers : (C : Concept) → length (fillers_of C) ≡ fresh C
length_fillers top_c = refl
length_fillers (constant_c k) = refl
length_fillers (variable_c x) = refl
length_fillers (both_c C D) = length-append (fillers_of C) (fillers_of D) ∙ ap₂ (λ (i j : ℕ). i + j) (length_fillers C) (length_fillers D)
length_fillers (some_c r C) = length-append (own_filler C) (fillers_of C) ∙ ap₂ (λ (i j : ℕ). i + j) (length_own C) (length_fillers C)

module _ (γ : Substitution) (v : ℕ) (Fs : List Concept) where
  unfoldable pub extended : Substitution
  extended x = cond (ltb x v) (γ x) (concept_under γ (get_or Fs (x - v) top_c))

  pub extended_named : (x : ℕ) → x < v → extended x ≡ γ x
  unfolding extended
  extended_named x h = simp (lt-ltb x v h)

  extended_fresh : (k : ℕ) → extended (v + k) ≡ concept_under γ (get_or Fs k top_c)
  unfolding extended
  extended_fresh k =
      let a : v ≤ v + k = omega arith in
      let b : v + k - v ≡ k = omega arith in
      simp (le-ltb (v + k) v a, b)

  concept_named : (c r : ℕ) (C : Concept) → Within c r v C → concept_under extended C ≡ concept_under γ C
  concept_named c r top_c h = refl
  concept_named c r (constant_c k) h = refl
  concept_named c r (variable_c x) h = extended_named x h
  concept_named c r (both_c C D) h = ap₂ meet (concept_named c r C h.0) (concept_named c r D h.1)
  concept_named c r (some_c s C) h = ap (some s) (concept_named c r C h.1)

  -- from n on, the variables are worth Gs
  abbrev Gives : ℕ → List Concept → Type 0
  Gives n [] = Unit {0}
  Gives n (G ∷ Gs) = (extended n ≡ concept_under γ G) × Gives (n + 1) Gs

  gives_from : (k : ℕ) (Gs : List Concept) → ((i : ℕ) → get_or Fs (k + i) top_c ≡ get_or Gs i top_c) → Gives (v + k) Gs
  gives_from k [] f = tt
  gives_from k (G ∷ Gs) f =
      let z : k + 0 ≡ k = omega arith in
      let a : v + (k + 1) ≡ v + k + 1 = omega arith in (
        extended_fresh k ∙ ap (λ (D : Concept). concept_under γ D) (ap (λ (j : ℕ). get_or Fs j top_c) (sym z) ∙ f 0),
        subst (λ (j : ℕ). Gives j Gs) a (gives_from (k + 1) Gs (λ i. let b : k + 1 + i ≡ k + suc i = omega arith in ap (λ (j : ℕ). get_or Fs j top_c) b ∙ f (suc i))),
      )

  gives_split : (n : ℕ) (Gs Hs : List Concept) → Gives n (Gs ++ Hs) → Gives n Gs × Gives (n + length Gs) Hs
  gives_split n [] Hs h = (tt, let z : n ≡ n + 0 = omega arith in subst (λ (j : ℕ). Gives j Hs) z h)
  gives_split n (G ∷ Gs) Hs h =
      let w = gives_split (n + 1) Gs Hs h.1 in
      let z : n + 1 + length Gs ≡ n + suc (length Gs) = omega arith in
      ((h.0, w.0), subst (λ (j : ℕ). Gives j Hs) z w.1)

  module _ (under : ℕ → ℕ → Bool) (under_refl : (r : ℕ) → T (under r r)) (under_trans : (r s u : ℕ) → T (under r s) → T (under s u) → T (under r u)) (rows : List Row) (c r : ℕ) where
    same_path : (C D E : Description) → C ≡ D → E ≡ D → Same under under_refl under_trans C E
    same_path C D E e f = subst (λ (X : Description). Same under under_refl under_trans C X) (e ∙ sym f) (same_refl under under_refl under_trans C)

    own_good : (n : ℕ) (C : Concept) → Within c r v C → Gives n (own_filler C) → OwnGood under under_refl under_trans rows extended n C
    own_good n top_c h g = tt
    own_good n (constant_c k) h g = tt
    own_good n (variable_c x) h g = tt
    own_good n (both_c C D) h g = same_path (extended n) (concept_under γ (both_c C D)) (concept_under extended (both_c C D)) g.0 (concept_named c r (both_c C D) h)
    own_good n (some_c s C) h g = same_path (extended n) (concept_under γ (some_c s C)) (concept_under extended (some_c s C)) g.0 (concept_named c r (some_c s C) h)

    good : (n : ℕ) (C : Concept) → Within c r v C → Gives n (fillers_of C) → Good under under_refl under_trans rows extended n C
    good n top_c h g = tt
    good n (constant_c k) h g = tt
    good n (variable_c x) h g = tt
    good n (both_c C D) h g =
        let w = gives_split n (fillers_of C) (fillers_of D) g in
        (good n C h.0 w.0, good (n + fresh C) D h.1 (subst (λ (j : ℕ). Gives (n + j) (fillers_of D)) (length_fillers C) w.1))
    good n (some_c s C) h g =
        let w = gives_split n (own_filler C) (fillers_of C) g in
        (own_good n C h.1 w.0, good (n + own C) C h.1 (subst (λ (j : ℕ). Gives (n + j) (fillers_of C)) (length_own C) w.1))

    good_from : (n : ℕ) (As : List Statement) → WithinAll c r v As → Gives n (fillers_all As) → GoodAll under under_refl under_trans rows extended n As
    good_from n [] h g = tt
    good_from n (A ∷ As) h g =
        let both = both_c A.less A.greater in
        let w = gives_split n (fillers_of both) (fillers_all As) g in
        (good n both h.0 w.0, good_from (n + fresh_of A) As h.1 (subst (λ (j : ℕ). Gives (n + j) (fillers_all As)) (length_fillers both) w.1))

    one_named : (C D : Concept) → Within c r v C → Within c r v D → T (one_way under γ C D) → T (one_way under extended C D)
    one_named C D h k t =
        subst (λ (X : Description). T (below under X (concept_under extended D))) (sym (concept_named c r C h))
        (subst (λ (X : Description). T (below under (concept_under γ C) X)) (sym (concept_named c r D k)) t)

    statement_named : (A : Statement) → Within c r v (both_c A.less A.greater) → T (statement_holds under γ A) → T (statement_holds under extended A)
    unfolding statement_holds
    statement_named A h t = go A.mutually t
      where
        C : Concept
        C = A.less

        D : Concept
        D = A.greater

        go : (b : Bool) → T (elim b [ true ↦ one_way under γ C D && one_way under γ D C | false ↦ one_way under γ C D ]) →
            T (elim b [ true ↦ one_way under extended C D && one_way under extended D C | false ↦ one_way under extended C D ])
        go true t =
            and_make (one_way under extended C D) (one_way under extended D C) (one_named C D h.0 h.1 (and_left (one_way under γ C D) (one_way under γ D C) t))
            (one_named D C h.1 h.0 (and_right (one_way under γ C D) (one_way under γ D C) t))
        go false t = one_named C D h.0 h.1 t

    pub statements_named : (As : List Statement) → WithinAll c r v As → T (every_of (statement_holds under γ) As) → T (every_of (statement_holds under extended) As)
    unfolding every_of
    statements_named [] h t = tt
    statements_named (A ∷ As) h t =
        and_make (statement_holds under extended A) (every_of (statement_holds under extended) As)
        (statement_named A h.0 (and_left (statement_holds under γ A) (every_of (statement_holds under γ) As) t))
        (statements_named As h.1 (and_right (statement_holds under γ A) (every_of (statement_holds under γ) As) t))

pub good_all : (γ : Substitution) (v : ℕ) (under : ℕ → ℕ → Bool) (under_refl : (r : ℕ) → T (under r r)) (under_trans : (r s u : ℕ) → T (under r s) → T (under s u) → T (under r u))
    (rows : List Row) (c r : ℕ) (As : List Statement) → WithinAll c r v As → GoodAll under under_refl under_trans rows (extended γ v (fillers_all As)) v As
good_all γ v under under_refl under_trans rows c r As h =
    let z : v + 0 ≡ v = omega arith in
    let gives =
    subst (λ (j : ℕ). Gives γ v (fillers_all As) j (fillers_all As)) z
    (gives_from γ v (fillers_all As) 0 (fillers_all As) (λ i. let b : 0 + i ≡ i = omega arith in ap (λ (j : ℕ). get_or (fillers_all As) j top_c) b))
    in good_from γ v (fillers_all As) under under_refl under_trans rows c r v As h gives
