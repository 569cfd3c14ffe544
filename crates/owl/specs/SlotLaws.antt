-- Laws of the slots: they have numbers, and what is still to come can always be brought to an end.
--
--   slot_number, slot_at, slot_back == each slot has a number, and is told by it
--   starts_with u ss               == the first of ss is u
--   fit ss                        == each slot that may be left empty stands before one that ends it
--   fit_expect, fit_append, fit_walk == the machine keeps this
--   ending ss                     == tokens that bring ss to an end
--   can_end                       == they do
use Rattle.std.specs.Prelude.{◌≡◌, refl, Bool, true, false, ◌&&◌, ◌||◌, ◌⊎◌, List, [], ◌∷◌, ◌++◌, ℕ, zero, suc, T, eqb, get_or}
use Rattle.std.proofs.Common.{sym, ap, subst, ◌∙◌, inl, inr, eqb→eq}
use Rattle.el.specs.Test.{every_of}
use Rattle.el.specs.TestLaws.{and_make, and_left, and_right}
use Rattle.owl.specs.Written.{Token, text, kind, ‹left›, ‹right›, ‹equals›, ‹Ontology›, ‹Class›}
use Rattle.owl.specs.Grammar.{Slot, left_s, right_s, equals_s, label_s, target_s, name_s, role_s, entity_s, ontology_s, class_s, classes_s, no_third_s, head_s, version_s, items_s, prefixes_s, insides, inside, Move, stop, on, is_name, begins_class, begins_item, unlisted, takes, takes_or, takes_more, expect, walk}

----------------------------------------------------------------------------------------------------
-- Numbers of slots

abbrev pub slot_number : Slot → ℕ
slot_number left_s = 0
slot_number right_s = 1
slot_number equals_s = 2
slot_number label_s = 3
slot_number target_s = 4
slot_number name_s = 5
slot_number role_s = 6
slot_number entity_s = 7
slot_number ontology_s = 8
slot_number class_s = 9
slot_number classes_s = 10
slot_number no_third_s = 11
slot_number head_s = 12
slot_number version_s = 13
slot_number items_s = 14
slot_number prefixes_s = 15

abbrev pub slot_list : List Slot
slot_list = left_s ∷ right_s ∷ equals_s ∷ label_s ∷ target_s ∷ name_s ∷ role_s ∷ entity_s ∷ ontology_s ∷ class_s ∷ classes_s ∷ no_third_s ∷ head_s ∷ version_s ∷ items_s ∷ prefixes_s ∷ []

abbrev pub slot_at : ℕ → Slot
slot_at k = get_or slot_list k left_s

pub slot_back : (s : Slot) → slot_at (slot_number s) ≡ s
slot_back left_s = refl
slot_back right_s = refl
slot_back equals_s = refl
slot_back label_s = refl
slot_back target_s = refl
slot_back name_s = refl
slot_back role_s = refl
slot_back entity_s = refl
slot_back ontology_s = refl
slot_back class_s = refl
slot_back classes_s = refl
slot_back no_third_s = refl
slot_back head_s = refl
slot_back version_s = refl
slot_back items_s = refl
slot_back prefixes_s = refl

pub slot_means : (s u : Slot) → T (eqb (slot_number s) (slot_number u)) → s ≡ u
slot_means s u t = sym (slot_back s) ∙ ap slot_at (eqb→eq (slot_number s) (slot_number u) t) ∙ slot_back u

abbrev pub starts_with : Slot → List Slot → Bool
starts_with u [] = false
starts_with u (s ∷ ss) = eqb (slot_number s) (slot_number u)

pub starts_means : (u : Slot) (ss : List Slot) → T (starts_with u ss) → (rest : List Slot) × (ss ≡ u ∷ rest)
starts_means u [] t = absurd t
starts_means u (s ∷ ss) t = (ss, ap (λ (x : Slot). x ∷ ss) (slot_means s u t))

starts_append : (u : Slot) (ss us : List Slot) → T (starts_with u ss) → T (starts_with u (ss ++ us))
starts_append u [] us t = absurd t
starts_append u (s ∷ ss) us t = t

----------------------------------------------------------------------------------------------------
-- What a move was

abbrev IsOn : Move → Type 0
IsOn (stop n) = ⊥
IsOn (on us) = Unit {0}

pub stop_on : {A : Type 0} (n : ℕ) (us : List Slot) → stop n ≡ on us → A
stop_on n us e = absurd (subst IsOn (sym e) tt)

abbrev slots_on : Move → List Slot
slots_on (stop n) = []
slots_on (on us) = us

pub on_inj : (ss us : List Slot) → on ss ≡ on us → ss ≡ us
on_inj ss us e = ap slots_on e

pub taken : (b : Bool) (n : ℕ) (ss us : List Slot) → takes b n ss ≡ on us → T b × (ss ≡ us)
unfolding takes
taken true n ss us e = (tt, on_inj ss us e)
taken false n ss us e = stop_on n us e

pub taken_or : (b : Bool) (ss us : List Slot) (m : Move) → takes_or b ss m ≡ on us → (T b × (ss ≡ us)) ⊎ (m ≡ on us)
unfolding takes_or
taken_or true ss us m e = inl (tt, on_inj ss us e)
taken_or false ss us m e = inr e

pub taken_more : (k : ℕ) (b : Bool) (ss us : List Slot) (m : Move) → takes_more k b ss m ≡ on us → (T b × (ss ≡ us)) ⊎ (m ≡ on us)
unfolding takes_more
taken_more k true ss us m e = inl (tt, on_inj ss us e)
taken_more k false ss us m e = go (eqb k 16) e
  where
    go : (b : Bool) → elim b [ true ↦ stop 11 | false ↦ m ] ≡ on us → (⊥ × (ss ≡ us)) ⊎ (m ≡ on us)
    go true e = stop_on 11 us e
    go false e = inr e

pub not_third : (b : Bool) (us : List Slot) (m : Move) → elim b [ true ↦ stop 11 | false ↦ m ] ≡ on us → m ≡ on us
not_third true us m e = stop_on 11 us e
not_third false us m e = e

----------------------------------------------------------------------------------------------------
-- Slots that may be left empty have an end

abbrev pub fit : List Slot → Bool
fit [] = true
fit (left_s ∷ ss) = fit ss
fit (right_s ∷ ss) = fit ss
fit (equals_s ∷ ss) = fit ss
fit (label_s ∷ ss) = fit ss
fit (target_s ∷ ss) = fit ss
fit (name_s ∷ ss) = fit ss
fit (role_s ∷ ss) = fit ss
fit (entity_s ∷ ss) = fit ss
fit (ontology_s ∷ ss) = fit ss
fit (class_s ∷ ss) = fit ss
fit (classes_s ∷ ss) = starts_with right_s ss && fit ss
fit (no_third_s ∷ ss) = starts_with right_s ss && fit ss
fit (head_s ∷ ss) = starts_with items_s ss && fit ss
fit (version_s ∷ ss) = starts_with items_s ss && fit ss
fit (items_s ∷ ss) = starts_with right_s ss && fit ss
fit (prefixes_s ∷ ss) = starts_with ontology_s ss && fit ss

pub fit_append : (ss us : List Slot) → T (fit ss) → T (fit us) → T (fit (ss ++ us))
fit_append [] us h k = k
fit_append (left_s ∷ ss) us h k = fit_append ss us h k
fit_append (right_s ∷ ss) us h k = fit_append ss us h k
fit_append (equals_s ∷ ss) us h k = fit_append ss us h k
fit_append (label_s ∷ ss) us h k = fit_append ss us h k
fit_append (target_s ∷ ss) us h k = fit_append ss us h k
fit_append (name_s ∷ ss) us h k = fit_append ss us h k
fit_append (role_s ∷ ss) us h k = fit_append ss us h k
fit_append (entity_s ∷ ss) us h k = fit_append ss us h k
fit_append (ontology_s ∷ ss) us h k = fit_append ss us h k
fit_append (class_s ∷ ss) us h k = fit_append ss us h k
fit_append (classes_s ∷ ss) us h k =
    and_make (starts_with right_s (ss ++ us)) (fit (ss ++ us)) (starts_append right_s ss us (and_left (starts_with right_s ss) (fit ss) h)) (fit_append ss us (and_right (starts_with right_s ss) (fit ss) h) k)
fit_append (no_third_s ∷ ss) us h k =
    and_make (starts_with right_s (ss ++ us)) (fit (ss ++ us)) (starts_append right_s ss us (and_left (starts_with right_s ss) (fit ss) h)) (fit_append ss us (and_right (starts_with right_s ss) (fit ss) h) k)
fit_append (head_s ∷ ss) us h k =
    and_make (starts_with items_s (ss ++ us)) (fit (ss ++ us)) (starts_append items_s ss us (and_left (starts_with items_s ss) (fit ss) h)) (fit_append ss us (and_right (starts_with items_s ss) (fit ss) h) k)
fit_append (version_s ∷ ss) us h k =
    and_make (starts_with items_s (ss ++ us)) (fit (ss ++ us)) (starts_append items_s ss us (and_left (starts_with items_s ss) (fit ss) h)) (fit_append ss us (and_right (starts_with items_s ss) (fit ss) h) k)
fit_append (items_s ∷ ss) us h k =
    and_make (starts_with right_s (ss ++ us)) (fit (ss ++ us)) (starts_append right_s ss us (and_left (starts_with right_s ss) (fit ss) h)) (fit_append ss us (and_right (starts_with right_s ss) (fit ss) h) k)
fit_append (prefixes_s ∷ ss) us h k =
    and_make (starts_with ontology_s (ss ++ us)) (fit (ss ++ us)) (starts_append ontology_s ss us (and_left (starts_with ontology_s ss) (fit ss) h)) (fit_append ss us (and_right (starts_with ontology_s ss) (fit ss) h) k)

all_at : (l : List (List Slot)) (k : ℕ) → T (every_of fit l) → T (fit (get_or l k []))
unfolding every_of
all_at [] k h = tt
all_at (ss ∷ l) zero h = and_left (fit ss) (every_of fit l) h
all_at (ss ∷ l) (suc k) h = all_at l k (and_right (fit ss) (every_of fit l) h)

pub inside_fit : (k : ℕ) → T (fit (inside k))
unfolding inside insides every_of
inside_fit k = all_at insides k tt

fit_moved : (ss us : List Slot) → ss ≡ us → T (fit ss) → T (fit us)
fit_moved ss us e h = subst (λ (l : List Slot). T (fit l)) e h

pub fit_expect : (k : ℕ) (ss us : List Slot) → expect k ss ≡ on us → T (fit ss) → T (fit us)
unfolding expect
fit_expect k [] us e h = stop_on 10 us e
fit_expect k (left_s ∷ ss) us e h = fit_moved ss us (taken (eqb k 1) 10 ss us e).1 h
fit_expect k (right_s ∷ ss) us e h = fit_moved ss us (taken (eqb k 2) 10 ss us e).1 h
fit_expect k (equals_s ∷ ss) us e h = fit_moved ss us (taken (eqb k 3) 10 ss us e).1 h
fit_expect k (label_s ∷ ss) us e h = fit_moved ss us (taken (eqb k 15) 10 ss us e).1 h
fit_expect k (target_s ∷ ss) us e h = fit_moved ss us (taken (eqb k 14) 10 ss us e).1 h
fit_expect k (name_s ∷ ss) us e h = fit_moved ss us (taken (is_name k) 10 ss us e).1 h
fit_expect k (role_s ∷ ss) us e h = fit_moved ss us (taken (is_name k) (unlisted k) ss us e).1 h
fit_expect k (entity_s ∷ ss) us e h = fit_moved ss us (taken (eqb k 7 || eqb k 8) (unlisted k) ss us e).1 h
fit_expect k (ontology_s ∷ ss) us e h = fit_moved ss us (taken (eqb k 5) 10 ss us e).1 h
fit_expect k (class_s ∷ ss) us e h = fit_moved ss us (taken (begins_class k) (unlisted k) ss us e).1 h
fit_expect k (classes_s ∷ ss) us e h =
    elim (taken_more k (begins_class k) (classes_s ∷ ss) us (expect k ss) e) [
      | inl p ↦ fit_moved (classes_s ∷ ss) us p.1 h
      | inr p ↦ fit_expect k ss us p (and_right (starts_with right_s ss) (fit ss) h)
    ]
fit_expect k (no_third_s ∷ ss) us e h = fit_expect k ss us (not_third (begins_class k || eqb k 16) us (expect k ss) e) (and_right (starts_with right_s ss) (fit ss) h)
fit_expect k (head_s ∷ ss) us e h =
    elim (taken_or (is_name k) (version_s ∷ ss) us (expect k ss) e) [
      | inl p ↦ fit_moved (version_s ∷ ss) us p.1 h
      | inr p ↦ fit_expect k ss us p (and_right (starts_with items_s ss) (fit ss) h)
    ]
fit_expect k (version_s ∷ ss) us e h =
    elim (taken_or (is_name k) ss us (expect k ss) e) [
      | inl p ↦ fit_moved (ss) us p.1 (and_right (starts_with items_s ss) (fit ss) h)
      | inr p ↦ fit_expect k ss us p (and_right (starts_with items_s ss) (fit ss) h)
    ]
fit_expect k (items_s ∷ ss) us e h =
    elim (taken_more k (begins_item k) (items_s ∷ ss) us (expect k ss) e) [
      | inl p ↦ fit_moved (items_s ∷ ss) us p.1 h
      | inr p ↦ fit_expect k ss us p (and_right (starts_with right_s ss) (fit ss) h)
    ]
fit_expect k (prefixes_s ∷ ss) us e h =
    elim (taken_or (eqb k 4) (prefixes_s ∷ ss) us (expect k ss) e) [
      | inl p ↦ fit_moved (prefixes_s ∷ ss) us p.1 h
      | inr p ↦ fit_expect k ss us p (and_right (starts_with ontology_s ss) (fit ss) h)
    ]

pub fit_walk : (ts : List Token) (ss us : List Slot) → walk ts ss ≡ on us → T (fit ss) → T (fit us)
unfolding walk
fit_walk [] ss us e h = fit_moved ss us (on_inj ss us e) h
fit_walk (t ∷ ts) ss us e h = go (expect (kind t) ss) refl e (λ vs f. fit_walk ts (inside (kind t) ++ vs) us f)
  where
    go : (m : Move) → expect (kind t) ss ≡ m → elim m [ stop n ↦ stop n | on vs ↦ walk ts (inside (kind t) ++ vs) ] ≡ on us →
        ((vs : List Slot) → walk ts (inside (kind t) ++ vs) ≡ on us → T (fit (inside (kind t) ++ vs)) → T (fit us)) → T (fit us)
    go (stop n) d e f = stop_on n us e
    go (on vs) d e f = f vs e (fit_append (inside (kind t)) vs (inside_fit (kind t)) (fit_expect (kind t) ss vs d h))

----------------------------------------------------------------------------------------------------
-- An end

abbrev pub ending : List Slot → List Token
ending [] = []
ending (left_s ∷ ss) = ‹left› ∷ ending ss
ending (right_s ∷ ss) = ‹right› ∷ ending ss
ending (equals_s ∷ ss) = ‹equals› ∷ ending ss
ending (label_s ∷ ss) = text 15 [] ∷ ending ss
ending (target_s ∷ ss) = text 14 [] ∷ ending ss
ending (name_s ∷ ss) = text 13 [] ∷ ending ss
ending (role_s ∷ ss) = text 13 [] ∷ ending ss
ending (entity_s ∷ ss) = ‹Class› ∷ ‹left› ∷ text 13 [] ∷ ‹right› ∷ ending ss
ending (ontology_s ∷ ss) = ‹Ontology› ∷ ‹left› ∷ ‹right› ∷ ending ss
ending (class_s ∷ ss) = text 13 [] ∷ ending ss
ending (classes_s ∷ ss) = ending ss
ending (no_third_s ∷ ss) = ending ss
ending (head_s ∷ ss) = ending ss
ending (version_s ∷ ss) = ending ss
ending (items_s ∷ ss) = ending ss
ending (prefixes_s ∷ ss) = ending ss

-- a slot left empty before `)`
before_right : (u : Slot) (ss : List Slot) → T (starts_with right_s ss) → ((rest : List Slot) → walk (‹right› ∷ ending rest) (u ∷ right_s ∷ rest) ≡ walk (‹right› ∷ ending rest) (right_s ∷ rest)) →
    walk (ending ss) (u ∷ ss) ≡ walk (ending ss) ss
before_right u ss h f =
    let p = starts_means right_s ss h in
    subst (λ (l : List Slot). walk (ending l) (u ∷ l) ≡ walk (ending l) l) (sym p.1) (f p.0)

-- before the items, which stand before `)`
before_items : (u : Slot) (ss : List Slot) → T (starts_with items_s ss && fit ss) →
    ((rest : List Slot) → walk (‹right› ∷ ending rest) (u ∷ items_s ∷ right_s ∷ rest) ≡ walk (‹right› ∷ ending rest) (items_s ∷ right_s ∷ rest)) → walk (ending ss) (u ∷ ss) ≡ walk (ending ss) ss
before_items u ss h f =
    let p = starts_means items_s ss (and_left (starts_with items_s ss) (fit ss) h) in
    let k = fit_moved ss (items_s ∷ p.0) p.1 (and_right (starts_with items_s ss) (fit ss) h) in
    let q = starts_means right_s p.0 (and_left (starts_with right_s p.0) (fit p.0) k) in
    subst (λ (l : List Slot). walk (ending l) (u ∷ l) ≡ walk (ending l) l) (sym (p.1 ∙ ap (λ (l : List Slot). items_s ∷ l) q.1)) (f q.0)

pub can_end : (ss : List Slot) → T (fit ss) → walk (ending ss) ss ≡ on []
unfolding walk expect takes takes_or takes_more is_name begins_class begins_item unlisted inside insides
can_end [] h = refl
can_end (left_s ∷ ss) h = can_end ss h
can_end (right_s ∷ ss) h = can_end ss h
can_end (equals_s ∷ ss) h = can_end ss h
can_end (label_s ∷ ss) h = can_end ss h
can_end (target_s ∷ ss) h = can_end ss h
can_end (name_s ∷ ss) h = can_end ss h
can_end (role_s ∷ ss) h = can_end ss h
can_end (entity_s ∷ ss) h = can_end ss h
can_end (ontology_s ∷ ss) h = can_end ss h
can_end (class_s ∷ ss) h = can_end ss h
can_end (classes_s ∷ ss) h = before_right classes_s ss (and_left (starts_with right_s ss) (fit ss) h) (λ rest. refl) ∙ can_end ss (and_right (starts_with right_s ss) (fit ss) h)
can_end (no_third_s ∷ ss) h = before_right no_third_s ss (and_left (starts_with right_s ss) (fit ss) h) (λ rest. refl) ∙ can_end ss (and_right (starts_with right_s ss) (fit ss) h)
can_end (items_s ∷ ss) h = before_right items_s ss (and_left (starts_with right_s ss) (fit ss) h) (λ rest. refl) ∙ can_end ss (and_right (starts_with right_s ss) (fit ss) h)
can_end (head_s ∷ ss) h = before_items head_s ss h (λ rest. refl) ∙ can_end ss (and_right (starts_with items_s ss) (fit ss) h)
can_end (version_s ∷ ss) h = before_items version_s ss h (λ rest. refl) ∙ can_end ss (and_right (starts_with items_s ss) (fit ss) h)
can_end (prefixes_s ∷ ss) h =
    let p = starts_means ontology_s ss (and_left (starts_with ontology_s ss) (fit ss) h) in
    subst (λ (l : List Slot). walk (ending l) (prefixes_s ∷ l) ≡ walk (ending l) l) (sym p.1) refl ∙ can_end ss (and_right (starts_with ontology_s ss) (fit ss) h)
