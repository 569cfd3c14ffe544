-- Exactly where 11 is said.
--
--   asks ss         == an axiom, a class, a property or an entity may stand next
--   eleven_exactly  == 11 is said exactly of a word before `(` that is not listed, where one of these may stand, and of a third operand of EquivalentClasses
use Rattle.std.specs.Prelude.{◌≡◌, refl, Bool, true, false, ◌||◌, ◌⊎◌, ◌↔◌, List, [], ◌∷◌, ℕ, T, eqb}
use Rattle.std.proofs.Common.{sym, ap, subst, inl, inr, arith, eqb→eq}
use Rattle.owl.specs.Grammar.{Slot, left_s, right_s, equals_s, label_s, target_s, name_s, role_s, entity_s, ontology_s, class_s, classes_s, no_third_s, head_s, version_s, items_s, prefixes_s, Move, stop, on, is_name, begins_class, begins_item, unlisted, takes, takes_or, takes_more, expect}
use Rattle.owl.specs.SlotLaws.{starts_with, starts_means, fit}
use Rattle.owl.specs.TextLaws.{eleven_means}

abbrev pub asks : List Slot → Bool
asks [] = false
asks (left_s ∷ ss) = false
asks (right_s ∷ ss) = false
asks (equals_s ∷ ss) = false
asks (label_s ∷ ss) = false
asks (target_s ∷ ss) = false
asks (name_s ∷ ss) = false
asks (role_s ∷ ss) = true
asks (entity_s ∷ ss) = true
asks (ontology_s ∷ ss) = false
asks (class_s ∷ ss) = true
asks (classes_s ∷ ss) = true
asks (no_third_s ∷ ss) = true
asks (head_s ∷ ss) = asks ss
asks (version_s ∷ ss) = asks ss
asks (items_s ∷ ss) = true
asks (prefixes_s ∷ ss) = asks ss

-- a word before `(` that is not listed is of kind 16
abbrev pub Said : ℕ → List Slot → Type 0
Said k ss = (T (eqb k 16) × T (asks ss)) ⊎ (T (begins_class k) × T (starts_with no_third_s ss))

said_word : (ss : List Slot) → T (asks ss) → expect 16 ss ≡ stop 11
unfolding expect takes takes_or takes_more unlisted is_name begins_class begins_item
said_word [] h = elim h [ ]
said_word (left_s ∷ ss) h = elim h [ ]
said_word (right_s ∷ ss) h = elim h [ ]
said_word (equals_s ∷ ss) h = elim h [ ]
said_word (label_s ∷ ss) h = elim h [ ]
said_word (target_s ∷ ss) h = elim h [ ]
said_word (name_s ∷ ss) h = elim h [ ]
said_word (ontology_s ∷ ss) h = elim h [ ]
said_word (role_s ∷ ss) h = refl
said_word (entity_s ∷ ss) h = refl
said_word (class_s ∷ ss) h = refl
said_word (classes_s ∷ ss) h = refl
said_word (no_third_s ∷ ss) h = refl
said_word (head_s ∷ ss) h = said_word ss h
said_word (version_s ∷ ss) h = said_word ss h
said_word (items_s ∷ ss) h = refl
said_word (prefixes_s ∷ ss) h = said_word ss h

number : Move → ℕ
number (stop n) = n
number (on us) = 0

ten_not : {A : Type 0} → stop 10 ≡ stop 11 → A
unfolding number
ten_not e = absurd (let h : ◌≡◌ {A = ℕ} 10 11 = ap number e in let z : ⊥ = omega arith in z)

asked_word : (ss : List Slot) → expect 16 ss ≡ stop 11 → T (asks ss)
unfolding expect takes takes_or takes_more unlisted is_name begins_class begins_item
asked_word [] e = ten_not e
asked_word (left_s ∷ ss) e = ten_not e
asked_word (right_s ∷ ss) e = ten_not e
asked_word (equals_s ∷ ss) e = ten_not e
asked_word (label_s ∷ ss) e = ten_not e
asked_word (target_s ∷ ss) e = ten_not e
asked_word (name_s ∷ ss) e = ten_not e
asked_word (role_s ∷ ss) e = tt
asked_word (entity_s ∷ ss) e = tt
asked_word (ontology_s ∷ ss) e = ten_not e
asked_word (class_s ∷ ss) e = tt
asked_word (classes_s ∷ ss) e = tt
asked_word (no_third_s ∷ ss) e = tt
asked_word (head_s ∷ ss) e = asked_word ss e
asked_word (version_s ∷ ss) e = asked_word ss e
asked_word (items_s ∷ ss) e = tt
asked_word (prefixes_s ∷ ss) e = asked_word ss e

third : (k : ℕ) (ss : List Slot) → T (begins_class k) → expect k (no_third_s ∷ ss) ≡ stop 11
unfolding expect
third k ss = go (begins_class k)
  where
    go : (b : Bool) → T b → elim (b || eqb k 16) [ true ↦ stop 11 | false ↦ expect k ss ] ≡ stop 11
    go false h = elim h [ ]
    go true h = refl

pub eleven_exactly : (k : ℕ) (ss : List Slot) → T (fit ss) → (expect k ss ≡ stop 11) ↔ Said k ss
eleven_exactly k ss f = (to, from)
  where
    to : expect k ss ≡ stop 11 → Said k ss
    to e =
        elim (eleven_means k ss f e) [
          | inl w ↦ inl (w, asked_word ss (subst (λ (j : ℕ). expect j ss ≡ stop 11) (eqb→eq k 16 w) e))
          | inr w ↦ inr w
        ]

    from : Said k ss → expect k ss ≡ stop 11
    from (inl w) = subst (λ (j : ℕ). expect j ss ≡ stop 11) (sym (eqb→eq k 16 w.0)) (said_word ss w.1)
    from (inr w) =
        let p = starts_means no_third_s ss w.1 in subst (λ (l : List Slot). expect k l ≡ stop 11) (sym p.1) (third k p.0 w.0)
