-- A text is refused with 11 where 11 is to be said.
--
--   check_at    == the verdict on a text is given by the token at which the machine stops
--   eleven_from == the tokens before token i are taken, and it is a word before `(` that is not listed where an axiom, class, property or
--                  entity may stand, or a third operand of EquivalentClasses: the number is 11, and the place that token's
--   import_eleven, third_eleven == at two texts
use Rattle.std.specs.Prelude.{◌≡◌, refl, Bool, true, false, eqb, length, get_or, take}
use Rattle.std.proofs.Common.{sym, ap, ◌∙◌, inl, inr, lit<}
use mathlib.Core.List.{List, [], ◌∷◌, ◌++◌}
use Prim.Native.Nat.{ℕ, zero, suc, ◌<◌}
use native.Mathlib.Omega.{arith}
use Rattle.el.specs.Test.{any_of}
use Rattle.owl.specs.Once.{is_among, place}
use Rattle.owl.specs.Naming.{same_bytes}
use Rattle.owl.specs.Token.{is_plain, byte_class, betweens, between, blank, run_length, shapes, shaped, shape, prefix_word, ontology_word, declaration_word, class_word, property_word, sub_class_word, equivalent_word, intersection_word, some_values_word, keywords, word_kind, run_kind, up_to_close, opens_after, full_kind, full_size, mark_kinds, kind_of, size_of, place_at, kind_at, end_at}
use Rattle.owl.specs.Written.{Token, sign, kind, token_of, token_at, tokens_from, tokens, places_from, token_place}
use Rattle.owl.specs.Grammar.{Slot, right_s, no_third_s, head_s, items_s, insides, inside, Move, stop, on, is_name, begins_class, begins_item, takes, takes_or, takes_more, expect, may_end, start, walk, Verdict, verdict, check, checked}
use Rattle.owl.specs.SlotLaws.{stop_on, on_inj, fit_walk}
use Rattle.owl.specs.TextLaws.{kind_at_lem}
use Rattle.owl.specs.ElevenLaws.{Said, eleven_exactly}

module _ (s : List ℕ) (us : List Slot) (n : ℕ) (d : Token) where
  abbrev Checks : List Token → List ℕ → List Slot → Verdict → Type 0
  Checks ts ps ss v = (i : ℕ) → i < length ts → walk (take i ts) ss ≡ on us → expect (kind (get_or ts i d)) us ≡ stop n → v ≡ verdict n (get_or ps i (length s))

  check_at : (f at : ℕ) (ss : List Slot) → Checks (tokens_from s f at) (places_from s f at) ss (check s f at ss)
  unfolding tokens_from places_from check walk
  check_at zero at ss = λ i l w e. absurd (let z : ⊥ = omega arith in z)
  check_at (suc f) at ss = go (eqb (kind_at s at) 0) (λ xs. check_at f (end_at s at) (inside (kind_at s at) ++ xs))
    where
      ts : List Token
      ts = tokens_from s f (end_at s at)

      ps : List ℕ
      ps = places_from s f (end_at s at)

      move : (m : Move) (j : ℕ) → j < length ts → ((xs : List Slot) → Checks ts ps (inside (kind_at s at) ++ xs) (check s f (end_at s at) (inside (kind_at s at) ++ xs))) →
          elim m [ stop k ↦ stop k | on xs ↦ walk (take j ts) (inside (kind_at s at) ++ xs) ] ≡ on us → expect (kind (get_or ts j d)) us ≡ stop n →
          elim m [ stop k ↦ verdict k (place_at s at) | on xs ↦ check s f (end_at s at) (inside (kind_at s at) ++ xs) ] ≡ verdict n (get_or ps j (length s))
      move (stop k) j l ih w e = stop_on k us w
      move (on xs) j l ih w e = ih xs j l w e

      go : (b : Bool) → ((xs : List Slot) → Checks ts ps (inside (kind_at s at) ++ xs) (check s f (end_at s at) (inside (kind_at s at) ++ xs))) →
          Checks (elim b [ true ↦ [] | false ↦ token_at s at ∷ ts ]) (elim b [ true ↦ [] | false ↦ place_at s at ∷ ps ]) ss
          (elim b [
            | true ↦ elim (may_end ss) [ true ↦ verdict 0 0 | false ↦ verdict 10 (length s) ]
            | false ↦ elim (expect (kind_at s at) ss) [ stop k ↦ verdict k (place_at s at) | on xs ↦ check s f (end_at s at) (inside (kind_at s at) ++ xs) ]
          ])
      go true ih i l w e = absurd (let z : ⊥ = omega arith in z)
      go false ih zero l w e =
          ap (λ (m : Move). elim m [ stop k ↦ verdict k (place_at s at) | on xs ↦ check s f (end_at s at) (inside (kind_at s at) ++ xs) ])
          (ap (λ (k : ℕ). expect k ss) (sym (kind_at_lem s at)) ∙ ap (expect (kind (token_at s at))) (on_inj ss us w) ∙ e)
      go false ih (suc j) l w e =
          move (expect (kind_at s at) ss) j (let z : j < length ts = omega arith in z) ih
          (ap (λ (k : ℕ). elim (expect k ss) [ stop x ↦ stop x | on xs ↦ walk (take j ts) (inside k ++ xs) ]) (sym (kind_at_lem s at)) ∙ w) e

pub eleven_from : (s : List ℕ) (i : ℕ) (us : List Slot) (d : Token) → i < length (tokens s) → walk (take i (tokens s)) start ≡ on us → Said (kind (get_or (tokens s) i d)) us →
    checked s ≡ verdict 11 (token_place s i)
unfolding tokens token_place checked
eleven_from s i us d l w h =
    check_at s us 11 d (suc (length s)) 0 start i l w ((eleven_exactly (kind (get_or (tokens s) i d)) us (fit_walk (take i (tokens s)) start us w tt)).1 h)

----------------------------------------------------------------------------------------------------
-- At two texts

-- Ontology(Import(<x>))
abbrev import : List ℕ
import = 79 ∷ 110 ∷ 116 ∷ 111 ∷ 108 ∷ 111 ∷ 103 ∷ 121 ∷ 40 ∷ 73 ∷ 109 ∷ 112 ∷ 111 ∷ 114 ∷ 116 ∷ 40 ∷ 60 ∷ 120 ∷ 62 ∷ 41 ∷ 41 ∷ []

pub import_eleven : checked import ≡ verdict 11 (token_place import 2)
unfolding any_of is_among place same_bytes is_plain byte_class betweens between blank run_length shapes shaped shape prefix_word ontology_word declaration_word class_word property_word sub_class_word equivalent_word intersection_word some_values_word keywords word_kind run_kind up_to_close opens_after full_kind full_size mark_kinds kind_of size_of place_at kind_at end_at insides inside is_name begins_class begins_item takes takes_or takes_more expect walk token_of token_at tokens_from tokens
import_eleven = eleven_from import 2 (head_s ∷ items_s ∷ right_s ∷ []) (sign 0) (lit< tt) refl (inl (tt, tt))

-- Ontology(EquivalentClasses(:A :B :C))
abbrev third : List ℕ
third =
    79 ∷ 110 ∷ 116 ∷ 111 ∷ 108 ∷ 111 ∷ 103 ∷ 121 ∷ 40 ∷ 69 ∷ 113 ∷ 117 ∷ 105 ∷ 118 ∷ 97 ∷ 108 ∷ 101 ∷ 110 ∷ 116 ∷ 67 ∷ 108 ∷ 97 ∷ 115 ∷ 115 ∷ 101 ∷ 115 ∷ 40 ∷ 58 ∷ 65 ∷ 32 ∷ 58 ∷ 66 ∷ 32 ∷ 58 ∷ 67 ∷ 41 ∷ 41 ∷ []

pub third_eleven : checked third ≡ verdict 11 (token_place third 6)
unfolding any_of is_among place same_bytes is_plain byte_class betweens between blank run_length shapes shaped shape prefix_word ontology_word declaration_word class_word property_word sub_class_word equivalent_word intersection_word some_values_word keywords word_kind run_kind up_to_close opens_after full_kind full_size mark_kinds kind_of size_of place_at kind_at end_at insides inside is_name begins_class begins_item takes takes_or takes_more expect walk token_of token_at tokens_from tokens
third_eleven = eleven_from third 6 (no_third_s ∷ right_s ∷ items_s ∷ right_s ∷ []) (sign 0) (lit< tt) refl (inr (tt, tt))
