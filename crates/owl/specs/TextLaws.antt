-- The verdict on a text: what is accepted, and the first token that spoils it.
--
--   stop_number_lem      == a refusal's number is 10 or 11
--   eleven_means     == 11 is said of a word before `(` that is not listed, and of a third operand of EquivalentClasses
--   Found            == what a verdict says of tokens and their places
--   finds            == the verdict on a text says it of the text's tokens
--   accepted_means   == the number is 0 exactly if the text says some file
--   refused_means    == else the place is that of the first token that spoils it, or its length where the end does
--   first_spoiled    == the token that spoils it, if there is one, is the one whose place is given
--   eleven_text      == a text with number 11 has at that place a word before `(` that is not listed, or a third operand of EquivalentClasses
use Rattle.std.specs.Prelude.{◌≡◌, refl, Bool, true, false, ◌||◌, ◌⊎◌, ◌↔◌, List, [], ◌∷◌, ◌++◌, ℕ, zero, suc, ◌+◌, ◌≤◌, ◌<◌, T, eqb, ltb, length, get_or, take, drop}
use Rattle.std.proofs.Common.{sym, ap, subst, ◌∙◌, true≢false, inl, inr, arith, take-append-drop}
use Rattle.std.proofs.Math.Decide.{dec_lt}
use Rattle.std.proofs.Math.ListN.{get_or-eq_default}
use Rattle.std.proofs.lemmas.Bool.{eqb-false}
use Rattle.el.specs.TestLaws.{or_cases, and_left, and_right}
use Rattle.owl.specs.Tree.{File}
use Rattle.owl.specs.Token.{place_at, kind_at, end_at}
use Rattle.owl.specs.TokenLaws.{end_le, progress, more}
use Rattle.owl.specs.Written.{Token, kind, token_of, token_at, tokens_from, tokens, places_from, token_place, written_file, Says}
use Rattle.owl.specs.Grammar.{Slot, left_s, right_s, equals_s, label_s, target_s, name_s, role_s, entity_s, ontology_s, class_s, classes_s, no_third_s, head_s, version_s, items_s, prefixes_s, inside, Move, stop, on, is_name, begins_class, begins_item, unlisted, takes, takes_or, takes_more, expect, may_end, start, walk, Verdict, verdict, check, checked, Begins}
use Rattle.owl.specs.SlotLaws.{stop_on, on_inj, starts_with, starts_means, fit, fit_walk}
use Rattle.owl.specs.GrammarLaws.{sound, complete, extends, spoiled}

----------------------------------------------------------------------------------------------------
-- Numbers

abbrev stop_number : ℕ → Move → ℕ
stop_number d (stop n) = n
stop_number d (on us) = d

stop_inj : (m n : ℕ) → stop m ≡ stop n → m ≡ n
stop_inj m n e = ap (stop_number m) e

abbrev Ten : ℕ → Type 0
Ten n = (n ≡ 10) ⊎ (n ≡ 11)

unlisted_number : (k : ℕ) → Ten (unlisted k)
unfolding unlisted
unlisted_number k = go (eqb k 16)
  where
    go : (b : Bool) → Ten (elim b [ true ↦ 11 | false ↦ 10 ])
    go true = inr refl
    go false = inl refl

takes_number : (b : Bool) (j n : ℕ) (ss : List Slot) → Ten j → takes b j ss ≡ stop n → Ten n
unfolding takes
takes_number true j n ss h e = stop_on n ss (sym e)
takes_number false j n ss h e = subst Ten (stop_inj j n e) h

takes_or_number : (b : Bool) (n : ℕ) (ss : List Slot) (m : Move) → (m ≡ stop n → Ten n) → takes_or b ss m ≡ stop n → Ten n
unfolding takes_or
takes_or_number true n ss m f e = stop_on n ss (sym e)
takes_or_number false n ss m f e = f e

takes_more_number : (k : ℕ) (b : Bool) (n : ℕ) (ss : List Slot) (m : Move) → (m ≡ stop n → Ten n) → takes_more k b ss m ≡ stop n → Ten n
unfolding takes_more
takes_more_number k true n ss m f e = stop_on n ss (sym e)
takes_more_number k false n ss m f e = go (eqb k 16) e
  where
    go : (b : Bool) → elim b [ true ↦ stop 11 | false ↦ m ] ≡ stop n → Ten n
    go true e = inr (sym (stop_inj 11 n e))
    go false e = f e

expect_number : (k : ℕ) (ss : List Slot) (n : ℕ) → expect k ss ≡ stop n → Ten n
unfolding expect
expect_number k [] n e = inl (sym (stop_inj 10 n e))
expect_number k (left_s ∷ ss) n e = takes_number (eqb k 1) 10 n ss (inl refl) e
expect_number k (right_s ∷ ss) n e = takes_number (eqb k 2) 10 n ss (inl refl) e
expect_number k (equals_s ∷ ss) n e = takes_number (eqb k 3) 10 n ss (inl refl) e
expect_number k (label_s ∷ ss) n e = takes_number (eqb k 15) 10 n ss (inl refl) e
expect_number k (target_s ∷ ss) n e = takes_number (eqb k 14) 10 n ss (inl refl) e
expect_number k (name_s ∷ ss) n e = takes_number (is_name k) 10 n ss (inl refl) e
expect_number k (role_s ∷ ss) n e = takes_number (is_name k) (unlisted k) n ss (unlisted_number k) e
expect_number k (entity_s ∷ ss) n e = takes_number (eqb k 7 || eqb k 8) (unlisted k) n ss (unlisted_number k) e
expect_number k (ontology_s ∷ ss) n e = takes_number (eqb k 5) 10 n ss (inl refl) e
expect_number k (class_s ∷ ss) n e = takes_number (begins_class k) (unlisted k) n ss (unlisted_number k) e
expect_number k (classes_s ∷ ss) n e = takes_more_number k (begins_class k) n (classes_s ∷ ss) (expect k ss) (expect_number k ss n) e
expect_number k (no_third_s ∷ ss) n e = go (begins_class k || eqb k 16) e (expect_number k ss n)
  where
    go : (b : Bool) → elim b [ true ↦ stop 11 | false ↦ expect k ss ] ≡ stop n → (expect k ss ≡ stop n → Ten n) → Ten n
    go true e f = inr (sym (stop_inj 11 n e))
    go false e f = f e
expect_number k (head_s ∷ ss) n e = takes_or_number (is_name k) n (version_s ∷ ss) (expect k ss) (expect_number k ss n) e
expect_number k (version_s ∷ ss) n e = takes_or_number (is_name k) n ss (expect k ss) (expect_number k ss n) e
expect_number k (items_s ∷ ss) n e = takes_more_number k (begins_item k) n (items_s ∷ ss) (expect k ss) (expect_number k ss n) e
expect_number k (prefixes_s ∷ ss) n e = takes_or_number (eqb k 4) n (prefixes_s ∷ ss) (expect k ss) (expect_number k ss n) e

pub stop_number_lem : (ts : List Token) (ss : List Slot) (n : ℕ) → walk ts ss ≡ stop n → (n ≡ 10) ⊎ (n ≡ 11)
unfolding walk
stop_number_lem [] ss n e = stop_on n ss (sym e)
stop_number_lem (t ∷ ts) ss n e = go (expect (kind t) ss) refl e (λ us. stop_number_lem ts (inside (kind t) ++ us) n)
  where
    go : (m : Move) → expect (kind t) ss ≡ m → elim m [ stop j ↦ stop j | on us ↦ walk ts (inside (kind t) ++ us) ] ≡ stop n →
        ((us : List Slot) → walk ts (inside (kind t) ++ us) ≡ stop n → Ten n) → Ten n
    go (stop j) d e f = subst Ten (stop_inj j n e) (expect_number (kind t) ss j d)
    go (on us) d e f = f us e

----------------------------------------------------------------------------------------------------
-- What a verdict says of tokens and their places

abbrev Found : List Token → List ℕ → ℕ → List Slot → Verdict → Type 0
Found ts ps end ss v =
    ((us : List Slot) × (walk ts ss ≡ on us) × T (may_end us) × (v ≡ verdict 0 0))
    ⊎ (((us : List Slot) × (walk ts ss ≡ on us) × (may_end us ≡ false) × (v ≡ verdict 10 end))
    ⊎ ((i : ℕ) × (n : ℕ) × (us : List Slot) × (i < length ts) × (walk (take i ts) ss ≡ on us) × (walk (take (suc i) ts) ss ≡ stop n) × (v ≡ verdict n (get_or ps i end))))

found_end : (end : ℕ) (ss : List Slot) → Found [] [] end ss (elim (may_end ss) [ true ↦ verdict 0 0 | false ↦ verdict 10 end ])
unfolding walk
found_end end ss = go (may_end ss) refl
  where
    go : (b : Bool) → may_end ss ≡ b → Found [] [] end ss (elim b [ true ↦ verdict 0 0 | false ↦ verdict 10 end ])
    go true e = inl (ss, refl, subst T (sym e) tt, refl)
    go false e = inr (inl (ss, refl, e, refl))

-- the machine at a token
walk_at : (t : Token) (ts : List Token) (ss : List Slot) (m : Move) → expect (kind t) ss ≡ m → walk (t ∷ ts) ss ≡ elim m [ stop n ↦ stop n | on us ↦ walk ts (inside (kind t) ++ us) ]
unfolding walk
walk_at t ts ss m e = ap (λ (m : Move). elim m [ stop n ↦ stop n | on us ↦ walk ts (inside (kind t) ++ us) ]) e

found_stop : (t : Token) (ts : List Token) (p : ℕ) (ps : List ℕ) (end : ℕ) (ss : List Slot) (n : ℕ) → expect (kind t) ss ≡ stop n → Found (t ∷ ts) (p ∷ ps) end ss (verdict n p)
unfolding walk
found_stop t ts p ps end ss n e = inr (inr (0, n, ss, omega arith, refl, walk_at t [] ss (stop n) e, refl))

found_on : (t : Token) (ts : List Token) (p : ℕ) (ps : List ℕ) (end : ℕ) (ss us : List Slot) (v : Verdict) → expect (kind t) ss ≡ on us →
    Found ts ps end (inside (kind t) ++ us) v → Found (t ∷ ts) (p ∷ ps) end ss v
found_on t ts p ps end ss us v e (inl (xs, w, h, f)) = inl (xs, walk_at t ts ss (on us) e ∙ w, h, f)
found_on t ts p ps end ss us v e (inr (inl (xs, w, h, f))) = inr (inl (xs, walk_at t ts ss (on us) e ∙ w, h, f))
found_on t ts p ps end ss us v e (inr (inr (i, n, xs, l, w, h, f))) =
    inr (inr (suc i, n, xs, omega arith, walk_at t (take i ts) ss (on us) e ∙ w, walk_at t (take (suc i) ts) ss (on us) e ∙ h, f))

pub kind_token : (k : ℕ) (w : List ℕ) → kind (token_of k w) ≡ k
unfolding token_of
kind_token k w = go (ltb k 13) refl
  where
    go : (b : Bool) → ltb k 13 ≡ b → kind (elim b [ true ↦ Token.sign k | false ↦ Token.text k w ]) ≡ k
    go true e = ap (λ (b : Bool). elim b [ true ↦ k | false ↦ 17 ]) e
    go false e = ap (λ (b : Bool). elim b [ true ↦ 17 | false ↦ k ]) e

pub kind_at_lem : (s : List ℕ) (at : ℕ) → kind (token_at s at) ≡ kind_at s at
unfolding token_at
kind_at_lem s at = kind_token (kind_at s at) _

finds : (s : List ℕ) (f at : ℕ) (ss : List Slot) → at ≤ length s → length s < at + f → Found (tokens_from s f at) (places_from s f at) (length s) ss (check s f at ss)
unfolding tokens_from places_from check
finds s zero at ss h l = absurd (let z : ⊥ = omega arith in z)
finds s (suc f) at ss h l = go (eqb (kind_at s at) 0) refl (λ us. finds s f (end_at s at) (inside (kind_at s at) ++ us))
  where
    t : Token
    t = token_at s at

    ts : List Token
    ts = tokens_from s f (end_at s at)

    ps : List ℕ
    ps = places_from s f (end_at s at)

    move : (m : Move) → expect (kind_at s at) ss ≡ m → ((us : List Slot) → Found ts ps (length s) (inside (kind_at s at) ++ us) (check s f (end_at s at) (inside (kind_at s at) ++ us))) →
        Found (t ∷ ts) (place_at s at ∷ ps) (length s) ss (elim m [ stop n ↦ verdict n (place_at s at) | on us ↦ check s f (end_at s at) (inside (kind_at s at) ++ us) ])
    move (stop n) e ih = found_stop t ts (place_at s at) ps (length s) ss n (ap (λ (k : ℕ). expect k ss) (kind_at_lem s at) ∙ e)
    move (on us) e ih =
        found_on t ts (place_at s at) ps (length s) ss us (check s f (end_at s at) (inside (kind_at s at) ++ us)) (ap (λ (k : ℕ). expect k ss) (kind_at_lem s at) ∙ e)
        (subst (λ (k : ℕ). Found ts ps (length s) (inside k ++ us) (check s f (end_at s at) (inside (kind_at s at) ++ us))) (sym (kind_at_lem s at)) (ih us))

    go : (b : Bool) → eqb (kind_at s at) 0 ≡ b →
        ((us : List Slot) → end_at s at ≤ length s → length s < end_at s at + f → Found ts ps (length s) (inside (kind_at s at) ++ us) (check s f (end_at s at) (inside (kind_at s at) ++ us))) →
        Found (elim b [ true ↦ [] | false ↦ t ∷ ts ]) (elim b [ true ↦ [] | false ↦ place_at s at ∷ ps ]) (length s) ss
        (elim b [
          | true ↦ elim (may_end ss) [ true ↦ verdict 0 0 | false ↦ verdict 10 (length s) ]
          | false ↦ elim (expect (kind_at s at) ss) [ stop n ↦ verdict n (place_at s at) | on us ↦ check s f (end_at s at) (inside (kind_at s at) ++ us) ]
        ])
    go true e ih = found_end (length s) ss
    go false e ih =
        let k : at < length s = more s at h (eqb-false (kind_at s at) 0 e) in
        let d : at < end_at s at = progress s at k in
        let r : end_at s at ≤ length s = end_le s at h in
        let q : length s < end_at s at + f = omega arith in
        move (expect (kind_at s at) ss) refl (λ us. ih us r q)

found : (s : List ℕ) → Found (tokens s) (places_from s (suc (length s)) 0) (length s) start (checked s)
unfolding tokens checked
found s = finds s (suc (length s)) 0 start (omega arith) (omega arith)

----------------------------------------------------------------------------------------------------
-- The theorems

not_zero : (n : ℕ) → (n ≡ 10) ⊎ (n ≡ 11) → n ≡ 0 → ⊥
not_zero n (inl e) z = omega arith
not_zero n (inr e) z = omega arith

begins_take : (i : ℕ) (ts : List Token) (f : File) → ts ≡ written_file f → Begins (take i ts)
begins_take i ts f e = (drop i ts, f, take-append-drop i ts ∙ e)

pub accepted_means : (s : List ℕ) → ((checked s).number ≡ 0) ↔ ((f : File) × Says s f)
unfolding Says may_end
accepted_means s = (to (found s), λ p. from (found s) p.0 p.1)
  where
    to : Found (tokens s) (places_from s (suc (length s)) 0) (length s) start (checked s) → (checked s).number ≡ 0 → (f : File) × (tokens s ≡ written_file f)
    to (inl (us, w, h, v)) z = sound (tokens s) us w h
    to (inr (inl (us, w, h, v))) z = absurd (not_zero 10 (inl refl) (ap (λ (x : Verdict). x.number) (sym v) ∙ z))
    to (inr (inr (i, n, us, l, w, h, v))) z = absurd (not_zero n (stop_number_lem (take (suc i) (tokens s)) start n h) (ap (λ (x : Verdict). x.number) (sym v) ∙ z))

    from : Found (tokens s) (places_from s (suc (length s)) 0) (length s) start (checked s) → (f : File) → tokens s ≡ written_file f → (checked s).number ≡ 0
    from (inl (us, w, h, v)) f e = ap (λ (x : Verdict). x.number) v
    from (inr (inl (us, w, h, v))) f e =
        let z : on us ≡ on [] = sym w ∙ ap (λ (l : List Token). walk l start) e ∙ complete f in
        absurd (true≢false (ap may_end (sym (on_inj us [] z)) ∙ h))
    from (inr (inr (i, n, us, l, w, h, v))) f e = absurd (spoiled (take (suc i) (tokens s)) n h (begins_take (suc i) (tokens s) f e))

-- the token i spoils the text, or else the end does
abbrev pub Spoils : List ℕ → ℕ → Type 0
Spoils s i = ((i < length (tokens s)) × (Begins (take (suc i) (tokens s)) → ⊥)) ⊎ ((length (tokens s) ≤ i) × (((f : File) × Says s f) → ⊥))

take_all : (ts : List Token) → take (length ts) ts ≡ ts
take_all [] = refl
take_all (t ∷ ts) = ap (λ (l : List Token). t ∷ l) (take_all ts)

places_length : (s : List ℕ) (f at : ℕ) → length (places_from s f at) ≡ length (tokens_from s f at)
unfolding places_from tokens_from
places_length s zero at = refl
places_length s (suc f) at = go (eqb (kind_at s at) 0) (places_length s f (end_at s at))
  where
    go : (b : Bool) → length (places_from s f (end_at s at)) ≡ length (tokens_from s f (end_at s at)) →
        length {A = ℕ} (elim b [ true ↦ [] | false ↦ place_at s at ∷ places_from s f (end_at s at) ]) ≡ length {A = Token} (elim b [ true ↦ [] | false ↦ token_at s at ∷ tokens_from s f (end_at s at) ])
    go true e = refl
    go false e = ap suc e

end_place : (s : List ℕ) → token_place s (length (tokens s)) ≡ length s
unfolding token_place tokens
end_place s =
    let e : length (places_from s (suc (length s)) 0) ≡ length (tokens_from s (suc (length s)) 0) = places_length s (suc (length s)) 0 in
    get_or-eq_default (places_from s (suc (length s)) 0) (length s) {n = length (tokens_from s (suc (length s)) 0)} (omega arith)

pub refused_means : (s : List ℕ) → ((checked s).number ≡ 0 → ⊥) → (i : ℕ) × ((checked s).place ≡ token_place s i) × Begins (take i (tokens s)) × Spoils s i
unfolding Says may_end token_place
refused_means s z = go (found s)
  where
    go : Found (tokens s) (places_from s (suc (length s)) 0) (length s) start (checked s) → (i : ℕ) × ((checked s).place ≡ token_place s i) × Begins (take i (tokens s)) × Spoils s i
    go (inl (us, w, h, v)) = absurd (z (ap (λ (x : Verdict). x.number) v))
    go (inr (inl (us, w, h, v))) = (
      length (tokens s),
      ap (λ (x : Verdict). x.place) v ∙ sym (end_place s),
      subst Begins (sym (take_all (tokens s))) (extends (tokens s) us w),
      inr (omega arith, λ p. let y : on us ≡ on [] = sym w ∙ ap (λ (l : List Token). walk l start) p.1 ∙ complete p.0 in true≢false (ap may_end (sym (on_inj us [] y)) ∙ h)),
    )
    go (inr (inr (i, n, us, l, w, h, v))) = (i, ap (λ (x : Verdict). x.place) v, extends (take i (tokens s)) us w, inl (l, spoiled (take (suc i) (tokens s)) n h))

take_stop : (ts : List Token) (a b : ℕ) (ss : List Slot) (n : ℕ) → a ≤ b → walk (take a ts) ss ≡ stop n → walk (take b ts) ss ≡ stop n
unfolding walk
take_stop ts zero b ss n h e = stop_on n ss (sym e)
take_stop [] (suc a) b ss n h e = stop_on n ss (sym e)
take_stop (t ∷ ts) (suc a) zero ss n h e = absurd (let z : ⊥ = omega arith in z)
take_stop (t ∷ ts) (suc a) (suc b) ss n h e = go (expect (kind t) ss) e (λ us. take_stop ts a b (inside (kind t) ++ us) n (omega arith))
  where
    go : (m : Move) → elim m [ stop j ↦ stop j | on us ↦ walk (take a ts) (inside (kind t) ++ us) ] ≡ stop n →
        ((us : List Slot) → walk (take a ts) (inside (kind t) ++ us) ≡ stop n → walk (take b ts) (inside (kind t) ++ us) ≡ stop n) →
        elim m [ stop j ↦ stop j | on us ↦ walk (take b ts) (inside (kind t) ++ us) ] ≡ stop n
    go (stop j) e f = e
    go (on us) e f = f us e

no_beginning : (ts : List Token) → (Begins ts → ⊥) → (n : ℕ) × (walk ts start ≡ stop n)
no_beginning ts f = go (walk ts start) refl
  where
    go : (m : Move) → walk ts start ≡ m → (n : ℕ) × (walk ts start ≡ stop n)
    go (stop n) e = (n, e)
    go (on us) e = absurd (f (extends ts us e))

pub first_spoiled : (s : List ℕ) (i : ℕ) → i < length (tokens s) → Begins (take i (tokens s)) → (Begins (take (suc i) (tokens s)) → ⊥) →
    ((checked s).place ≡ token_place s i) × (((checked s).number ≡ 10) ⊎ ((checked s).number ≡ 11))
unfolding token_place
first_spoiled s i l b f = go (found s) (no_beginning (take (suc i) (tokens s)) f)
  where
    whole : (m : ℕ) → walk (take (suc i) (tokens s)) start ≡ stop m → walk (tokens s) start ≡ stop m
    whole m e = ap (λ (l : List Token). walk l start) (sym (take_all (tokens s))) ∙ take_stop (tokens s) (suc i) (length (tokens s)) start m l e

    same : (j n : ℕ) → i ≡ j → checked s ≡ verdict n (get_or (places_from s (suc (length s)) 0) j (length s)) → (n ≡ 10) ⊎ (n ≡ 11) →
        ((checked s).place ≡ get_or (places_from s (suc (length s)) 0) i (length s)) × (((checked s).number ≡ 10) ⊎ ((checked s).number ≡ 11))
    same j n e v t = (
      ap (λ (x : Verdict). x.place) v ∙ ap (λ (k : ℕ). get_or (places_from s (suc (length s)) 0) k (length s)) (sym e),
      subst (λ (k : ℕ). (k ≡ 10) ⊎ (k ≡ 11)) (ap (λ (x : Verdict). x.number) (sym v)) t,
    )

    go : Found (tokens s) (places_from s (suc (length s)) 0) (length s) start (checked s) → (m : ℕ) × (walk (take (suc i) (tokens s)) start ≡ stop m) →
        ((checked s).place ≡ get_or (places_from s (suc (length s)) 0) i (length s)) × (((checked s).number ≡ 10) ⊎ ((checked s).number ≡ 11))
    go (inl (us, w, h, v)) (m, e) = stop_on m us (sym (whole m e) ∙ w)
    go (inr (inl (us, w, h, v))) (m, e) = stop_on m us (sym (whole m e) ∙ w)
    go (inr (inr (j, n, us, k, w, h, v))) (m, e) = order (dec_lt i j) (dec_lt j i)
      where
        order : Dec (i < j) → Dec (j < i) → ((checked s).place ≡ get_or (places_from s (suc (length s)) 0) i (length s)) × (((checked s).number ≡ 10) ⊎ ((checked s).number ≡ 11))
        order (yes p) q = stop_on m us (sym (take_stop (tokens s) (suc i) j start m p e) ∙ w)
        order (no p) (yes q) = absurd (spoiled (take i (tokens s)) n (take_stop (tokens s) (suc j) i start n q h) b)
        order (no p) (no q) = same j n (omega arith) v (stop_number_lem (take (suc j) (tokens s)) start n h)

----------------------------------------------------------------------------------------------------
-- What 11 is said of

takes_eleven : (b : Bool) (k j : ℕ) (ss : List Slot) → ((j ≡ 11) → T (eqb k 16)) → takes b j ss ≡ stop 11 → T (eqb k 16)
unfolding takes
takes_eleven true k j ss f e = stop_on 11 ss (sym e)
takes_eleven false k j ss f e = f (stop_inj j 11 e)

ten_not : {A : Type 0} → ◌≡◌ {A = ℕ} 10 11 → A
ten_not e = absurd (let z : ⊥ = omega arith in z)

unlisted_eleven : (k : ℕ) → unlisted k ≡ 11 → T (eqb k 16)
unfolding unlisted
unlisted_eleven k = go (eqb k 16)
  where
    go : (b : Bool) → ◌≡◌ {A = ℕ} (elim b [ true ↦ 11 | false ↦ 10 ]) 11 → T b
    go true e = tt
    go false e = ten_not e

-- a word before `(` that is not listed, or a third operand of EquivalentClasses
abbrev Eleven : ℕ → List Slot → Type 0
Eleven k ss = T (eqb k 16) ⊎ (T (begins_class k) × T (starts_with no_third_s ss))

-- behind a slot that may be left empty no third operand is asked for
not_behind : (u : Slot) (k : ℕ) (ss : List Slot) → (T (starts_with u ss) → T (starts_with no_third_s ss) → ⊥) → T (starts_with u ss) → Eleven k ss → T (eqb k 16)
not_behind u k ss f h (inl e) = e
not_behind u k ss f h (inr e) = absurd (f h e.1)

apart : (u : Slot) → (T (starts_with no_third_s (u ∷ [])) → ⊥) → (ss : List Slot) → T (starts_with u ss) → T (starts_with no_third_s ss) → ⊥
apart u f ss h k =
    let p = starts_means u ss h in
    f (subst (λ (l : List Slot). T (starts_with no_third_s l)) p.1 k)

or_eleven : (b : Bool) (k : ℕ) (ss : List Slot) (m : Move) → (m ≡ stop 11 → T (eqb k 16)) → takes_or b ss m ≡ stop 11 → T (eqb k 16)
unfolding takes_or
or_eleven true k ss m f e = stop_on 11 ss (sym e)
or_eleven false k ss m f e = f e

more_eleven : (b : Bool) (k : ℕ) (ss : List Slot) (m : Move) → (m ≡ stop 11 → T (eqb k 16)) → takes_more k b ss m ≡ stop 11 → T (eqb k 16)
unfolding takes_more
more_eleven true k ss m f e = stop_on 11 ss (sym e)
more_eleven false k ss m f e = go (eqb k 16) refl e
  where
    go : (b : Bool) → eqb k 16 ≡ b → elim b [ true ↦ stop 11 | false ↦ m ] ≡ stop 11 → T (eqb k 16)
    go true d e = subst T (sym d) tt
    go false d e = f e

pub eleven_means : (k : ℕ) (ss : List Slot) → T (fit ss) → expect k ss ≡ stop 11 → T (eqb k 16) ⊎ (T (begins_class k) × T (starts_with no_third_s ss))
unfolding expect
eleven_means k [] h e = ten_not (stop_inj 10 11 e)
eleven_means k (left_s ∷ ss) h e = inl (takes_eleven (eqb k 1) k 10 ss ten_not e)
eleven_means k (right_s ∷ ss) h e = inl (takes_eleven (eqb k 2) k 10 ss ten_not e)
eleven_means k (equals_s ∷ ss) h e = inl (takes_eleven (eqb k 3) k 10 ss ten_not e)
eleven_means k (label_s ∷ ss) h e = inl (takes_eleven (eqb k 15) k 10 ss ten_not e)
eleven_means k (target_s ∷ ss) h e = inl (takes_eleven (eqb k 14) k 10 ss ten_not e)
eleven_means k (name_s ∷ ss) h e = inl (takes_eleven (is_name k) k 10 ss ten_not e)
eleven_means k (role_s ∷ ss) h e = inl (takes_eleven (is_name k) k (unlisted k) ss (unlisted_eleven k) e)
eleven_means k (entity_s ∷ ss) h e = inl (takes_eleven (eqb k 7 || eqb k 8) k (unlisted k) ss (unlisted_eleven k) e)
eleven_means k (ontology_s ∷ ss) h e = inl (takes_eleven (eqb k 5) k 10 ss ten_not e)
eleven_means k (class_s ∷ ss) h e = inl (takes_eleven (begins_class k) k (unlisted k) ss (unlisted_eleven k) e)
eleven_means k (classes_s ∷ ss) h e =
    inl (more_eleven (begins_class k) k (classes_s ∷ ss) (expect k ss)
    (λ d. not_behind right_s k ss (apart right_s (λ z. z) ss) (and_left (starts_with right_s ss) (fit ss) h) (eleven_means k ss (and_right (starts_with right_s ss) (fit ss) h) d)) e)
eleven_means k (no_third_s ∷ ss) h e = go (begins_class k || eqb k 16) refl e (eleven_means k ss (and_right (starts_with right_s ss) (fit ss) h))
  where
    go : (b : Bool) → (begins_class k || eqb k 16) ≡ b → elim b [ true ↦ stop 11 | false ↦ expect k ss ] ≡ stop 11 → (expect k ss ≡ stop 11 → Eleven k ss) → Eleven k (no_third_s ∷ ss)
    go true d e f = elim (or_cases (begins_class k) (eqb k 16) (subst T (sym d) tt)) [ inl c ↦ inr (c, tt) | inr c ↦ inl c ]
    go false d e f = inl (not_behind right_s k ss (apart right_s (λ z. z) ss) (and_left (starts_with right_s ss) (fit ss) h) (f e))
eleven_means k (head_s ∷ ss) h e =
    inl (or_eleven (is_name k) k (version_s ∷ ss) (expect k ss)
    (λ d. not_behind items_s k ss (apart items_s (λ z. z) ss) (and_left (starts_with items_s ss) (fit ss) h) (eleven_means k ss (and_right (starts_with items_s ss) (fit ss) h) d)) e)
eleven_means k (version_s ∷ ss) h e =
    inl (or_eleven (is_name k) k ss (expect k ss)
    (λ d. not_behind items_s k ss (apart items_s (λ z. z) ss) (and_left (starts_with items_s ss) (fit ss) h) (eleven_means k ss (and_right (starts_with items_s ss) (fit ss) h) d)) e)
eleven_means k (items_s ∷ ss) h e =
    inl (more_eleven (begins_item k) k (items_s ∷ ss) (expect k ss)
    (λ d. not_behind right_s k ss (apart right_s (λ z. z) ss) (and_left (starts_with right_s ss) (fit ss) h) (eleven_means k ss (and_right (starts_with right_s ss) (fit ss) h) d)) e)
eleven_means k (prefixes_s ∷ ss) h e =
    inl (or_eleven (eqb k 4) k (prefixes_s ∷ ss) (expect k ss)
    (λ d. not_behind ontology_s k ss (apart ontology_s (λ z. z) ss) (and_left (starts_with ontology_s ss) (fit ss) h) (eleven_means k ss (and_right (starts_with ontology_s ss) (fit ss) h) d)) e)

-- the token at which the machine stops, and what was still to come there
stop_at : (ts : List Token) (i : ℕ) (ss us : List Slot) (n : ℕ) (d : Token) → i < length ts → walk (take i ts) ss ≡ on us → walk (take (suc i) ts) ss ≡ stop n → expect (kind (get_or ts i d)) us ≡ stop n
unfolding walk
stop_at [] i ss us n d h e f = absurd (let z : ⊥ = omega arith in z)
stop_at (t ∷ ts) zero ss us n d h e f = go (expect (kind t) ss) refl f
  where
    go : (m : Move) → expect (kind t) ss ≡ m → elim m [ stop j ↦ stop j | on xs ↦ on (inside (kind t) ++ xs) ] ≡ stop n → expect (kind t) us ≡ stop n
    go (stop j) c f = ap (expect (kind t)) (sym (on_inj ss us e)) ∙ c ∙ f
    go (on xs) c f = stop_on n (inside (kind t) ++ xs) (sym f)
stop_at (t ∷ ts) (suc i) ss us n d h e f = go (expect (kind t) ss) e f (λ xs. stop_at ts i (inside (kind t) ++ xs) us n d (let z : i < length ts = omega arith in z))
  where
    go : (m : Move) → elim m [ stop j ↦ stop j | on xs ↦ walk (take i ts) (inside (kind t) ++ xs) ] ≡ on us → elim m [ stop j ↦ stop j | on xs ↦ walk (take (suc i) ts) (inside (kind t) ++ xs) ] ≡ stop n →
        ((xs : List Slot) → walk (take i ts) (inside (kind t) ++ xs) ≡ on us → walk (take (suc i) ts) (inside (kind t) ++ xs) ≡ stop n → expect (kind (get_or ts i d)) us ≡ stop n) → expect (kind (get_or ts i d)) us ≡ stop n
    go (stop j) e f g = stop_on j us e
    go (on xs) e f g = g xs e f

-- the slots us are still to come, and the token is not listed or a third operand
abbrev pub Unlisted : Token → List Slot → Type 0
Unlisted t us = T (eqb (kind t) 16) ⊎ (T (begins_class (kind t)) × T (starts_with no_third_s us))

pub eleven_text : (s : List ℕ) (d : Token) → (checked s).number ≡ 11 →
    (i : ℕ) × ((checked s).place ≡ token_place s i) × (us : List Slot) × (walk (take i (tokens s)) start ≡ on us) × Unlisted (get_or (tokens s) i d) us
unfolding token_place
eleven_text s d e = go (found s)
  where
    go : Found (tokens s) (places_from s (suc (length s)) 0) (length s) start (checked s) →
        (i : ℕ) × ((checked s).place ≡ get_or (places_from s (suc (length s)) 0) i (length s)) × (us : List Slot) × (walk (take i (tokens s)) start ≡ on us) × Unlisted (get_or (tokens s) i d) us
    go (inl (us, w, h, v)) = absurd (let z : 0 ≡ (checked s).number = ap (λ (x : Verdict). x.number) (sym v) in let y : ⊥ = omega arith in y)
    go (inr (inl (us, w, h, v))) = absurd (let z : 10 ≡ (checked s).number = ap (λ (x : Verdict). x.number) (sym v) in let y : ⊥ = omega arith in y)
    go (inr (inr (i, n, us, l, w, h, v))) =
        let z : n ≡ 11 = ap (λ (x : Verdict). x.number) (sym v) ∙ e in (
          i,
          ap (λ (x : Verdict). x.place) v,
          us,
          w,
          eleven_means (kind (get_or (tokens s) i d)) us (fit_walk (take i (tokens s)) start us w tt) (stop_at (tokens s) i start us n d l w h ∙ ap stop z),
        )
