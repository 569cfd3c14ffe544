-- Laws of tokens: where they stand, and that reading goes on.
--
--   drop_cons                     == what is left from a byte on begins with it
--   blank_le, run_length_le, up_to_close_le, size_le == none is longer than what is left
--   size_pos                      == a token has a byte
--   kind_range                    == its kind is from 1 to 17
--   place_after, place_le, end_after, end_le == a token stands in the text, after the byte it is sought from
--   at_the_end                    == no kind means no byte
--   progress                      == the end of a token is further on
--   more                          == where a token is, there are bytes
use Rattle.std.specs.Prelude.{◌≡◌, refl, Bool, true, false, List, [], ◌∷◌, ℕ, zero, suc, ◌+◌, ◌-◌, ◌≤◌, ◌<◌, T, eqb, ltb, length, get_or, take, drop}
use Rattle.std.proofs.Common.{sym, ap, subst, ◌∙◌, arith, le_of_suc-le-suc, not-suc-le-zero, ltb→lt, drop_of_length-le, length-drop}
use Rattle.std.proofs.Math.Decide.{dec_lt}
use Rattle.el.specs.Test.{every_of}
use Rattle.el.specs.TestLaws.{and_left, and_right}
use Rattle.owl.specs.Once.{is_among, place}
use Rattle.owl.specs.OnceLaws.{place_lt}
use Rattle.owl.specs.Naming.{same_bytes}
use Rattle.owl.specs.Token.{byte_class, between, blank, run_length, shape, keywords, word_kind, run_kind, up_to_close, opens_after, full_kind, full_size, mark_kinds, kind_of, size_of, place_at, kind_at, end_at}

pub drop_cons : (s : List ℕ) (i : ℕ) → i < length s → drop i s ≡ get_or s i 0 ∷ drop (i + 1) s
drop_cons [] i h = absurd (not-suc-le-zero h)
drop_cons (b ∷ s) zero h = refl
drop_cons (b ∷ s) (suc i) h =
    drop_cons s i (le_of_suc-le-suc h)
    ∙ ap (λ (k : ℕ). get_or s i 0 ∷ drop k (b ∷ s)) (let e : suc (i + 1) ≡ suc i + 1 = omega arith in e)

----------------------------------------------------------------------------------------------------
-- Lengths

pub blank_le : (c : ℕ) (l : List ℕ) → blank c l ≤ length l
unfolding blank
blank_le c [] = omega arith
blank_le c (b ∷ l) = go (eqb (between c b) 2) (blank_le (between c b) l)
  where
    go : (t : Bool) → blank (between c b) l ≤ length l → elim t [ true ↦ 0 | false ↦ suc (blank (between c b) l) ] ≤ suc (length l)
    go true h = omega arith
    go false h = omega arith

pub run_length_le : (l : List ℕ) → run_length l ≤ length l
unfolding run_length
run_length_le [] = omega arith
run_length_le (b ∷ l) = go (ltb (byte_class b) 5) (run_length_le l)
  where
    go : (t : Bool) → run_length l ≤ length l → elim t [ true ↦ suc (run_length l) | false ↦ 0 ] ≤ suc (length l)
    go true h = omega arith
    go false h = omega arith

pub up_to_close_le : (l : List ℕ) → up_to_close l ≤ length l
unfolding up_to_close
up_to_close_le [] = omega arith
up_to_close_le (b ∷ l) = go (eqb b 62) (up_to_close_le l)
  where
    go : (t : Bool) → up_to_close l ≤ length l → elim t [ true ↦ 0 | false ↦ suc (up_to_close l) ] ≤ suc (length l)
    go true h = omega arith
    go false h = omega arith

full_size_lem : (l : List ℕ) → (0 < full_size l) × (full_size l ≤ suc (length l))
unfolding full_size
full_size_lem l = go (ltb (up_to_close l) (length l)) refl
  where
    go : (t : Bool) → ltb (up_to_close l) (length l) ≡ t →
        (0 < elim t [ true ↦ up_to_close l + 2 | false ↦ 1 ]) × (elim t [ true ↦ up_to_close l + 2 | false ↦ 1 ] ≤ suc (length l))
    go true e = let h : up_to_close l < length l = ltb→lt (up_to_close l) (length l) (subst T (sym e) tt) in (omega arith, omega arith)
    go false e = (omega arith, omega arith)

pub run_more : (b : ℕ) (l : List ℕ) → ltb (byte_class b) 5 ≡ true → run_length (b ∷ l) ≡ suc (run_length l)
unfolding run_length
run_more b l e = ap (λ (t : Bool). elim t [ true ↦ suc (run_length l) | false ↦ 0 ]) e

sizes : (b : ℕ) (l : List ℕ) → (0 < size_of (b ∷ l)) × (size_of (b ∷ l) ≤ suc (length l))
unfolding size_of
sizes b l = go (ltb (byte_class b) 5) (eqb (byte_class b) 11) refl (full_size_lem l) (run_length_le l)
  where
    go : (t u : Bool) → ltb (byte_class b) 5 ≡ t → (0 < full_size l) × (full_size l ≤ suc (length l)) → run_length l ≤ length l →
        (0 < elim t [ true ↦ run_length (b ∷ l) | false ↦ elim u [ true ↦ full_size l | false ↦ 1 ] ])
        × (elim t [ true ↦ run_length (b ∷ l) | false ↦ elim u [ true ↦ full_size l | false ↦ 1 ] ] ≤ suc (length l))
    go true u e h k = let r : run_length (b ∷ l) ≡ suc (run_length l) = run_more b l e in (omega arith, omega arith)
    go false true e h k = h
    go false false e h k = (omega arith, omega arith)

pub size_pos : (b : ℕ) (l : List ℕ) → 0 < size_of (b ∷ l)
size_pos b l = (sizes b l).0

pub size_le : (l : List ℕ) → size_of l ≤ length l
unfolding size_of
size_le [] = omega arith
size_le (b ∷ l) = (sizes b l).1

----------------------------------------------------------------------------------------------------
-- Kinds

abbrev Range : ℕ → Type 0
Range k = (0 < k) × (k < 18)

word_range : (w : List ℕ) (o : Bool) → Range (word_kind w o)
unfolding word_kind keywords
word_range w o = go (is_among same_bytes w keywords) o refl
  where
    go : (t o : Bool) → is_among same_bytes w keywords ≡ t → Range (elim t [ true ↦ 4 + place same_bytes w keywords | false ↦ elim o [ true ↦ 16 | false ↦ 17 ] ])
    go true o e = let h : place same_bytes w keywords < 9 = place_lt same_bytes w keywords (subst T (sym e) tt) in (omega arith, omega arith)
    go false true e = (omega arith, omega arith)
    go false false e = (omega arith, omega arith)

run_range : (w : List ℕ) (o : Bool) → Range (run_kind w o)
unfolding run_kind
run_range w o = go (eqb (shape 0 w) 3) (eqb (shape 0 w) 4) (eqb (shape 0 w) 5) (word_range w o)
  where
    go : (a b c : Bool) → Range (word_kind w o) → Range (elim a [ true ↦ 15 | false ↦ elim b [ true ↦ 13 | false ↦ elim c [ true ↦ 17 | false ↦ word_kind w o ] ] ])
    go true b c h = (omega arith, omega arith)
    go false true c h = (omega arith, omega arith)
    go false false true h = (omega arith, omega arith)
    go false false false h = h

full_range : (l : List ℕ) → Range (full_kind l)
unfolding full_kind
full_range l = go (ltb (up_to_close l) (length l))
  where
    go : (t : Bool) → Range (elim t [ true ↦ 14 | false ↦ 17 ])
    go true = (omega arith, omega arith)
    go false = (omega arith, omega arith)

-- each entry of the list, and what stands beyond it, passes
entry_passes : (p : ℕ → Bool) (l : List ℕ) (d k : ℕ) → T (p d) → T (every_of p l) → T (p (get_or l k d))
unfolding every_of
entry_passes p [] d k h t = h
entry_passes p (x ∷ l) d zero h t = and_left (p x) (every_of p l) t
entry_passes p (x ∷ l) d (suc k) h t = entry_passes p l d k h (and_right (p x) (every_of p l) t)

pub mark_range : (c : ℕ) → (0 < get_or mark_kinds c 17) × (get_or mark_kinds c 17 < 18)
unfolding mark_kinds every_of
mark_range c = (ltb→lt 0 (get_or mark_kinds c 17) (entry_passes (λ k. ltb 0 k) mark_kinds 17 c tt tt), ltb→lt (get_or mark_kinds c 17) 18 (entry_passes (λ k. ltb k 18) mark_kinds 17 c tt tt))

pub kind_range : (b : ℕ) (l : List ℕ) → (0 < kind_of (b ∷ l)) × (kind_of (b ∷ l) < 18)
unfolding kind_of
kind_range b l =
    go (ltb (byte_class b) 5) (eqb (byte_class b) 11)
    (run_range (take (run_length (b ∷ l)) (b ∷ l)) (opens_after (drop (run_length (b ∷ l)) (b ∷ l))))
    (full_range l) (mark_range (byte_class b))
  where
    go : (t u : Bool) → Range (run_kind (take (run_length (b ∷ l)) (b ∷ l)) (opens_after (drop (run_length (b ∷ l)) (b ∷ l)))) → Range (full_kind l) → Range (get_or mark_kinds (byte_class b) 17) →
        Range (elim t [ true ↦ run_kind (take (run_length (b ∷ l)) (b ∷ l)) (opens_after (drop (run_length (b ∷ l)) (b ∷ l))) | false ↦ elim u [ true ↦ full_kind l | false ↦ get_or mark_kinds (byte_class b) 17 ] ])
    go true u h k m = h
    go false true h k m = k
    go false false h k m = m

----------------------------------------------------------------------------------------------------
-- Places

pub place_after : (s : List ℕ) (at : ℕ) → at ≤ place_at s at
unfolding place_at
place_after s at = omega arith

pub place_le : (s : List ℕ) (at : ℕ) → at ≤ length s → place_at s at ≤ length s
unfolding place_at
place_le s at h =
    let b : blank 0 (drop at s) ≤ length (drop at s) = blank_le 0 (drop at s) in
    let l : length (drop at s) ≡ length s - at = length-drop at s in
    omega arith

pub end_after : (s : List ℕ) (at : ℕ) → at ≤ end_at s at
unfolding end_at
end_after s at = let l : at ≤ place_at s at = place_after s at in omega arith

pub end_le : (s : List ℕ) (at : ℕ) → at ≤ length s → end_at s at ≤ length s
unfolding end_at
end_le s at h =
    let p : place_at s at ≤ length s = place_le s at h in
    let b : size_of (drop (place_at s at) s) ≤ length (drop (place_at s at) s) = size_le (drop (place_at s at) s) in
    let l : length (drop (place_at s at) s) ≡ length s - place_at s at = length-drop (place_at s at) s in
    omega arith

pub at_the_end : (s : List ℕ) (at : ℕ) → length s ≤ place_at s at → kind_at s at ≡ 0
unfolding kind_at kind_of
at_the_end s at h = ap kind_of (drop_of_length-le s {i = place_at s at} h)

pub progress : (s : List ℕ) (at : ℕ) → at < length s → at < end_at s at
unfolding end_at
progress s at h = go (dec_lt (place_at s at) (length s))
  where
    go : Dec (place_at s at < length s) → at < place_at s at + size_of (drop (place_at s at) s)
    go (yes k) =
        let z : size_of (drop (place_at s at) s) ≡ size_of (get_or s (place_at s at) 0 ∷ drop (place_at s at + 1) s) = ap size_of (drop_cons s (place_at s at) k) in
        let y : 0 < size_of (get_or s (place_at s at) 0 ∷ drop (place_at s at + 1) s) = size_pos (get_or s (place_at s at) 0) (drop (place_at s at + 1) s) in
        let l : at ≤ place_at s at = place_after s at in
        omega arith
    go (no k) = let l : at ≤ place_at s at = place_after s at in omega arith

pub more : (s : List ℕ) (at : ℕ) → at ≤ length s → (kind_at s at ≡ 0 → ⊥) → at < length s
more s at h k = go (dec_lt at (length s))
  where
    go : Dec (at < length s) → at < length s
    go (yes l) = l
    go (no l) =
        let m : length s ≤ at = omega arith in
        let n : at ≤ place_at s at = place_after s at in
        let o : length s ≤ place_at s at = omega arith in
        absurd (k (at_the_end s at o))
