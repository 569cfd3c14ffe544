-- Laws of appending.
--
--   fitting_length == what fits is no longer than the room
--   fitting_none, fitting_all == no byte fits; all bytes fit
--   put_length, appended_length == a buffer keeps its length
--   appended_none  == the empty text is appended by doing nothing
--   appended_one   == one byte is appended by a store, where there is room
--   appended_full  == where there is no room nothing is written
--   appended_then  == a text and then another are appended as one
--   appended_as    == the text may be said in another way
--   appended_room  == where there is room the text stands there whole, and the rest of the buffer stays
--   appended_whole == the same at the start of the buffer
--   appended_unique == two results of appending one text are equal
use Rattle.std.specs.Prelude.{◌≡◌, refl, set}
use Rattle.std.proofs.Math.Path.{sym, ap}
use Rattle.std.proofs.Common.{ap₂, subst, ◌∙◌, add-one, length-append, length-take, length-drop, drop_of_length-le, take_all, length-take-le, take_at, drop_at, drop-drop}
use mathlib.Core.List.{List, [], ◌∷◌, ◌++◌, append_assoc, append-nil}
use Prim.Native.Nat.{ℕ, zero, suc, ◌+◌, ◌-◌, ◌≤◌, ◌<◌}
use native.Mathlib.Omega.{arith}
use Rattle.std.proofs.Math.Decide.{dec_le}
use Rattle.std.proofs.Math.ListN.{length, take, drop, take-append-drop}
use Rattle.std.proofs.Math.Seq.{take-nil}
use Rattle.std.proofs.lemmas.List.{set_split}
use Rattle.text.specs.Append.{fitting, put, Appended}

-- how much fits, and what is left for a second text
pub fitting_length : (b : List ℕ) (at : ℕ) (t : List ℕ) → length (fitting b at t) ≤ length b - at
unfolding fitting
fitting_length b at t = simp length-take (omega arith)

pub fitting_none : (b : List ℕ) (at : ℕ) (t : List ℕ) → length b ≤ at → fitting b at t ≡ []
unfolding fitting
fitting_none b at t h = ap (λ (n : ℕ). take n t) (let z : length b - at ≡ 0 = omega arith in z)

pub fitting_all : (b : List ℕ) (at : ℕ) (t : List ℕ) → at + length t ≤ length b → fitting b at t ≡ t
unfolding fitting
fitting_all b at t h = take_all (length b - at) t (omega arith)

take_append : (n : ℕ) (s t : List ℕ) → take n (s ++ t) ≡ take n s ++ take (n - length (take n s)) t
take_append zero s t = refl
take_append (suc n) [] t = ap (λ (k : ℕ). take k t) (let z : suc n ≡ suc n - 0 = omega arith in z)
take_append (suc n) (x ∷ s) t = ap (λ (l : List ℕ). x ∷ l) (take_append n s t ∙ ap (λ (k : ℕ). take n s ++ take k t) (let z : n - length (take n s) ≡ suc n - suc (length (take n s)) = omega arith in z))

-- the buffer is full: nothing changes
put_none : (b : List ℕ) (at : ℕ) (t : List ℕ) → length b ≤ at → put b at t ≡ b
unfolding put
put_none b at t h =
    rw (fitting_none b at t h) (ap (λ (l : List ℕ). take at b ++ l) (drop_of_length-le b (let z : length b ≤ at + 0 = omega arith in z)) ∙ append-nil (take at b) ∙ take_all at b h)

-- the bytes before the text with those of the text
head_length_lem : (b : List ℕ) (at : ℕ) (t : List ℕ) → at ≤ length b → length (take at b ++ fitting b at t) ≡ at + length (fitting b at t)
head_length_lem b at t h = simp length-append (ap (λ (k : ℕ). k + length (fitting b at t)) (length-take-le at b h))

-- what stands before and behind the end of the text
put_take : (b : List ℕ) (at : ℕ) (t : List ℕ) → at ≤ length b → take (at + length (fitting b at t)) (put b at t) ≡ take at b ++ fitting b at t
unfolding put
put_take b at t h = rw (sym (append_assoc (take at b) (fitting b at t) (drop (at + length (fitting b at t)) b))) (take_at (take at b ++ fitting b at t) _ _ (head_length_lem b at t h))

put_drop : (b : List ℕ) (at : ℕ) (t : List ℕ) → at ≤ length b → drop (at + length (fitting b at t)) (put b at t) ≡ drop (at + length (fitting b at t)) b
unfolding put
put_drop b at t h = rw (sym (append_assoc (take at b) (fitting b at t) (drop (at + length (fitting b at t)) b))) (drop_at (take at b ++ fitting b at t) _ _ (head_length_lem b at t h))

pub put_length : (b : List ℕ) (at : ℕ) (t : List ℕ) → length (put b at t) ≡ length b
unfolding put
put_length b at t = go (dec_le at (length b))
  where
    go : Dec (at ≤ length b) → length (put b at t) ≡ length b
    go (yes h) = simp (length-append, length-drop, length-take) (omega (arith, fitting_length b at t))
    go (no n) = ap length (put_none b at t (omega arith))

pub appended_length : {b t a : List ℕ} {at r : ℕ} → Appended b at t a r → length a ≡ length b
appended_length {b} {t} {a} {at} h = ap length h.bytes ∙ put_length b at t

pub appended_as : {b s t a : List ℕ} {at r : ℕ} → Appended b at s a r → s ≡ t → Appended b at t a r
appended_as {b} {s} {t} {a} {at} {r} h e = subst (λ (x : List ℕ). Appended b at x a r) e h

module _ (b : List ℕ) (at : ℕ) where
  pub appended_none : Appended b at [] b at
  unfolding fitting put
  appended_none = record {
    bytes = sym (ap (λ (f : List ℕ). take at b ++ (f ++ drop (at + length f) b)) (take-nil (length b - at)) ∙ ap (λ (k : ℕ). take at b ++ drop k b) (let z : at + 0 ≡ at = omega arith in z) ∙ take-append-drop at b);
    end = rw take-nil (omega arith);
  }

  pub appended_full : (t : List ℕ) → length b ≤ at → Appended b at t b at
  appended_full t h = record { bytes = sym (put_none b at t h); end = rw (fitting_none b at t h) (omega arith) }

  pub appended_one : (x : ℕ) → at < length b → Appended b at (x ∷ []) (set b at x) (at + 1)
  unfolding put
  appended_one x h = record { bytes = rw (fitting_all b at (x ∷ []) (omega arith), add-one) (set_split b at x h); end = rw (fitting_all b at (x ∷ []) (omega arith)) }

  module _ (s t : List ℕ) where
    fitting_then : (m : List ℕ) (r : ℕ) → length m ≡ length b → r ≡ at + length (fitting b at s) → fitting b at (s ++ t) ≡ fitting b at s ++ fitting m r t
    unfolding fitting
    fitting_then m r e q = take_append (length b - at) s t ∙ ap (λ (k : ℕ). take (length b - at) s ++ take k t) (let z : length b - at - length (take (length b - at) s) ≡ length m - r = omega arith in z)

    put_then : put (put b at s) (at + length (fitting b at s)) t ≡ put b at (s ++ t)
    unfolding put
    put_then = go (dec_le at (length b))
      where
        F : List ℕ
        F = fitting b at s

        G : List ℕ
        G = fitting (put b at s) (at + length F) t

        both : fitting b at (s ++ t) ≡ F ++ G
        both = fitting_then (put b at s) (at + length F) (put_length b at s) refl

        ends : at + length F + length G ≡ at + length (fitting b at (s ++ t))
        ends = let e : length (fitting b at (s ++ t)) ≡ length F + length G = ap length both ∙ length-append F G in omega arith

        go : Dec (at ≤ length b) → put (put b at s) (at + length F) t ≡ put b at (s ++ t)
        go (yes h) =
            ap₂ (λ (x y : List ℕ). x ++ (G ++ y)) (put_take b at s h) (sym (drop-drop (length G) (at + length F) (put b at s)) ∙ ap (drop (length G)) (put_drop b at s h) ∙ drop-drop (length G) (at + length F) b)
            ∙ append_assoc (take at b) F _
            ∙ ap (λ (x : List ℕ). take at b ++ x) (sym (append_assoc F G _))
            ∙ ap₂ (λ (x : List ℕ) (k : ℕ). take at b ++ (x ++ drop k b)) (sym both) ends
        go (no n) =
            let l : length b ≤ at = omega arith in
            let e : at + length F ≡ at = ap (λ (x : List ℕ). at + length x) (fitting_none b at s l) ∙ (let z : at + 0 ≡ at = omega arith in z) in
            ap₂ (λ (x : List ℕ) (i : ℕ). put x i t) (put_none b at s l) e ∙ put_none b at t l ∙ sym (put_none b at (s ++ t) l)

pub appended_then : {b s t m a : List ℕ} {at q r : ℕ} → Appended b at s m q → Appended m q t a r → Appended b at (s ++ t) a r
appended_then {b} {s} {t} {m} {a} {at} {q} {r} h k = record {
  bytes = k.bytes ∙ ap₂ (λ (x : List ℕ) (i : ℕ). put x i t) h.bytes h.end ∙ put_then b at s t;
  end =
      let e : length (fitting b at (s ++ t)) ≡ length (fitting b at s) + length (fitting m q t) = ap length (fitting_then b at s t m q (appended_length h) h.end) ∙ length-append (fitting b at s) (fitting m q t) in
      omega (arith, h.end, k.end);
}

pub appended_room : {b t a : List ℕ} {at r : ℕ} → Appended b at t a r → at + length t ≤ length b
    → (r ≡ at + length t) × (take r a ≡ take at b ++ t) × (drop r a ≡ drop r b)
appended_room {b} {t} {a} {at} {r} h room =
    let f : fitting b at t ≡ t = fitting_all b at t room in
    let e : r ≡ at + length t = h.end ∙ ap (λ (x : List ℕ). at + length x) f in (
      e,
      ap₂ (λ (i : ℕ) (x : List ℕ). take i x) h.end h.bytes ∙ put_take b at t (omega arith) ∙ ap (λ (x : List ℕ). take at b ++ x) f,
      ap₂ (λ (i : ℕ) (x : List ℕ). drop i x) h.end h.bytes ∙ put_drop b at t (omega arith) ∙ ap (λ (i : ℕ). drop i b) (sym h.end),
    )

pub appended_whole : {b t a : List ℕ} {r : ℕ} → Appended b 0 t a r → length t ≤ length b → (r ≤ length a) × (r ≡ length (take r a)) × (take r a ≡ t)
appended_whole {b} {t} {a} {r} h room =
    let x : (r ≡ 0 + length t) × (take r a ≡ t) × (drop r a ≡ drop r b) = appended_room h (omega arith) in
    let e : r ≡ length t = omega (arith, x.0) in
    let w : take r a ≡ t = x.1 in
    (omega (arith, appended_length h), e ∙ sym (ap length w), w)

pub appended_unique : {b t a a' : List ℕ} {at r r' : ℕ} → Appended b at t a r → Appended b at t a' r' → (a ≡ a') × (r ≡ r')
appended_unique h k = (h.bytes ∙ sym k.bytes, h.end ∙ sym k.end)
