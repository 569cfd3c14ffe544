-- Laws of texts that are written through a window.
--
--   drop_both     == what is left of two texts where their first bytes are passed over
--   shown_length  == a buffer keeps its length
--   shown_as      == the text may be said in another way
--   shown_none    == the empty text is written by doing nothing
--   shown_full    == where there is no room nothing is written
--   shown_past    == a text that is passed over whole
--   shown_from    == a text of which a part is passed over
--   shown_then    == a text and then another are written as one
--   shown_window  == at the start of the buffer the window is written
--   windows_make  == THE WINDOWS OF A TEXT ONE AFTER THE OTHER MAKE THE TEXT
use Rattle.std.specs.Prelude.{◌≡◌, refl, List, [], ◌∷◌, ◌++◌, ℕ, zero, suc, ◌+◌, ◌*◌, ◌-◌, ◌≤◌, ◌<◌, length, take, drop}
use Rattle.std.proofs.Common.{sym, ap, ap₂, subst, ◌∙◌, arith, suc-mul, length-append, length-take, drop_of_length-le, take_all, take-add}
use Rattle.std.proofs.Math.Decide.{dec_lt}
use Rattle.std.proofs.Math.Seq.{drop-nil}
use Rattle.text.specs.Append.{fitting, put, Appended}
use Rattle.text.specs.AppendLaws.{appended_length, appended_as, appended_none, appended_full, appended_then, appended_unique}
use Rattle.spell.specs.Window.{Shown, window, windows}

pub drop_both : (k : ℕ) (s t : List ℕ) → drop k (s ++ t) ≡ drop k s ++ drop (k - length s) t
drop_both zero s t = ap (λ (n : ℕ). s ++ drop n t) (let z : 0 ≡ 0 - length s = omega arith in z)
drop_both (suc k) [] t = ap (λ (n : ℕ). drop n t) (let z : suc k ≡ suc k - 0 = omega arith in z)
drop_both (suc k) (x ∷ s) t = drop_both k s t ∙ ap (λ (n : ℕ). drop k s ++ drop n t) (let z : k - length s ≡ suc k - suc (length s) = omega arith in z)

pub shown_length : {b t a : List ℕ} {skip at left r : ℕ} → Shown b skip at t a left r → length a ≡ length b
shown_length h = appended_length h.written

pub shown_as : {b s t a : List ℕ} {skip at left r : ℕ} → Shown b skip at s a left r → s ≡ t → Shown b skip at t a left r
shown_as {b} {s} {t} {a} {skip} {at} {left} {r} h e = subst (λ (x : List ℕ). Shown b skip at x a left r) e h

pub shown_none : (b : List ℕ) (skip at : ℕ) → Shown b skip at [] b skip at
shown_none b skip at = record { written = appended_as (appended_none b at) (sym (drop-nil skip)); over = λ h. omega arith }

pub shown_full : (b : List ℕ) (skip at left : ℕ) (t : List ℕ) → length b ≤ at → Shown b skip at t b left at
shown_full b skip at left t h = record { written = appended_full b at (drop skip t) h; over = λ l. absurd (let z : ⊥ = omega arith in z) }

pub shown_past : (b : List ℕ) (skip at : ℕ) (t : List ℕ) → length t ≤ skip → Shown b skip at t b (skip - length t) at
shown_past b skip at t h = record { written = appended_as (appended_none b at) (sym (drop_of_length-le t {i = skip} h)); over = λ l. refl }

pub shown_from : {b a : List ℕ} {at r : ℕ} (skip : ℕ) (t : List ℕ) → skip ≤ length t → Appended b at (drop skip t) a r → Shown b skip at t a 0 r
shown_from skip t h x = record { written = x; over = λ l. omega arith }

pub shown_then : {b s t m a : List ℕ} {skip at k q left r : ℕ} → Shown b skip at s m k q → Shown m k q t a left r → Shown b skip at (s ++ t) a left r
shown_then {b} {s} {t} {m} {a} {skip} {at} {k} {q} {left} {r} h g = go (dec_lt q (length b))
  where
    same : length m ≡ length b
    same = shown_length h

    go : Dec (q < length b) → Shown b skip at (s ++ t) a left r
    go (yes l) =
        let e : k ≡ skip - length s = h.over l in record {
          written = appended_as (appended_then h.written (appended_as g.written (ap (λ (n : ℕ). drop n t) e))) (sym (drop_both skip s t));
          over = λ w. (let f : left ≡ k - length t = g.over (omega (arith, same)) in let n : length (s ++ t) ≡ length s + length t = length-append s t in omega arith);
        }
    go (no l) =
        let full : length m ≤ q = omega (arith, same) in
        let stays = appended_unique g.written (appended_full m q (drop k t) full) in
        let ended : r ≡ q = stays.1 in record {
          written =
              subst (λ (x : List ℕ). Appended b at (drop skip (s ++ t)) x r) (sym stays.0)
              (subst (λ (n : ℕ). Appended b at (drop skip (s ++ t)) m n) (sym ended)
              (appended_as (appended_then h.written (appended_full m q (drop (skip - length s) t) full)) (sym (drop_both skip s t))));
          over = λ w. absurd (let z : ⊥ = omega arith in z);
        }

-- at the start of the buffer
pub shown_window : {b t a : List ℕ} {skip left r : ℕ} → Shown b skip 0 t a left r
    → (r ≤ length a) × (r ≡ length (take r a)) × (take r a ≡ window skip (length b) t) × (r ≡ length (window skip (length b) t))
unfolding fitting put
shown_window {b} {t} {a} {skip} {left} {r} h =
    let w : List ℕ = take (length b - 0) (drop skip t) in
    let room : length b - 0 ≡ length b = omega arith in
    let end : r ≡ 0 + length w = h.written.end in
    let e : r ≡ length w = omega arith in
    let same : length a ≡ length b = shown_length h in
    let few : length w ≤ length b = simp length-take (omega arith) in
    let is : w ≡ window skip (length b) t = ap (λ (n : ℕ). take n (drop skip t)) room in
    let first : take r a ≡ w =
    ap₂ take e h.written.bytes ∙ front w (drop (0 + length w) b) in
    (omega arith, (e ∙ sym (ap length first)), first ∙ is, e ∙ ap length is)
  where
    front : (x y : List ℕ) → take (length x) (x ++ y) ≡ x
    front [] y = refl
    front (n ∷ x) y = ap (λ (l : List ℕ). n ∷ l) (front x y)

-- a window is followed by the next one
window_next : (from room : ℕ) (text : List ℕ) → take (from + room) text ≡ take from text ++ window from room text
window_next from room text = take-add from room text

windows_take : (n room : ℕ) (text : List ℕ) → windows n room text ≡ take (n * room) text
unfolding windows
windows_take zero room text = ap (λ (k : ℕ). take k text) (let z : 0 ≡ 0 * room = omega arith in z)
windows_take (suc n) room text =
    ap (λ (l : List ℕ). l ++ window (n * room) room text) (windows_take n room text)
    ∙ sym (window_next (n * room) room text)
    ∙ ap (λ (k : ℕ). take k text) (let z : n * room + room ≡ suc n * room = omega (arith, suc-mul n room) in z)

-- WINDOWS ONE AFTER THE OTHER MAKE THE TEXT
pub windows_make : (n room : ℕ) (text : List ℕ) → length text ≤ n * room → windows n room text ≡ text
windows_make n room text h = windows_take n room text ∙ take_all (n * room) text h
