-- Laws that carry the writer and the reader of set numbers to the output's bytes.
--
--   set_bytes_are == the bytes of a set number, as the machine has them
--   all_turn      == a turn of the loop over the sets
--   number_below  == a number is below a power of 256
--   number_read   == a number in a word whose other bytes are 0
use Rattle.std.proofs.Common.{◌≡◌, refl, sym, ap, ap₂, ◌∙◌, List, [], ◌∷◌, ◌++◌, ℕ, zero, suc, ◌+◌, ◌*◌, ◌-◌, ◌/◌, ◌%◌, ◌^◌, ◌≤◌, ◌<◌, length, get_or, take, drop, replicate, arith, add-zero, pow-suc, append_assoc, length-append, length-take-le, length-drop, drop-drop}
use Rattle.std.proofs.lemmas.List.{take_more, get_or-take, get_or-drop, get_or_append_left, get_or-append_right}
use Rattle.std.proofs.Math.Nat.{div-div-eq-div-mul}
use Rattle.std.specs.Int.{to_le_bytes, from_le_bytes, bytes_low_first, byte_at, w64}
use borrow.Rule.Slice.PartMut.{put_mid}
use Rattle.bounds.specs.Bounds.{set_bytes}
use Rattle.output.specs.Written.{little_endian, number_at, widest, assignment_bytes, written_in, written}
use Rattle.output.specs.WrittenLaws.{bytes_more, written_start, written_behind}

byte_is : (i n : ℕ) → byte_at i n ≡ n / 256 ^ i % 256
byte_is zero n = ap (λ (m : ℕ). m % 256) (let z : n ≡ n / 1 = omega arith in z)
byte_is (suc i) n = refl

bytes_are : (i k n : ℕ) → bytes_low_first i k n ≡ little_endian k (n / 256 ^ i)
unfolding little_endian
bytes_are i zero n = refl
bytes_are i (suc k) n =
    ap₂ (λ (b : ℕ) (l : List ℕ). b ∷ l) (byte_is i n)
    (bytes_are (suc i) k n ∙ ap (little_endian k) (ap (λ (m : ℕ). n / m) (pow-suc 256 i) ∙ sym (div-div-eq-div-mul n (256 ^ i) 256)))

pub set_bytes_are : (x : ℕ) → to_le_bytes w64 x ≡ little_endian set_bytes x
set_bytes_are x = bytes_are 0 set_bytes x ∙ ap (little_endian set_bytes) (let z : x / 1 ≡ x = omega arith in z)

-- one set more, put in from its own offset on
written_more : (a out : List ℕ) (x : ℕ)
    → take (set_bytes * length a) (written a out) ++ (little_endian set_bytes x ++ drop set_bytes (drop (set_bytes * length a) (written a out))) ≡ written (a ++ (x ∷ [])) out
unfolding written_in
written_more a out x =
    ap₂ (λ (p q : List ℕ). p ++ (little_endian set_bytes x ++ drop set_bytes q)) (written_start set_bytes (length a) a out refl) (written_behind set_bytes (length a) a out refl)
    ∙ ap (λ (q : List ℕ). assignment_bytes set_bytes a ++ (little_endian set_bytes x ++ q)) (drop-drop set_bytes (set_bytes * length a) out)
    ∙ sym (append_assoc (assignment_bytes set_bytes a) (little_endian set_bytes x) _)
    ∙ ap₂ (λ (p : List ℕ) (k : ℕ). p ++ drop k out) (sym (bytes_more set_bytes a x)) (let n : length (a ++ (x ∷ [])) ≡ length a + 1 = length-append a (x ∷ []) in let z : set_bytes * length a + set_bytes ≡ set_bytes * length (a ++ (x ∷ [])) = omega arith in z)

-- the turn, with plain arguments: `last` is what the part holds now
pub all_turn : (i : ℕ) (sets out₀ out last : List ℕ) → i < length sets → out ≡ written (take i sets) out₀ → last ≡ to_le_bytes w64 (get_or sets i 0)
    → put_mid (set_bytes * i) (set_bytes * i + set_bytes - set_bytes * i) out last ≡ written (take (i + 1) sets) out₀
all_turn i sets out₀ out last k e f =
    let n : length (take i sets) ≡ i = length-take-le i sets (omega arith) in
    let w : set_bytes * i + set_bytes - set_bytes * i ≡ set_bytes = omega arith in
    ap₂ (λ (j : ℕ) (b : List ℕ). put_mid (set_bytes * i) j out b) w (f ∙ set_bytes_are (get_or sets i 0))
    ∙ ap₂ (λ (j : ℕ) (o : List ℕ). take (set_bytes * j) o ++ (little_endian set_bytes (get_or sets i 0) ++ drop set_bytes (drop (set_bytes * j) o))) (sym n) e
    ∙ written_more (take i sets) out₀ (get_or sets i 0)
    ∙ ap (λ (a : List ℕ). written a out₀) (sym (take_more sets i 0 k))

-- ── read ──

pub number_below : (k : ℕ) (s : List ℕ) (at : ℕ) → ((i : ℕ) → get_or s i 0 < 256) → number_at k s at < 256 ^ k
unfolding number_at
number_below zero s at small = omega arith
number_below (suc k) s at small = let p : 256 ^ suc k ≡ 256 ^ k * 256 = pow-suc 256 k in omega (arith, small at, number_below k s (suc at) small)

-- by its bytes alone
number_same : (k : ℕ) (s t : List ℕ) (a b : ℕ) → ((i : ℕ) → i < k → get_or s (a + i) 0 ≡ get_or t (b + i) 0) → number_at k s a ≡ number_at k t b
unfolding number_at
number_same zero s t a b same = refl
number_same (suc k) s t a b same =
    ap₂ (λ (x n : ℕ). x + 256 * n) (rw (add-zero a, add-zero b) at (same 0 (omega arith)))
    (number_same k s t (suc a) (suc b) (λ i h. let p : suc a + i ≡ a + suc i = omega arith in let q : suc b + i ≡ b + suc i = omega arith in ap (λ (j : ℕ). get_or s j 0) p ∙ same (suc i) (omega arith) ∙ ap (λ (j : ℕ). get_or t j 0) (sym q)))

-- bytes that are 0 behind a number add nothing
number_padded : (k j : ℕ) (s : List ℕ) (at : ℕ) → ((i : ℕ) → at + k ≤ i → get_or s i 0 ≡ 0) → number_at (k + j) s at ≡ number_at k s at
unfolding number_at
number_padded zero zero s at none = refl
number_padded zero (suc j) s at none =
    ap (λ (k : ℕ). number_at k s at) (let z : 0 + suc j ≡ suc (0 + j) = omega arith in z) ∙ (let z : get_or s at 0 + 256 * number_at (0 + j) s (suc at) ≡ 0 = omega (arith, none at (omega arith), number_padded zero j s (suc at) (λ i h. none i (omega arith))) in z)
number_padded (suc k) j s at none =
    ap (λ (m : ℕ). number_at m s at) (let z : suc k + j ≡ suc (k + j) = omega arith in z) ∙ ap (λ (n : ℕ). get_or s at 0 + 256 * n) (number_padded k j s (suc at) (λ i h. none i (omega arith)))

word_is : (s : List ℕ) → from_le_bytes w64 s ≡ number_at widest s 0
unfolding number_at
word_is s = omega arith

-- the word before the number is put in
abbrev pub zeros : List ℕ
zeros = replicate widest 0

zeros_none : (n i : ℕ) → get_or {A = ℕ} (replicate n 0) i 0 ≡ 0
zeros_none zero i = refl
zeros_none (suc n) zero = refl
zeros_none (suc n) (suc i) = zeros_none n i

pub number_read : (s : List ℕ) (at width : ℕ) → width ≤ widest → at + width ≤ length s → (part : List ℕ) → part ≡ take (at + width - at) (drop at s)
    → from_le_bytes w64 (part ++ drop width zeros) ≡ number_at width s at
number_read s at width fits within part e =
    let rest = drop width zeros in
    let n : length part ≡ width = ap length e ∙ length-take-le (at + width - at) (drop at s) (simp length-drop (omega arith)) ∙ (let z : at + width - at ≡ width = omega arith in z) in
    word_is (part ++ rest)
    ∙ ap (λ (k : ℕ). number_at k (part ++ rest) 0) (let z : widest ≡ width + (widest - width) = omega arith in z)
    ∙ number_padded width (widest - width) (part ++ rest) 0 (λ i h. get_or-append_right part rest width i 0 n (omega arith) ∙ get_or-drop width zeros (i - width) 0 ∙ zeros_none widest _)
    ∙ number_same width (part ++ rest) s 0 at (λ i h.
    ap (λ (j : ℕ). get_or (part ++ rest) j 0) (let z : 0 + i ≡ i = omega arith in z) ∙ get_or_append_left part rest 0 i (omega arith) ∙ ap (λ (l : List ℕ). get_or l i 0) e
    ∙ get_or-take (at + width - at) (drop at s) i 0 (omega arith) ∙ get_or-drop at s i 0)
