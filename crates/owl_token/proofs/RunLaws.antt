-- Laws of the loops that read a text byte by byte, and of their tables.
--
--   value_by, tests_agree             == what one computed test says of a byte
--   plain_class, full_byte, between_.. == what the tests on a byte say
--   shape_keeps                       == the shape after a second plain byte
--   skip_start, skip_stop, skip_on, skip_end     == the loop over blanks and comments
--   Running                                      == the loop over a run: its end, and its shape so far
--   running_start, running_stop, running_on, running_plain, running_end == its turns
--   close_stop, close_on, close_end              == the loop up to `>`
--   word_long, word_on, word_off, word_short, word_end, word_stop == the loop over a run and a word
use Rattle.std.proofs.Common.{◌≡◌, refl, sym, ap, ap₂, subst, ◌∙◌, Bool, true, false, ◌&&◌, ◌||◌, not, List, [], ◌∷◌, ℕ, zero, suc, ◌+◌, ◌-◌, ◌*◌, ◌≤◌, ◌<◌, arith, T, eqb, eqb→eq, leb, le→leb, ltb, length, get_or, take, drop, length-drop, get_or-drop, drop_of_length-le}
use lib.Seq.{take_all}
use Rattle.std.proofs.lemmas.List.Sums.{prefix_len-le-length, prefix_len_passes}
use Rattle.std.specs.List.{prefix_len}
use lib.Dec.{not_T}
use borrow.Author.Tests.{eq-eqb, ne_eqb, lt-ltb}
use Rattle.el.specs.Test.{all_below}
use Rattle.el.specs.TestLaws.{is_true, and_make, all_below_at}
use Rattle.owl.specs.Naming.{same_bytes}
use Rattle.owl.specs.Token.{is_plain, byte_class, betweens, between, blank, run_length, shapes, shaped, shape, up_to_close, place_at}
use Rattle.owl_token.specs.Keyword.{ends_line, run_of}
use Rattle.owl.specs.TokenLaws.{drop_cons, run_more}

----------------------------------------------------------------------------------------------------
-- Tables

-- one computed test says of every byte that passes p that it passes q
by_byte : (p q : ℕ → Bool) → T (all_below 256 (λ k. not (p k) || q k)) → (b : ℕ) → b < 256 → T (p b) → T (q b)
by_byte p q t b h k = go (p b) k (all_below_at 256 b (λ k. not (p k) || q k) t h)
  where
    go : (r : Bool) → T r → T (not r || q b) → T (q b)
    go true u w = w
    go false u w = absurd u

-- the value of f at such a byte, and at one byte
value_by : (f : ℕ → ℕ) (p : ℕ → Bool) (v : ℕ) → T (all_below 256 (λ k. not (p k) || eqb (f k) v)) → (b : ℕ) → b < 256 → T (p b) → v ≡ f b
value_by f p v t b h k = sym (eqb→eq (f b) v (by_byte p (λ k. eqb (f k) v) t b h k))

-- two tests agree on the bytes from lo to hi
pub tests_agree : (lo hi : ℕ) (p q : ℕ → Bool) → T (all_below 256 (λ k. not (leb lo k && leb k hi) || elim (p k) [ true ↦ q k | false ↦ not (q k) ])) →
    (b : ℕ) → lo ≤ b → b ≤ hi → b < 256 → p b ≡ q b
tests_agree lo hi p q t b l h k =
    agree (p b) (q b) (by_byte (λ k. leb lo k && leb k hi) (λ k. elim (p k) [ true ↦ q k | false ↦ not (q k) ]) t b k (and_make (leb lo b) (leb b hi) (le→leb lo b l) (le→leb b hi h)))
  where
    agree : (x y : Bool) → T (elim x [ true ↦ y | false ↦ not y ]) → x ≡ y
    agree true y u = sym (is_true y u)
    agree false true u = absurd u
    agree false false u = refl

is_not : (b n : ℕ) → (b ≡ n → ⊥) → T (not (eqb b n))
is_not b n h = not_T (eqb b n) (λ t. h (eqb→eq b n t))

-- none of the listed bytes
unfoldable pub none_of : List ℕ → ℕ → Bool
none_of [] b = true
none_of (n ∷ l) b = not (eqb b n) && none_of l b

abbrev pub NoneOf : List ℕ → ℕ → Type 0
NoneOf [] b = Unit {0}
NoneOf (n ∷ l) b = (b ≡ n → ⊥) × NoneOf l b

none_of_lem : (l : List ℕ) (b : ℕ) → NoneOf l b → T (none_of l b)
unfolding none_of
none_of_lem [] b h = tt
none_of_lem (n ∷ l) b h = and_make (not (eqb b n)) (none_of l b) (is_not b n h.0) (none_of_lem l b h.1)

pub plain_class : (b : ℕ) → is_plain b ≡ true → 0 ≡ byte_class b
unfolding byte_class
plain_class b e = rw (e, byte_class)

-- `<` alone begins a full name
pub full_byte : (b : ℕ) → b < 256 → eqb b 60 ≡ eqb (byte_class b) 11
unfolding byte_class is_plain all_below
full_byte b h = tests_agree 0 255 (λ k. eqb k 60) (λ k. eqb (byte_class k) 11) tt b (omega arith) (omega arith) h

-- a second plain byte does not change the shape
pub shape_keeps : (m n : ℕ) → m < 6 → n ≡ get_or shapes (m * 5 + 0) 5 → n ≡ get_or shapes (n * 5 + 0) 5
unfolding shapes all_below
shape_keeps m n h e =
    let after : ℕ → ℕ = λ k. get_or shapes (k * 5 + 0) 5 in
    e ∙ sym (eqb→eq (after (after m)) (after m) (all_below_at 6 m (λ m. eqb (after (after m)) (after m)) tt h)) ∙ ap after (sym e)

-- the same of what a byte does between tokens and in a comment
by_between : (p : ℕ → ℕ → Bool) (v : ℕ) → T (all_below 2 (λ c. all_below 256 (λ b. not (p c b) || eqb (between c b) v))) → (c b : ℕ) → c < 2 → b < 256 → T (p c b) → v ≡ between c b
by_between p v t c b h k u = value_by (between c) (p c) v (all_below_at 2 c (λ c. all_below 256 (λ b. not (p c b) || eqb (between c b) v)) t h) b k u

pub between_line : (c b : ℕ) → c < 2 → b < 256 → ends_line b ≡ true → 0 ≡ between c b
unfolding between betweens byte_class is_plain all_below ends_line
between_line c b h k e = by_between (λ c b. eqb b 10 || eqb b 13) 0 tt c b h k (subst T (sym e) tt)

pub between_comment : (c b : ℕ) → c < 2 → b < 256 → ends_line b ≡ false → c ≡ 1 → 1 ≡ between c b
unfolding between betweens byte_class is_plain all_below ends_line
between_comment c b h k e f =
    by_between (λ c b. not (eqb b 10 || eqb b 13) && eqb c 1) 1 tt c b h k
    (and_make (not (eqb b 10 || eqb b 13)) (eqb c 1) (subst (λ (t : Bool). T (not t)) (sym e) tt) (subst T (sym (eq-eqb c 1 f)) tt))

-- between tokens: one of these bytes, or none of them
pub between_is : (c b n v : ℕ) → c < 2 → (c ≡ 1 → ⊥) → between 0 n ≡ v → b ≡ n → v ≡ between c b
between_is c b n v h f e d = sym (ap₂ between (let z : c ≡ 0 = omega arith in z) d ∙ e)

pub between_token : (c b : ℕ) → c < 2 → b < 256 → ends_line b ≡ false → (c ≡ 1 → ⊥) → NoneOf (32 ∷ 9 ∷ 35 ∷ []) b → 2 ≡ between c b
unfolding between betweens byte_class is_plain all_below ends_line none_of
between_token c b h k e f n =
    by_between (λ c b. not (eqb b 10 || eqb b 13) && (eqb c 0 && none_of (32 ∷ 9 ∷ 35 ∷ []) b)) 2 tt c b h k
    (and_make (not (eqb b 10 || eqb b 13)) (eqb c 0 && none_of (32 ∷ 9 ∷ 35 ∷ []) b) (subst (λ (t : Bool). T (not t)) (sym e) tt)
    (and_make (eqb c 0) (none_of (32 ∷ 9 ∷ 35 ∷ []) b) (subst T (sym (eq-eqb c 0 (let z : c ≡ 0 = omega arith in z))) tt) (none_of_lem (32 ∷ 9 ∷ 35 ∷ []) b n)))

----------------------------------------------------------------------------------------------------
-- Blanks and comments

pub skip_start : (s : List ℕ) (at : ℕ) → place_at s at ≡ at + blank 0 (drop at s)
unfolding place_at
skip_start s at = refl

pub skip_stop : (s : List ℕ) (c i : ℕ) → i < length s → between c (get_or s i 0) ≡ 2 → i + blank c (drop i s) ≡ i
unfolding blank
skip_stop s c i h e = ap (λ (l : List ℕ). i + blank c l) (drop_cons s i h) ∙ rw (eq-eqb (between c (get_or s i 0)) 2 e, blank) (let z : i + 0 ≡ i = omega arith in z)

pub skip_on : (s : List ℕ) (c i : ℕ) → i < length s → (between c (get_or s i 0) ≡ 2 → ⊥) → i + blank c (drop i s) ≡ i + 1 + blank (between c (get_or s i 0)) (drop (i + 1) s)
unfolding blank
skip_on s c i h e =
    ap (λ (l : List ℕ). i + blank c l) (drop_cons s i h)
    ∙ rw (ne_eqb (between c (get_or s i 0)) 2 e, blank) (let z : (k : ℕ) → i + suc k ≡ i + 1 + k = λ k. omega arith in z (blank (between c (get_or s i 0)) (drop (i + 1) s)))

pub skip_end : (s : List ℕ) (c i : ℕ) → length s ≤ i → i + blank c (drop i s) ≡ i
unfolding blank
skip_end s c i h = ap (λ (l : List ℕ). i + blank c l) (drop_of_length-le s {i = i} h) ∙ (let z : i + 0 ≡ i = omega arith in z)

----------------------------------------------------------------------------------------------------
-- Runs

abbrev pub Running : List ℕ → ℕ → ℕ → ℕ → Type 0
Running s at i m =
    (at ≤ i) × (i ≤ length s) × (at + run_length (drop at s) ≡ i + run_length (drop i s))
    × (shape 0 (run_of (drop at s)) ≡ shape m (run_of (drop i s)))

pub running_start : (s : List ℕ) (at : ℕ) → at ≤ length s → Running s at at 0
running_start s at h = (omega arith, h, refl, refl)

-- a byte that is not of a run ends it
run_stops : (s : List ℕ) (i : ℕ) → i < length s → ltb (byte_class (get_or s i 0)) 5 ≡ false → run_length (drop i s) ≡ 0
unfolding run_length
run_stops s i h e = ap run_length (drop_cons s i h) ∙ ap (λ (t : Bool). elim t [ true ↦ suc (run_length (drop (i + 1) s)) | false ↦ 0 ]) e

run_over : (s : List ℕ) (i : ℕ) → length s ≤ i → run_length (drop i s) ≡ 0
unfolding run_length
run_over s i h = ap run_length (drop_of_length-le s {i = i} h)

ended : (s : List ℕ) (at i m : ℕ) → run_length (drop i s) ≡ 0 → Running s at i m →
    (i ≡ at + run_length (drop at s)) × (i ≤ length s) × (m ≡ shape 0 (run_of (drop at s)))
unfolding shape
ended s at i m e (a, b, f, g) = (
  (let z : at + run_length (drop at s) ≡ i + run_length (drop i s) = f in omega arith),
  b,
  sym (g ∙ ap (λ (n : ℕ). shape m (take n (drop i s))) e),
)

pub running_stop : (s : List ℕ) (at i m : ℕ) → i < length s → ltb (byte_class (get_or s i 0)) 5 ≡ false → Running s at i m →
    (i ≡ at + run_length (drop at s)) × (i ≤ length s) × (m ≡ shape 0 (run_of (drop at s)))
running_stop s at i m h e r = ended s at i m (run_stops s i h e) r

pub running_end : (s : List ℕ) (at i m : ℕ) → length s ≤ i → Running s at i m →
    (i ≡ at + run_length (drop at s)) × (i ≤ length s) × (m ≡ shape 0 (run_of (drop at s)))
running_end s at i m h r = ended s at i m (run_over s i h) r

pub running_on : (s : List ℕ) (at i m c n : ℕ) → i < length s → c ≡ byte_class (get_or s i 0) → c ≤ 4 → n ≡ get_or shapes (m * 5 + c) 5 → Running s at i m → Running s at (i + 1) n
unfolding shape shaped
running_on s at i m c n h e l d (a, b, f, g) =
    let byte : ℕ = get_or s i 0 in
    let rest : List ℕ = drop (i + 1) s in
    let small : byte_class byte < 5 = omega arith in
    let more : run_length (byte ∷ rest) ≡ suc (run_length rest) = run_more byte rest (lt-ltb (byte_class byte) 5 small) in
    let here : run_length (drop i s) ≡ suc (run_length rest) = ap run_length (drop_cons s i h) ∙ more in (
      omega arith,
      omega arith,
      (let z : at + run_length (drop at s) ≡ i + run_length (drop i s) = f in omega arith),
      g ∙ ap (λ (w : List ℕ). shape m (run_of w)) (drop_cons s i h) ∙ ap (λ (j : ℕ). shape m (take j (byte ∷ rest))) more
          ∙ ap (λ (j : ℕ). shape j (take (run_length rest) rest)) (ap (λ (j : ℕ). get_or shapes (m * 5 + j) 5) (sym e) ∙ sym d),
    )

-- so many plain bytes behind a plain one
pub running_plain : (s : List ℕ) (at i m n k : ℕ) → m < 6 → n ≡ get_or shapes (m * 5 + 0) 5 → k ≡ prefix_len is_plain (take (length s - i) (drop i s)) → Running s at i n → Running s at (i + k) n
running_plain s at i m n k h d e x = go k (subst (λ (j : ℕ). k ≤ j) whole (omega arith))
  where
    left : length (drop i s) ≡ length s - i
    left = length-drop i s

    whole : k ≡ prefix_len is_plain (drop i s)
    whole = e ∙ ap (prefix_len is_plain) (take_all (length s - i) (drop i s) (let l : length (drop i s) ≡ length s - i = left in omega arith))

    go : (j : ℕ) → j ≤ prefix_len is_plain (drop i s) → Running s at (i + j) n
    go zero l = subst (λ (j : ℕ). Running s at j n) (let z : i ≡ i + 0 = omega arith in z) x
    go (suc j) l =
        let short : prefix_len is_plain (drop i s) ≤ length (drop i s) = prefix_len-le-length is_plain (drop i s) in
        let rest : length (drop i s) ≡ length s - i = left in
        let plain : is_plain (get_or s (i + j) 0) ≡ true = ap is_plain (sym (get_or-drop i s j 0)) ∙ prefix_len_passes is_plain (drop i s) j 0 l in
        subst (λ (j : ℕ). Running s at j n) (let z : i + j + 1 ≡ i + suc j = omega arith in z)
        (running_on s at (i + j) n 0 n (omega arith) (plain_class (get_or s (i + j) 0) plain) (omega arith) (shape_keeps m n h d) (go j (omega arith)))

----------------------------------------------------------------------------------------------------
-- Up to `>`

pub close_stop : (s : List ℕ) (i : ℕ) → i < length s → get_or s i 0 ≡ 62 → i + up_to_close (drop i s) ≡ i
unfolding up_to_close
close_stop s i h e = ap (λ (l : List ℕ). i + up_to_close l) (drop_cons s i h) ∙ rw (eq-eqb (get_or s i 0) 62 e, up_to_close) (let z : i + 0 ≡ i = omega arith in z)

pub close_on : (s : List ℕ) (i : ℕ) → i < length s → (get_or s i 0 ≡ 62 → ⊥) → i + up_to_close (drop i s) ≡ i + 1 + up_to_close (drop (i + 1) s)
unfolding up_to_close
close_on s i h e =
    ap (λ (l : List ℕ). i + up_to_close l) (drop_cons s i h)
    ∙ rw (ne_eqb (get_or s i 0) 62 e, up_to_close) (let z : (k : ℕ) → i + suc k ≡ i + 1 + k = λ k. omega arith in z (up_to_close (drop (i + 1) s)))

pub close_end : (s : List ℕ) (i : ℕ) → length s ≤ i → i + up_to_close (drop i s) ≡ i
unfolding up_to_close
close_end s i h = ap (λ (l : List ℕ). i + up_to_close l) (drop_of_length-le s {i = i} h) ∙ (let z : i + 0 ≡ i = omega arith in z)

----------------------------------------------------------------------------------------------------
-- Whether a run is a word

pub word_on : (s w : List ℕ) (i : ℕ) → i < length s → i < length w → get_or s i 0 ≡ get_or w i 0 → ltb (byte_class (get_or w i 0)) 5 ≡ true →
    same_bytes (run_of (drop i s)) (drop i w) ≡ same_bytes (run_of (drop (i + 1) s)) (drop (i + 1) w)
unfolding same_bytes
word_on s w i h l e c =
    let b : ℕ = get_or s i 0 in
    let rest : List ℕ = drop (i + 1) s in
    ap₂ (λ (a : List ℕ) (k : List ℕ). same_bytes (run_of a) k) (drop_cons s i h) (drop_cons w i l)
    ∙ ap (λ (n : ℕ). same_bytes (take n (b ∷ rest)) (get_or w i 0 ∷ drop (i + 1) w)) (run_more b rest (ap (λ (k : ℕ). ltb (byte_class k) 5) e ∙ c))
    ∙ ap (λ (t : Bool). t && same_bytes (run_of rest) (drop (i + 1) w)) (eq-eqb b (get_or w i 0) e)

-- a word that is longer than what is left
shorter : (n : ℕ) (l : List ℕ) → length (take n l) ≤ length l
shorter zero l = omega arith
shorter (suc n) [] = omega arith
shorter (suc n) (x ∷ l) = let z : length (take n l) ≤ length l = shorter n l in omega arith

unlike : (a w : List ℕ) → length a < length w → same_bytes a w ≡ false
unfolding same_bytes
unlike a [] h = absurd (let z : ⊥ = omega arith in z)
unlike [] (y ∷ w) h = refl
unlike (x ∷ a) (y ∷ w) h = ap (λ (t : Bool). eqb x y && t) (unlike a w (omega arith)) ∙ off (eqb x y)
  where
    off : (t : Bool) → (t && false) ≡ false
    off true = refl
    off false = refl

pub word_long : (s w : List ℕ) → length s < length w → same_bytes (run_of s) w ≡ false
word_long s w h = unlike (run_of s) w (let z : length (run_of s) ≤ length s = shorter (run_length s) s in omega arith)

pub word_off : (s w : List ℕ) (i : ℕ) → i < length s → i < length w → (get_or s i 0 ≡ get_or w i 0 → ⊥) → same_bytes (run_of (drop i s)) (drop i w) ≡ false
unfolding same_bytes run_length
word_off s w i h l e =
    ap₂ (λ (a : List ℕ) (k : List ℕ). same_bytes (run_of a) k) (drop_cons s i h) (drop_cons w i l) ∙ go (ltb (byte_class (get_or s i 0)) 5)
  where
    go : (t : Bool) → same_bytes (take (elim t [ true ↦ suc (run_length (drop (i + 1) s)) | false ↦ 0 ]) (get_or s i 0 ∷ drop (i + 1) s)) (get_or w i 0 ∷ drop (i + 1) w) ≡ false
    go true = ap (λ (t : Bool). t && same_bytes (run_of (drop (i + 1) s)) (drop (i + 1) w)) (ne_eqb (get_or s i 0) (get_or w i 0) e)
    go false = refl

pub word_short : (s w : List ℕ) (i : ℕ) → length s ≤ i → i < length w → same_bytes (run_of (drop i s)) (drop i w) ≡ false
unfolding same_bytes run_length
word_short s w i h l = ap₂ (λ (a : List ℕ) (k : List ℕ). same_bytes (run_of a) k) (drop_of_length-le s {i = i} h) (drop_cons w i l)

pub word_end : (s w : List ℕ) (i : ℕ) → length s ≤ i → length w ≤ i → same_bytes (run_of (drop i s)) (drop i w) ≡ true
unfolding same_bytes run_length
word_end s w i h l = ap₂ (λ (a : List ℕ) (k : List ℕ). same_bytes (run_of a) k) (drop_of_length-le s {i = i} h) (drop_of_length-le w {i = i} l)

pub word_stop : (s w : List ℕ) (i : ℕ) → i < length s → length w ≤ i → same_bytes (run_of (drop i s)) (drop i w) ≡ not (ltb (byte_class (get_or s i 0)) 5)
unfolding same_bytes run_length
word_stop s w i h l =
    ap₂ (λ (a : List ℕ) (k : List ℕ). same_bytes (run_of a) k) (drop_cons s i h) (drop_of_length-le w {i = i} l) ∙ go (ltb (byte_class (get_or s i 0)) 5)
  where
    go : (t : Bool) → same_bytes (take (elim t [ true ↦ suc (run_length (drop (i + 1) s)) | false ↦ 0 ]) (get_or s i 0 ∷ drop (i + 1) s)) [] ≡ not t
    go true = refl
    go false = refl
