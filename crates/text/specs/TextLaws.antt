-- What the texts of numbers and bytes are like.
--
--   decimal_short, decimal_long == a number below 10, and one with more digits
--   decimal_from     == what holds of one digit, and of one digit more, holds of every number
--   decimal_is       == a number in decimal is its decimal digits
--   decimal_length   == a number below 10 ^ k has at most k digits
--   bytes_length, hex_length == two digits for a byte, `-` for none
use Rattle.std.specs.Prelude.{◌≡◌, refl, Bool, true, false, ◌&&◌, cond, List, [], ◌∷◌, ◌++◌, ℕ, zero, suc, ◌+◌, ◌*◌, ◌-◌, ◌/◌, ◌%◌, ◌^◌, ◌≤◌, ◌<◌, T, ltb, leb, length, get_or}
use Rattle.std.proofs.Common.{sym, ap, subst, ◌∙◌, arith, pow-suc, le→leb, length-append, lt-ltb, le-ltb, ltb-false}
use Rattle.std.proofs.Math.Decide.{dec_lt}
use Rattle.el.specs.Test.{every_of}
use Rattle.el.specs.TestLaws.{and_make, every_of_append}
use Rattle.text.specs.Decimal.{value_of, Decimal}
use Rattle.text.specs.Text.{digit, decimal_to, decimal, bytes_text, hex_text}

-- the digits of a number, by whether there is more than one
abbrev digits_by : ℕ → ℕ → Bool → List ℕ
digits_by k n b = elim b [ true ↦ digit n ∷ [] | false ↦ decimal_to k (n / 10) ++ (digit (n % 10) ∷ []) ]

decimal_by : (k n : ℕ) (b : Bool) → ltb n 10 ≡ b → decimal_to (suc k) n ≡ digits_by k n b
unfolding decimal_to
decimal_by k n b e = ap (digits_by k n) e

-- any number of digits that is enough gives the same
decimal_enough : (j k n : ℕ) → n < j → n < k → decimal_to j n ≡ decimal_to k n
decimal_enough zero k n h l = absurd (let z : ⊥ = omega arith in z)
decimal_enough (suc j) zero n h l = absurd (let z : ⊥ = omega arith in z)
decimal_enough (suc j) (suc k) n h l = go (ltb n 10) refl (decimal_enough j k (n / 10))
  where
    go : (b : Bool) → ltb n 10 ≡ b → (n / 10 < j → n / 10 < k → decimal_to j (n / 10) ≡ decimal_to k (n / 10)) → decimal_to (suc j) n ≡ decimal_to (suc k) n
    go true e f = decimal_by j n true e ∙ sym (decimal_by k n true e)
    go false e f =
        let m : 10 ≤ n = ltb-false n 10 e in
        decimal_by j n false e ∙ ap (λ (d : List ℕ). d ++ (digit (n % 10) ∷ [])) (f (omega arith) (omega arith)) ∙ sym (decimal_by k n false e)

pub decimal_short : (n : ℕ) → n < 10 → digit n ∷ [] ≡ decimal n
unfolding decimal
decimal_short n h = sym (decimal_by n n true (lt-ltb n 10 h))

pub decimal_long : (n : ℕ) → 10 ≤ n → decimal (n / 10) ++ (digit (n % 10) ∷ []) ≡ decimal n
unfolding decimal
decimal_long n h = ap (λ (d : List ℕ). d ++ (digit (n % 10) ∷ [])) (decimal_enough (suc (n / 10)) n (n / 10) (omega arith) (omega arith)) ∙ sym (decimal_by n n false (le-ltb n 10 h))

-- by the number of digits
pub decimal_from : (P : ℕ → List ℕ → Type 0) → ((n : ℕ) → n < 10 → P n (digit n ∷ [])) → ((n : ℕ) (ds : List ℕ) → 10 ≤ n → P (n / 10) ds → P n (ds ++ (digit (n % 10) ∷ [])))
    → (n : ℕ) → P n (decimal n)
decimal_from P one more n = go (suc n) n (omega arith)
  where
    go : (k n : ℕ) → n < k → P n (decimal n)
    go zero n h = absurd (let z : ⊥ = omega arith in z)
    go (suc k) n h = by (dec_lt n 10) (go k (n / 10))
      where
        by : Dec (n < 10) → (n / 10 < k → P (n / 10) (decimal (n / 10))) → P n (decimal n)
        by (yes l) f = subst (P n) (decimal_short n l) (one n l)
        by (no l) f = subst (P n) (decimal_long n (omega arith)) (more n (decimal (n / 10)) (omega arith) (f (omega arith)))

digit_is : (d : ℕ) → d < 10 → digit d ≡ 0x30 + d
digit_is d h = ap (λ (b : Bool). cond b (0x30 + d) (87 + d)) (lt-ltb d 10 h)

value_more : (n : ℕ) (ds : List ℕ) (d : ℕ) → value_of n (ds ++ (d ∷ [])) ≡ 10 * value_of n ds + (d - 0x30)
unfolding value_of
value_more n [] d = refl
value_more n (x ∷ ds) d = value_more (10 * n + (x - 0x30)) ds d

first_more : (ds : List ℕ) (d : ℕ) → 0 < length ds → get_or (ds ++ (d ∷ [])) 0 0 ≡ get_or ds 0 0
first_more [] d h = absurd (let z : ⊥ = omega arith in z)
first_more (x ∷ ds) d h = refl

-- where the value is not 0 the first digit is not 0
first_digit : (n : ℕ) (ds : List ℕ) → 0 < n → Decimal n ds → 0x30 < get_or ds 0 0
unfolding value_of
first_digit n [] h x = absurd (let z : 0 < 0 = x.some in let w : ⊥ = omega arith in w)
first_digit n (d ∷ []) h x = let e : 10 * 0 + (d - 0x30) ≡ n = x.value in omega arith
first_digit n (d ∷ c ∷ ds) h x = x.no_zero_first (omega arith)

digits_right : (d : ℕ) → d < 10 → T (every_of (λ d. leb 0x30 d && leb d 0x39) (digit d ∷ []))
unfolding every_of
digits_right d h =
    let e : digit d ≡ 0x30 + d = digit_is d h in
    and_make (leb 0x30 (digit d) && leb (digit d) 0x39) true (and_make (leb 0x30 (digit d)) (leb (digit d) 0x39) (le→leb 0x30 (digit d) (omega arith)) (le→leb (digit d) 0x39 (omega arith))) tt

pub decimal_is : (n : ℕ) → Decimal n (decimal n)
unfolding value_of
decimal_is = decimal_from Decimal one more
  where
    one : (n : ℕ) → n < 10 → Decimal n (digit n ∷ [])
    one n h = let e : digit n ≡ 0x30 + n = digit_is n h in record { some = omega arith; digits = digits_right n h; value = omega arith; no_zero_first = λ l. absurd (let z : ⊥ = omega arith in z) }

    more : (n : ℕ) (ds : List ℕ) → 10 ≤ n → Decimal (n / 10) ds → Decimal n (ds ++ (digit (n % 10) ∷ []))
    more n ds h x =
        let e : digit (n % 10) ≡ 0x30 + n % 10 = digit_is (n % 10) (omega arith) in
        let v : value_of 0 ds ≡ n / 10 = x.value in
        record {
          some = simp length-append (omega arith);
          digits = subst T (sym (every_of_append (λ d. leb 0x30 d && leb d 0x39) ds (digit (n % 10) ∷ []))) (and_make (every_of (λ d. leb 0x30 d && leb d 0x39) ds) _ x.digits (digits_right (n % 10) (omega arith)));
          value = value_more 0 ds (digit (n % 10)) ∙ (let z : 10 * value_of 0 ds + (digit (n % 10) - 0x30) ≡ n = omega arith in z);
          no_zero_first = λ l. subst (λ (d : ℕ). 0x30 < d) (sym (first_more ds (digit (n % 10)) x.some)) (first_digit (n / 10) ds (omega arith) x);
        }

pub decimal_length : (k n : ℕ) → n < 10 ^ suc k → length (decimal n) ≤ suc k
decimal_length k n h = decimal_from (λ n ds. (k : ℕ) → n < 10 ^ suc k → length ds ≤ suc k) one more n k h
  where
    one : (n : ℕ) → n < 10 → (k : ℕ) → n < 10 ^ suc k → 1 ≤ suc k
    one n l k h = omega arith

    more : (n : ℕ) (ds : List ℕ) → 10 ≤ n → ((k : ℕ) → n / 10 < 10 ^ suc k → length ds ≤ suc k) → (k : ℕ) → n < 10 ^ suc k → length (ds ++ (digit (n % 10) ∷ [])) ≤ suc k
    more n ds l f zero h = absurd (let z : ⊥ = omega arith in z)
    more n ds l f (suc k) h =
        let p : 10 ^ suc (suc k) ≡ 10 ^ suc k * 10 = pow-suc 10 (suc k) in
        let q : length ds ≤ suc k = f k (omega arith) in
        simp length-append (omega arith)

bytes_length : (bs : List ℕ) → length (bytes_text bs) ≡ 2 * length bs
unfolding bytes_text
bytes_length [] = refl
bytes_length (b ∷ bs) = let h : length (bytes_text bs) ≡ 2 * length bs = bytes_length bs in omega arith

pub hex_length : (bs : List ℕ) → length (hex_text bs) ≤ 2 * length bs + 1
unfolding hex_text
hex_length [] = omega arith
hex_length (b ∷ bs) = let h : length (bytes_text (b ∷ bs)) ≡ 2 * length (b ∷ bs) = bytes_length (b ∷ bs) in omega arith
