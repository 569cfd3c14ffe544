-- The bits of numbers: of a power, of a rest, and of numbers joined bit by bit.
--
--   bit_on, bit_off == a bit as the machine tests it
--   bit_power   == the number 2 ^ k has bit k alone
--   bit_first_ones == the number 2 ^ k - 1 has the bits below k
--   bit_more    == the bits of a rest
--   high_none   == a number has no bit from k on where nothing is left after a shift by k
--   bit_of_or      == the bits of `a | b`
--   bit_of_and     == the bits of `a & b`
--   bit_of_xor     == the bits of `a ^ b`
--   bit_missing == the bits of `b ^ (b & a)`: what b has and a has not
use Rattle.std.specs.Prelude.{◌≡◌, refl, Bool, true, false, ◌&&◌, ◌||◌, not, ℕ, zero, suc, ◌+◌, ◌-◌, ◌*◌, ◌/◌, ◌%◌, ◌^◌, ◌≤◌, ◌<◌, min, max, eqb, ltb}
use Rattle.std.proofs.Common.{sym, ap, ◌∙◌, arith, pow-suc, mul-div_cancel, ltb→lt, lt→ltb, pow_pos, pow-add, shr-shr, eq-eqb, ne_eqb, lt-ltb, le-ltb}
use Rattle.std.proofs.Math.Nat.{div-eq_of_lt, div_self}
use Rattle.std.proofs.Math.Decide.{ℕ_discrete, dec_lt}
use Rattle.std.specs.Int.Bits.{bit_or, bit_and, bit_xor, differ, or_step, and_step, xor_step}
use Rattle.std.proofs.lemmas.Nat.{or_shr, and_shr, xor_shr}
use Rattle.std.proofs.Math.Pow.{pow-lt}
use Rattle.el.specs.Test.{bit}
use Rattle.el.specs.TestLaws.{same_test, bit_none, bit_first, bit_next}

----------------------------------------------------------------------------------------------------
-- Bits of one number

pub bit_on : (i s : ℕ) → s / 2 ^ i % 2 ≡ 1 → bit i s ≡ true
unfolding bit
bit_on i s e = eq-eqb (s / 2 ^ i % 2) 1 e

pub bit_off : (i s : ℕ) → (s / 2 ^ i % 2 ≡ 1 → ⊥) → bit i s ≡ false
unfolding bit
bit_off i s e = ne_eqb (s / 2 ^ i % 2) 1 e

even : (d : ℕ) → 2 ^ suc d % 2 ≡ 0
even d = rw (pow-suc 2 d) (omega arith)

power_over : (i d : ℕ) → 2 ^ (d + i) / 2 ^ i ≡ 2 ^ d
power_over i d = rw (pow-add 2 d i) (mul-div_cancel (2 ^ d) (pow_pos i))

pub bit_power : (i k : ℕ) → bit i (2 ^ k) ≡ eqb i k
unfolding bit
bit_power i k = go (ℕ_discrete i k) (dec_lt i k)
  where
    low : (d : ℕ) → suc d + i ≡ k → 2 ^ k / 2 ^ i % 2 ≡ 0
    low d e = ap (λ (m : ℕ). 2 ^ m / 2 ^ i % 2) (sym e) ∙ ap (λ (m : ℕ). m % 2) (power_over i (suc d)) ∙ even d

    high : k < i → 2 ^ k / 2 ^ i ≡ 0
    high h = div-eq_of_lt (pow-lt h)

    go : Dec (i ≡ k) → Dec (i < k) → eqb (2 ^ k / 2 ^ i % 2) 1 ≡ eqb i k
    go (yes e) l = ap (λ (m : ℕ). eqb (2 ^ k / 2 ^ m % 2) 1) e ∙ ap (λ (m : ℕ). eqb (m % 2) 1) (div_self (pow_pos k)) ∙ sym (eq-eqb i k e)
    go (no n) (yes l) = ap (λ (m : ℕ). eqb m 1) (low (k - suc i) (omega arith)) ∙ sym (ne_eqb i k n)
    go (no n) (no l) = ap (λ (m : ℕ). eqb (m % 2) 1) (high (omega arith)) ∙ sym (ne_eqb i k n)

pub bit_first_ones : (k i : ℕ) → bit i (2 ^ k - 1) ≡ ltb i k
bit_first_ones zero i = bit_none i ∙ sym (le-ltb i 0 (omega arith))
bit_first_ones (suc k) zero =
    bit_first (2 ^ suc k - 1) ∙ eq-eqb ((2 ^ suc k - 1) % 2) 1 (rw (pow-suc 2 k) (let p : 0 < 2 ^ k = pow_pos k in omega arith)) ∙ sym (lt-ltb 0 (suc k) (omega arith))
bit_first_ones (suc k) (suc i) =
    bit_next i (2 ^ suc k - 1) ∙ ap (bit i) (let z : (2 ^ suc k - 1) / 2 ≡ 2 ^ k - 1 = rw (pow-suc 2 k) (let p : 0 < 2 ^ k = pow_pos k in omega arith) in z)
    ∙ bit_first_ones k i ∙ same_test (ltb i k) (ltb (suc i) (suc k)) (λ u. lt→ltb (suc i) (suc k) (let h : i < k = ltb→lt i k u in omega arith))
    (λ u. lt→ltb i k (let h : suc i < suc k = ltb→lt (suc i) (suc k) u in omega arith))

pub bit_more : (k i n : ℕ) → bit i (n / 2 ^ k) ≡ bit (k + i) n
unfolding bit
bit_more k i n = ap (λ (m : ℕ). eqb (m % 2) 1) (shr-shr n k i)

pub high_none : (n k i : ℕ) → n / 2 ^ k ≡ 0 → k ≤ i → bit i n ≡ false
high_none n k i e h =
    ap (λ (j : ℕ). bit j n) (let z : i ≡ k + (i - k) = omega arith in z) ∙ sym (bit_more k (i - k) n)
    ∙ ap (bit (i - k)) e ∙ bit_none (i - k)

----------------------------------------------------------------------------------------------------
-- Bit by bit

digit_or : (a b : ℕ) → a < 2 → b < 2 → eqb (max a b) 1 ≡ eqb a 1 || eqb b 1
digit_or zero zero h k = refl
digit_or zero (suc zero) h k = refl
digit_or (suc zero) zero h k = refl
digit_or (suc zero) (suc zero) h k = refl
digit_or zero (suc (suc b)) h k = absurd (let z : ⊥ = omega arith in z)
digit_or (suc zero) (suc (suc b)) h k = absurd (let z : ⊥ = omega arith in z)
digit_or (suc (suc a)) b h k = absurd (let z : ⊥ = omega arith in z)

or_odd : (a b : ℕ) → bit_or a b % 2 ≡ max (a % 2) (b % 2)
or_odd a b = ap (λ (n : ℕ). n % 2) (or_step a b) ∙ omega arith

pub bit_of_or : (i a b : ℕ) → bit i (bit_or a b) ≡ bit i a || bit i b
unfolding bit
bit_of_or i a b =
    ap (λ (n : ℕ). eqb (n % 2) 1) (or_shr a b i) ∙ ap (λ (n : ℕ). eqb n 1) (or_odd (a / 2 ^ i) (b / 2 ^ i))
    ∙ digit_or (a / 2 ^ i % 2) (b / 2 ^ i % 2) (omega arith) (omega arith)

digit_and : (a b : ℕ) → a < 2 → b < 2 → eqb (min a b) 1 ≡ eqb a 1 && eqb b 1
digit_and zero zero h k = refl
digit_and zero (suc zero) h k = refl
digit_and (suc zero) zero h k = refl
digit_and (suc zero) (suc zero) h k = refl
digit_and zero (suc (suc b)) h k = absurd (let z : ⊥ = omega arith in z)
digit_and (suc zero) (suc (suc b)) h k = absurd (let z : ⊥ = omega arith in z)
digit_and (suc (suc a)) b h k = absurd (let z : ⊥ = omega arith in z)

and_odd : (a b : ℕ) → bit_and a b % 2 ≡ min (a % 2) (b % 2)
and_odd a b = ap (λ (n : ℕ). n % 2) (and_step a b) ∙ omega arith

pub bit_of_and : (i a b : ℕ) → bit i (bit_and a b) ≡ bit i a && bit i b
unfolding bit
bit_of_and i a b =
    ap (λ (n : ℕ). eqb (n % 2) 1) (and_shr a b i) ∙ ap (λ (n : ℕ). eqb n 1) (and_odd (a / 2 ^ i) (b / 2 ^ i))
    ∙ digit_and (a / 2 ^ i % 2) (b / 2 ^ i % 2) (omega arith) (omega arith)

digit_xor : (a b : ℕ) → a < 2 → b < 2 → eqb (differ a b) 1 ≡ (eqb a 1 && not (eqb b 1)) || (not (eqb a 1) && eqb b 1)
digit_xor zero zero h k = refl
digit_xor zero (suc zero) h k = refl
digit_xor (suc zero) zero h k = refl
digit_xor (suc zero) (suc zero) h k = refl
digit_xor zero (suc (suc b)) h k = absurd (let z : ⊥ = omega arith in z)
digit_xor (suc zero) (suc (suc b)) h k = absurd (let z : ⊥ = omega arith in z)
digit_xor (suc (suc a)) b h k = absurd (let z : ⊥ = omega arith in z)

differ_low : (a b : ℕ) → a < 2 → b < 2 → differ a b < 2
differ_low zero b h k = k
differ_low (suc zero) zero h k = h
differ_low (suc zero) (suc b) h k = omega arith
differ_low (suc (suc a)) b h k = absurd (let z : ⊥ = omega arith in z)

xor_odd : (a b : ℕ) → bit_xor a b % 2 ≡ differ (a % 2) (b % 2)
xor_odd a b = ap (λ (n : ℕ). n % 2) (xor_step a b) ∙ low (bit_xor (a / 2) (b / 2)) (differ (a % 2) (b % 2)) (differ_low (a % 2) (b % 2) (omega arith) (omega arith))
  where
    low : (n d : ℕ) → d < 2 → (n * 2 + d) % 2 ≡ d
    low n d h = omega arith

pub bit_of_xor : (i a b : ℕ) → bit i (bit_xor a b) ≡ (bit i a && not (bit i b)) || (not (bit i a) && bit i b)
unfolding bit
bit_of_xor i a b =
    ap (λ (n : ℕ). eqb (n % 2) 1) (xor_shr a b i) ∙ ap (λ (n : ℕ). eqb n 1) (xor_odd (a / 2 ^ i) (b / 2 ^ i))
    ∙ digit_xor (a / 2 ^ i % 2) (b / 2 ^ i % 2) (omega arith) (omega arith)

pub bit_missing : (i a b : ℕ) → bit i (bit_xor b (bit_and b a)) ≡ bit i b && not (bit i a)
bit_missing i a b =
    bit_of_xor i b (bit_and b a) ∙ ap (λ x. (bit i b && not x) || (not (bit i b) && x)) (bit_of_and i b a) ∙ apart (bit i a) (bit i b)
  where
    apart : (x y : Bool) → (y && not (y && x)) || (not y && (y && x)) ≡ y && not x
    apart true true = refl
    apart false true = refl
    apart x false = refl
