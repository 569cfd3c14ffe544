-- Laws of masks, and of what is so of each of the first places of a list.
--
--   no_bits, has_bit, same_bits == a number with no bits is 0, any other has one, and numbers with the same bits are equal
--   meet_found, meet_hit == two numbers have a bit in common exactly if they have one by `&`
--   eqb_comm        == equal, either way round
--   masks_none, mask_one, masks_or == the mask 0, the mask of one number, and a mask joined to another
--   mask_first, mask_some == the mask of the numbers below k, and that the shift before it has something to take 1 from
--   mask_others, mask_without == the mask of those that are not in a mask
--   bit_added, bit_kept == a bit that is set where a test says so
--   pick_start, pick_more, pick_skip, pick_whole == the numbers below a bound that pass a test, one by one
--   ready_by        == every number of a list is in a mask
--   any_by          == one of them is
--   next_below      == what is so of the numbers below n, and of n
--   each_none, each_set, each_whole == what is so of each place, place by place
--   zeros           == a list of zeros
use Rattle.std.specs.Prelude.{◌≡◌, refl, Bool, true, false, ◌&&◌, ◌||◌, not, ◌⊎◌, ℕ, zero, suc, ◌+◌, ◌-◌, ◌*◌, ◌/◌, ◌%◌, ◌^◌, ◌≤◌, ◌<◌, eqb, ltb, length, get_or, set, replicate}
use Rattle.std.proofs.Common.{sym, ap, ap₂, ◌∙◌, inl, inr, arith, not-suc-le-zero, eq-eqb, ne_eqb, lt-ltb, le-ltb, T_not, eqb→eq, pow_pos, get_or-set_same, get_or-set_other}
use Rattle.std.proofs.Math.Path.{subst}
use Rattle.std.proofs.Math.Bool.{and-true, and-false, or-false}
use mathlib.Core.List.{List, [], ◌∷◌}
use Rattle.std.proofs.Math.Decide.{ℕ_discrete, dec_lt}
use Rattle.std.proofs.lemmas.Bool.{eqb-false}
use Rattle.std.proofs.lemmas.Nat.{and_comm, and_assoc, and-not}
use Rattle.std.proofs.Math.Dec.{T, not_T, eqb_refl}
use Rattle.std.proofs.Math.Arith.{bin_ind}
use Rattle.std.specs.Int.Bits.{bit_or, bit_and, bit_xor, and_self, xor_add_and}
use Rattle.el.specs.Test.{any_of, every_of, bit}
use Rattle.el.specs.TestLaws.{is_true, true_is, false_not, same_test, or_left, or_right, or_cases, and_make, and_left, and_right, any_of_hit, any_of_found, bit_none, bit_first, bit_next}
use Rattle.bounds.specs.Bounds.{mask_bits, masks}
use Rattle.bounds.specs.WidthLaws.{power_in}
use Rattle.el.specs.BitLaws.{bit_power, bit_first_ones, bit_of_or, bit_of_and, bit_missing}
use Rattle.node.specs.Mask.{Masks, Picks, is_among, Each}

----------------------------------------------------------------------------------------------------
-- Bits

no_bits : (n : ℕ) → ((y : ℕ) → bit y n ≡ false) → n ≡ 0
no_bits =
    bin_ind (λ (n : ℕ). ((y : ℕ) → bit y n ≡ false) → n ≡ 0) (λ f. refl)
    (λ n ih f.
    let h : n / 2 ≡ 0 = ih (λ y. sym (bit_next y n) ∙ f (suc y)) in
    let o : n % 2 ≡ 1 → ⊥ = eqb-false (n % 2) 1 (sym (bit_first n) ∙ f 0) in
    let l : n % 2 < 2 = omega arith in
    let z : n % 2 ≡ 0 = even (n % 2) l o in
    omega arith)
  where
    even : (m : ℕ) → m < 2 → (m ≡ 1 → ⊥) → m ≡ 0
    even m h f = omega arith

pub has_bit : (n : ℕ) → (n ≡ 0 → ⊥) → (i : ℕ) × (bit i n ≡ true)
has_bit =
    bin_ind (λ (n : ℕ). (n ≡ 0 → ⊥) → (i : ℕ) × (bit i n ≡ true)) (λ f. absurd (f refl))
    (λ n ih f. go n ih f (ℕ_discrete (n % 2) 1))
  where
    go : (n : ℕ) → ((n / 2 ≡ 0 → ⊥) → (i : ℕ) × (bit i (n / 2) ≡ true)) → (n ≡ 0 → ⊥) → Dec (n % 2 ≡ 1) → (i : ℕ) × (bit i n ≡ true)
    go n ih f (yes e) = (0, bit_first n ∙ eq-eqb (n % 2) 1 e)
    go n ih f (no e) = let r = ih (λ z. f (let l : n % 2 < 2 = omega arith in omega arith)) in (suc r.0, bit_next r.0 n ∙ r.1)

digit_same : (a b : ℕ) → a < 2 → b < 2 → eqb a 1 ≡ eqb b 1 → a ≡ b
digit_same zero zero h k e = refl
digit_same zero (suc zero) h k e = absurd (let z : ◌≡◌ {A = ℕ} 0 1 = cc in omega arith)
digit_same (suc zero) zero h k e = absurd (let z : ◌≡◌ {A = ℕ} 0 1 = cc in omega arith)
digit_same (suc zero) (suc zero) h k e = refl
digit_same zero (suc (suc b)) h k e = absurd (let z : ⊥ = omega arith in z)
digit_same (suc zero) (suc (suc b)) h k e = absurd (let z : ⊥ = omega arith in z)
digit_same (suc (suc a)) b h k e = absurd (let z : ⊥ = omega arith in z)

pub same_bits : (a b : ℕ) → ((y : ℕ) → bit y a ≡ bit y b) → a ≡ b
same_bits =
    bin_ind (λ (a : ℕ). (b : ℕ) → ((y : ℕ) → bit y a ≡ bit y b) → a ≡ b) (λ b f. sym (no_bits b (λ y. sym (f y) ∙ bit_none y)))
    (λ a ih b f.
    let h : a / 2 ≡ b / 2 = ih (b / 2) (λ y. sym (bit_next y a) ∙ f (suc y) ∙ bit_next y b) in
    let l : a % 2 ≡ b % 2 = digit_same (a % 2) (b % 2) (omega arith) (omega arith) (sym (bit_first a) ∙ f 0 ∙ bit_first b) in
    omega arith)

pub meet_found : (a b : ℕ) → (bit_and a b ≡ 0 → ⊥) → (i : ℕ) × T (bit i a) × T (bit i b)
meet_found a b f =
    let h = has_bit (bit_and a b) f in let i = h.0 in
    let g : T (bit i a && bit i b) = true_is (bit i a && bit i b) (sym (bit_of_and i a b) ∙ h.1) in
    (i, and_left (bit i a) (bit i b) g, and_right (bit i a) (bit i b) g)

pub meet_hit : (a b i : ℕ) → T (bit i a) → T (bit i b) → bit_and a b ≡ 0 → ⊥
meet_hit a b i u w z =
    false_not (bit i a && bit i b) (sym (bit_of_and i a b) ∙ ap (bit i) z ∙ bit_none i) (and_make (bit i a) (bit i b) u w)

pub eqb_comm : (a b : ℕ) → eqb a b ≡ eqb b a
eqb_comm a b =
    same_test (eqb a b) (eqb b a) (λ t. subst T (sym (eq-eqb b a (sym (eqb→eq a b t)))) tt) (λ t. subst T (sym (eq-eqb a b (sym (eqb→eq b a t)))) tt)

----------------------------------------------------------------------------------------------------
-- Masks, joined

pub masks_none : Masks (λ y. false) 0
masks_none y = bit_none y

-- the machine shifts a 1 in w bits
pub mask_one : (w k : ℕ) → k < w → Masks (λ y. eqb k y) (1 * 2 ^ k % 2 ^ w)
mask_one w k h y = ap (bit y) (power_in w k h) ∙ bit_power y k ∙ eqb_comm y k

pub mask_some : (w k : ℕ) → k < w → 1 ≤ 1 * 2 ^ k % 2 ^ w
mask_some w k h = subst (λ (n : ℕ). 1 ≤ n) (sym (power_in w k h)) (pow_pos k)

pub mask_first : (w k : ℕ) → k < w → Masks (λ y. ltb y k) (1 * 2 ^ k % 2 ^ w - 1)
mask_first w k h y = ap (λ (n : ℕ). bit y (n - 1)) (power_in w k h) ∙ bit_first_ones k y

pub mask_others : (p : ℕ → Bool) (all m : ℕ) → Masks p all → Masks (λ y. p y && not (bit y m)) (bit_xor all (bit_and all m))
mask_others p all m is y = bit_missing y m all ∙ ap (λ (b : Bool). b && not (bit y m)) (is y)

-- the same, as the machine finds them
pub mask_without : (p : ℕ → Bool) (all m : ℕ) → all < masks → m < masks → Masks p all → Masks (λ y. p y && not (bit y m)) (bit_and all (masks - 1 - m))
mask_without p all m h k is =
    let both : bit_and all (bit_and all m) ≡ bit_and all m = sym (and_assoc m all all) ∙ ap (λ (x : ℕ). bit_and x m) (and_self all) in
    let same : bit_and all (masks - 1 - m) ≡ bit_xor all (bit_and all m) = omega (arith, and-not mask_bits m all k h, and_comm all (masks - 1 - m), and_comm m all, xor_add_and all (bit_and all m)) in
    λ y. ap (bit y) same ∙ mask_others p all m is y

pub masks_or : (p q : ℕ → Bool) (a b : ℕ) → Masks p a → Masks q b → Masks (λ y. p y || q y) (bit_or a b)
masks_or p q a b f g y = bit_of_or y a b ∙ ap₂ ◌||◌ (f y) (g y)

module _ (q : ℕ → Bool) (m i : ℕ) (on : Bool) (is : Masks q m) where
  pub bit_added : (w : ℕ) → i < w → on ≡ true → Masks (λ z. q z || (on && eqb i z)) (bit_or m (1 * 2 ^ i % 2 ^ w))
  bit_added w h e z = masks_or q (λ x. eqb i x) m (1 * 2 ^ i % 2 ^ w) is (mask_one w i h) z ∙ ap (λ (b : Bool). q z || (b && eqb i z)) (sym e)

  pub bit_kept : on ≡ false → Masks (λ z. q z || (on && eqb i z)) m
  bit_kept e z = is z ∙ sym (or-false (q z)) ∙ ap (λ (b : Bool). q z || (b && eqb i z)) (sym e)

----------------------------------------------------------------------------------------------------
-- The numbers below a bound that pass a test, one by one

-- one number more below a bound
below_next : (q : ℕ → Bool) (x y : ℕ) → (ltb y x && q y) || (q x && eqb x y) ≡ ltb y (x + 1) && q y
below_next q x y = go (dec_lt y x) (ℕ_discrete x y)
  where
    go : Dec (y < x) → Dec (x ≡ y) → (ltb y x && q y) || (q x && eqb x y) ≡ ltb y (x + 1) && q y
    go (yes h) d =
        rw (lt-ltb y (x + 1) (omega arith), lt-ltb y x h, ne_eqb x y (λ e. omega arith)) (ap (λ (p : Bool). q y || p) (and-false (q x)) ∙ or-false (q y))
    go (no h) (yes e) = rw (lt-ltb y (x + 1) (omega arith), le-ltb y x (omega arith), eq-eqb x y e) (and-true (q x) ∙ ap q e)
    go (no h) (no e) = rw (le-ltb y (x + 1) (omega arith), le-ltb y x (omega arith), ne_eqb x y e) (and-false (q x))

pub pick_start : {q : ℕ → Bool} → Picks q 0 0
pick_start {q} = record { bits = λ y. bit_none y ∙ sym (ap (λ (p : Bool). p && q y) (le-ltb y 0 (omega arith))) }

module _ {q : ℕ → Bool} {x m : ℕ} (f : Picks q x m) where
  pub pick_more : x < mask_bits → q x ≡ true → Picks q (x + 1) (bit_or m (1 * 2 ^ x % masks))
  pick_more h e = record { bits = λ y. bit_added (λ y. ltb y x && q y) m x (q x) f.bits mask_bits h e y ∙ below_next q x y }

  pub pick_skip : q x ≡ false → Picks q (x + 1) m
  pick_skip e = record { bits = λ y. bit_kept (λ y. ltb y x && q y) m x (q x) f.bits e y ∙ below_next q x y }

  pub pick_whole : {n : ℕ} → x ≤ n → n ≤ x → Picks q n m
  pick_whole {n} h k = subst (λ (i : ℕ). Picks q i m) (let z : x ≡ n = omega arith in z) f

----------------------------------------------------------------------------------------------------
-- The numbers of a list, in masks

module _ (p : ℕ → Bool) where
  every_among : (l : List ℕ) (y : ℕ) → T (every_of p l) → T (is_among l y) → T (p y)
  unfolding every_of is_among any_of
  every_among [] y u w = absurd w
  every_among (x ∷ l) y u w = go (or_cases (eqb x y) (is_among l y) w) (every_among l y (and_right (p x) (every_of p l) u))
    where
      go : T (eqb x y) ⊎ T (is_among l y) → (T (is_among l y) → T (p y)) → T (p y)
      go (inl e) rest = subst (λ (k : ℕ). T (p k)) (eqb→eq x y e) (and_left (p x) (every_of p l) u)
      go (inr r) rest = rest r

  among_every : (l : List ℕ) → ((y : ℕ) → T (is_among l y) → T (p y)) → T (every_of p l)
  unfolding every_of is_among any_of
  among_every [] f = tt
  among_every (x ∷ l) f =
      and_make (p x) (every_of p l) (f x (or_left (eqb x x) (is_among l x) (eqb_refl x)))
      (among_every l (λ y u. f y (or_right (eqb x y) (is_among l y) u)))

among_at : (l : List ℕ) (i : ℕ) → i < length l → T (is_among l (get_or l i 0))
unfolding is_among
among_at l i h = any_of_hit (λ x. eqb x (get_or l i 0)) l i 0 h (eqb_refl (get_or l i 0))

module _ (p : ℕ → Bool) (l : List ℕ) (m k : ℕ) (is : Masks (is_among l) m) (of : Masks p k) where
  both : (y : ℕ) → bit y (bit_and m k) ≡ is_among l y && p y
  both y = bit_of_and y m k ∙ ap₂ ◌&&◌ (is y) (of y)

  pub ready_by : eqb (bit_and m k) m ≡ every_of p l
  ready_by =
      same_test (eqb (bit_and m k) m) (every_of p l)
      (λ u. among_every p l (λ y w. and_right (is_among l y) (p y) (subst T (sym (is y) ∙ ap (bit y) (sym (eqb→eq (bit_and m k) m u)) ∙ both y) w)))
      (λ u. true_is (eqb (bit_and m k) m) (eq-eqb (bit_and m k) m (same_bits (bit_and m k) m (λ y. both y ∙ same y u (is_among l y) refl ∙ sym (is y)))))
    where
      same : (y : ℕ) → T (every_of p l) → (b : Bool) → is_among l y ≡ b → is_among l y && p y ≡ is_among l y
      same y u true e = ap (λ (b : Bool). is_among l y && b) (is_true (p y) (every_among p l y u (true_is (is_among l y) e))) ∙ and-true (is_among l y)
      same y u false e = ap (λ (b : Bool). b && p y) e ∙ sym e

  pub any_by : not (eqb (bit_and m k) 0) ≡ any_of p l
  any_by =
      same_test (not (eqb (bit_and m k) 0)) (any_of p l)
      (λ u. let b = has_bit (bit_and m k) (λ z. T_not (eqb (bit_and m k) 0) u (true_is (eqb (bit_and m k) 0) (eq-eqb (bit_and m k) 0 z))) in
      hit b.0 (true_is (is_among l b.0 && p b.0) (sym (both b.0) ∙ b.1)))
      (λ u. let f = any_of_found p l 0 u in let y = get_or l f.0 0 in
      not_T (eqb (bit_and m k) 0) (λ z. false_not (is_among l y && p y) (sym (both y) ∙ ap (bit y) (eqb→eq (bit_and m k) 0 z) ∙ bit_none y)
      (and_make (is_among l y) (p y) (among_at l f.0 f.1) f.2)))
    where
      hit : (y : ℕ) → T (is_among l y && p y) → T (any_of p l)
      hit y w =
          let f = any_of_found (λ x. eqb x y) l 0 (unfold is_among in and_left (is_among l y) (p y) w) in
          any_of_hit p l f.0 0 f.1 (subst (λ (i : ℕ). T (p i)) (sym (eqb→eq (get_or l f.0 0) y f.2)) (and_right (is_among l y) (p y) w))

----------------------------------------------------------------------------------------------------
-- Each of the first places of a list

pub next_below : {P : ℕ → Type 0} {n : ℕ} → ((i : ℕ) → i < n → P i) → P n → (i : ℕ) → i < n + 1 → P i
next_below {P} {n} f g i h = go (ℕ_discrete n i)
  where
    go : Dec (n ≡ i) → P i
    go (yes e) = subst P e g
    go (no e) = f i (omega arith)

module _ {P : ℕ → ℕ → Type 0} {l : List ℕ} where
  pub each_none : Each P 0 l
  each_none = record { at = λ i h. absurd (not-suc-le-zero h) }

  module _ {n : ℕ} (f : Each P n l) where
    pub each_set : {m : ℕ} → n < length l → P n m → Each P (n + 1) (set l n m)
    each_set {m} h g =
        record { at = next_below (λ i k. subst (P i) (sym (get_or-set_other l n i m 0 (λ e. omega arith))) (f.at i k)) (subst (P n) (sym (get_or-set_same l n m 0 h)) g) }

    pub each_whole : {m : ℕ} → n ≤ m → m ≤ n → Each P m l
    each_whole h k = record { at = λ i w. f.at i (omega arith) }

pub zeros : (n x : ℕ) → ◌≡◌ {A = ℕ} (get_or (replicate n 0) x 0) 0
zeros zero x = refl
zeros (suc n) zero = refl
zeros (suc n) (suc x) = zeros n x
