-- Laws of tests, over the numbers below a bound and over a list.
--
--   is_true, is_false, true_is, false_not   == a test that holds is true, one that does not is false, and back
--   same_test                               == two tests that say the same are equal
--   or_left, or_right, or_cases             == what `||` says
--   and_make, and_left, and_right           == what `&&` says
--   any_below_hit, any_below_found            == some number below n passes, and back: which one
--   any_below_next                           == one number more
--   any_below_true_at, any_below_false_at     == the value of the test from one number, and of each number from the test
--   any_below_step, any_below_none            == no number passes: by one more, by all
--   any_below_same                           == tests that agree below n
--   all_below_all, all_below_at, all_below_every, all_below_same == the same for every number below n
--   any_of_.., every_of_..                    == the same over a list, by places; `_append` over two lists; `any_of_places` asks each place, `every_of_both` follows from two tests
--   bit_none, bit_first, bit_next           == bits of 0, bit 0, and the bits after it
use Rattle.std.specs.Prelude.{◌≡◌, Bool, true, false, ◌&&◌, ◌||◌, ◌⊎◌, eqb, get_or}
use Rattle.std.proofs.Math.Path.{refl, sym, ap}
use Rattle.std.proofs.Common.{ap₂, subst, ◌∙◌, inl, inr, div-one, not-suc-le-zero, le_of_suc-le-suc, add-one}
use Rattle.std.proofs.Math.Bool.{and_assoc, or_assoc}
use mathlib.Core.List.{List, [], ◌∷◌, ◌++◌}
use Prim.Native.Nat.{ℕ, zero, suc, ◌+◌, ◌^◌, ◌/◌, ◌%◌, ◌<◌}
use native.Mathlib.Omega.{arith}
use Rattle.std.proofs.Math.Nat.{zero-div, div-div-eq-div-mul, pow-succ'}
use Rattle.std.proofs.Math.Decide.{ℕ_discrete}
use Rattle.std.proofs.Math.Dec.{T}
use Rattle.std.proofs.Math.ListN.{length}
use Rattle.el.specs.Test.{any_below, all_below, any_of, every_of, bit}

----------------------------------------------------------------------------------------------------
-- Tests

pub is_true : (b : Bool) → T b → b ≡ true
is_true true t = refl
is_true false t = absurd t

pub is_false : (b : Bool) → (T b → ⊥) → b ≡ false
is_false true f = absurd (f tt)
is_false false f = refl

pub true_is : (b : Bool) → b ≡ true → T b
true_is b e = subst T (sym e) tt

pub false_not : (b : Bool) → b ≡ false → T b → ⊥
false_not b e t = subst T e t

pub same_test : (a b : Bool) → (T a → T b) → (T b → T a) → a ≡ b
same_test true true f g = refl
same_test true false f g = absurd (f tt)
same_test false true f g = absurd (g tt)
same_test false false f g = refl

pub or_left : (a b : Bool) → T a → T (a || b)
or_left true b t = tt
or_left false b t = absurd t

pub or_right : (a b : Bool) → T b → T (a || b)
or_right true b t = tt
or_right false b t = t

pub or_cases : (a b : Bool) → T (a || b) → T a ⊎ T b
or_cases true b t = inl tt
or_cases false b t = inr t

pub and_make : (a b : Bool) → T a → T b → T (a && b)
and_make true b s t = t
and_make false b s t = s

pub and_left : (a b : Bool) → T (a && b) → T a
and_left true b t = tt
and_left false b t = t

pub and_right : (a b : Bool) → T (a && b) → T b
and_right true b t = t
and_right false b t = absurd t

----------------------------------------------------------------------------------------------------
-- Some number below n

pub any_below_hit : (n i : ℕ) (p : ℕ → Bool) → i < n → T (p i) → T (any_below n p)
unfolding any_below
any_below_hit zero i p h t = absurd (not-suc-le-zero h)
any_below_hit (suc n) i p h t = go (ℕ_discrete i n) (λ l. any_below_hit n i p l t)
  where
    go : Dec (i ≡ n) → (i < n → T (any_below n p)) → T (any_below n p || p n)
    go (yes e) rest = or_right (any_below n p) (p n) (subst (λ (k : ℕ). T (p k)) e t)
    go (no e) rest = or_left (any_below n p) (p n) (rest (omega arith))

pub any_below_found : (n : ℕ) (p : ℕ → Bool) → T (any_below n p) → (i : ℕ) × (i < n) × T (p i)
unfolding any_below
any_below_found zero p t = absurd t
any_below_found (suc n) p t = go (or_cases (any_below n p) (p n) t) (any_below_found n p)
  where
    go : T (any_below n p) ⊎ T (p n) → (T (any_below n p) → (i : ℕ) × (i < n) × T (p i)) → (i : ℕ) × (i < suc n) × T (p i)
    go (inl u) rest = let r = rest u in let h : r.0 < n = r.1 in (r.0, omega arith, r.2)
    go (inr u) rest = (n, omega arith, u)

pub any_below_next : (n : ℕ) (p : ℕ → Bool) → any_below (n + 1) p ≡ any_below n p || p n
unfolding any_below
any_below_next n p = rw (add-one) refl

pub any_below_true_at : (n i : ℕ) (p : ℕ → Bool) → i < n → p i ≡ true → any_below n p ≡ true
any_below_true_at n i p h e = is_true (any_below n p) (any_below_hit n i p h (true_is (p i) e))

pub any_below_false_at : (n i : ℕ) (p : ℕ → Bool) → any_below n p ≡ false → i < n → p i ≡ false
any_below_false_at n i p e h = is_false (p i) (λ t. false_not (any_below n p) e (any_below_hit n i p h t))

pub any_below_none : (n : ℕ) (p : ℕ → Bool) → ((i : ℕ) → i < n → p i ≡ false) → any_below n p ≡ false
any_below_none n p f = is_false (any_below n p) (λ t. let r = any_below_found n p t in false_not (p r.0) (f r.0 r.1) r.2)

pub any_below_step : (n : ℕ) (p : ℕ → Bool) → any_below n p ≡ false → p n ≡ false → any_below (n + 1) p ≡ false
any_below_step n p e f = any_below_next n p ∙ ap₂ ◌||◌ e f

pub any_below_same : (n : ℕ) (p q : ℕ → Bool) → ((i : ℕ) → i < n → p i ≡ q i) → any_below n p ≡ any_below n q
unfolding any_below
any_below_same zero p q f = refl
any_below_same (suc n) p q f = ap₂ ◌||◌ (any_below_same n p q (λ i h. f i (omega arith))) (f n (omega arith))

----------------------------------------------------------------------------------------------------
-- Every number below n

pub all_below_all : (n : ℕ) (p : ℕ → Bool) → ((i : ℕ) → i < n → T (p i)) → T (all_below n p)
unfolding all_below
all_below_all zero p f = tt
all_below_all (suc n) p f = and_make (all_below n p) (p n) (all_below_all n p (λ i h. f i (omega arith))) (f n (omega arith))

pub all_below_at : (n i : ℕ) (p : ℕ → Bool) → T (all_below n p) → i < n → T (p i)
unfolding all_below
all_below_at zero i p t h = absurd (not-suc-le-zero h)
all_below_at (suc n) i p t h = go (ℕ_discrete i n) (λ l. all_below_at n i p (and_left (all_below n p) (p n) t) l)
  where
    go : Dec (i ≡ n) → (i < n → T (p i)) → T (p i)
    go (yes e) rest = subst (λ (k : ℕ). T (p k)) (sym e) (and_right (all_below n p) (p n) t)
    go (no e) rest = rest (omega arith)

pub all_below_every : (n : ℕ) (p : ℕ → Bool) → ((i : ℕ) → i < n → p i ≡ true) → all_below n p ≡ true
all_below_every n p f = is_true (all_below n p) (all_below_all n p (λ i h. true_is (p i) (f i h)))

pub all_below_same : (n : ℕ) (p q : ℕ → Bool) → ((i : ℕ) → i < n → p i ≡ q i) → all_below n p ≡ all_below n q
unfolding all_below
all_below_same zero p q f = refl
all_below_same (suc n) p q f = ap₂ ◌&&◌ (all_below_same n p q (λ i h. f i (omega arith))) (f n (omega arith))

----------------------------------------------------------------------------------------------------
-- Some element of a list

module _ {A : Type 0} (p : A → Bool) where
  pub any_of_append : (l m : List A) → any_of p (l ++ m) ≡ any_of p l || any_of p m
  unfolding any_of
  any_of_append [] m = refl
  any_of_append (x ∷ l) m = ap (λ b. p x || b) (any_of_append l m) ∙ sym (or_assoc (p x) (any_of p l) (any_of p m))

  pub any_of_hit : (l : List A) (i : ℕ) (d : A) → i < length l → T (p (get_or l i d)) → T (any_of p l)
  unfolding any_of
  any_of_hit [] i d h t = absurd (not-suc-le-zero h)
  any_of_hit (x ∷ l) zero d h t = or_left (p x) (any_of p l) t
  any_of_hit (x ∷ l) (suc i) d h t = or_right (p x) (any_of p l) (any_of_hit l i d (le_of_suc-le-suc h) t)

  pub any_of_found : (l : List A) (d : A) → T (any_of p l) → (i : ℕ) × (i < length l) × T (p (get_or l i d))
  unfolding any_of
  any_of_found [] d t = absurd t
  any_of_found (x ∷ l) d t = go (or_cases (p x) (any_of p l) t) (any_of_found l d)
    where
      go : T (p x) ⊎ T (any_of p l) → (T (any_of p l) → (i : ℕ) × (i < length l) × T (p (get_or l i d))) → (i : ℕ) × (i < suc (length l)) × T (p (get_or (x ∷ l) i d))
      go (inl u) rest = (0, omega arith, u)
      go (inr u) rest = let r = rest u in let h : r.0 < length l = r.1 in (suc r.0, omega arith, r.2)

  pub any_of_places : (l : List A) (d : A) → any_of p l ≡ any_below (length l) (λ i. p (get_or l i d))
  any_of_places l d =
      same_test (any_of p l) (any_below (length l) (λ i. p (get_or l i d)))
      (λ u. let r = any_of_found l d u in any_below_hit (length l) r.0 (λ i. p (get_or l i d)) r.1 r.2)
      (λ u. let r = any_below_found (length l) (λ i. p (get_or l i d)) u in any_of_hit l r.0 d r.1 r.2)

  pub every_of_append : (l m : List A) → every_of p (l ++ m) ≡ every_of p l && every_of p m
  unfolding every_of
  every_of_append [] m = refl
  every_of_append (x ∷ l) m = ap (λ b. p x && b) (every_of_append l m) ∙ sym (and_assoc (p x) (every_of p l) (every_of p m))

  pub every_of_at : (l : List A) (i : ℕ) (d : A) → T (every_of p l) → i < length l → T (p (get_or l i d))
  unfolding every_of
  every_of_at [] i d t h = absurd (not-suc-le-zero h)
  every_of_at (x ∷ l) zero d t h = and_left (p x) (every_of p l) t
  every_of_at (x ∷ l) (suc i) d t h = every_of_at l i d (and_right (p x) (every_of p l) t) (le_of_suc-le-suc h)

  pub every_of_all : (l : List A) (d : A) → ((i : ℕ) → i < length l → T (p (get_or l i d))) → T (every_of p l)
  unfolding every_of
  every_of_all [] d f = tt
  every_of_all (x ∷ l) d f = and_make (p x) (every_of p l) (f 0 (omega arith)) (every_of_all l d (λ i h. f (suc i) (omega arith)))

-- tests that agree on a list
pub any_of_same : {A : Type 0} (p q : A → Bool) (l : List A) (d : A) → ((i : ℕ) → i < length l → p (get_or l i d) ≡ q (get_or l i d)) → any_of p l ≡ any_of q l
unfolding any_of
any_of_same p q [] d f = refl
any_of_same p q (x ∷ l) d f = ap₂ ◌||◌ (f 0 (omega arith)) (any_of_same p q l d (λ i h. f (suc i) (omega arith)))

-- where a third test follows from two
pub every_of_both : {A : Type 0} (p q r : A → Bool) (l : List A) → ((x : A) → T (p x) → T (q x) → T (r x)) → T (every_of p l) → T (every_of q l) → T (every_of r l)
unfolding every_of
every_of_both p q r [] f s t = tt
every_of_both p q r (x ∷ l) f s t =
    and_make (r x) (every_of r l)
    (f x (and_left (p x) (every_of p l) s) (and_left (q x) (every_of q l) t))
    (every_of_both p q r l f (and_right (p x) (every_of p l) s) (and_right (q x) (every_of q l) t))

----------------------------------------------------------------------------------------------------
-- Bits

pub bit_none : (i : ℕ) → bit i 0 ≡ false
unfolding bit
bit_none i = ap (λ (k : ℕ). eqb (k % 2) 1) (zero-div (2 ^ i))

pub bit_first : (s : ℕ) → bit 0 s ≡ eqb (s % 2) 1
unfolding bit
bit_first s = ap (λ (k : ℕ). eqb (k % 2) 1) (div-one s)

pub bit_next : (i s : ℕ) → bit (suc i) s ≡ bit i (s / 2)
unfolding bit
bit_next i s = ap (λ (k : ℕ). eqb (k % 2) 1) (ap (λ (k : ℕ). s / k) (pow-succ' 2 i) ∙ sym (div-div-eq-div-mul s 2 (2 ^ i)))
