-- Laws of the lines that a level lists.
--
--   passing_below, passing_any, passing_same == the numbers that pass a test
--   listed_start, listed_more, listed_skip, listed_whole == the loop that lists them
--   fresh_none, fresh_some == whether a line is listed, by its mask
--   any_take       == what is asked of the first numbers of a list
--   lines_start, lines_fail, lines_next, lines_whole == the loop over the lines listed
use Rattle.std.specs.Prelude.{◌≡◌, Bool, true, false, ◌&&◌, ◌||◌, ◌⊎◌, T, eqb, take}
use Rattle.std.proofs.Math.Path.{refl, sym, ap}
use Rattle.std.proofs.Common.{subst, ◌∙◌, inl, inr, add-one, length-set, take-suc-set, get_or-take, length-take-le, eq-eqb, ne_eqb}
use Rattle.std.proofs.Math.Bool.{not, or-false}
use mathlib.Core.List.{List, [], ◌∷◌, ◌++◌}
use Prim.Native.Nat.{ℕ, zero, suc, ◌+◌, ◌≤◌, ◌<◌}
use native.Mathlib.Omega.{arith}
use Rattle.std.proofs.Math.Decide.{dec_lt}
use Rattle.std.specs.Int.Bits.{bit_and}
use Rattle.std.proofs.Math.ListN.{length, get_or, set, length-append, get_or-append}
use Rattle.std.proofs.Math.Seq.{get_or-append_seam}
use Rattle.bounds.specs.Bounds.{max_lines}
use Rattle.el.specs.Test.{any_below, any_of}
use Rattle.el.specs.TestLaws.{same_test, any_below_hit, any_below_found, any_below_true_at, any_below_step, any_of_append, any_of_hit, any_of_found}
use Rattle.el.specs.Table.{Table, role_order}
use Rattle.el.specs.Meaning.{holds}
use Rattle.el.specs.Assignment.{induced}
use Rattle.table.specs.Layout.{line_at}
use Rattle.level.specs.Level.{passing, fresh_mask, Listed, fails_at, fresh_fails}

----------------------------------------------------------------------------------------------------
-- The numbers that pass a test

module _ (q : ℕ → Bool) where
  -- one number more
  abbrev Next : ℕ → Type 0
  Next n = ((q n ≡ true) × (passing q (suc n) ≡ passing q n ++ (n ∷ []))) ⊎ ((q n ≡ false) × (passing q (suc n) ≡ passing q n))

  passing_hit : (n : ℕ) → q n ≡ true → passing q (suc n) ≡ passing q n ++ (n ∷ [])
  unfolding passing
  passing_hit n e = rw (e, passing)

  passing_miss : (n : ℕ) → q n ≡ false → passing q (suc n) ≡ passing q n
  unfolding passing
  passing_miss n e = rw (e, passing)

  passing_next : (n : ℕ) → Next n
  passing_next n = go (q n) refl
    where
      go : (b : Bool) → q n ≡ b → Next n
      go true e = inl (e, passing_hit n e)
      go false e = inr (e, passing_miss n e)

  pub passing_below : (n i : ℕ) → i < length (passing q n) → get_or (passing q n) i 0 < n
  passing_below zero i h = absurd (let z : i < 0 = (unfold passing in h) in let y : ⊥ = omega arith in y)
  passing_below (suc n) i h = go (passing_next n) (λ l. passing_below n i l)
    where
      last : (i < length (passing q n) → get_or (passing q n) i 0 < n) → Dec (i < length (passing q n)) → i < length (passing q n ++ (n ∷ [])) → get_or (passing q n ++ (n ∷ [])) i 0 < suc n
      last ih (yes l) k = let z : get_or (passing q n) i 0 < n = ih l in rw (get_or-append (passing q n) (n ∷ []) 0 i l) (omega arith)
      last ih (no l) k =
          let e : length (passing q n ++ (n ∷ [])) ≡ length (passing q n) + 1 = length-append (passing q n) (n ∷ []) in
          let f : i ≡ length (passing q n) = omega arith in
          rw f (rw (get_or-append_seam (passing q n) n [] 0) (omega arith))

      go : Next n → (i < length (passing q n) → get_or (passing q n) i 0 < n) → get_or (passing q (suc n)) i 0 < suc n
      go (inl w) ih = subst (λ (l : List ℕ). get_or l i 0 < suc n) (sym w.1) (last ih (dec_lt i (length (passing q n))) (subst (λ (l : List ℕ). i < length l) w.1 h))
      go (inr w) ih =
          subst (λ (l : List ℕ). get_or l i 0 < suc n) (sym w.1)
          (let z : get_or (passing q n) i 0 < n = ih (subst (λ (l : List ℕ). i < length l) w.1 h) in omega arith)

  -- what is asked of those that pass, one after the other
  pub passing_any : (r : ℕ → Bool) (n : ℕ) → any_of r (passing q n) ≡ any_below n (λ i. q i && r i)
  passing_any r zero = unfold passing any_of any_below in refl
  passing_any r (suc n) = go (passing_next n) (passing_any r n)
    where
      snoc : (l : List ℕ) → any_of r (l ++ (n ∷ [])) ≡ any_of r l || r n
      snoc l = any_of_append r l (n ∷ []) ∙ ap (λ (b : Bool). any_of r l || b) last
        where
          last : any_of r (n ∷ []) ≡ r n
          last = unfold any_of in or-false (r n)

      next : (b : Bool) → q n ≡ b → any_below n (λ i. q i && r i) || (b && r n) ≡ any_below (suc n) (λ i. q i && r i)
      next b e = unfold any_below in ap (λ (p : Bool). any_below n (λ i. q i && r i) || (p && r n)) (sym e)

      go : Next n → any_of r (passing q n) ≡ any_below n (λ i. q i && r i) → any_of r (passing q (suc n)) ≡ any_below (suc n) (λ i. q i && r i)
      go (inl w) ih = ap (any_of r) w.1 ∙ snoc (passing q n) ∙ ap (λ (b : Bool). b || r n) ih ∙ next true w.0
      go (inr w) ih = ap (any_of r) w.1 ∙ ih ∙ sym (or-false (any_below n (λ i. q i && r i))) ∙ next false w.0

pub passing_same : (q r : ℕ → Bool) (n : ℕ) → ((i : ℕ) → i < n → q i ≡ r i) → passing q n ≡ passing r n
passing_same q r zero f = unfold passing in refl
passing_same q r (suc n) f = go (q n) refl (passing_same q r n (λ i h. f i (omega arith)))
  where
    go : (b : Bool) → q n ≡ b → passing q n ≡ passing r n → passing q (suc n) ≡ passing r (suc n)
    go true e ih = passing_hit q n e ∙ ap (λ (x : List ℕ). x ++ (n ∷ [])) ih ∙ sym (passing_hit r n (sym (f n (omega arith)) ∙ e))
    go false e ih = passing_miss q n e ∙ ih ∙ sym (passing_miss r n (sym (f n (omega arith)) ∙ e))

-- the loop that lists them, with what its branch left
module _ {q : ℕ → Bool} where
  pub listed_start : {fresh : List ℕ} → length fresh ≡ max_lines → Listed q 0 fresh 0
  listed_start room = record { numbers = unfold passing in refl; fits = omega arith; room = room }

  module _ {n few : ℕ} {fresh : List ℕ} (l : Listed q n fresh few) {after : ℕ} {list : List ℕ} where
    pub listed_more : q n ≡ true → n < max_lines → list ≡ set fresh few n → after ≡ few + 1 → Listed q (n + 1) list after
    listed_more e h a b =
        subst (λ (x : List ℕ). Listed q (n + 1) x after) (sym a) (subst (Listed q (n + 1) (set fresh few n)) (sym b) (record {
          numbers = ap (λ (k : ℕ). take k (set fresh few n)) (add-one few) ∙ take-suc-set fresh few n (let f : few ≤ n = l.fits in let r : length fresh ≡ max_lines = l.room in omega arith)
              ∙ ap (λ (x : List ℕ). x ++ (n ∷ [])) l.numbers ∙ sym (ap (passing q) (add-one n) ∙ passing_hit q n e);
          fits = let f : few ≤ n = l.fits in omega arith;
          room = length-set fresh few n ∙ l.room;
        }))

    pub listed_skip : q n ≡ false → list ≡ fresh → after ≡ few → Listed q (n + 1) list after
    listed_skip e a b =
        subst (λ (x : List ℕ). Listed q (n + 1) x after) (sym a) (subst (Listed q (n + 1) fresh) (sym b) (record {
          numbers = l.numbers ∙ sym (ap (passing q) (add-one n) ∙ passing_miss q n e);
          fits = let f : few ≤ n = l.fits in omega arith;
          room = l.room;
        }))

  pub listed_whole : {m n few : ℕ} {fresh : List ℕ} → n ≤ m → m ≤ n → Listed q n fresh few → Listed q m fresh few
  listed_whole {m} {n} {few} {fresh} h k l = let e : n ≡ m = omega arith in subst (λ (i : ℕ). Listed q i fresh few) e l

pub fresh_none : (own a k : ℕ) → bit_and own a ≡ 0 → false ≡ fresh_mask own a k
unfolding fresh_mask
fresh_none own a k h = sym (ap (λ (x : Bool). not x && eqb (bit_and own k) own) (eq-eqb (bit_and own a) 0 h))

pub fresh_some : (own a k : ℕ) → (bit_and own a ≡ 0 → ⊥) → eqb (bit_and own k) own ≡ fresh_mask own a k
unfolding fresh_mask
fresh_some own a k h = sym (ap (λ (x : Bool). not x && eqb (bit_and own k) own) (ne_eqb (bit_and own a) 0 h))

----------------------------------------------------------------------------------------------------
-- The lines listed, one by one

pub any_take : (r : ℕ → Bool) (l : List ℕ) (n : ℕ) → n ≤ length l → any_below n (λ i. r (get_or l i 0)) ≡ any_of r (take n l)
any_take r l n h =
    same_test (any_below n (λ i. r (get_or l i 0))) (any_of r (take n l))
    (λ u. let f = any_below_found n (λ i. r (get_or l i 0)) u in
    any_of_hit r (take n l) f.0 0 (let g : f.0 < n = f.1 in omega (arith, length-take-le n l h)) (subst (λ (x : ℕ). T (r x)) (sym (get_or-take n l f.0 0 f.1)) f.2))
    (λ u. let f = any_of_found r (take n l) 0 u in
    let g : f.0 < n = (let k : f.0 < length (take n l) = f.1 in omega (arith, length-take-le n l h)) in
    any_below_hit n f.0 (λ i. r (get_or l i 0)) g (subst (λ (x : ℕ). T (r x)) (get_or-take n l f.0 0 g) f.2))

module _ (t : Table) (set fresh : List ℕ) where
  pub lines_start : fresh_fails t set fresh 0 ≡ false
  unfolding fresh_fails any_below
  lines_start = refl

  pub lines_whole : (few i : ℕ) → i ≤ few → few ≤ i → fresh_fails t set fresh i ≡ false → false ≡ fresh_fails t set fresh few
  lines_whole few i h k e = let q : few ≡ i = omega arith in sym (ap (fresh_fails t set fresh) q ∙ e)

  module _ (i n : ℕ) (this : n ≡ get_or fresh i 0) (b : Bool) (answers : b ≡ holds (role_order t) t.rows (induced t set) (line_at t.lines n)) where
    answer_at : fails_at t set (get_or fresh i 0) ≡ not b
    unfolding fails_at
    answer_at = sym (ap not answers ∙ ap (λ (k : ℕ). not (holds (role_order t) t.rows (induced t set) (line_at t.lines k))) this)

    pub lines_fail : (few : ℕ) → i < few → not b ≡ true → true ≡ fresh_fails t set fresh few
    unfolding fresh_fails
    lines_fail few h e = sym (any_below_true_at few i (λ j. fails_at t set (get_or fresh j 0)) h (answer_at ∙ e))

    pub lines_next : not b ≡ false → fresh_fails t set fresh i ≡ false → fresh_fails t set fresh (i + 1) ≡ false
    unfolding fresh_fails
    lines_next e f = any_below_step i (λ j. fails_at t set (get_or fresh j 0)) f (answer_at ∙ e)
