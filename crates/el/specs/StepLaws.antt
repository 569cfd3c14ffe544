-- How one step goes along the nodes of a tree: what is left of them from a node on. The tree is any that `tree_of` makes.
--
--   in_turn_none, in_turn_more == no number, and one number more, in turn
--   remaining_start   == from the root it is the whole tree
--   remaining_gone    == a node that is gone has nothing below it
--   remaining_full    == neither has one at the lowest level
--   remaining_down    == any other is followed by its first child
--   remaining_first   == the first of them is the node itself
--   afterwards_set    == they are told by the first k sets alone
--   afterwards_hit    == after a node comes its next sibling, where there is one
--   afterwards_miss   == where there is none, what comes after the node above
--   afterwards_end    == after the root comes nothing
use Rattle.std.specs.Prelude.{◌≡◌, Bool, length, set}
use Rattle.std.proofs.Math.Path.{refl, sym, ap, ap₂, subst}
use Rattle.std.proofs.Common.{◌∙◌, add-one, take-suc-set, get_or-set_same, get_or-set_other}
use Rattle.std.proofs.Math.Bool.{true, false}
use mathlib.Core.List.{List, [], ◌∷◌, ◌++◌, append_assoc, append-nil}
use Prim.Native.Nat.{ℕ, zero, suc, ◌+◌, ◌-◌, ◌≤◌, ◌<◌}
use native.Mathlib.Omega.{arith}
use Rattle.std.proofs.Math.Nat.{sub-zero}
use Rattle.std.proofs.Math.ListN.{get_or, take}
use Rattle.std.proofs.lemmas.List.{take-set-le}
use Rattle.el.specs.Walk.{Node, in_turn, tree_of}
use Rattle.el.specs.Along.{siblings, afterwards, remaining}

-- one after the other, by cases
pub in_turn_none : (m x : ℕ) (f : ℕ → List Node) → m ≡ 0 → in_turn m x f ≡ []
unfolding in_turn
in_turn_none m x f e = rw e

pub in_turn_more : (m k x : ℕ) (f : ℕ → List Node) → m ≡ suc k → in_turn m x f ≡ f x ++ in_turn k (x + 1) f
unfolding in_turn
in_turn_more m k x f e = rw e

module _ (gone : Node → Bool) (w v : ℕ) where
  tree_gone : (r : ℕ) (s : Node) → gone s ≡ true → tree_of gone w r s ≡ s ∷ []
  unfolding tree_of
  tree_gone zero s e = refl
  tree_gone (suc r) s e = rw (e, tree_of)

  tree_on : (r : ℕ) (s : Node) → gone s ≡ false
      → tree_of gone w (suc r) s ≡ s ∷ in_turn w 0 (λ x. tree_of gone w r (s ++ (x ∷ [])))
  unfolding tree_of
  tree_on r s e = rw (e, tree_of)

  pub remaining_start : (a : List ℕ) → tree_of gone w v [] ≡ remaining gone w v a 0
  unfolding remaining afterwards
  remaining_start a = rw (sub-zero, append-nil) refl

  pub remaining_gone : (a : List ℕ) (k : ℕ) → gone (take k a) ≡ true → remaining gone w v a k ≡ take k a ∷ afterwards gone w v a k
  unfolding remaining
  remaining_gone a k e = ap (λ (l : List Node). l ++ afterwards gone w v a k) (tree_gone (v - k) (take k a) e)

  pub remaining_full : (a : List ℕ) (k : ℕ) → v ≤ k → remaining gone w v a k ≡ take k a ∷ afterwards gone w v a k
  unfolding remaining tree_of
  remaining_full a k h = ap (λ (r : ℕ). tree_of gone w r (take k a) ++ afterwards gone w v a k) (let q : v - k ≡ 0 = omega arith in q)

  pub remaining_first : (a : List ℕ) (k : ℕ) → (l : List Node) × (remaining gone w v a k ≡ take k a ∷ l)
  unfolding remaining
  remaining_first a k = go (v - k)
    where
      go : (r : ℕ) → (l : List Node) × (tree_of gone w r (take k a) ++ afterwards gone w v a k ≡ take k a ∷ l)
      go zero = (afterwards gone w v a k, unfold tree_of in refl)
      go (suc r) = (elim (gone (take k a)) [ true ↦ [] | false ↦ in_turn w 0 (λ x. tree_of gone w r (take k a ++ (x ∷ []))) ] ++ afterwards gone w v a k, unfold tree_of in refl)

  -- what comes after depends on the sets above only
  siblings_set : (a : List ℕ) (i k y : ℕ) → k < i → siblings gone w v (set a i y) k ≡ siblings gone w v a k
  unfolding siblings
  siblings_set a i k y h =
      ap₂ (λ (z : ℕ) (l : List ℕ). in_turn (w - suc z) (z + 1) (λ x. tree_of gone w (v - suc k) (l ++ (x ∷ []))))
      (get_or-set_other a i k y 0 (omega arith)) (take-set-le k a i y (omega arith))

  pub afterwards_set : (a : List ℕ) (i k y : ℕ) → k ≤ i → afterwards gone w v (set a i y) k ≡ afterwards gone w v a k
  unfolding afterwards
  afterwards_set a i zero y h = refl
  afterwards_set a i (suc k) y h = ap₂ ◌++◌ (siblings_set a i k y (omega arith)) (afterwards_set a i k y (omega arith))

  -- the children of (take k a) from x on: the first, and its siblings
  kids : (a : List ℕ) (k x : ℕ) → k < length a → x < w
      → in_turn (w - x) x (λ y. tree_of gone w (v - suc k) (take k a ++ (y ∷ []))) ++ afterwards gone w v a k
      ≡ remaining gone w v (set a k x) (suc k)
  unfolding remaining afterwards siblings
  kids a k x h l =
      ap (λ (z : List Node). z ++ afterwards gone w v a k)
      (in_turn_more (w - x) (w - suc x) x (λ y. tree_of gone w (v - suc k) (take k a ++ (y ∷ []))) (omega arith))
      ∙ append_assoc (tree_of gone w (v - suc k) (take k a ++ (x ∷ [])))
      (in_turn (w - suc x) (x + 1) (λ y. tree_of gone w (v - suc k) (take k a ++ (y ∷ [])))) (afterwards gone w v a k)
      ∙ ap₂ (λ (p q : List Node). p ++ q) (ap (tree_of gone w (v - suc k)) (sym (take-suc-set a k x h)))
      (ap₂ (λ (p q : List Node). p ++ q)
      (ap₂ (λ (z : ℕ) (m : List ℕ). in_turn (w - suc z) (z + 1) (λ y. tree_of gone w (v - suc k) (m ++ (y ∷ []))))
      (sym (get_or-set_same a k x 0 h)) (sym (take-set-le k a k x (omega arith))))
      (sym (afterwards_set a k k x (omega arith))))

  pub remaining_down : (a : List ℕ) (k : ℕ) → k < length a → k < v → 0 < w → gone (take k a) ≡ false
      → remaining gone w v a k ≡ take k a ∷ remaining gone w v (set a k 0) (k + 1)
  unfolding remaining
  remaining_down a k h l u e =
      (ap (λ (r : ℕ). tree_of gone w r (take k a) ++ afterwards gone w v a k) (let q : v - k ≡ suc (v - suc k) = omega arith in q))
      ∙ ap (λ (z : List Node). z ++ afterwards gone w v a k) (tree_on (v - suc k) (take k a) e)
      ∙ ap (λ (z : List Node). take k a ∷ z)
      (ap (λ (m : ℕ). in_turn m 0 (λ y. tree_of gone w (v - suc k) (take k a ++ (y ∷ []))) ++ afterwards gone w v a k) (sym (sub-zero w))
      ∙ kids a k 0 h u ∙ ap (remaining gone w v (set a k 0)) (sym (add-one k)))

  pub afterwards_hit : (a : List ℕ) (k : ℕ) → 0 < k → k ≤ length a → get_or a (k - 1) 0 + 1 < w
      → afterwards gone w v a k ≡ remaining gone w v (set a (k - 1) (get_or a (k - 1) 0 + 1)) k
  unfolding afterwards siblings
  afterwards_hit a zero h l u = absurd (let z : ⊥ = omega arith in z)
  afterwards_hit a (suc k) h l u =
      let q : suc k - 1 ≡ k = omega arith in
      (ap (λ (m : ℕ). in_turn m (get_or a k 0 + 1) (λ x. tree_of gone w (v - suc k) (take k a ++ (x ∷ []))) ++ afterwards gone w v a k)
      (let e : w - suc (get_or a k 0) ≡ w - (get_or a k 0 + 1) = omega arith in e))
      ∙ kids a k (get_or a k 0 + 1) (omega arith) (subst (λ (i : ℕ). get_or a i 0 + 1 < w) q u)
      ∙ ap (λ (i : ℕ). remaining gone w v (set a i (get_or a i 0 + 1)) (suc k)) (sym q)

  pub afterwards_miss : (a : List ℕ) (k : ℕ) → 0 < k → w ≤ get_or a (k - 1) 0 + 1
      → afterwards gone w v a k ≡ afterwards gone w v (set a (k - 1) 0) (k - 1)
  unfolding afterwards siblings
  afterwards_miss a zero h z = absurd (let y : ⊥ = omega arith in y)
  afterwards_miss a (suc k) h z =
      let q : suc k - 1 ≡ k = omega arith in
      let u : w ≤ get_or a k 0 + 1 = subst (λ (i : ℕ). w ≤ get_or a i 0 + 1) q z in
      (ap (λ (z : List Node). z ++ afterwards gone w v a k)
      (in_turn_none (w - suc (get_or a k 0)) (get_or a k 0 + 1) (λ x. tree_of gone w (v - suc k) (take k a ++ (x ∷ []))) (omega arith)))
      ∙ sym (afterwards_set a k k 0 (omega arith)) ∙ ap (λ (i : ℕ). afterwards gone w v (set a i 0) i) (sym q)

  pub afterwards_end : (a : List ℕ) (k : ℕ) → k ≡ 0 → afterwards gone w v a k ≡ []
  unfolding afterwards
  afterwards_end a k e = rw e
