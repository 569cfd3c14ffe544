-- Laws of striking out, over any relation.
--
--   stands_below   == what stands is below v
--   stood, stands_step, stands_make == what stands after a round stood before it and has a step to what stood, and back
--   struck_exactly == after as many rounds as there are numbers nothing stands exactly if none leads to itself
--   standing_stays == where a round strikes out nothing, no later one does
use Rattle.std.specs.Prelude.{◌≡◌, refl, Bool, true, false, ◌⊎◌, ◌↔◌, T}
use Rattle.std.proofs.Math.Path.{ap, ap₂}
use Rattle.std.proofs.Common.{subst, ◌∙◌, inl, inr, arith}
use Rattle.std.proofs.Math.Bool.{◌&&◌}
use Prim.Native.Nat.{ℕ, zero, suc, ◌+◌, ◌-◌, ◌≤◌, ◌<◌}
use Rattle.std.proofs.Math.Decide.{dec_lt}
use Rattle.std.proofs.Math.Dec.{ltb→lt, lt→ltb}
use Rattle.el.specs.Test.{any_below}
use Rattle.el.specs.TestLaws.{true_is, false_not, and_make, and_left, and_right, any_below_hit, any_below_found, any_below_same}
use Rattle.el.specs.Assignment.{Reaches}
use Rattle.el.proofs.ReachLaws.{reaches_first}
use Rattle.el.proofs.CircleLaws.{circle_some, circle_stands}
use Rattle.el.proofs.InducedLaws.{count_below_le, count_below_lt, count_below_all}
use Rattle.el.specs.Rank.{count_below}
use Rattle.el.specs.Standing.{Stand, standing}

module _ (d : ℕ → ℕ → Bool) (v : ℕ) where
  abbrev on : ℕ → ℕ → ℕ → Bool
  on k x y = d x y && standing d v k y

  pub stood : (k x : ℕ) → T (standing d v (suc k) x) → T (standing d v k x)
  unfolding standing
  stood k x u = and_left (standing d v k x) (any_below v (on k x)) u

  pub stands_below : (k x : ℕ) → T (standing d v k x) → x < v
  unfolding standing
  stands_below zero x u = ltb→lt x v u
  stands_below (suc k) x u = stands_below k x (and_left (standing d v k x) (any_below v (on k x)) u)

  pub stands_step : (k x : ℕ) → T (standing d v (suc k) x) → (y : ℕ) × T (standing d v k y) × T (d x y)
  unfolding standing
  stands_step k x u =
      let f = any_below_found v (on k x) (and_right (standing d v k x) (any_below v (on k x)) u) in
      (f.0, and_right (d x f.0) (standing d v k f.0) f.2, and_left (d x f.0) (standing d v k f.0) f.2)

  pub stands_make : (k x y : ℕ) → T (standing d v k x) → T (standing d v k y) → T (d x y) → T (standing d v (suc k) x)
  unfolding standing
  stands_make k x y u w s =
      and_make (standing d v k x) (any_below v (on k x)) u (any_below_hit v y (on k x) (stands_below k y w) (and_make (d x y) (standing d v k y) s w))

  -- what stands stood before
  stood_before : (j i x : ℕ) → T (standing d v (j + i) x) → T (standing d v i x)
  stood_before zero i x u = subst (λ (k : ℕ). T (standing d v k x)) (let z : zero + i ≡ i = omega arith in z) u
  stood_before (suc j) i x u = stood_before j i x (stood (j + i) x (subst (λ (k : ℕ). T (standing d v k x)) (let z : suc j + i ≡ suc (j + i) = omega arith in z) u))

  -- what leads to itself is never struck out
  circle_stays : ((x y : ℕ) → T (d x y) → x < v) → (k x : ℕ) → Reaches d x x → T (standing d v k x)
  circle_stays low zero x r = unfold standing in lt→ltb x v (let f = reaches_first d r in low x f.0 f.1)
  circle_stays low (suc k) x r = let f = circle_stands r in stands_make k x f.0 (circle_stays low k x r) (circle_stays low k f.0 f.2) f.1

  -- either a round strikes out nothing, or each strikes out at least one
  abbrev Strikes : ℕ → Type 0
  Strikes k = ((j : ℕ) × (j ≤ k) × Stand d (standing d v j)) ⊎ (count_below v (standing d v k) + k ≤ v)

  strikes_next : (k : ℕ) → Strikes k → Strikes (suc k)
  strikes_next k (inl f) = inl (f.0, (let h : f.0 ≤ k = f.1 in omega arith), f.2)
  strikes_next k (inr h) = go (dec_lt (count_below v (standing d v (suc k))) (count_below v (standing d v k)))
    where
      kept : (count_below v (standing d v (suc k)) < count_below v (standing d v k) → ⊥) → (x : ℕ) → T (standing d v k x) → (b : Bool) → standing d v (suc k) x ≡ b → T (standing d v (suc k) x)
      kept f x u true e = true_is (standing d v (suc k) x) e
      kept f x u false e =
          absurd (f (count_below_lt v x (standing d v (suc k)) (standing d v k) (stands_below k x u) (false_not (standing d v (suc k) x) e) u (λ i l w. stood k i w)))

      go : Dec (count_below v (standing d v (suc k)) < count_below v (standing d v k)) → Strikes (suc k)
      go (yes l) = inr (omega arith)
      go (no l) = inl (k, omega arith, λ x u. stands_step k x (kept l x u (standing d v (suc k) x) refl))

  strikes : (k : ℕ) → Strikes k
  strikes zero = inr (let h : count_below v (standing d v zero) ≤ count_below v (λ x. true) = count_below_le v (standing d v zero) (λ x. true) (λ i l u. tt) in let a : count_below v (λ x. true) ≡ v = count_below_all v in omega arith)
  strikes (suc k) = strikes_next k (strikes k)

  stands_circle : (x : ℕ) → T (standing d v v x) → (z : ℕ) × Reaches d z z
  stands_circle x u = go (strikes v)
    where
      go : Strikes v → (z : ℕ) × Reaches d z z
      go (inl f) =
          let h : f.0 ≤ v = f.1 in
          let c = circle_some v d (standing d v f.0) (stands_below f.0) f.2 x
          (stood_before (v - f.0) f.0 x (subst (λ (k : ℕ). T (standing d v k x)) (let z : v ≡ v - f.0 + f.0 = omega arith in z) u)) in
          (c.0, c.2)
      go (inr h) =
          let l : count_below v (λ y. false) < count_below v (standing d v v) = count_below_lt v x (λ y. false) (standing d v v) (stands_below v x u) (λ w. w) u (λ i k w. absurd w) in
          absurd (let z : ⊥ = omega arith in z)

  pub struck_exactly : ((x y : ℕ) → T (d x y) → x < v) → ((x : ℕ) → T (standing d v v x) → ⊥) ↔ ((x : ℕ) → Reaches d x x → ⊥)
  struck_exactly low = ((λ f x r. f x (circle_stays low v x r)), λ f x u. (let c = stands_circle x u in f c.0 c.1))

  -- a round that strikes out nothing is the last that could
  pub standing_stays : (k : ℕ) → ((x : ℕ) → standing d v (suc k) x ≡ standing d v k x) → (j x : ℕ) → standing d v (j + k) x ≡ standing d v k x
  standing_stays k same zero x = ap (λ (i : ℕ). standing d v i x) (let z : zero + k ≡ k = omega arith in z)
  standing_stays k same (suc j) x =
      ap (λ (i : ℕ). standing d v i x) (let z : suc j + k ≡ suc (j + k) = omega arith in z) ∙ next (λ y. standing_stays k same j y) ∙ same x
    where
      next : ((y : ℕ) → standing d v (j + k) y ≡ standing d v k y) → standing d v (suc (j + k)) x ≡ standing d v (suc k) x
      next f = unfold standing in ap₂ ◌&&◌ (f x) (any_below_same v (on (j + k) x) (on k x) (λ y h. ap (λ (b : Bool). d x y && b) (f y)))
