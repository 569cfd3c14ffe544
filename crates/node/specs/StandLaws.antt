-- Laws of the cycle test: the mask of what stands, round by round, and what it says at the end.
--
--   standing_first == all stand at first
--   standing_next  == one round more
--   standing_last  == a round that strikes out nothing is as good as all rounds
--   standing_whole == as many rounds as variables
--   cycle_says     == at the end the node is acyclic exactly if nothing stands
use Rattle.std.specs.Prelude.{◌≡◌, Bool, ◌&&◌, ◌↔◌, List, ℕ, suc, ◌+◌, ◌-◌, ◌≤◌, ◌<◌, eqb, ltb}
use Rattle.std.proofs.Common.{sym, ap, subst, ◌∙◌, arith, add-one, eqb→eq, eq-eqb}
use Rattle.std.specs.Int.Bits.{bit_and}
use Rattle.std.proofs.Math.Dec.{T}
use Rattle.el.specs.Test.{bit}
use Rattle.el.specs.TestLaws.{is_false, true_is, false_not, same_test, and_make, and_left, and_right, bit_none}
use Rattle.el.specs.Table.{Table}
use Rattle.el.specs.Assignment.{Acyclic, Reaches, once, depends, acyclic}
use Rattle.el.specs.BitLaws.{bit_of_and}
use Rattle.el.proofs.CircleLaws.{reaches_along}
use Rattle.el.proofs.ReachLaws.{acyclic_says}
use Rattle.el.specs.Standing.{standing}
use Rattle.el.proofs.StandingLaws.{stood, stands_step, stands_make, struck_exactly, standing_stays}
use Rattle.node.specs.declared.Sets.{Sets}
use Rattle.node.specs.Node.{node_of}
use Rattle.node.specs.Mask.{Masks, Picks, Fills}
use Rattle.node.specs.MaskLaws.{same_bits}
use Rattle.node.specs.Marks.{depends_in, AtomsInto, has_one}
use Rattle.node.specs.MarkLaws.{has_some, has_all}
use Rattle.node.specs.DependLaws.{depends_node, chosen_depends}

module _ (fill : List ℕ) (c e : ℕ) (set : List ℕ) (n v : ℕ) where
  abbrev d : ℕ → ℕ → Bool
  d = depends_in fill c e set n

  pub standing_first : (m : ℕ) → Masks (λ x. ltb x v) m → Masks (standing d v 0) m
  unfolding standing
  standing_first m is = is

  module _ (i m : ℕ) (is : Masks (standing d v i) m) where
    module _ (atoms k : ℕ) (into : AtomsInto fill c e m atoms) (picks : Picks (has_one set atoms) n k) where
      next : Masks (standing d v (suc i)) (bit_and m k)
      next x =
          bit_of_and x m k ∙ same_test (bit x m && bit x k) (standing d v (suc i) x)
          (λ u. let f = has_some into set n k picks x (and_right (bit x m) (bit x k) u) in
          stands_make d v i x f.0 (subst T (is x) (and_left (bit x m) (bit x k) u)) (subst T (is f.0) f.1) f.2)
          (λ u. let f = stands_step d v i x u in
          and_make (bit x m) (bit x k) (subst T (sym (is x)) (stood d v i x u)) (has_all into set n k picks x f.0 (subst T (sym (is f.0)) f.1) f.2))

      pub standing_next : Masks (standing d v (i + 1)) (bit_and m k)
      standing_next = rw add-one next

      pub standing_last : i < v → bit_and m k ≡ m → Masks (standing d v v) m
      standing_last h q x =
          is x ∙ sym (standing_stays d v i (λ y. sym (next y) ∙ ap (bit y) q ∙ is y) (v - i) x) ∙ ap (λ (j : ℕ). standing d v j x) (let z : v - i + i ≡ v = omega arith in z)

    pub standing_whole : i ≤ v → v ≤ i → Masks (standing d v v) m
    standing_whole h l = subst (λ (j : ℕ). Masks (standing d v j) m) (let z : i ≡ v = omega arith in z) is

module _ (t : Table) (c e : ℕ) (fill : List ℕ) (fills : Fills t c e fill) (sets : Sets) (few : sets.chosen ≤ t.variables) where
  abbrev steps : ℕ → ℕ → Bool
  steps = depends_in fill c e sets.set sets.chosen

  same : (x y : ℕ) → steps x y ≡ depends t (node_of sets) x y
  unfolding node_of
  same x y = depends_node t c e fill fills sets.set sets.chosen x y

  -- what depends on any is chosen, and so a variable of the table
  inner : (x y z : ℕ) → T (depends t (node_of sets) x y) → T (depends t (node_of sets) y z) → y < t.variables
  inner x y z u w = let l : y < sets.chosen = chosen_depends fill c e sets.set sets.chosen y z (subst T (sym (same y z)) w) in omega arith

  circles : T (acyclic t (node_of sets)) ↔ ((x : ℕ) → Reaches steps x x → ⊥)
  unfolding Acyclic
  circles =
      let says = acyclic_says t (node_of sets) inner in
      ((λ u x r. says.0 u x (reaches_along (λ y z w. once (subst T (same y z) w)) r)), λ f. says.1 (λ x r. f x (reaches_along (λ y z w. once (subst T (sym (same y z)) w)) r)))

  pub cycle_says : (v m : ℕ) → sets.chosen ≤ v → Masks (standing steps v v) m → eqb m 0 ≡ acyclic t (node_of sets)
  cycle_says v m h is =
      same_test (eqb m 0) (acyclic t (node_of sets))
      (λ u. circles.1 (exact.0 (λ x w. false_not (bit x m) (ap (bit x) (eqb→eq m 0 u) ∙ bit_none x) (subst T (sym (is x)) w))))
      (λ u. true_is (eqb m 0) (eq-eqb m 0 (same_bits m 0 (λ x. is_false (bit x m) (λ w. exact.1 (circles.0 u) x (subst T (is x) w)) ∙ sym (bit_none x)))))
    where
      low : (x y : ℕ) → T (steps x y) → x < v
      low x y u = let l : x < sets.chosen = chosen_depends fill c e sets.set sets.chosen x y u in omega arith

      exact : ((x : ℕ) → T (standing steps v v x) → ⊥) ↔ ((x : ℕ) → Reaches steps x x → ⊥)
      exact = struck_exactly steps v low
