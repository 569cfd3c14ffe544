-- The sets of the code as a node.
--
--   same_sets   == the node gives each variable the set that the code holds
--   length_node == it has as many sets as are chosen
--   clean_next, clean_up == a variable that is not chosen still has the empty set, where the last set is replaced, or dropped
use Rattle.std.specs.Prelude.{◌≡◌, List, ℕ, ◌-◌, ◌≤◌, ◌<◌, length, get_or, set, take}
use Rattle.std.proofs.Common.{sym, ap, ◌∙◌, arith, length-take, get_or-set_same, get_or-set_other, get_or-take, length-take-le}
use Rattle.std.proofs.Math.Decide.{ℕ_discrete, dec_lt}
use Rattle.std.proofs.Math.ListN.{get_or-eq_default}
use Rattle.el.specs.Assignment.{set_of}
use Rattle.node.specs.declared.Sets.{Sets}
use Rattle.node.specs.Node.{node_of, Clean}

pub same_sets : (sets : Sets) → Clean sets → (x : ℕ) → set_of (node_of sets) x ≡ set_of sets.set x
unfolding node_of Clean set_of
same_sets sets clean x = go (dec_lt x sets.chosen)
  where
    go : Dec (x < sets.chosen) → get_or (take sets.chosen sets.set) x 0 ≡ get_or sets.set x 0
    go (yes l) = get_or-take sets.chosen sets.set x 0 l
    go (no l) =
        get_or-eq_default (take sets.chosen sets.set) 0 (simp length-take (omega arith)) ∙ sym (clean x (omega arith))

pub length_node : (sets : Sets) → sets.chosen ≤ length sets.set → length (node_of sets) ≡ sets.chosen
unfolding node_of
length_node sets h = length-take-le sets.chosen sets.set h

pub clean_next : (a : List ℕ) (k y : ℕ) → 0 < k → ((x : ℕ) → k ≤ x → get_or a x 0 ≡ 0) → (x : ℕ) → k ≤ x → get_or (set a (k - 1) y) x 0 ≡ 0
clean_next a k y some f x h = get_or-set_other a (k - 1) x y 0 (omega arith) ∙ f x h

pub clean_up : (a : List ℕ) (k : ℕ) → 0 < k → k ≤ length a → ((x : ℕ) → k ≤ x → get_or a x 0 ≡ 0) → (x : ℕ) → k - 1 ≤ x → get_or (set a (k - 1) 0) x 0 ≡ 0
clean_up a k some fits f x h = go (ℕ_discrete x (k - 1))
  where
    go : Dec (x ≡ k - 1) → get_or (set a (k - 1) 0) x 0 ≡ 0
    go (yes e) = ap (λ (i : ℕ). get_or (set a (k - 1) 0) i 0) e ∙ get_or-set_same a (k - 1) 0 0 (omega arith)
    go (no e) = clean_next a k 0 some f x (omega arith)
