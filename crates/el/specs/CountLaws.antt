-- How many nodes a walk examines at most.
--
--   up_to_length    == a list up to its first is not longer
--   turn_length    == so many subtrees, each with so many nodes at most
--   power_next, sum_first == 2^(n(k+1)) is 2^(nk) times 2^n, and a sum of such powers by its first
--   tree_length    == the nodes of a tree
--   count_some     == the root is always examined: N is not 0
--   count_most     == "N is at most the sum of 2^((c+e)k) for k from 0 to v."
use Rattle.std.specs.Prelude.{◌≡◌, Bool, true, false}
use Rattle.std.proofs.Common.{ap, ◌∙◌, mul-suc, mul-zero, add-mul, pow-add, length-append}
use mathlib.Core.List.{List, [], ◌∷◌, ◌++◌}
use Prim.Native.Nat.{ℕ, zero, suc, ◌+◌, ◌*◌, ◌^◌, ◌≤◌, ◌<◌}
use native.Mathlib.Omega.{arith}
use Rattle.std.proofs.Math.Nat.{pow-zero}
use Rattle.std.proofs.Math.ListN.{length}
use Rattle.el.specs.Table.{Table, atoms}
use Rattle.el.specs.Walk.{Node, ends, in_turn, tree_of, subtree, nodes, up_to_first, examined, count, sum_to, most_nodes}

up_to_length : (p : Node → Bool) (l : List Node) → length (up_to_first p l) ≤ length l
unfolding up_to_first
up_to_length p [] = omega arith
up_to_length p (s ∷ l) = go (p s) (up_to_length p l)
  where
    go : (b : Bool) → length (up_to_first p l) ≤ length l → suc (length {A = Node} (elim b [ true ↦ [] | false ↦ up_to_first p l ])) ≤ suc (length l)
    go true h = omega arith
    go false h = omega arith

turn_length : (m x b : ℕ) (f : ℕ → List Node) → ((y : ℕ) → length (f y) ≤ b) → length (in_turn m x f) ≤ b * m
unfolding in_turn
turn_length zero x b f h = omega arith
turn_length (suc m) x b f h =
    let first : length (f x) ≤ b = h x in
    let rest : length (in_turn m (x + 1) f) ≤ b * m = turn_length m (x + 1) b f h in
    let both : length (f x ++ in_turn m (x + 1) f) ≡ length (f x) + length (in_turn m (x + 1) f) = length-append (f x) (in_turn m (x + 1) f) in
    let more : b * suc m ≡ b * m + b = mul-suc b m in
    omega arith

power_next : (n k : ℕ) → 2 ^ (n * suc k) ≡ 2 ^ (n * k) * 2 ^ n
power_next n k = ap (λ (i : ℕ). 2 ^ i) (mul-suc n k) ∙ pow-add 2 (n * k) n

power_none : (n : ℕ) → 2 ^ (n * 0) ≡ 1
power_none n = ap (λ (i : ℕ). 2 ^ i) (mul-zero n) ∙ pow-zero 2

sum_first : (n r : ℕ) → sum_to (suc r) (λ k. 2 ^ (n * k)) ≡ 1 + sum_to r (λ k. 2 ^ (n * k)) * 2 ^ n
unfolding sum_to
sum_first n zero =
    let a : 2 ^ (n * 0) ≡ 1 = power_none n in
    let b : 2 ^ (n * suc 0) ≡ 2 ^ (n * 0) * 2 ^ n = power_next n 0 in
    omega arith
sum_first n (suc r) =
    let ih : sum_to (suc r) (λ k. 2 ^ (n * k)) ≡ 1 + sum_to r (λ k. 2 ^ (n * k)) * 2 ^ n = sum_first n r in
    let b : 2 ^ (n * suc (suc r)) ≡ 2 ^ (n * suc r) * 2 ^ n = power_next n (suc r) in
    let c : (sum_to r (λ k. 2 ^ (n * k)) + 2 ^ (n * suc r)) * 2 ^ n ≡ sum_to r (λ k. 2 ^ (n * k)) * 2 ^ n + 2 ^ (n * suc r) * 2 ^ n = add-mul (sum_to r (λ k. 2 ^ (n * k))) (2 ^ (n * suc r)) (2 ^ n) in
    omega arith

module _ (under : ℕ → ℕ → Bool) (t : Table) where
  abbrev sums : ℕ → ℕ
  sums r = sum_to r (λ k. 2 ^ (atoms t * k))

  tree_length : (gone : Node → Bool) (r : ℕ) (s : Node) → length (tree_of gone (2 ^ atoms t) r s) ≤ sums r
  unfolding tree_of sum_to
  tree_length gone zero s = let a : 2 ^ (atoms t * 0) ≡ 1 = power_none (atoms t) in omega arith
  tree_length gone (suc r) s = go (gone s) (λ (x : ℕ). tree_length gone r (s ++ (x ∷ [])))
    where
      whole : sums (suc r) ≡ 1 + sums r * 2 ^ atoms t
      whole = sum_first (atoms t) r

      go : (b : Bool) → ((x : ℕ) → length (tree_of gone (2 ^ atoms t) r (s ++ (x ∷ []))) ≤ sums r)
          → suc (length {A = Node} (elim b [ true ↦ [] | false ↦ in_turn (2 ^ atoms t) 0 (λ x. tree_of gone (2 ^ atoms t) r (s ++ (x ∷ []))) ])) ≤ sums (suc r)
      go true h = let w : sums (suc r) ≡ 1 + sums r * 2 ^ atoms t = whole in omega arith
      go false h =
          let w : sums (suc r) ≡ 1 + sums r * 2 ^ atoms t = whole in
          let l : length (in_turn (2 ^ atoms t) 0 (λ x. tree_of gone (2 ^ atoms t) r (s ++ (x ∷ [])))) ≤ sums r * 2 ^ atoms t = turn_length (2 ^ atoms t) 0 (sums r) (λ x. tree_of gone (2 ^ atoms t) r (s ++ (x ∷ []))) h in
          omega arith

  pub count_some : 0 < count under t
  unfolding count examined nodes
  count_some = go t.variables
    where
      first : (l : List Node) (s : Node) → 0 < length (up_to_first (ends under t) (s ∷ l))
      first l s = unfold up_to_first in omega arith

      go : (r : ℕ) → 0 < length (up_to_first (ends under t) (subtree under t r []))
      go zero = unfold tree_of in first _ []
      go (suc r) = unfold tree_of in first _ []

  -- N IS AT MOST THE SUM OF ALL LEVELS
  pub count_most : count under t ≤ most_nodes t
  unfolding count examined nodes most_nodes
  count_most =
      let a : length (up_to_first (ends under t) (nodes under t)) ≤ length (nodes under t) = up_to_length (ends under t) (nodes under t) in
      let b : length (nodes under t) ≤ sums t.variables = tree_length _ t.variables [] in
      omega arith
