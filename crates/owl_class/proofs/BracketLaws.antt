-- A token opens one bracket at most.
use Rattle.std.specs.Prelude.{Bool, true, false, ◌&&◌, not, ℕ, zero, suc, ◌+◌, ◌≤◌, eqb}
use Rattle.std.proofs.Common.{arith}
use Rattle.owl.specs.Conjunct.{is_zero, less, outer_after, inner_after}

less_le : (n : ℕ) → less n ≤ n
less_le zero = omega arith
less_le (suc n) = omega arith

pub outer_le : (outer inner q k : ℕ) → outer_after outer inner q k ≤ outer + 1
unfolding outer_after
outer_le outer inner q k = go (eqb k 1) (is_zero inner && not (eqb q 4)) (eqb k 2 && is_zero inner) (less_le outer)
  where
    go : (a b c : Bool) → less outer ≤ outer → elim a [ true ↦ elim b [ true ↦ suc outer | false ↦ outer ] | false ↦ elim c [ true ↦ less outer | false ↦ outer ] ] ≤ outer + 1
    go true true c h = omega arith
    go true false c h = omega arith
    go false b true h = omega arith
    go false b false h = omega arith

pub inner_le : (inner q k : ℕ) → inner_after inner q k ≤ inner + 1
unfolding inner_after
inner_le inner q k = go (eqb k 1) (is_zero inner && not (eqb q 4)) (eqb k 2) (less_le inner)
  where
    go : (a b c : Bool) → less inner ≤ inner → elim a [ true ↦ elim b [ true ↦ inner | false ↦ suc inner ] | false ↦ elim c [ true ↦ less inner | false ↦ inner ] ] ≤ inner + 1
    go true true c h = omega arith
    go true false c h = omega arith
    go false b true h = omega arith
    go false b false h = omega arith
