-- Counting order is a strict total order on the assignments of one table.
--
--   before_irreflexive   == no assignment stands before itself
--   before_transitive    == before what stands before
--   before_total         == of two of one length one stands before the other, or they are equal
--   counting_order       == "compare variable 0's set numbers, then variable 1's, and so on" orders the assignments of a table
use Rattle.std.specs.Prelude.{◌≡◌, refl, ◌⊎◌, List, [], ◌∷◌, ℕ, ◌<◌, length}
use Rattle.std.proofs.Common.{sym, ap₂, ◌∙◌, inl, inr, arith}
use Rattle.std.proofs.Math.Decide.{dec_lt}
use Rattle.el.specs.Table.{Table}
use Rattle.el.specs.Assignment.{Assignment, IsAssignment, Before}
use Rattle.el.specs.Counting.{StrictTotal}

pub before_irreflexive : (a : Assignment) → Before a a → ⊥
before_irreflexive [] b = b
before_irreflexive (x ∷ a) (inl h) = omega arith
before_irreflexive (x ∷ a) (inr h) = before_irreflexive a h.1

pub before_transitive : (a b c : Assignment) → Before a b → Before b c → Before a c
before_transitive [] b c h k = absurd h
before_transitive (x ∷ a) [] c h k = absurd h
before_transitive (x ∷ a) (y ∷ b) [] h k = absurd k
before_transitive (x ∷ a) (y ∷ b) (z ∷ c) (inl h) (inl k) = inl (omega arith)
before_transitive (x ∷ a) (y ∷ b) (z ∷ c) (inl h) (inr k) = let e : y ≡ z = k.0 in inl (omega arith)
before_transitive (x ∷ a) (y ∷ b) (z ∷ c) (inr h) (inl k) = let e : x ≡ y = h.0 in inl (omega arith)
before_transitive (x ∷ a) (y ∷ b) (z ∷ c) (inr h) (inr k) = inr (h.0 ∙ k.0, before_transitive a b c h.1 k.1)

pub before_total : (a b : Assignment) → length a ≡ length b → Before a b ⊎ (a ≡ b) ⊎ Before b a
before_total [] [] e = inr (inl refl)
before_total [] (y ∷ b) e = absurd (let z : ⊥ = omega arith in z)
before_total (x ∷ a) [] e = absurd (let z : ⊥ = omega arith in z)
before_total (x ∷ a) (y ∷ b) e = go (dec_lt x y) (dec_lt y x) (before_total a b (omega arith))
  where
    go : Dec (x < y) → Dec (y < x) → (Before a b ⊎ (a ≡ b) ⊎ Before b a) → Before (x ∷ a) (y ∷ b) ⊎ (x ∷ a ≡ y ∷ b) ⊎ Before (y ∷ b) (x ∷ a)
    go (yes h) k r = inl (inl h)
    go (no h) (yes k) r = inr (inr (inl k))
    go (no h) (no k) (inl r) = let q : x ≡ y = omega arith in inl (inr (q, r))
    go (no h) (no k) (inr (inl r)) = let q : x ≡ y = omega arith in inr (inl (ap₂ {C = List ℕ} ◌∷◌ q r))
    go (no h) (no k) (inr (inr r)) = let q : y ≡ x = omega arith in inr (inr (inr (q, r)))

pub counting_order : (t : Table) → StrictTotal (IsAssignment t) Before
unfolding IsAssignment
counting_order t =
    record {
      irreflexive = λ a p. before_irreflexive a;
      transitive = λ a b c p q r. before_transitive a b c;
      total = λ a b p q. before_total a b (p.0 ∙ sym q.0);
    }
