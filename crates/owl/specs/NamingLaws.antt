-- Laws of names.
--
--   same_bytes_refl, same_bytes_means == the test says that the lists are equal
--   same_name_refl, same_name_means   == and so for names
use Rattle.std.specs.Prelude.{◌≡◌, refl, List, [], ◌∷◌, ℕ, T, eqb}
use Rattle.std.proofs.Common.{ap, ap₂, eqb→eq}
use Rattle.std.proofs.Math.Dec.{eqb_refl}
use Rattle.el.specs.TestLaws.{and_make, and_left, and_right}
use Rattle.owl.specs.Tree.{Name, short, full}
use Rattle.owl.specs.Naming.{same_bytes, same_name}

pub same_bytes_refl : (w : List ℕ) → T (same_bytes w w)
unfolding same_bytes
same_bytes_refl [] = tt
same_bytes_refl (b ∷ w) = and_make (eqb b b) (same_bytes w w) (eqb_refl b) (same_bytes_refl w)

pub same_bytes_means : (w u : List ℕ) → T (same_bytes w u) → w ≡ u
unfolding same_bytes
same_bytes_means [] [] t = refl
same_bytes_means [] (b ∷ u) t = absurd t
same_bytes_means (a ∷ w) [] t = absurd t
same_bytes_means (a ∷ w) (b ∷ u) t =
    ap₂ (λ (x : ℕ) (l : List ℕ). x ∷ l) (eqb→eq a b (and_left (eqb a b) (same_bytes w u) t)) (same_bytes_means w u (and_right (eqb a b) (same_bytes w u) t))

pub same_name_refl : (n : Name) → T (same_name n n)
same_name_refl (short w) = same_bytes_refl w
same_name_refl (full w) = same_bytes_refl w

pub same_name_means : (m n : Name) → T (same_name m n) → m ≡ n
same_name_means (short w) (short u) t = ap short (same_bytes_means w u t)
same_name_means (short w) (full u) t = absurd t
same_name_means (full w) (short u) t = absurd t
same_name_means (full w) (full u) t = ap full (same_bytes_means w u t)
