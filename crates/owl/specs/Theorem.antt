-- What an accepted text says, and what its table is worth.
--
--   text_solvable == a text with number 0 says one file, and where the names of its axioms are declared, some substitution makes all axioms hold
--                    exactly if some acyclic assignment solves the file's table
use Rattle.std.specs.Prelude.{◌≡◌, Bool, ◌↔◌, List, ℕ, T}
use Rattle.el.specs.Locality.{Solvable}
use Rattle.owl.specs.Tree.{File}
use Rattle.owl.specs.Naming.{all_known}
use Rattle.owl.specs.Meaning.{Joinable}
use Rattle.owl.specs.Flattening.{flat_table}
use Rattle.owl.specs.FlatteningLaws.{file_solvable}
use Rattle.owl.specs.Written.{Says}
use Rattle.owl.specs.Grammar.{checked}
use Rattle.owl.specs.TextLaws.{accepted_means}
use Rattle.owl.specs.UniqueLaws.{says_unique}

module _ (under : ℕ → ℕ → Bool) (under_refl : (r : ℕ) → T (under r r)) (under_trans : (r s u : ℕ) → T (under r s) → T (under s u) → T (under r u)) where
  pub text_solvable : (s : List ℕ) → (checked s).number ≡ 0 →
      (f : File) × Says s f × ((g : File) → Says s g → g ≡ f) × (T (all_known f) → Joinable under f ↔ Solvable under (flat_table f))
  text_solvable s e =
      let found = (accepted_means s).0 e in
      (found.0, found.1, (λ g h. says_unique s g found.0 h found.1), λ known. file_solvable under under_refl under_trans found.0 known)
