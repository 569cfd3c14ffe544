-- What the call for C hands back through the array that the caller lends.
--
--   place_alone v == the verdict's place
use Rattle.std.specs.Prelude.{List, [], ◌∷◌, ℕ}
use Rattle.owl.specs.Grammar.{Verdict}

unfoldable pub place_alone : Verdict → List ℕ
place_alone v = v.place ∷ []
