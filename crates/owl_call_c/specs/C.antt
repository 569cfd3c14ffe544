-- What the call for C hands back.
--
--   OwlIn s b number numbers a == the number, the count and the place of `numbers` and the buffer a are the answer to the text s and the buffer b
use Rattle.std.specs.Prelude.{List, ℕ, get_or}
use Rattle.owl_answer.specs.Owl.{owl, OwlAt}

unfoldable pub OwlIn : List ℕ → List ℕ → ℕ → List ℕ → List ℕ → Type 0
OwlIn s b number numbers a = OwlAt s b (owl number (get_or numbers 0 0) (get_or numbers 1 0) a)
