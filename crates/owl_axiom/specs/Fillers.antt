-- The fillers of a text that are no names, in its order, by their bytes.
--
--   NextFiller s from does found at == what the code tells of the first of them from byte `from` on, where the next name does `does`: it begins
--                    with the next token after byte `at`, and the others stand behind that byte
--   FindsFiller s from does o == o is that byte, if there is one
use Rattle.std.specs.Prelude.{◌≡◌, Bool, true, false, List, [], ◌∷◌, ℕ, ◌+◌, ◌≤◌, ◌<◌, length, Option, Some, None}
use Rattle.owl.specs.Equation.{owned, owned_by}
use Rattle.owl_class.specs.Ends.{rest_tokens}
use Rattle.owl_class.specs.Conjuncts.{conjuncts_at, Reached}

unfoldable pub NextFiller : List ℕ → ℕ → ℕ → Bool → ℕ → Type 0
NextFiller s from does found at =
    (n : ℕ) → Reached s from does n →
    (found ≡ false → owned_by does n (rest_tokens s from) ≡ [])
    × (found ≡ true → (owned_by does n (rest_tokens s from) ≡ owned n (conjuncts_at s at (n + 1)) ∷ owned_by 3 (n + 1) (rest_tokens s at)) × Reached s at 3 (n + 1))

abbrev pub FindsFiller : List ℕ → ℕ → ℕ → Option ℕ → Type 0
FindsFiller s from does None = NextFiller s from does false from
FindsFiller s from does (Some at) = NextFiller s from does true at × (from < at) × (at ≤ length s)
