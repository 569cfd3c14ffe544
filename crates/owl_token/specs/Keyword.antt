-- Small definitions that the code's promises name.
--
--   ends_line b         == the byte b is a line feed or a carriage return
--   run_of l            == the run at the front of l
--   keyword_kind w      == the kind of a listed word, 0 for any other
--   IsListed w kind size == w is the listed word of this kind and length
--   other_kind m o      == the kind of a run of shape m that is not listed; o says whether `(` follows
use Rattle.std.specs.Prelude.{◌≡◌, Bool, true, false, ◌||◌, List, ℕ, ◌+◌, ◌<◌, eqb, length, take}
use Rattle.owl.specs.Once.{is_among, place}
use Rattle.owl.specs.Naming.{same_bytes}
use Rattle.owl.specs.Token.{run_length, shape, keywords}

unfoldable pub ends_line : ℕ → Bool
ends_line b = eqb b 10 || eqb b 13

abbrev pub run_of : List ℕ → List ℕ
run_of l = take (run_length l) l

unfoldable pub keyword_kind : List ℕ → ℕ
keyword_kind w = elim (is_among same_bytes w keywords) [ true ↦ 4 + place same_bytes w keywords | false ↦ 0 ]

-- a listed word is of shape 2, a word
abbrev pub IsListed : List ℕ → ℕ → ℕ → Type 0
IsListed w kind size = (kind ≡ keyword_kind w) × (0 < kind) × (size ≡ length w) × (shape 0 w ≡ 2)

unfoldable pub other_kind : ℕ → Bool → ℕ
other_kind m o =
    elim (eqb m 3) [
      | true ↦ 15
      | false ↦
          elim (eqb m 4) [
            | true ↦ 13
            | false ↦
                elim (eqb m 5) [ true ↦ 17 | false ↦ elim o [ true ↦ 16 | false ↦ 17 ] ]
          ]
    ]
