-- What tokens say: the bytes of a name, the restrictions.
--
--   bytes_of t      == the bytes of a token that is a name
--   part_of n ts    == the filler that begins with the first of the tokens ts, where n is its number if it is no name
--   own_of ts       == 1 if it is no name, else 0
--   said_by q n ts  == the restrictions of the tokens ts, where q is what the next name does, and n the number of the next filler that is no name
use Rattle.std.specs.Prelude.{Bool, true, false, ◌&&◌, List, [], ◌∷◌, ℕ, ◌+◌, eqb}
use Rattle.owl.specs.Tree.{Name}
use Rattle.owl.specs.Written.{Token, sign, text, kind}
use Rattle.owl.specs.Grammar.{is_name}
use Rattle.owl.specs.Mention.{sort_after, name_by}
use Rattle.owl.specs.Restriction.{Part, by_name, by_number, Restriction, restricted}

abbrev pub bytes_of : Token → List ℕ
bytes_of (sign k) = []
bytes_of (text k w) = w

unfoldable pub part_by : ℕ → Bool → Name → Part
part_by n b m = elim b [ true ↦ by_name m | false ↦ by_number n ]

unfoldable pub part_of : ℕ → List Token → Part
part_of n [] = by_number n
part_of n (t ∷ ts) = part_by n (is_name (kind t)) (name_by (kind t) (bytes_of t))

unfoldable pub own_of : List Token → ℕ
own_of [] = 1
own_of (t ∷ ts) = elim (is_name (kind t)) [ true ↦ 0 | false ↦ 1 ]

unfoldable pub said_by : ℕ → ℕ → List Token → List Restriction
said_by q n [] = []
said_by q n (t ∷ ts) =
    elim (is_name (kind t) && eqb q 4) [
      | true ↦ restricted (name_by (kind t) (bytes_of t)) (part_of n ts) ∷ said_by (sort_after q (kind t)) (n + own_of ts) ts
      | false ↦ said_by (sort_after q (kind t)) n ts
    ]
