-- Numbers and bytes as text. A text is a list of bytes, in ASCII.
--
--   digit d            == the character of a digit: 0 to 9, then a to f
--   decimal_to k n      == the last k digits of n, without leading zeros
--   decimal n          == n in decimal, without leading zeros
--   joined between ts  == the texts ts one after the other, with the text `between` between two
--   any ts             == there is a text
--   numbers_text ns     == the numbers ns with single spaces
--   answer_text a       == number, count and place
--   bytes_text bs       == the bytes bs in hexadecimal, two digits each
--   hex_text bs         == the same, or `-` for none
use Rattle.std.specs.Prelude.{Bool, true, false, cond, List, [], ◌∷◌, ◌++◌, map, ℕ, zero, suc, ◌+◌, ◌/◌, ◌%◌, ltb}
use Rattle.answer.specs.declared.Handed.{Handed}

abbrev pub space : List ℕ
space = 0x20 ∷ []

-- "Every line ends with one newline."
abbrev pub newline : List ℕ
newline = 0x0A ∷ []

abbrev pub digit : ℕ → ℕ
digit d = cond (ltb d 10) (48 + d) (87 + d)

unfoldable pub decimal_to : ℕ → ℕ → List ℕ
decimal_to zero n = []
decimal_to (suc k) n = elim (ltb n 10) [ true ↦ digit n ∷ [] | false ↦ decimal_to k (n / 10) ++ (digit (n % 10) ∷ []) ]

-- a number has fewer digits than it counts, but for 0 to 9, which have one
unfoldable pub decimal : ℕ → List ℕ
decimal n = decimal_to (suc n) n

unfoldable pub behind : List ℕ → List (List ℕ) → List ℕ
behind between [] = []
behind between (t ∷ ts) = between ++ (t ++ behind between ts)

unfoldable pub joined : List ℕ → List (List ℕ) → List ℕ
joined between [] = []
joined between (t ∷ ts) = t ++ behind between ts

unfoldable pub any : List (List ℕ) → Bool
any [] = false
any (t ∷ ts) = true

unfoldable pub numbers_text : List ℕ → List ℕ
numbers_text ns = joined space (map decimal ns)

-- "number, count, place, with single spaces"
abbrev pub answer_text : Handed → List ℕ
answer_text a = numbers_text (a.number ∷ a.count ∷ a.place ∷ [])

unfoldable pub bytes_text : List ℕ → List ℕ
bytes_text [] = []
bytes_text (b ∷ bs) = digit (b / 16) ∷ digit (b % 16) ∷ bytes_text bs

unfoldable pub hex_text : List ℕ → List ℕ
hex_text [] = 0x2D ∷ []
hex_text (b ∷ bs) = bytes_text (b ∷ bs)
