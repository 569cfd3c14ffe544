-- Where a class expression of a text ends, and how many conjuncts it has.
--
--   rest_tokens s at == the tokens of the text s from byte `at` on
--   deeper k depth  == how many brackets are open after a token of kind k
--   skip depth ts   == the tokens of ts behind the one that closes the last bracket
--   JumpsBy s at i e == e is the byte behind the next i tokens after byte `at`
--   Jumps s at e    == it is that for some i
--   EndsAt s at e   == where the tokens from byte `at` on are a class expression and others, e is a byte behind some of them, and those from
--                      byte e on are the others
--   is_conjunct inner q k m == a token of kind k, which is the name m and does q, is a conjunct
--   HasConjuncts s at i == the class expression that begins with the next token after byte `at` has i conjuncts
use Rattle.std.specs.Prelude.{◌≡◌, Bool, true, false, ◌&&◌, not, List, [], ◌∷◌, ℕ, zero, suc, ◌+◌, ◌-◌, eqb, length}
use Rattle.owl.specs.Tree.{Name, Class}
use Rattle.owl.specs.Naming.{is_thing}
use Rattle.owl.specs.Token.{kind_at, end_at}
use Rattle.owl.specs.Grammar.{is_name}
use Rattle.owl.specs.Conjunct.{is_zero, is_one, conjuncts_in}
use Rattle.owl.specs.Written.{Token, kind, tokens_from, written}

unfoldable pub rest_tokens : List ℕ → ℕ → List Token
rest_tokens s at = tokens_from s (suc (length s - at)) at

unfoldable pub deeper : ℕ → ℕ → ℕ
deeper k depth = elim (eqb k 1) [ true ↦ depth + 1 | false ↦ elim (eqb k 2) [ true ↦ depth - 1 | false ↦ depth ] ]

unfoldable pub skip : ℕ → List Token → List Token
skip depth [] = []
skip depth (t ∷ ts) = elim (eqb (deeper (kind t) depth) 0) [ true ↦ ts | false ↦ skip (deeper (kind t) depth) ts ]

abbrev pub JumpsBy : List ℕ → ℕ → ℕ → ℕ → Type 0
JumpsBy s at zero e = e ≡ at
JumpsBy s at (suc i) e = (m : ℕ) × JumpsBy s at i m × (kind_at s m ≡ 0 → ⊥) × (e ≡ end_at s m)

unfoldable pub Jumps : List ℕ → ℕ → ℕ → Type 0
Jumps s at e = (i : ℕ) × JumpsBy s at i e

unfoldable pub EndsAt : List ℕ → ℕ → ℕ → Type 0
EndsAt s at e = (C : Class) (rest : List Token) → rest_tokens s at ≡ written C rest → (rest_tokens s e ≡ rest) × Jumps s at e

unfoldable pub is_conjunct : ℕ → ℕ → ℕ → Name → Bool
is_conjunct inner q k m = is_name k && elim (eqb q 4) [ true ↦ is_one inner | false ↦ is_zero inner && not (is_thing m) ]

-- whatever number the next filler that is no name has
unfoldable pub HasConjuncts : List ℕ → ℕ → ℕ → Type 0
HasConjuncts s at i = (n : ℕ) → i ≡ length (conjuncts_in n (rest_tokens s at))
