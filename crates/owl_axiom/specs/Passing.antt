-- Passing tokens: what stands behind some of them.
--
--   Passing        == what the next name does, the number of the next filler that is no name, and the tokens that are left
--   step x         == the same behind one token
--   gone i x       == the same behind i tokens
--   tokens_in C i, tokens_of Cs i == how many tokens a class expression has, or several, and i more
--   Stands s at x  == it is so at byte `at` of the text s, and its restrictions from there on are the last ones of s
--   SideAt s at C n == the class expression C begins with the next token after byte `at`, where n is the number of the next filler that is no name
use Rattle.std.specs.Prelude.{◌≡◌, List, [], ◌∷◌, ℕ, zero, suc, ◌≤◌, length}
use Rattle.owl.specs.Tree.{Class, named, intersection_of, some_values_from, Classes, last, more}
use Rattle.owl.specs.Written.{Token, kind, written}
use Rattle.owl.specs.Mention.{sort_after}
use Rattle.owl.specs.Conjunct.{number_after}
use Rattle.owl_class.specs.Ends.{rest_tokens}
use Rattle.owl_class.specs.Conjuncts.{Reached}

pub record Passing : Type 0 where
  pub does : ℕ
  pub number : ℕ
  pub left : List Token

abbrev pub passing : ℕ → ℕ → List Token → Passing
passing q n ts = record { does = q; number = n; left = ts }

abbrev pub step_over : ℕ → ℕ → List Token → Passing
step_over q n [] = passing q n []
step_over q n (t ∷ ts) = passing (sort_after q (kind t)) (number_after q n (kind t) ts) ts

abbrev pub step : Passing → Passing
step x = step_over x.does x.number x.left

abbrev pub gone : ℕ → Passing → Passing
gone zero x = x
gone (suc i) x = gone i (step x)

abbrev mutual
  pub tokens_in : Class → ℕ → ℕ
  tokens_in (named n) i = suc i
  tokens_in (intersection_of C Cs) i = suc (suc (tokens_in C (tokens_of Cs (suc i))))
  tokens_in (some_values_from r C) i = suc (suc (suc (tokens_in C (suc i))))

  pub tokens_of : Classes → ℕ → ℕ
  tokens_of (last C) i = tokens_in C i
  tokens_of (more C Cs) i = tokens_in C (tokens_of Cs i)

pub record Stands (s : List ℕ) (at : ℕ) (x : Passing) : Type 0 where
  pub within : at ≤ length s
  pub left : rest_tokens s at ≡ x.left
  pub reached : Reached s at x.does x.number

pub record SideAt (s : List ℕ) (at : ℕ) (C : Class) (n : ℕ) : Type 0 where
  pub behind : List Token
  pub stands : Stands s at (passing 3 n (written C behind))
