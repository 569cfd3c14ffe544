-- What the calls for C hand back through the arrays that the caller lends.
--
--   place_and_counts a == the reader's place and its counts c, r, v, e, m, q
--   line_found s n    == 1 where there is a line n, and 0 where there is none
--   start_and_length x == the byte where a line starts and its length
--   spanned x s      == the part of the bytes s that a start and a length name
--   count_and_place a  == the solver's count and place
use Rattle.std.specs.Prelude.{cond, List, [], ◌∷◌, ℕ, take, drop, get_or}
use Rattle.answer.specs.declared.Handed.{Handed}
use Rattle.makrothel.specs.declared.ReadAnswer.{ReadAnswer}
use Rattle.makrothel.specs.declared.Span.{Span}
use Rattle.makrothel.specs.Answer.{has_line}

unfoldable pub place_and_counts : ReadAnswer → List ℕ
place_and_counts a = a.place ∷ a.constants ∷ a.roles ∷ a.variables ∷ a.restrictions ∷ a.lines ∷ a.inclusions ∷ []

unfoldable pub line_found : List ℕ → ℕ → ℕ
line_found s n = cond (has_line s n) 1 0

unfoldable pub start_and_length : Span → List ℕ
start_and_length x = x.start ∷ x.length ∷ []

unfoldable pub spanned : List ℕ → List ℕ → List ℕ
spanned x s = take (get_or x 1 0) (drop (get_or x 0 0) s)

unfoldable pub count_and_place : Handed → List ℕ
count_and_place a = a.count ∷ a.place ∷ []
