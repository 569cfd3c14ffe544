-- The lines of the batch program.
--
--   read_text ns     == the reader's answer: `number place c r v e m`
--   line_text part   == the part in hexadecimal, `-` for an empty one
--   solve_text a out == the solver's answer: `number count place` and the output in hexadecimal, `-` for an empty one
use Rattle.std.specs.Prelude.{List, ◌++◌, ℕ}
use Rattle.answer.specs.declared.Handed.{Handed}
use Rattle.text.specs.Text.{space, newline, numbers_text, answer_text, hex_text}

unfoldable pub read_text : List ℕ → List ℕ
read_text ns = numbers_text ns ++ newline

unfoldable pub line_text : List ℕ → List ℕ
line_text part = hex_text part ++ newline

unfoldable pub solve_text : Handed → List ℕ → List ℕ
solve_text a out = answer_text a ++ (space ++ (hex_text out ++ newline))
