-- Laws that carry the program's functions to what they answer.
--
--   number_of_two, number_of_four == two or four bytes, little-endian
--   read_is, line_is, solve_is    == the answer of a call, written to a line that is long enough
use mathlib.Core.Path.{◌≡◌, ap, ap₂, ◌∙◌}
use mathlib.Core.List.{List, [], ◌∷◌}
use Prim.Native.Nat.{ℕ, suc, ◌+◌, ◌*◌, ◌^◌, ◌≤◌}
use native.Mathlib.Omega.{arith}
use lib.ListN.{length, get_or, take, length-take, length-drop}
use Rattle.answer.specs.declared.Handed.{Handed}
use Rattle.answer.specs.Handed.{handed}
use Rattle.table.specs.Reading.{reading}
use Rattle.output.specs.Written.{number_at}
use Rattle.text.specs.Append.{Appended}
use Rattle.text.specs.AppendLaws.{appended_whole}
use Rattle.text.specs.Batch.{read_text, line_text, solve_text}
use Rattle.text.specs.Room.{Numbers}
use Rattle.text.proofs.FitsLaws.{read_fits, line_fits, solve_fits}
use Rattle.makrothel.specs.declared.ReadAnswer.{ReadAnswer}
use Rattle.makrothel.specs.Answer.{read_answer, line_part}
use Rattle.makrothel.specs.Solve.{answer}
use Rattle.batch.specs.Question.{most, line_room, read_numbers, read_reply, line_reply, solve_reply}

pub number_of_two : (s : List ℕ) (at : ℕ) → number_at 2 s at ≡ get_or s at 0 + get_or s (suc at) 0 * 256
unfolding number_at
number_of_two s at = omega arith

pub number_of_four : (s : List ℕ) (at : ℕ) → number_at 4 s at ≡ get_or s at 0 + get_or s (suc at) 0 * 256 + get_or s (suc (suc at)) 0 * 256 ^ 2 + get_or s (suc (suc (suc at))) 0 * 256 ^ 3
unfolding number_at
number_of_four s at = omega arith

-- a text that fits stands at the start of the line
at_start : {b t a u : List ℕ} {r : ℕ} → line_room ≤ length b → length t ≤ line_room → t ≡ u → Appended b 0 t a r → take r a ≡ u
at_start {b} {t} room fits e h = (appended_whole h (omega arith)).2 ∙ e

part_length : (s : List ℕ) (n : ℕ) → length (line_part s n) ≤ length s
unfolding line_part
part_length s n = simp (length-take, length-drop) (omega arith)

module _ {b after : List ℕ} {r : ℕ} (room : line_room ≤ length b) (s : List ℕ) where
  pub read_is : (a : ReadAnswer) → a ≡ read_answer (reading s) → Numbers (read_numbers a) → Appended b 0 (read_text (read_numbers a)) after r → take r after ≡ read_reply s
  unfolding read_reply
  read_is a e n = at_start room (omega (arith, read_fits (read_numbers a) n)) (ap (λ (x : ReadAnswer). read_text (read_numbers x)) e)

  pub line_is : (n : ℕ) (part : List ℕ) → part ≡ line_part s n → length s ≤ most → Appended b 0 (line_text part) after r → take r after ≡ line_reply s n
  unfolding line_reply
  line_is n part e h = at_start room (omega (arith, line_fits part, part_length s n, ap length e)) (ap line_text e)

  pub solve_is : (budget : ℕ) (before out : List ℕ) (a : Handed) → a ≡ handed (answer s budget before).says → out ≡ (answer s budget before).output → Numbers (a.number ∷ a.count ∷ a.place ∷ []) → length out ≤ most
      → Appended b 0 (solve_text a out) after r → take r after ≡ solve_reply s budget before
  unfolding solve_reply
  solve_is budget before out a e o n h = at_start room (omega (arith, solve_fits a out n)) (ap₂ solve_text e o)
