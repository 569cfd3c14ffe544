-- The questions of a stream, and what each is answered.
--
--   most             == how long a table and an output may be
--   line_room         == how long the lines that answer may be
--   number_bytes, length_bytes == how many of the bytes before a table are those of a number and of a length
--   cut_line         == what is written where no question stands, or not a whole one
--   ask_of k n room  == what the kind k asks, where there is such a kind
--   room_of a        == how long an output is asked for
--   question_of s     == the question that the nine bytes s begin, where there is such a kind, and the table is not too long
--   read_numbers a    == what the reader answers, as numbers
--   read_reply s, line_reply s n, solve_reply s b out == the answers of the three calls as lines
--   reply a s        == the answer to the ask a about the bytes s
use Rattle.std.specs.Prelude.{if◌then◌else◌, Option, Some, None, List, [], ◌∷◌, ℕ, min, nat_eq, nat_le, get_or, replicate}
use Rattle.std.specs.Option.{option_map}
use Rattle.answer.specs.Handed.{handed}
use Rattle.table.specs.Reading.{reading}
use Rattle.output.specs.Written.{number_at}
use Rattle.text.specs.Batch.{read_text, line_text, solve_text}
use Rattle.makrothel.specs.declared.ReadAnswer.{ReadAnswer}
use Rattle.makrothel.specs.Answer.{read_answer, line_part}
use Rattle.makrothel.specs.Solve.{answer}
use Rattle.batch.specs.declared.Ask.{Ask}
use Rattle.batch.specs.declared.Ask.TheVariants.{Read, Line, Solve}
use Rattle.batch.specs.declared.Question.{Question}

-- how long a table and an output may be
abbrev pub most : ℕ
most = 1024

-- a line of text
abbrev pub line_room : ℕ
line_room = 4096

abbrev pub number_bytes : ℕ
number_bytes = 4

abbrev pub length_bytes : ℕ
length_bytes = 2

-- `cut`
abbrev pub cut_line : List ℕ
cut_line = 0x63 ∷ 0x75 ∷ 0x74 ∷ 0x0A ∷ []

-- 1 read, 2 line, 3 solve
abbrev pub ask_of : ℕ → ℕ → ℕ → Option Ask
ask_of k n room =
    if nat_eq k 1 then Some Read
    else (if nat_eq k 2 then Some (Line n)
    else (if nat_eq k 3 then Some (Solve n room)
    else None))

abbrev pub room_of : Ask → ℕ
room_of Read = 0
room_of (Line n) = 0
room_of (Solve budget room) = room

-- one byte kind, then a number, the output's length (a larger one is taken as the most) and the table's length
abbrev pub question_of : List ℕ → Option Question
question_of s =
    let n : ℕ = number_at length_bytes s 7 in
    let ask : Option Ask = ask_of (get_or s 0 0) (number_at number_bytes s 1) (min (number_at length_bytes s 5) most) in
    if nat_le n most then option_map (λ a. record { ask = a; length = n }) ask else None

-- `number place c r v e m`
abbrev pub read_numbers : ReadAnswer → List ℕ
read_numbers a = a.number ∷ a.place ∷ a.constants ∷ a.roles ∷ a.variables ∷ a.restrictions ∷ a.lines ∷ a.inclusions ∷ []

unfoldable pub read_reply : List ℕ → List ℕ
read_reply s = read_text (read_numbers (read_answer (reading s)))

-- the part's bytes
unfoldable pub line_reply : List ℕ → ℕ → List ℕ
line_reply s n = line_text (line_part s n)

-- `number count place` and the whole output afterwards
unfoldable pub solve_reply : List ℕ → ℕ → List ℕ → List ℕ
solve_reply s b out = solve_text (handed (answer s b out).says) (answer s b out).output

-- the output is filled with the byte AA before the call
abbrev pub reply : Ask → List ℕ → List ℕ
reply Read s = read_reply s
reply (Line n) s = line_reply s n
reply (Solve budget room) s = solve_reply s budget (replicate room 0xAA)
