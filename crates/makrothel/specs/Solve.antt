-- The solver's answer, as one definition: what is said, and the output afterwards. Number, count and place are what is handed back under it.
--
--   Answered, answered a out == the answer a is said, and `out` is the output afterwards
--   outcome_as k o out  == what an outcome of the walk is answered by, with k bytes of the output for each variable
--   table_as k t b out  == what a readable table is answered by
--   reading_as k r b out == what a reading is answered by
--   answer s b out     == the answer to the bytes s with the budget b and the output out
use Rattle.std.specs.Prelude.{true, false, List, ℕ, ◌*◌, ltb, length}
use Rattle.bounds.specs.Bounds.{set_bytes}
use Rattle.el.specs.Table.{Table, role_order}
use Rattle.el.specs.Walk.{Outcome, solved, nothing, budget, outcome}
use Rattle.answer.specs.declared.Answer.{Answer}
use Rattle.answer.specs.declared.Answer.TheVariants.{Solved, OutputShort, Nothing, Budget}
use Rattle.table.specs.Reading.{Reading, refusal, readable, reading}
use Rattle.output.specs.Written.{written_in}

pub record Answered : Type 0 where
  pub says : Answer
  pub output : List ℕ

abbrev pub answered : Answer → List ℕ → Answered
answered a out = record { says = a; output = out }

-- "Only 0 writes"; "under every other number all of the output stays"
abbrev pub outcome_as : ℕ → Outcome → List ℕ → Answered
outcome_as k (solved n a) out = answered (Solved n) (written_in k a out)
outcome_as k (nothing n) out = answered (Nothing n) out
outcome_as k (budget n) out = answered (Budget n) out

-- "Then 6, then 7, then the walk."
unfoldable pub table_as : ℕ → Table → ℕ → List ℕ → Answered
table_as k t b out =
    elim (ltb (length out) (k * t.variables)) [
      | true ↦ answered (OutputShort (k * t.variables)) out
      | false ↦ outcome_as k (outcome (role_order t) t b) out
    ]

abbrev pub reading_as : ℕ → Reading → ℕ → List ℕ → Answered
reading_as k (refusal why) b out = answered why out
reading_as k (readable h t) b out = table_as k t b out

-- "the output eight bytes per variable, for old tables too"; "Number 7 now speaks of 8v"
unfoldable pub answer : List ℕ → ℕ → List ℕ → Answered
answer s b out = reading_as set_bytes (reading s) b out
