-- The table of answers: which is given to which bytes, budget and room. Number, count and place are what is handed back under it.
--
--   FirstSolving t a    == a is an assignment of t that solves it, and none before it in counting order does
--   NoneSolves t        == no assignment of t solves it
--   N t                 == how many nodes the walk examines
--   NumberAt s b room a == to the bytes s, the budget b and an output of `room` bytes belongs the answer a
--   Said case a         == the answer a is of this case, whatever its count or place
--   OfReader a          == the answer a is one of the reader's refusals
use Rattle.std.specs.Prelude.{◌≡◌, List, ℕ, ◌*◌, ◌≤◌, ◌<◌}
use Rattle.bounds.specs.Bounds.{set_bytes}
use Rattle.el.specs.Table.{Table, role_order}
use Rattle.el.specs.Assignment.{Assignment, IsAssignment, Solves, Before}
use Rattle.el.specs.Walk.{count}
use Rattle.answer.specs.declared.Answer.{Answer}
use Rattle.answer.specs.declared.Answer.TheVariants.{Solved, EndsEarly, BytesAfter, OutputShort, Nothing, Budget}
use Rattle.answer.specs.Handed.{handed}
use Rattle.table.specs.Bytes.{IsTable}
use Rattle.table.specs.Refusal.{RefusedAt}

-- "the first acyclic assignment in counting order that makes every line true"
unfoldable pub FirstSolving : Table → Assignment → Type 0
FirstSolving t a =
    IsAssignment t a × Solves (role_order t) t a × ((m : Assignment) → IsAssignment t m → Solves (role_order t) t m → Before m a → ⊥)

-- "there is no such assignment"
unfoldable pub NoneSolves : Table → Type 0
NoneSolves t = (m : Assignment) → IsAssignment t m → Solves (role_order t) t m → ⊥

abbrev pub N : Table → ℕ
N t = count (role_order t) t

-- "Numbers handed back", in the order of judging: "Then 6, then 7, then the walk."
pub data NumberAt (s : List ℕ) (b room : ℕ) : Answer → Type 0 where
  -- what is wrong with the bytes
  refused : {why : Answer} → RefusedAt s why → NumberAt s b room why
  -- "output shorter than 4v bytes", "Number 7 now speaks of 8v"
  too_short : (t : Table) → IsTable s t → room < set_bytes * t.variables → NumberAt s b room (OutputShort (set_bytes * t.variables))
  -- "solved", N
  is_solved : (t : Table) → IsTable s t → set_bytes * t.variables ≤ room → N t ≤ b → (a : Assignment) → FirstSolving t a → NumberAt s b room (Solved (N t))
  -- "none", N
  is_none : (t : Table) → IsTable s t → set_bytes * t.variables ≤ room → N t ≤ b → NoneSolves t → NumberAt s b room (Nothing (N t))
  -- "budget", b
  is_budget : (t : Table) → IsTable s t → set_bytes * t.variables ≤ room → b < N t → NumberAt s b room (Budget b)

abbrev pub Said : (ℕ → Answer) → Answer → Type 0
Said case a = (n : ℕ) × (a ≡ case n)

-- their numbers stand together, from "input ends early" to "bytes after the last line"
abbrev pub OfReader : Answer → Type 0
OfReader a = ((handed (EndsEarly 0)).number ≤ (handed a).number) × ((handed a).number ≤ (handed (BytesAfter 0)).number)
