-- 01's own bounds and output, and its answer within them.
--
--   narrow_bounds   == 01's bounds; its "c + e at most 24" bounds c and e too
--   narrow_set_bytes == how many bytes a set has in its output
--   narrow_answer s b out == its answer to the bytes s with the budget b and the output out
use Rattle.std.specs.Prelude.{List, ℕ}
use Rattle.bounds.specs.Bounds.{Bounds}
use Rattle.table.specs.Reading.{reading_within}
use Rattle.makrothel.specs.Solve.{Answered, reading_as}

-- "Bounds: c + e at most 24, r at most 16, v at most 12, m at most 64, p at most 8."; "q ..., at most 32"
abbrev pub narrow_bounds : Bounds
narrow_bounds = record { constants = 24; restrictions = 24; atoms = 24; roles = 16; variables = 12; lines = 64; left = 8; role_rows = 32 }

-- "each variable's set number, four bytes"
abbrev pub narrow_set_bytes : ℕ
narrow_set_bytes = 4

unfoldable pub narrow_answer : List ℕ → ℕ → List ℕ → Answered
narrow_answer s b out = reading_as narrow_set_bytes (reading_within narrow_bounds s) b out
