-- When one table grows from another, on their bytes.
--
--   role_row_bytes s == the bytes of the role rows
--   row_bytes s  == the bytes of the restriction rows
--   line_bytes s == the bytes of the lines
--   Grown s u   == the table u grows from the table s
--   SameLines s u == u has no line that s has not
--   SameAnswer s q r == the answers q and r are the same, and under "solved" so are the bytes of the sets
use Rattle.std.specs.Prelude.{◌≡◌, List, ◌++◌, ℕ, ◌*◌, ◌≤◌, T, take, drop}
use Rattle.bounds.specs.Bounds.{set_bytes}
use Rattle.answer.specs.declared.Answer.TheVariants.{Solved}
use Rattle.table.specs.Reading.{byte_at, reading, is_readable, header_end, header_of, rows_at, row_start, table_of}
use Rattle.makrothel.specs.Numbers.{Said}
use Rattle.makrothel.specs.Solve.{Answered}

unfoldable pub role_row_bytes : List ℕ → List ℕ
role_row_bytes s = take (2 * (header_of s).q) (drop (header_end (header_of s)) s)

unfoldable pub row_bytes : List ℕ → List ℕ
row_bytes s = take (2 * (header_of s).e) (drop (rows_at s) s)

unfoldable pub line_bytes : List ℕ → List ℕ
line_bytes s = drop (row_start s (header_of s).e) s

-- "One table grows from another if both have the same version, each of its counts c, r, v, e, m is at least the other's, and
-- the other's rows and lines stand first among its own, in order and with the same bytes."; "a grown table keeps its version and role rows"
pub record Grown (s u : List ℕ) : Type 0 where
  pub readable_before : T (is_readable (reading s))
  pub readable_after : T (is_readable (reading u))
  pub version_low : byte_at s 3 ≡ byte_at u 3
  pub version_high : byte_at s 4 ≡ byte_at u 4
  pub constants : (header_of s).c ≤ (header_of u).c
  pub roles : (header_of s).r ≤ (header_of u).r
  pub variables : (header_of s).v ≤ (header_of u).v
  pub restrictions : (header_of s).e ≤ (header_of u).e
  pub lines : (header_of s).m ≤ (header_of u).m
  pub role_count_is : (header_of s).q ≡ (header_of u).q
  pub role_rows_are : role_row_bytes u ≡ role_row_bytes s
  pub rows_first : (more : List ℕ) × (row_bytes u ≡ row_bytes s ++ more)
  pub lines_first : (more : List ℕ) × (line_bytes u ≡ line_bytes s ++ more)

-- "no growth without new lines"
unfoldable pub SameLines : List ℕ → List ℕ → Type 0
SameLines s u = (header_of s).m ≡ (header_of u).m

-- "the same answer, bytes and count"
pub record SameAnswer (s : List ℕ) (q r : Answered) : Type 0 where
  pub says : q.says ≡ r.says
  pub bytes : Said Solved q.says → take (set_bytes * (table_of s).variables) q.output ≡ take (set_bytes * (table_of s).variables) r.output
