-- What the parts of the program are told.
--
--   Prepared s table output n c p == these are what comes of the text s, where it is read
--   Solved s table == the table is readable, and has the names of the text s
use Rattle.std.specs.Prelude.{◌≡◌, List, ℕ, ◌≤◌, T, length}
use Rattle.table.specs.Reading.{reading, table_of, is_readable}
use Rattle.owl.specs.Mention.{names_in}
use Rattle.join.specs.Join.{join_most, join_as, joined}

unfoldable pub Prepared : List ℕ → List ℕ → List ℕ → ℕ → ℕ → ℕ → Type 0
Prepared s table output n c p = length s ≤ join_most → joined s ≡ join_as n c p table output

pub record Solved (s table : List ℕ) : Type 0 where
  pub ok : T (is_readable (reading table))
  pub constants_are : length (names_in s).constants ≡ (table_of table).constants
  pub roles_are : length (names_in s).roles ≡ (table_of table).roles
  pub opens_are : length (names_in s).opens ≤ (table_of table).variables
