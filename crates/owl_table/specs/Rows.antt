-- The rows of a text's table, in bytes.
--
--   small_row row      == the bytes of a row are below 128
--   rows_of s opens    == the rows of the restrictions of the text s, equal ones once, where the fresh variables are numbered behind `opens` open names
--   StandsAt s at n   == the restriction whose role is the next token after byte `at` is one of s; n is its filler's number if that is no name
--   FillerCode s opens at r == r is the code of its filler
--   PutRow            == its row is appended to a buffer, where it has this role
--   PutRows           == all rows are appended to a buffer
use Rattle.std.specs.Prelude.{◌≡◌, Bool, ◌&&◌, ℕ, ◌<◌, T, ltb}
use mathlib.Core.List.{List, [], ◌∷◌, ◌++◌, flat_map}
use Rattle.el.specs.Test.{every_of}
use Rattle.el.specs.Table.{Row}
use Rattle.table.specs.Bytes.{filler_code, written_row}
use Rattle.text.specs.Append.{Appended}
use Rattle.owl.specs.Once.{once}
use Rattle.owl.specs.Tree.{Name}
use Rattle.owl.specs.Mention.{name_at, names_in}
use Rattle.owl.specs.Restriction.{Standing, standing_at, standing, restrictions_of, same_restriction, filler_for, row_for, rows_for}

abbrev pub small_row : Row → Bool
small_row row = ltb row.role 128 && ltb (filler_code row.filler) 128

unfoldable pub rows_of : List ℕ → ℕ → List Row
rows_of s opens = rows_for (names_in s) opens (once same_restriction [] (restrictions_of (standing s)))

abbrev pub StandsAt : List ℕ → ℕ → ℕ → Type 0
StandsAt s at n = (pre : List Standing) × (post : List Standing) × (standing s ≡ pre ++ (standing_at s at n ∷ post))

unfoldable pub FillerCode : List ℕ → ℕ → ℕ → ℕ → Type 0
FillerCode s opens at r =
    (n : ℕ) → StandsAt s at n → filler_code (filler_for (names_in s) opens (standing_at s at n).restriction.part) < 128 → r ≡ filler_code (filler_for (names_in s) opens (standing_at s at n).restriction.part)

unfoldable pub PutRow : List ℕ → ℕ → ℕ → Name → List ℕ → ℕ → List ℕ → ℕ → Type 0
PutRow s opens at role b from a r =
    role ≡ name_at s at → (n : ℕ) → StandsAt s at n → T (small_row (row_for (names_in s) opens (standing_at s at n).restriction)) →
    Appended b from (written_row (row_for (names_in s) opens (standing_at s at n).restriction)) a r

unfoldable pub PutRows : List ℕ → ℕ → List ℕ → ℕ → List ℕ → ℕ → Type 0
PutRows s opens b from a r = T (every_of small_row (rows_of s opens)) → Appended b from (flat_map written_row (rows_of s opens)) a r
