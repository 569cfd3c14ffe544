-- How long the texts are at most.
--
--   digits        == how many digits a number has
--   Numbers ns    == the numbers ns have no more
--   Short k ts    == none of the texts ts is longer than k
--   numbers_room k == k numbers, with what stands between them
--   atom_room, set_room, variable_room == an atom, a set, the line of a variable
--   listing_room   == the whole listing
use Rattle.std.specs.Prelude.{List, [], ◌∷◌, ℕ, ◌+◌, ◌*◌, ◌^◌, ◌≤◌, ◌<◌, length}
use Rattle.bounds.specs.Bounds.{max_atoms, max_variables}

-- of 64-bit numbers
abbrev pub digits : ℕ
digits = 20

abbrev pub Numbers : List ℕ → Type 0
Numbers [] = Unit {0}
Numbers (n ∷ ns) = (n < 10 ^ digits) × Numbers ns

abbrev pub Short : ℕ → List (List ℕ) → Type 0
Short k [] = Unit {0}
Short k (t ∷ ts) = (length t ≤ k) × Short k ts

abbrev pub numbers_room : ℕ → ℕ
numbers_room k = k * (digits + 1)

-- `r15.v23`
abbrev pub atom_room : ℕ
atom_room = 7

-- ` & ` to an atom, and `top` for none
abbrev pub set_room : ℕ
set_room = max_atoms * (atom_room + 3) + 3

-- `v23: ` and a newline
abbrev pub variable_room : ℕ
variable_room = set_room + 6

abbrev pub listing_room : ℕ
listing_room = numbers_room 3 + 1 + max_variables * variable_room
