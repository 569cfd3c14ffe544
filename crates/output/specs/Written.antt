-- The output after "solved".
--
--   little_endian k x  == the number x in k bytes
--   put_at i k x l     == the bytes l with the k bytes of x from the byte i on
--   number_at k s at   == the number in the k bytes from `at` on
--   widest            == the largest k of a number that is read
--   assignment_bytes k a == the set numbers of the assignment a, one after the other, each in k bytes
--   written_in k a out == the output with them at its start; what stands behind them stays
--   set_at k out x     == the set number of variable x, read back from such an output
--   written a out, set_in out x == the same with as many bytes as a set number has
use Rattle.std.specs.Prelude.{List, [], ◌∷◌, ◌++◌, ℕ, zero, suc, ◌+◌, ◌*◌, ◌/◌, ◌%◌, length, take, drop, get_or}
use Rattle.bounds.specs.Bounds.{set_bytes}

-- "Little-endian."
unfoldable pub little_endian : ℕ → ℕ → List ℕ
little_endian zero x = []
little_endian (suc k) x = x % 256 ∷ little_endian k (x / 256)

abbrev pub put_at : ℕ → ℕ → ℕ → List ℕ → List ℕ
put_at i k x l = take i l ++ (little_endian k x ++ drop k (drop i l))

unfoldable pub number_at : ℕ → List ℕ → ℕ → ℕ
number_at zero s at = 0
number_at (suc k) s at = get_or s at 0 + 256 * number_at k s (suc at)

abbrev pub widest : ℕ
widest = 8

-- "each variable's set number"
unfoldable pub assignment_bytes : ℕ → List ℕ → List ℕ
assignment_bytes k [] = []
assignment_bytes k (x ∷ a) = little_endian k x ++ assignment_bytes k a

-- the bytes behind the sets stay
unfoldable pub written_in : ℕ → List ℕ → List ℕ → List ℕ
written_in k a out = assignment_bytes k a ++ drop (k * length a) out

-- the part of the output that starts at so many times the variable's number
abbrev pub set_at : ℕ → List ℕ → ℕ → ℕ
set_at k out x = number_at k out (k * x)

-- "the output eight bytes per variable"
abbrev pub written : List ℕ → List ℕ → List ℕ
written = written_in set_bytes

abbrev pub set_in : List ℕ → ℕ → ℕ
set_in = set_at set_bytes
