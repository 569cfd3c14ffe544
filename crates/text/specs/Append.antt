-- What it is to append a text to a buffer that is lent.
--
--   fitting buffer at text          == as much of the text as there is room for behind the first `at` bytes
--   put buffer at text              == the buffer with that in it, from the byte `at` on; all other bytes stay
--   Appended before at text after r == the buffer `before`, with the text put in at `at`, is `after`, and the next free byte is r
use Rattle.std.specs.Prelude.{◌≡◌, List, ◌++◌, ℕ, ◌+◌, ◌-◌, length, take, drop}

unfoldable pub fitting : List ℕ → ℕ → List ℕ → List ℕ
fitting buffer at text = take (length buffer - at) text

unfoldable pub put : List ℕ → ℕ → List ℕ → List ℕ
put buffer at text = take at buffer ++ (fitting buffer at text ++ drop (at + length (fitting buffer at text)) buffer)

pub record Appended (before : List ℕ) (at : ℕ) (text after : List ℕ) (r : ℕ) : Type 0 where
  pub bytes : after ≡ put before at text
  pub end : r ≡ at + length (fitting before at text)
