-- What it is to write a text through a window: its first bytes are passed over, and of the rest as much as fits is appended to a lent buffer.
--
--   Shown before skip at text after left r == of the text all but its first `skip` bytes is appended to `before` at `at`, which makes `after`,
--       and the next free byte is r; where there is room left, `left` bytes of what follows the text are to be passed over
--   window from room text == the bytes of the text from the byte `from` on, `room` of them at most
--   windows n room text == the first n windows of `room` bytes, one after the other
use Rattle.std.specs.Prelude.{◌≡◌, List, [], ◌++◌, ℕ, zero, suc, ◌*◌, ◌-◌, ◌<◌, length, take, drop}
use Rattle.text.specs.Append.{Appended}

pub record Shown (before : List ℕ) (skip at : ℕ) (text after : List ℕ) (left r : ℕ) : Type 0 where
  pub written : Appended before at (drop skip text) after r
  pub over : r < length before → left ≡ skip - length text

abbrev pub window : ℕ → ℕ → List ℕ → List ℕ
window from room text = take room (drop from text)

unfoldable pub windows : ℕ → ℕ → List ℕ → List ℕ
windows zero room text = []
windows (suc n) room text = windows n room text ++ window (n * room) room text
