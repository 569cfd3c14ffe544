-- What it is that a writer wrote a text.
--
--   Wrote w text v == the writer w, after the text, is v: the text is appended to its buffer, which is still the one that was lent
use Rattle.std.specs.Prelude.{◌≡◌, List, ℕ}
use Rattle.text.specs.declared.Writer.{Writer}
use Rattle.text.specs.Append.{Appended}

pub record Wrote (w : Writer) (text : List ℕ) (v : Writer) : Type 0 where
  pub same : v.buffer.ghost_name ≡ w.buffer.ghost_name
  pub appended : Appended w.buffer.now w.at text v.buffer.now v.at
