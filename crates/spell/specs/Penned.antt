-- What it is that a text was written on a sheet.
--
--   Penned p text q == the sheet p, after the text, is q: the text is shown in its buffer, by where its pen stood and stands, and the buffer is still the one that was lent
use Rattle.std.specs.Prelude.{◌≡◌, List, ℕ}
use Rattle.spell.specs.declared.Sheet.{Sheet}
use Rattle.spell.specs.Window.{Shown}

pub record Penned (p : Sheet) (text : List ℕ) (q : Sheet) : Type 0 where
  pub same : q.buffer.ghost_name ≡ p.buffer.ghost_name
  pub shown : Shown p.buffer.now p.pen.skip p.pen.at text q.buffer.now q.pen.skip q.pen.at
