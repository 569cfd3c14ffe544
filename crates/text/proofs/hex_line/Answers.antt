-- `text::hex_line` meets its contract. The part's text, and a newline behind it.
use Rattle.std.proofs.Common.{rules, refl}
use Rattle.text.specs.Batch.{line_text}
use Rattle.text.proofs.WroteLaws.{wrote_then, wrote_all}
use Rattle.text.proofs.hex_line.Goals as goal

pub returns : goal.returns
unfolding line_text
returns c = wrote_all (wrote_then c.put_hex.ensures c.put_byte.ensures) refl refl (search rules)
