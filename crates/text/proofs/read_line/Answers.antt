-- `text::read_line` meets its contract. The numbers, and a newline behind them.
use Rattle.std.proofs.Common.{rules, refl}
use Rattle.text.specs.Batch.{read_text}
use Rattle.text.proofs.WroteLaws.{wrote_then, wrote_all}
use Rattle.text.proofs.read_line.Goals as goal

pub returns : goal.returns
unfolding read_text
returns c = wrote_all (wrote_then c.put_numbers.ensures c.put_byte.ensures) refl refl (search rules)
