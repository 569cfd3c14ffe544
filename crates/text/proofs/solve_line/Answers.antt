-- `text::solve_line` meets its contract. Four texts one after the other.
use Rattle.std.proofs.Common.{rules, refl}
use Rattle.text.specs.Batch.{solve_text}
use Rattle.text.proofs.WroteLaws.{wrote_then, wrote_all}
use Rattle.text.proofs.solve_line.Goals as goal

pub returns : goal.returns
unfolding solve_text
returns c = wrote_all (wrote_then c.put_answer.ensures (wrote_then c.put_byte.ensures (wrote_then c.put_hex.ensures c.put_byte-2.ensures))) refl refl (search rules)
