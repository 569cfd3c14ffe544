-- `text::Writer::put_decimal` meets its contract: a number below ten is its digit, a larger one is a tenth of it and its last digit.
use Rattle.std.proofs.Common.{arith}
use Rattle.text.proofs.Laws.{decimal_last, decimal_then}
use Rattle.text.proofs.Writer.+put_decimal.Goals as goal
use Rattle.text.proofs.Writer.+put_decimal.Goals.{then-longer, else-longer}

pub returns : goal.returns
returns t c = elim c.if-longer.branch [
  | then-longer w ↦ decimal_then c.args.n (let h = w.if-longer.true in omega arith) w.put_decimal.ensures c.digit_of.ensures (rw w.self-is at c.put_byte.ensures)
  | else-longer w ↦ decimal_last c.args.n (let h = w.if-longer.false in omega arith) c.digit_of.ensures (rw w.self-is at c.put_byte.ensures)
]
