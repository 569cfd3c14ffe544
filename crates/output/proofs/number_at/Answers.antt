-- `output::number_at` meets its contract: the number in a word whose other bytes are 0.
use Rattle.std.proofs.Common.{arith, ◌∙◌}
use Rattle.output.proofs.Laws.{number_below, number_read}
use Rattle.output.proofs.number_at.Goals as goal

pub returns : goal.returns
returns c =
    let a = c.args in
    let e = c.from_le_bytes.ensures ∙ number_read a.bytes.now a.at a.width c.requires.0 c.requires.1 c.copy_from_slice.new.self c.copy_from_slice.ensures.after in
    (e, rw e (number_below a.width a.bytes.now a.at (λ i. omega (arith, c.type_inv.bytes i))))
