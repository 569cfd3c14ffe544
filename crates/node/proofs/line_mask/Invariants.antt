-- `node::line_mask` meets its contract. The invariant: the mask has the variables of the first i left entries.
use Rattle.table.specs.Reading.{table_of}
use Rattle.table.specs.Layout.{AtLine}
use Rattle.node.specs.Mask.{Masks, left_to}
use Rattle.node.proofs.line_mask.Given as goal

abbrev pub invariant-loop-i : goal.invariant-loop-i
invariant-loop-i q = AtLine q.table.bytes.now q.at (λ l. Masks (left_to (table_of q.table.bytes.now).rows l q.i) q.mask)
