-- `node::fill_masks` meets its contract. The invariant: the masks of the first k restrictions are made.
use Rattle.std.proofs.Common.{◌≡◌, length}
use Rattle.bounds.specs.Bounds.{max_restrictions}
use Rattle.table.specs.Reading.{table_of}
use Rattle.node.specs.Mask.{FillMasks}
use Rattle.node.proofs.fill_masks.Given as goal

abbrev pub invariant-loop-k : goal.invariant-loop-k
invariant-loop-k l = (length l.fill ≡ max_restrictions) × FillMasks (table_of l.table.bytes.now).rows l.k l.fill
