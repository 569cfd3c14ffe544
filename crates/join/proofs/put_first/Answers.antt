-- `join::put_first` meets its contract. The line fits into its array.
use Rattle.std.proofs.Common.{refl, arith}
use Rattle.spell.specs.PennedLaws.{penned_as}
use Rattle.join.proofs.PartLaws.{first_line_lem}
use Rattle.join.proofs.put_first.Goals as goal

pub slice_bounds-line-end : goal.slice_bounds-line-end
slice_bounds-line-end c = (first_line_lem _ (omega arith, (omega arith, (omega arith, tt))) refl (omega arith) c.read_line-n.ensures).0.0

pub slice_bounds-put-end : goal.slice_bounds-put-end
slice_bounds-put-end c = (first_line_lem _ (omega arith, (omega arith, (omega arith, tt))) refl (omega arith) c.read_line-n.ensures).0.1

pub returns : goal.returns
returns c = penned_as c.put.ensures (first_line_lem _ (omega arith, (omega arith, (omega arith, tt))) refl (omega arith) c.read_line-n.ensures).1
