-- `node::others` meets its contract: all variables without those of the mask.
use Rattle.node.specs.MaskLaws.{mask_without}
use Rattle.node.proofs.others.Goals as goal

pub returns : goal.returns
returns c = mask_without _ _ _ c.first_mask.type_inv c.ranges.mask.fits c.first_mask.ensures
