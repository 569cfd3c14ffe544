-- `node::first_mask` meets its contract: 2 ^ k - 1 has the bits below k.
use native.Mathlib.Omega.{arith}
use Rattle.bounds.specs.Bounds.{mask_bits}
use Rattle.node.specs.MaskLaws.{mask_some, mask_first}
use Rattle.node.proofs.first_mask.Goals as goal

pub overflow_sub-result : goal.overflow_sub-result
overflow_sub-result c = mask_some mask_bits _ (omega arith)

pub returns : goal.returns
returns c = mask_first mask_bits _ (omega arith)
