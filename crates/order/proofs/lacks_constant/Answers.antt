-- `order::lacks_constant` asks for one of the first c bits: the rest modulo 2 ^ c is not 0.
use lib.Pow.{pow_pos}
use native.Mathlib.Omega.{arith}
use Rattle.bounds.specs.WidthLaws.{power_fits}
use Rattle.order.proofs.LowestLaws.{low_bits}
use Rattle.order.proofs.lacks_constant.Goals as goal

pub nonzero_rem-result : goal.nonzero_rem-result
nonzero_rem-result c = rw (power_fits c.args.c (omega arith)) (pow_pos _)

pub returns : goal.returns
returns c = rw (power_fits c.args.c (omega arith)) (low_bits _ _)
