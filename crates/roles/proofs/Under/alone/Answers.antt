-- `roles::Under::alone` meets its contract.
use Rattle.std.proofs.Common.{arith}
use Rattle.roles.specs.UnderLaws.{alone_start, alone_next, alone_whole}
use Rattle.roles.proofs.Under.alone.Goals as goal

pub loop-s-init : goal.loop-s-init
loop-s-init c = alone_start

pub loop-s-preserved : goal.loop-s-preserved
loop-s-preserved c = alone_next _ _ (omega arith) c.loop-s.invariant

pub returns : goal.returns
returns c = alone_whole _ _ (omega arith) c.loop-s.invariant
