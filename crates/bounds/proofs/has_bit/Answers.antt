-- `bounds::has_bit` is the test `bit`.
use Rattle.std.proofs.Common.{refl}
use Rattle.el.specs.Test.{bit}
use Rattle.bounds.proofs.has_bit.Goals as goal

pub returns : goal.returns
unfolding bit
returns c = refl
