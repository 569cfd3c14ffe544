-- No count is more than the greatest number.
use Rattle.std.proofs.Common.{arith}
use Rattle.owl_name.specs.Declarations.{Reaches}
use Rattle.owl_name.proofs.different.Goals as goal

pub returns : goal.returns
unfolding Reaches
returns c = c.count_until.ensures.0 (omega arith)
