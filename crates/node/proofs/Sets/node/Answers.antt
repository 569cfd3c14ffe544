-- `Sets::node` meets its contract: it is what it says.
use Rattle.std.proofs.Common.{refl}
use Rattle.node.specs.Node.{node_of}
use Rattle.node.proofs.Sets.node.Goals as goal

pub returns : goal.returns
unfolding node_of
returns c = refl
