-- The whole text.
use Rattle.owl_name.specs.Declarations.{Reaches, UpTo}
use Rattle.owl_name.proofs.up_to.Goals as goal

pub returns : goal.returns
unfolding Reaches UpTo
returns c = c.count_until.ensures
