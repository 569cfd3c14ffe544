-- `table::is_version_known` meets its contract: by the version that the first test meets.
use Rattle.std.proofs.Common.{arith}
use Rattle.std.proofs.lemmas.Grind.{common_steps}
use Rattle.table.specs.Reading.{version_known}
use Rattle.table.proofs.is_version_known.Goals as goal

pub returns-then-matches : goal.returns-then-matches
unfolding version_known
returns-then-matches c = grind (arith, common_steps)

pub returns-else-matches : goal.returns-else-matches
unfolding version_known
returns-else-matches c = grind (arith, common_steps)
