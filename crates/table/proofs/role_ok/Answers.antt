-- `table::role_ok` meets its contract: a role is declared if it is below their count.
use Rattle.table.specs.Code.{role_of}
use Rattle.table.proofs.Laws.{some_within}
use Rattle.table.proofs.role_ok.Goals as goal

pub returns : goal.returns
unfolding role_of
returns c = some_within _ _ _
