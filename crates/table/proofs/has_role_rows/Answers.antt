-- `table::has_role_rows` meets its contract: the comparison is the definition.
use mathlib.Core.Path.{refl}
use Rattle.table.specs.Reading.{has_role_rows}
use Rattle.table.proofs.has_role_rows.Goals as goal

pub returns : goal.returns
unfolding has_role_rows
returns c = refl
