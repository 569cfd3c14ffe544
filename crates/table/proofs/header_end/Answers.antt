-- `table::header_end` meets its contract: by whether there are role rows.
use Rattle.std.proofs.Common.{arith}
use Rattle.std.proofs.lemmas.Grind.{common_steps}
use Rattle.table.specs.Reading.{header_end}
use Rattle.table.proofs.header_end.Goals as goal

pub returns-then-has_role_rows : goal.returns-then-has_role_rows
unfolding header_end
returns-then-has_role_rows c = grind (arith, common_steps)

pub returns-else-has_role_rows : goal.returns-else-has_role_rows
unfolding header_end
returns-else-has_role_rows c = grind (arith, common_steps)
