-- `table::Body::read_role` meets its contract: it is the code that the test allows.
use Rattle.std.proofs.Common.{◌∙◌, rules}
use Rattle.table.proofs.Laws.{code_is}
use Rattle.table.proofs.Body.read_role.Goals as goal

pub returns : goal.returns
returns c = c.read_code.ensures _ (λ code r post. search rules) ∙ code_is _ _ _
