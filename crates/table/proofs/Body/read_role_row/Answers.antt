-- `table::Body::read_role_row` meets its contract: a law for a refused first role, and one for a first role that is read.
use Rattle.std.proofs.Common.{sym, ◌∙◌, rules}
use Rattle.table.proofs.Laws.{pair_first, pair_second}
use Rattle.table.proofs.Body.read_role_row.Goals as goal

pub returns-in_err-next : goal.returns-in_err-next
returns-in_err-next c = search rules ∙ pair_first _ _ _ _ _ (sym c.in_err-next.ensures)

pub returns : goal.returns
returns c = c.read_role-2.ensures ∙ pair_second _ _ _ _ _ (sym c.in_ok-next.ensures)
