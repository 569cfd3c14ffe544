-- `batch::solve_reply` meets its contract. The text of the solver's answer fits.
use Rattle.std.proofs.Common.{arith}
use Rattle.batch.proofs.Laws.{solve_is}
use Rattle.batch.proofs.solve_reply.Goals as goal

pub returns : goal.returns
returns c =
    solve_is (omega arith) _ _ _ _ c.solve-a.result c.solve-a.ensures.numbers c.solve-a.ensures.output (grind arith) (omega arith) c.solve_line-end.ensures
