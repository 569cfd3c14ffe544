-- `batch::reply_to` meets its contract. The output is the beginning of an array that is filled.
use Rattle.std.proofs.Common.{ap, ◌∙◌}
use Rattle.std.proofs.lemmas.List.{take-replicate}
use Rattle.batch.specs.Question.{most, solve_reply}
use Rattle.batch.proofs.reply_to.Goals as goal

pub returns-in-Solve : goal.returns-in-Solve
returns-in-Solve c =
    rw c.in-Solve.is (c.solve_reply.ensures ∙ ap (solve_reply _ _) (take-replicate _ most 0xAA (rw c.in-Solve.is at c.requires.0)))
