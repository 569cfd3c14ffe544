-- `makrothel::solve` meets its contract: it hands back what belongs to the answer.
use mathlib.Core.Path.{ap, ◌∙◌}
use Rattle.answer.specs.Handed.{handed}
use Rattle.makrothel.specs.Solve.{Answered}
use Rattle.makrothel.proofs.solve.Goals as goal

pub returns : goal.returns
returns c = (let e = c.answer_to.ensures in
    record { numbers = c.from.ensures ∙ ap (λ (a : Answered). handed a.says) e; output = ap (λ (a : Answered). a.output) e })
