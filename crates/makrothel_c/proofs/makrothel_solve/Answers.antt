-- `makrothel_solve` meets its contract: it hands on what `solve` answers.
use Rattle.std.proofs.Common.{ap}
use Rattle.answer.specs.declared.Handed.{Handed}
use Rattle.makrothel.specs.C.{count_and_place}
use Rattle.makrothel_c.proofs.makrothel_solve.Goals as goal

pub returns : goal.returns
unfolding count_and_place
returns c =
    let e = c.solve-a.ensures in
    record { number = ap (λ (h : Handed). h.number) e.numbers; numbers = let same = ap count_and_place e.numbers in cc; output = e.output }
