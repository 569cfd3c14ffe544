-- What is left to read from here is what there was to read from the start.
use Rattle.std.proofs.Common.{◌≡◌, ℕ, ◌-◌, Result}
use Rattle.answer.specs.declared.Answer.{Answer}
use Rattle.table.specs.Step.{steps}
use Rattle.table.proofs.read_many.Given as goal

abbrev pub invariant-loop : goal.invariant-loop
invariant-loop g l =
    (step : ℕ → Result ℕ Answer)
    → ((at : ℕ) (r : Result ℕ Answer) → goal.F-post g l.fn.one at r → r ≡ step at)
    → steps step l.count l.from ≡ steps step (l.count - l.counter) l.at
