-- `table::read_many` meets its contract: a turn of the loop is a step.
use Rattle.std.proofs.Common.{◌≡◌, ◌-◌, sym, ap, ◌∙◌, arith, rules}
use Rattle.table.specs.Step.{steps}
use Rattle.table.proofs.Laws.{turn_stop, turn_next, turn_end}
use Rattle.table.proofs.read_many.Goals as goal

pub loop-init : goal.loop-init
loop-init g c step says = let none : c.args.count ≡ c.args.count - 0 = omega arith in ap (λ k. steps step k c.args.from) none

pub returns-in_err-at : goal.returns-in_err-at
returns-in_err-at g c step says =
    search rules ∙ sym (c.loop.invariant step says ∙ turn_stop step _ _ _ c.loop-test.true _ (sym (says _ _ (c.in_err-at.ensures))))

pub loop-preserved : goal.loop-preserved
loop-preserved g c step says =
    c.loop.invariant step says ∙ turn_next step _ _ _ c.loop-test.true _ (sym (says _ _ (c.in_ok-at.ensures)))

pub returns : goal.returns
returns g c step says = sym (c.loop.invariant step says ∙ turn_end step _ _ _ (omega arith))
