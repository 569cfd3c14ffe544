-- `level::collect` meets its contract.
use Rattle.std.proofs.Common.{refl, sym, ◌∙◌, arith}
use Rattle.level.specs.Level.{is_fresh}
use Rattle.level.specs.ListedLaws.{listed_start, listed_more, listed_skip, listed_whole}
use Rattle.level.proofs.collect.Goals as goal
use Rattle.level.proofs.collect.Goals.{then-passes, else-passes}

pub loop-n-init : goal.loop-n-init
loop-n-init c = listed_start refl

pub loop-n-preserved : goal.loop-n-preserved
unfolding is_fresh
loop-n-preserved c =
    elim c.if-passes.branch [
      | then-passes w ↦ listed_more c.loop-n.invariant (sym c.passes.ensures ∙ w.if-passes.true) (omega arith) w.fresh-is w.few-is
      | else-passes w ↦ listed_skip c.loop-n.invariant (sym c.passes.ensures ∙ w.if-passes.false) w.fresh-is w.few-is
    ]

pub returns : goal.returns
returns c = (refl, refl, listed_whole (omega arith) c.loop-n-test.false c.loop-n.invariant)
