-- `node::having` meets its contract.
use Rattle.std.proofs.Common.{sym, ap, subst, arith, not, eq-eqb, ne_eqb}
use Rattle.node.specs.Mask.{Picks}
use Rattle.node.specs.MaskLaws.{pick_start, pick_more, pick_skip, pick_whole}
use Rattle.node.specs.Marks.{has_one}
use Rattle.node.proofs.having.Goals as goal
use Rattle.node.proofs.having.Goals.{then-own-atoms-ne0, else-own-atoms-ne0}

pub loop-x-init : goal.loop-x-init
loop-x-init c = pick_start

pub loop-x-preserved : goal.loop-x-preserved
unfolding has_one
loop-x-preserved c =
    elim c.if-own-atoms-ne0.branch [
      | then-own-atoms-ne0 w ↦ subst (Picks _ _) (sym w.mask-is) (pick_more c.loop-x.invariant (omega arith) (ap not (ne_eqb _ _ w.if-own-atoms-ne0.true)))
      | else-own-atoms-ne0 w ↦ subst (Picks _ _) (sym w.mask-is) (pick_skip c.loop-x.invariant (ap not (eq-eqb _ _ w.if-own-atoms-ne0.false)))
    ]

pub returns : goal.returns
returns c = pick_whole c.loop-x.invariant (omega arith) c.loop-x-test.false
