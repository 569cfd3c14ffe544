-- `roles::Under::widen` meets its contract.
use Rattle.std.proofs.Common.{sym, subst, ap, ◌∙◌, arith, rules}
use Rattle.std.proofs.lemmas.List.{set-get_or}
use Rattle.el.specs.Test.{bit}
use Rattle.roles.specs.Under.{WidenedTo}
use Rattle.roles.specs.UnderLaws.{widened_start, widened_here, widened_stays, widened_whole}
use Rattle.roles.proofs.Under.widen.Goals as goal
use Rattle.roles.proofs.Under.widen.Goals.{then-has_bit, else-has_bit}

pub loop-m-init : goal.loop-m-init
loop-m-init c = widened_start _ _ _ (search rules)

pub loop-m-preserved : goal.loop-m-preserved
loop-m-preserved c =
    let read = sym (c.has_bit.ensures ∙ ap (bit c.args.wider) c.from.ensures) in
    elim c.if-has_bit.branch [
      | then-has_bit w ↦ subst (WidenedTo _ _ _ _) (sym w.m-items-is) (widened_here _ _ _ _ _ (omega arith) (read ∙ w.if-has_bit.true) c.loop-m.invariant)
      | else-has_bit w ↦ subst (WidenedTo _ _ _ _) (sym (w.m-items-is ∙ set-get_or _ _ 0)) (widened_stays _ _ _ _ _ (read ∙ w.if-has_bit.false) c.loop-m.invariant)
    ]

pub returns : goal.returns
returns c = widened_whole _ _ _ _ _ (omega arith) c.loop-m.invariant
