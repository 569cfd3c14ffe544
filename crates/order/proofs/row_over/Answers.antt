-- `order::row_over` meets its contract.
use Rattle.std.proofs.Common.{◌≡◌, subst, sym, ◌∙◌, Bool, true, false, ℕ, ◌<◌, arith}
use Rattle.bounds.specs.Bounds.{max_roles}
use Rattle.el.specs.Test.{bit}
use Rattle.table.specs.LayoutLaws.{layout}
use Rattle.order.specs.Given.{Over}
use Rattle.order.proofs.RowsLaws.{role_low, lies_by, over_start, over_hit, over_miss}
use Rattle.order.proofs.row_over.Goals as goal
use Rattle.order.proofs.row_over.Goals.{then-has_bit, else-has_bit}

pub bounds-under-from : goal.bounds-under-from
bounds-under-from c = subst (λ (i : ℕ). i < max_roles) (sym (c.from.ensures ∙ c.role_of.ensures)) (role_low _ c.args.table.reads _ c.requires.0 _ (omega arith))

pub loop-k-init : goal.loop-k-init
loop-k-init c = over_start _ _

pub has_bit-requires : goal.has_bit-requires
has_bit-requires c =
    let low = subst (λ (i : ℕ). i < max_roles) (sym (c.from-in-loop-k.ensures ∙ c.role_of-in-loop-k.ensures)) (role_low _ c.args.table.reads _ c.requires.0 _ (omega arith)) in
    omega arith

pub overflow_shl-mask : goal.overflow_shl-mask
overflow_shl-mask c = omega (arith, (layout _ c.args.table.reads).few_restrictions)

pub loop-k-preserved : goal.loop-k-preserved
loop-k-preserved c =
    let lies = λ (t : Bool) (e : bit c.from-in-loop-k.result c.from-near.result ≡ t). lies_by _ c.args.table.reads _ c.requires.0 _ _ _ _ _ t (omega arith) (omega arith) (c.from.ensures ∙ c.role_of.ensures) (c.from-in-loop-k.ensures ∙ c.role_of-in-loop-k.ensures) c.from-near.ensures e in
    elim c.if-has_bit.branch [
      | then-has_bit w ↦ subst (Over _ _ _) (sym w.mask-is) (over_hit _ _ _ _ (omega (arith, (layout _ c.args.table.reads).few_restrictions)) (lies true (sym c.has_bit.ensures ∙ w.if-has_bit.true)) c.loop-k.invariant)
      | else-has_bit w ↦ subst (Over _ _ _) (sym w.mask-is) (over_miss _ _ _ _ (lies false (sym c.has_bit.ensures ∙ w.if-has_bit.false)) c.loop-k.invariant)
    ]
