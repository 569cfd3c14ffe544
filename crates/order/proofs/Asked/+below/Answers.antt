-- The three questions meet their contracts.
use Rattle.std.proofs.Common.{sym, ap, ◌∙◌, not, ◌-◌, arith}
use Rattle.order.specs.declared.Bits.{Bits}
use Rattle.order.proofs.LowestLaws.{in_same, in_hit, in_next, in_beyond, in_none}
use Rattle.order.proofs.AskedLaws.{constant_at, rows_at, each_holds, each_fails, none_found, constant_found, others_found, filler_flat, filler_sets}
use Rattle.order.proofs.CodeLaws.{fills_fits}
use Rattle.order.proofs.Asked.+below.Goals as goal
use Rattle.order.proofs.Asked.+below.Goals.{each_below-else-j-self-via-then-j-self+else-not-set_below, each_below-else-j-self-via-else-j-self, set_below-else-k-rows-via-then-k-rows+else-filler_below, set_below-else-k-rows-via-else-k-rows}

pub each_below-loop-j-init : goal.each_below-loop-j-init
each_below-loop-j-init t c = in_same _ _ _ _ (sym (ap (λ (b : Bits). b.mask) c.into_iter-j-iterator.ensures.into_iter_gives ∙ c.bits_of-j-items.ensures))

pub each_below-returns-then-not-set_below : goal.each_below-returns-then-not-set_below
each_below-returns-then-not-set_below t c = each_fails _ _ _ _ _ (c.loop-j.invariant ∙ in_hit _ _ _ c.in-Some.ensures.steps _ _ c.if-j-self.true (ap not (sym c.set_below.ensures ∙ c.if-not-set_below.true)))

pub each_below-loop-j-preserved : goal.each_below-loop-j-preserved
each_below-loop-j-preserved t c = elim c.else-j-self.branch [
  | each_below-else-j-self-via-then-j-self+else-not-set_below w ↦ c.loop-j.invariant ∙ in_next _ _ _ c.in-Some.ensures.steps _ _ (ap not (sym w.set_below.ensures ∙ w.if-not-set_below.false))
  | each_below-else-j-self-via-else-j-self w ↦ c.loop-j.invariant ∙ in_beyond _ _ _ c.in-Some.ensures.steps _ _ w.if-j-self.false
]

pub each_below-returns : goal.each_below-returns
each_below-returns t c = each_holds _ _ _ _ _ (c.loop-j.invariant ∙ in_none _ _ _ c.in-None.ensures.steps)

pub filler_below-returns-then-depth-eq0 : goal.filler_below-returns-then-depth-eq0
filler_below-returns-then-depth-eq0 t c = c.flat_below.ensures ∙ filler_flat _ _ _ _ _ c.if-depth-eq0.true

pub filler_below-returns-then-missing-eq0 : goal.filler_below-returns-then-missing-eq0
filler_below-returns-then-missing-eq0 t c = none_found _ _ _ _ _ c.filler_set-left.type_inv c.filler_set.type_inv c.if-missing-eq0.true ∙ filler_sets _ _ _ _ _ _ _ c.if-depth-eq0.false c.filler_set-left.ensures c.filler_set.ensures

pub filler_below-returns-then-not-lacks_constant : goal.filler_below-returns-then-not-lacks_constant
filler_below-returns-then-not-lacks_constant t c = c.each_below.ensures ∙ others_found _ _ _ _ _ c.filler_set-left.type_inv c.filler_set.type_inv ∙ filler_sets _ _ _ _ _ _ _ c.if-depth-eq0.false c.filler_set-left.ensures c.filler_set.ensures

pub filler_below-returns-else-not-lacks_constant : goal.filler_below-returns-else-not-lacks_constant
filler_below-returns-else-not-lacks_constant t c = constant_found _ _ _ _ _ c.filler_set-left.type_inv c.filler_set.type_inv _ c.lacks_constant.ensures c.if-not-lacks_constant.false ∙ filler_sets _ _ _ _ _ _ _ c.if-depth-eq0.false c.filler_set-left.ensures c.filler_set.ensures

pub set_below-returns-then-j-rows : goal.set_below-returns-then-j-rows
set_below-returns-then-j-rows t c = c.has_bit.ensures ∙ sym (constant_at _ _ _ _ _ c.if-j-rows.true)

pub set_below-filler_below-requires : goal.set_below-filler_below-requires
set_below-filler_below-requires t c =
    let own = fills_fits _ (c.args.self.asking.fits c.in-Some.k (omega arith)) in
    let asked = fills_fits _ (c.args.self.asking.fits (c.args.j - c.args.self.rows.now.c) (omega arith)) in
    (omega arith, (search (own, asked), search (own, asked)))

pub set_below-returns-then-filler_below : goal.set_below-returns-then-filler_below
set_below-returns-then-filler_below t c =
    sym (rows_at _ _ _ _ _ c.if-j-rows.false ∙ in_same _ _ _ _ (sym (ap (λ (b : Bits). b.mask) c.into_iter-k-iterator.ensures.into_iter_gives ∙ c.bits_of-k-items.ensures)) ∙ c.loop-k.invariant
    ∙ in_hit _ _ _ c.in-Some.ensures.steps _ _ c.if-k-rows.true (sym c.filler_below.ensures ∙ c.if-filler_below.true))

pub set_below-loop-k-preserved : goal.set_below-loop-k-preserved
set_below-loop-k-preserved t c = elim c.else-k-rows.branch [
  | set_below-else-k-rows-via-then-k-rows+else-filler_below w ↦ c.loop-k.invariant ∙ in_next _ _ _ c.in-Some.ensures.steps _ _ (sym w.filler_below.ensures ∙ w.if-filler_below.false)
  | set_below-else-k-rows-via-else-k-rows w ↦ c.loop-k.invariant ∙ in_beyond _ _ _ c.in-Some.ensures.steps _ _ w.if-k-rows.false
]

pub set_below-returns : goal.set_below-returns
set_below-returns t c =
    sym (rows_at _ _ _ _ _ c.if-j-rows.false ∙ in_same _ _ _ _ (sym (ap (λ (b : Bits). b.mask) c.into_iter-k-iterator.ensures.into_iter_gives ∙ c.bits_of-k-items.ensures)) ∙ c.loop-k.invariant
    ∙ in_none _ _ _ c.in-None.ensures.steps)
