-- `order::rows_of` meets its contract.
use Rattle.std.proofs.Common.{ap, ◌∙◌, arith}
use Rattle.table.specs.declared.Header.{Header}
use Rattle.table.specs.LayoutLaws.{layout}
use Rattle.order.proofs.RowsLaws.{rows_start, rows_step, rows_whole}
use Rattle.order.proofs.rows_of.Goals as goal

pub loop-j-init : goal.loop-j-init
loop-j-init c = rows_start _

pub bounds-over-j : goal.bounds-over-j
bounds-over-j c = omega (arith, c.from-e.ensures, ap (λ (h : Header). h.e) c.header-header.ensures, (layout _ c.args.table.reads).few_restrictions)

pub bounds-inner-j : goal.bounds-inner-j
bounds-inner-j c = omega (arith, c.from-e.ensures, ap (λ (h : Header). h.e) c.header-header.ensures, (layout _ c.args.table.reads).few_restrictions)

pub loop-j-preserved : goal.loop-j-preserved
loop-j-preserved c = rows_step _ _ _ _ _ _ _ (omega (arith, c.from-e.ensures, ap (λ (h : Header). h.e) c.header-header.ensures, (layout _ c.args.table.reads).few_restrictions)) (c.from-e.ensures ∙ ap (λ (h : Header). h.e) c.header-header.ensures) c.loop-j.invariant c.row_over.ensures c.filler_of.ensures

pub returns : goal.returns
returns c = rows_whole _ _ _ (c.from.ensures ∙ ap (λ (h : Header). h.c) c.header-header.ensures) (c.from-e.ensures ∙ ap (λ (h : Header). h.e) c.header-header.ensures) (c.from-2.ensures ∙ ap (λ (h : Header). h.v) c.header-header.ensures) (omega arith) (omega arith) c.loop-j.invariant
