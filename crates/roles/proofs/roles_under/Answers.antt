-- `roles::roles_under` meets its contract.
use Rattle.std.proofs.Common.{ap, ◌∙◌, ◌-◌, arith}
use Rattle.table.specs.declared.Header.{Header}
use Rattle.table.specs.LayoutLaws.{layout}
use Rattle.roles.specs.UnderLaws.{under_start, under_turn, under_whole, row_low}
use Rattle.roles.proofs.roles_under.Goals as goal

pub loop-k-init : goal.loop-k-init
loop-k-init c =
    let many = c.from-k.ensures ∙ ap (λ (h : Header). h.q) c.header.ensures in
    under_start _ _ _ (omega (arith, (layout _ c.args.table.reads).role_rows_are)) c.alone-under.ensures

pub widen-requires : goal.widen-requires
widen-requires c =
    let many = c.from-k.ensures ∙ ap (λ (h : Header). h.q) c.header.ensures in
    let low = row_low _ c.args.table.reads (c.loop-k.k - 1) (omega arith) in
    (omega (arith, low.0, c.from-narrower.ensures, c.narrower_of.ensures), omega (arith, low.1, c.from-wider.ensures, c.wider_of.ensures))

pub loop-k-preserved : goal.loop-k-preserved
loop-k-preserved c =
    let many = c.from-k.ensures ∙ ap (λ (h : Header). h.q) c.header.ensures in
    under_turn _ c.args.table.reads _ (omega arith) (omega arith) _ _ _ _ (c.from-narrower.ensures ∙ c.narrower_of.ensures) (c.from-wider.ensures ∙ c.wider_of.ensures) c.loop-k.invariant c.widen.ensures

pub returns : goal.returns
returns c = under_whole _ _ _ (omega arith) c.loop-k.invariant
