-- `order::left_set` meets its contract.
use Rattle.std.proofs.Common.{sym, ◌∙◌, arith}
use Rattle.table.specs.LayoutLaws.{layout}
use Rattle.order.proofs.Laws.{entry_fits, left_start, left_step, left_whole}
use Rattle.order.proofs.left_set.Goals as goal

pub loop-i-init : goal.loop-i-init
loop-i-init c n few begins = left_start _ _ _

pub entry_set-left-requires : goal.entry_set-left-requires
entry_set-left-requires c = (c.requires.1, entry_fits _ c.args.table.reads _ c.requires.0 _ _ (c.left_code.ensures _ c.requires.2.few c.requires.2.begins))

pub loop-i-preserved : goal.loop-i-preserved
loop-i-preserved c n few begins = left_step _ c.args.table.reads _ _ _ _ _ _ (c.left_code.ensures n few begins) (c.loop-i.invariant n few begins) (c.entry_set-left.ensures _ (c.requires.0 ∙ sym (layout _ c.args.table.reads).constants))

pub returns : goal.returns
returns c n few begins = left_whole _ _ _ _ _ _ (c.left_count-i-end.ensures n few begins) c.loop-i-test.false (omega arith) (c.loop-i.invariant n few begins)
