-- `node::line_mask` meets its contract.
use Rattle.std.proofs.Common.{arith}
use Rattle.table.specs.Layout.{IsEntryCode}
use Rattle.node.specs.LineLaws.{line_fits, left_start, left_more, line_whole}
use Rattle.node.proofs.line_mask.Goals as goal

pub loop-i-init : goal.loop-i-init
loop-i-init c = λ n h e. left_start _ _

pub entry_mask-mask-requires : goal.entry_mask-mask-requires
entry_mask-mask-requires c = let b = c.requires.1 in line_fits _ c.args.table.reads _ _ _ (omega arith) (c.left_code.ensures _ b.few b.begins)

pub loop-i-preserved : goal.loop-i-preserved
unfolding IsEntryCode
loop-i-preserved c = λ n h e. left_more _ _ _ (c.left_count-i-end.ensures n h e) _ _ _ (c.loop-i.invariant n h e) c.loop-i-test.true (c.entry_mask-mask.ensures _ _ _ _ _ c.requires.0 (c.left_code.ensures n h e))

pub entry_mask-requires : goal.entry_mask-requires
entry_mask-requires c = let b = c.requires.1 in line_fits _ c.args.table.reads _ _ _ (omega arith) (c.right_code.ensures _ b.few b.begins)

pub returns : goal.returns
unfolding IsEntryCode
returns c = λ n h e. line_whole _ _ _ (c.left_count-i-end.ensures n h e) _ _ _ (c.loop-i.invariant n h e) (omega arith) c.loop-i-test.false (c.entry_mask.ensures _ _ _ _ _ c.requires.0 (c.right_code.ensures n h e))
