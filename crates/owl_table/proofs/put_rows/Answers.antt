-- The invariant: the rows of the restrictions before the next stop are written.
use Rattle.std.proofs.Common.{sym}
use Rattle.owl_table.proofs.RowLaws as laws
use Rattle.owl_table.proofs.put_rows.Goals as goal

pub loop-stop-init : goal.loop-stop-init
loop-stop-init c = laws.writing_start _ _ _ _ _ _ c.new-stop-items.ensures.text c.new-stop-items.ensures.at c.new-stop-items.ensures.does c.into_iter-stop-iterator.ensures.into_iter_gives

pub adds-requires : goal.adds-requires
adds-requires c = laws.stop_within _ _ _ _ c.loop-stop.stop-iterator c.next.new.self _ _ c.loop-stop.invariant _ c.in-Some.ensures.steps

pub put_row-end-requires : goal.put_row-end-requires
put_row-end-requires c = laws.stop_begins _ _ _ _ c.loop-stop.stop-iterator c.next.new.self _ _ c.loop-stop.invariant _ c.in-Some.ensures.steps

pub loop-stop-preserved-in_default : goal.loop-stop-preserved-in_default
loop-stop-preserved-in_default c = laws.writing_none _ _ _ _ c.loop-stop.stop-iterator _ _ _ c.loop-stop.invariant _ c.in-Some.ensures.steps c.in_default.ensures

pub loop-stop-preserved-then-adds : goal.loop-stop-preserved-then-adds
loop-stop-preserved-then-adds c =
    laws.writing_put _ _ _ _ c.loop-stop.stop-iterator _ _ _ c.loop-stop.invariant _ c.in-Some.ensures.steps _ _ _ c.in-Some-role.ensures (sym c.if-adds.ensures) c.put_row-end.ensures.put

pub loop-stop-preserved : goal.loop-stop-preserved
loop-stop-preserved c = laws.writing_skip _ _ _ _ c.loop-stop.stop-iterator _ _ _ c.loop-stop.invariant _ c.in-Some.ensures.steps (sym c.if-adds.ensures)

pub returns-clause-put : goal.returns-clause-put
returns-clause-put c = laws.writing_end _ _ _ _ c.loop-stop.stop-iterator c.next.new.self _ _ c.loop-stop.invariant c.in-None.ensures.steps
