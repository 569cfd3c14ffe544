-- `walk::run` meets its contract: a state that has ended stays, and any other is moved on.
use Rattle.std.proofs.Common.{arith, rules}
use Rattle.node.specs.DeadLaws.{prepared_counts, node_counts}
use Rattle.walk.specs.GivenLaws.{given_table}
use Rattle.walk.specs.RunLaws.{running_on, running_spent, running_done, runs_stays, runs_going}
use Rattle.walk.proofs.run.Goals as goal
use Rattle.walk.proofs.run.Goals.{then-ne-via-then-ne, then-ne-via-else-ne+then-share-eq0}

pub returns-then-ne : goal.returns-then-ne
returns-then-ne c = runs_stays _ _ _ (λ o. elim c.then-ne.branch [
  | then-ne-via-then-ne w ↦ absurd (search rules)
  | then-ne-via-else-ne+then-share-eq0 w ↦ w.if-share-eq0.true
])

pub overflow_add-prepared : goal.overflow_add-prepared
overflow_add-prepared c = let h = (node_counts c.args.table.reads (prepared_counts c.prepare-prepared.ensures)).0 in search rules

pub last_set-last-requires : goal.last_set-last-requires
last_set-last-requires c = let h = (node_counts c.args.table.reads (prepared_counts c.prepare-prepared.ensures)).0 in omega arith

pub look-state-requires : goal.look-state-requires
look-state-requires c = (given_table c.args.table.reads c.prepare-prepared.ensures c.last_set-last.ensures, c.requires.0.in_range)

pub advance-requires : goal.advance-requires
advance-requires c = let i = c.loop-prepared.invariant in (given_table c.args.table.reads c.prepare-prepared.ensures c.last_set-last.ensures, i.sound, i.parent (search rules), c.if-state-end.true)

pub loop-prepared-preserved : goal.loop-prepared-preserved
loop-prepared-preserved c = running_on c.loop-prepared.invariant (search rules) c.advance.ensures

pub returns-else-state-end : goal.returns-else-state-end
returns-else-state-end c = runs_going _ c.args.state _ _ (search rules) (running_spent c.loop-prepared.invariant c.args.share (omega arith) c.if-state-end.false)

pub returns-after-loop-prepared : goal.returns-after-loop-prepared
returns-after-loop-prepared c = runs_going _ c.args.state _ _ (search rules) (running_done c.loop-prepared.invariant c.args.share (omega arith) (λ o. absurd (search rules)))
