-- `walk::look` meets its contract: the test says whether the node is dead.
use Rattle.std.proofs.Common.{sym, ◌∙◌, arith}
use Rattle.walk.specs.Step.{dead_at}
use Rattle.walk.specs.StepLaws.{looks_dead}
use Rattle.walk.specs.GivenLaws.{given_variables, given_node}
use Rattle.walk.proofs.look.Goals as goal

pub is_dead-requires : goal.is_dead-requires
is_dead-requires c = let p = c.requires in (given_node p.0 c.args.table.reads _ p.1, p.0.prepares)

pub next_node-requires : goal.next_node-requires
next_node-requires c = let p = c.requires in let q = given_variables p.0 c.args.table.reads in let h = p.1.few in (omega arith, p.0.narrow)

pub returns-then-is_dead : goal.returns-then-is_dead
unfolding dead_at
returns-then-is_dead c = looks_dead _ _ (sym c.is_dead.ensures ∙ c.if-is_dead.true) (c.next_node.ensures _ c.requires.0.width)

pub enter-requires : goal.enter-requires
enter-requires c = let p = c.requires in let q = given_variables p.0 c.args.table.reads in let h = p.1.few in (q.1, omega arith)

pub returns-else-is_dead : goal.returns-else-is_dead
unfolding dead_at
returns-else-is_dead c = c.enter.ensures _ (sym (given_variables c.requires.0 c.args.table.reads).0) (sym c.is_dead.ensures ∙ c.if-is_dead.false)
