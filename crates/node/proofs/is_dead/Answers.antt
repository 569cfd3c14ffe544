-- `node::is_dead` meets its contract: the cycle test, and else the first line that fails.
use Rattle.std.proofs.Common.{sym, ap, ◌∙◌, not, arith}
use Rattle.el.specs.TestLaws.{true_is}
use Rattle.node.specs.DeadLaws.{node_few, prepared_counts, made_depends, made_fillers, node_length, node_acyclic, dead_cycle, dead_first}
use Rattle.node.proofs.is_dead.Goals as goal

pub fillers-requires : goal.fillers-requires
fillers-requires c = made_fillers c.args.table.reads c.requires.1

pub node-requires : goal.node-requires
node-requires c = (node_few c.args.table.reads c.requires.0).0

pub is_acyclic-requires : goal.is_acyclic-requires
is_acyclic-requires c = let p = c.requires in
    let v = p.1.rows.variables in let h = p.0.chosen in let d = made_depends c.args.table.reads p.1 in let l = node_length c.args.table.reads p.1 p.0 in
    (d.few_variables, rw c.node.ensures (omega arith))

pub returns-then-not-is_acyclic : goal.returns-then-not-is_acyclic
returns-then-not-is_acyclic c = let p = c.requires in let f = c.fillers.ensures in
    ap not c.if-not-is_acyclic.true ∙ dead_cycle c.args.table.reads p.0 (sym c.if-not-is_acyclic.true ∙ node_acyclic c.args.table.reads p.1 p.0 f.0 f.1 c.node.ensures _ c.is_acyclic.ensures)

pub first_failing-requires : goal.first_failing-requires
first_failing-requires c = let p = c.requires in let f = c.fillers.ensures in
    (p.0, p.1, true_is _ (sym (node_acyclic c.args.table.reads p.1 p.0 f.0 f.1 c.node.ensures _ c.is_acyclic.ensures) ∙ c.if-not-is_acyclic.false))

pub returns-else-not-is_acyclic : goal.returns-else-not-is_acyclic
returns-else-not-is_acyclic c = let p = c.requires in let f = c.fillers.ensures in
    dead_first c.args.table.reads (prepared_counts p.1) p.0 (true_is _ (sym (node_acyclic c.args.table.reads p.1 p.0 f.0 f.1 c.node.ensures _ c.is_acyclic.ensures) ∙ c.if-not-is_acyclic.false)) c.first_failing.ensures
