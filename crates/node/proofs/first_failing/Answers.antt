-- `node::first_failing` meets its contract.
use Rattle.std.proofs.Common.{ap, ◌∙◌, arith, rules, not}
use Rattle.node.specs.DeadLaws.{node_few, prepared_counts, node_counts, made_fillers, node_length, node_settled, node_begins, node_line, fails_start, fails_next, line_open, line_tested, first_found, first_none}
use Rattle.node.proofs.first_failing.Goals as goal
use Rattle.node.proofs.first_failing.Goals.{else-own-settled-via-then-own-settled+else-not-line_holds, else-own-settled-via-else-own-settled}

pub fillers-requires : goal.fillers-requires
fillers-requires c = made_fillers c.args.table.reads c.requires.1

pub node-requires : goal.node-requires
node-requires c = (node_few c.args.table.reads c.requires.0).0

pub settled_mask-settled-requires : goal.settled_mask-settled-requires
settled_mask-settled-requires c = let p = c.requires in let l = node_length c.args.table.reads p.1 p.0 in let f = (node_few c.args.table.reads p.0).0 in rw c.node.ensures (omega arith)

pub loop-n-init : goal.loop-n-init
loop-n-init c = fails_start _ _ _ _

pub offset_bounds-lines-n : goal.offset_bounds-lines-n
offset_bounds-lines-n c = let h = node_counts c.args.table.reads (prepared_counts c.requires.1) in search rules

pub bounds-lines-n : goal.bounds-lines-n
bounds-lines-n c = let h = node_counts c.args.table.reads (prepared_counts c.requires.1) in omega arith

pub offset_bounds-lines-n-in-loop-n : goal.offset_bounds-lines-n-in-loop-n
offset_bounds-lines-n-in-loop-n c = let h = node_counts c.args.table.reads (prepared_counts c.requires.1) in search rules

pub bounds-lines-n-in-loop-n : goal.bounds-lines-n-in-loop-n
bounds-lines-n-in-loop-n c = let h = node_counts c.args.table.reads (prepared_counts c.requires.1) in omega arith

pub line_holds-requires : goal.line_holds-requires
line_holds-requires c = let p = c.requires in rw c.from-at.ensures (node_line c.args.table.reads p.1 p.0 p.2 (search rules) _ c.loop-n-test.true)

pub returns-then-not-line_holds : goal.returns-then-not-line_holds
returns-then-not-line_holds c = let p = c.requires in let q = node_begins c.args.table.reads p.1 _ c.loop-n-test.true in
    first_found c.args.table.reads p.1 p.0 p.2 _ (node_settled c.args.table.reads p.1 p.0 c.fillers.ensures.0 c.fillers.ensures.1 c.node.ensures _ c.settled_mask-settled.ensures) _ c.loop-n-test.true c.loop-n.invariant
    (line_tested _ _ _ _ _ _ c.if-own-settled.true (c.line_holds.ensures _ q.0 (c.from-at.ensures ∙ q.1)) ∙ ap not c.if-not-line_holds.true)

pub loop-n-preserved : goal.loop-n-preserved
loop-n-preserved c = let q = node_begins c.args.table.reads c.requires.1 _ c.loop-n-test.true in
    fails_next _ _ _ _ _ c.loop-n.invariant (elim c.else-own-settled.branch [
      | else-own-settled-via-then-own-settled+else-not-line_holds w ↦ line_tested _ _ _ _ _ _ w.if-own-settled.true (w.line_holds.ensures _ q.0 (c.from-at.ensures ∙ q.1)) ∙ ap not w.if-not-line_holds.false
      | else-own-settled-via-else-own-settled w ↦ line_open _ _ _ _ _ w.if-own-settled.false
    ])

pub returns : goal.returns
returns c = let p = c.requires in
    first_none c.args.table.reads p.1 p.0 p.2 _ (node_settled c.args.table.reads p.1 p.0 c.fillers.ensures.0 c.fillers.ensures.1 c.node.ensures _ c.settled_mask-settled.ensures) _ (omega arith) c.loop-n-test.false c.loop-n.invariant
