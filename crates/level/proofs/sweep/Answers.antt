-- `level::sweep` meets its contract.
use Rattle.std.proofs.Common.{◌-◌, ℕ, get_or, refl, sym, ap, arith, rules}
use Rattle.level.specs.ChildLaws.{child_place}
use Rattle.level.specs.SweepLaws.{at_start, at_child, at_chosen, at_next, swept_live, swept_over, swept_spent}
use Rattle.level.proofs.sweep.Goals as goal

pub loop-passed-init : goal.loop-passed-init
loop-passed-init c = at_start c.requires.first

pub offset_bounds-sets-y : goal.offset_bounds-sets-y
offset_bounds-sets-y c = let h = child_place c.requires.child c.args.table.reads (search rules) in search rules

pub bounds-sets-y : goal.bounds-sets-y
bounds-sets-y c = let h = child_place c.requires.child c.args.table.reads (search rules) in omega arith

pub child_is_dead-requires : goal.child_is_dead-requires
child_is_dead-requires c =
    let i = c.loop-passed.invariant in let k = at_chosen c.requires.child c.args.table.reads (search rules) i in
    (at_child c.requires.child c.args.table.reads (search rules) i, ap (λ (n : ℕ). get_or c.loop-passed.sets.set (n - 1) 0) (sym k), search rules)

pub returns-then-not-child_is_dead : goal.returns-then-not-child_is_dead
returns-then-not-child_is_dead c = swept_live c.requires.child c.args.table.reads (search rules) c.loop-passed.invariant refl c.loop-passed-test.true c.child_is_dead.ensures c.if-not-child_is_dead.true

pub returns-then-last-x : goal.returns-then-last-x
returns-then-last-x c = swept_over c.requires.child c.args.table.reads (search rules) c.loop-passed.invariant refl c.loop-passed-test.true c.child_is_dead.ensures c.if-not-child_is_dead.false c.if-last-x.true

pub offset_bounds-sets-y-in-loop-passed : goal.offset_bounds-sets-y-in-loop-passed
offset_bounds-sets-y-in-loop-passed c = let h = child_place c.requires.child c.args.table.reads (search rules) in search rules

pub bounds-sets-y-in-loop-passed : goal.bounds-sets-y-in-loop-passed
bounds-sets-y-in-loop-passed c = let h = child_place c.requires.child c.args.table.reads (search rules) in omega arith

pub loop-passed-preserved : goal.loop-passed-preserved
loop-passed-preserved c = at_next c.requires.child c.args.table.reads (search rules) c.loop-passed.invariant refl c.child_is_dead.ensures c.if-not-child_is_dead.false (omega arith)

pub offset_bounds-sets-y-2 : goal.offset_bounds-sets-y-2
offset_bounds-sets-y-2 c = let h = child_place c.requires.child c.args.table.reads (search rules) in search rules

pub bounds-sets-y-2 : goal.bounds-sets-y-2
bounds-sets-y-2 c = let h = child_place c.requires.child c.args.table.reads (search rules) in omega arith

pub returns : goal.returns
returns c = swept_spent c.requires.child c.args.table.reads (search rules) c.loop-passed.invariant refl (omega arith)
