-- `order::line_holds` meets its contract: the union of the left entries' sets lies below every atom of the right entry's.
use Rattle.std.proofs.Common.{◌∙◌, arith}
use Rattle.order.proofs.AskedLaws.{none_found, constant_found, others_found}
use Rattle.order.proofs.Laws.{asking, entry_fits, line_asked}
use Rattle.order.proofs.line_holds.Goals as goal

pub left_set-left-requires : goal.left_set-left-requires
left_set-left-requires c = (c.requires.rows.constants, c.requires.sets, c.requires.line)

pub entry_set-requires : goal.entry_set-requires
entry_set-requires c = (c.requires.sets, entry_fits _ c.args.table.reads _ c.requires.rows.constants _ _ (c.right_code.ensures _ c.requires.line.few c.requires.line.begins))

pub lacks_constant-requires : goal.lacks_constant-requires
lacks_constant-requires c = omega (arith, (asking _ c.args.table.reads _ _ _ c.requires).few_atoms)

pub invariant_of-each_below : goal.invariant_of-each_below
invariant_of-each_below c = record { asking = asking _ c.args.table.reads _ _ _ c.requires }

pub returns-then-missing-eq0 : goal.returns-then-missing-eq0
returns-then-missing-eq0 c n few begins =
    none_found _ _ _ _ _ c.left_set-left.type_inv c.entry_set.type_inv c.if-missing-eq0.true
    ∙ line_asked _ c.args.table.reads _ _ _ c.requires _ _ _ c.left_set-left.ensures c.right_code.ensures c.entry_set.ensures n few begins

pub returns-then-not-lacks_constant : goal.returns-then-not-lacks_constant
returns-then-not-lacks_constant c n few begins =
    c.each_below.ensures ∙ others_found _ _ _ _ _ c.left_set-left.type_inv c.entry_set.type_inv
    ∙ line_asked _ c.args.table.reads _ _ _ c.requires _ _ _ c.left_set-left.ensures c.right_code.ensures c.entry_set.ensures n few begins

pub returns-else-not-lacks_constant : goal.returns-else-not-lacks_constant
returns-else-not-lacks_constant c n few begins =
    constant_found _ _ _ _ _ c.left_set-left.type_inv c.entry_set.type_inv _ c.lacks_constant.ensures c.if-not-lacks_constant.false
    ∙ line_asked _ c.args.table.reads _ _ _ c.requires _ _ _ c.left_set-left.ensures c.right_code.ensures c.entry_set.ensures n few begins
