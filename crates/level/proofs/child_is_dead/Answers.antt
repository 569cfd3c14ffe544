-- `level::child_is_dead` meets its contract: a law for each of its ends.
use Rattle.std.proofs.Common.{◌∙◌, ap, not, ne_eqb}
use Rattle.level.specs.ChildLaws.{child_turns, child_leaves, child_lines, child_fails}
use Rattle.level.proofs.child_is_dead.Goals as goal

pub returns-then-turns : goal.returns-then-turns
returns-then-turns c = ap not (ne_eqb _ _ c.if-turns.true) ∙ child_turns c.requires.0 c.args.table.reads c.requires.2 (rw c.requires.1 at c.if-turns.true)

pub returns-else-not-leaves : goal.returns-else-not-leaves
returns-else-not-leaves c =
    ap (λ b. not (not b)) (ne_eqb _ _ c.if-not-leaves.false)
    ∙ child_leaves c.requires.0 c.args.table.reads c.requires.2 (rw c.requires.1 at c.if-turns.false) (rw c.requires.1 at c.if-not-leaves.false)

pub fresh_fails-requires : goal.fresh_fails-requires
fresh_fails-requires c = child_lines c.requires.0 c.args.table.reads c.requires.2 (rw c.requires.1 at c.if-turns.false)

pub returns-then-not-leaves : goal.returns-then-not-leaves
returns-then-not-leaves c =
    c.fresh_fails.ensures
    ∙ child_fails c.requires.0 c.args.table.reads c.requires.2 (rw c.requires.1 at c.if-turns.false) (rw c.requires.1 at c.if-not-leaves.true)
