-- The table is the definition's.
use Rattle.std.proofs.Common.{◌∙◌, sym, arith, rules}
use Rattle.owl_text.specs.Levels.{moves}
use Rattle.owl_text.proofs.TableLaws as tables
use Rattle.owl_text.proofs.next.Goals as goal

pub returns-then-row-ge28 : goal.returns-then-row-ge28
returns-then-row-ge28 c = tables.next_over _ _ _ c.from-row.ensures c.if-row-ge28.true

pub returns-in-90 : goal.returns-in-90
unfolding moves
returns-in-90 c = let t = tables.next_in c.from-row.result c.column.result _ _ c.from-row.ensures c.column.ensures.0 (omega arith) c.column.ensures.1 in sym (search rules) ∙ t.0

pub returns-in-91 : goal.returns-in-91
unfolding moves
returns-in-91 c = let t = tables.next_in c.from-row.result c.column.result _ _ c.from-row.ensures c.column.ensures.0 (omega arith) c.column.ensures.1 in sym (search rules) ∙ t.0

pub returns-in_default : goal.returns-in_default
unfolding moves
returns-in_default c =
    let t = tables.next_in c.from-row.result c.column.result _ _ c.from-row.ensures c.column.ensures.0 (omega arith) c.column.ensures.1 in
    (t.0, t.1 (λ e. search rules) (λ e. search rules))
