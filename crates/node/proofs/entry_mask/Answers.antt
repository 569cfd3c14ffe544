-- `node::entry_mask` meets its contract: a restriction has the variable inside it, any other code the one that it names.
use Rattle.std.proofs.Common.{sym, ◌∙◌}
use Rattle.node.specs.CodeLaws.{entry_row, entry_says}
use Rattle.node.proofs.entry_mask.Goals as goal

pub returns-in-Restriction : goal.returns-in-Restriction
returns-in-Restriction c = λ rows m e v x fills is. entry_row _ _ _ _ x is rows _ _ _ (sym c.kind_of.ensures ∙ c.in-Restriction.is) c.from.ensures (fills.at _)

pub returns-in_default : goal.returns-in_default
returns-in_default c = λ rows m e v x fills is y. c.variable_mask.ensures y ∙ entry_says _ _ _ _ x is rows (λ k q. c.in_default.not-Restriction k (c.kind_of.ensures ∙ q)) y
