-- By what the conjunct is.
use Rattle.std.proofs.Common.{sym, ◌∙◌}
use Rattle.owl_class.proofs.EntryLaws as laws
use Rattle.owl_class.proofs.entry_of.Goals as goal

pub returns-in_err-at-clause-is : goal.returns-in_err-at-clause-is
returns-in_err-at-clause-is c = rw c.from_residual.ensures (laws.entry_none _ _ _ _ c.in_err-at.ensures.is)

pub returns-in_err-at-clause-none : goal.returns-in_err-at-clause-none
returns-in_err-at-clause-none c = rw c.from_residual.ensures (laws.none_there _ _ _ _ c.in_err-at.ensures.is)

pub row_number-requires : goal.row_number-requires
row_number-requires c = laws.within _ _ _ _ _ (laws.told _ _ _ _ _ c.in-Restriction.is c.in_ok-at.ensures.is)

pub name_at-requires : goal.name_at-requires
name_at-requires c = laws.within _ _ _ _ _ (laws.told _ _ _ _ _ c.in-Name.is c.in_ok-at.ensures.is)

pub class_number-number-requires : goal.class_number-number-requires
class_number-number-requires c = laws.name_plain _ _ _ _ (laws.told _ _ _ _ _ c.in-Name.is c.in_ok-at.ensures.is) _ c.in_ok-name-in-Name.ensures.1

pub returns-in-Restriction-clause-is : goal.returns-in-Restriction-clause-is
returns-in-Restriction-clause-is c = laws.entry_row _ _ _ _ _ (laws.told _ _ _ _ _ c.in-Restriction.is c.in_ok-at.ensures.is) c.row_number.ensures

pub returns-then-is_open-clause-is : goal.returns-then-is_open-clause-is
returns-then-is_open-clause-is c =
    laws.entry_open _ _ _ _ (laws.told _ _ _ _ _ c.in-Name.is c.in_ok-at.ensures.is) _ c.in_ok-name-in-Name.ensures.1 _ (sym c.is_open.ensures ∙ c.if-is_open.true) c.class_number-number.ensures

pub returns-else-is_open-clause-is : goal.returns-else-is_open-clause-is
returns-else-is_open-clause-is c =
    laws.entry_constant _ _ _ _ (laws.told _ _ _ _ _ c.in-Name.is c.in_ok-at.ensures.is) _ c.in_ok-name-in-Name.ensures.1 _ (sym c.is_open.ensures ∙ c.if-is_open.false) c.class_number-number.ensures
