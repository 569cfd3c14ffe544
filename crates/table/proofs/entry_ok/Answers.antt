-- `table::entry_ok` meets its contract: by the kind of the code.
use mathlib.Core.Path.{sym, ◌∙◌}
use Rattle.table.specs.declared.Kind.TheVariants.{Top, Constant, Restriction, Variable, Other}
use Rattle.table.specs.Code.{entry_of_kind}
use Rattle.table.specs.Step.{is_some}
use Rattle.table.proofs.Laws.{some_within, entry_by_lem}
use Rattle.std.proofs.Common.{rules}
use Rattle.table.proofs.entry_ok.Goals as goal

pub kind_of-requires : goal.kind_of-requires
unfolding entry_of_kind is_some
kind_of-requires c = search rules

pub returns-in-Top : goal.returns-in-Top
unfolding entry_of_kind is_some
returns-in-Top c = entry_by_lem _ _ _ _ Top (sym c.kind_of.ensures ∙ c.in-Top.is)

pub returns-in-Constant : goal.returns-in-Constant
unfolding entry_of_kind is_some
returns-in-Constant c = some_within _ _ _ ∙ entry_by_lem _ _ _ _ (Constant _) (sym c.kind_of.ensures ∙ c.in-Constant.is)

pub returns-in-Restriction : goal.returns-in-Restriction
unfolding entry_of_kind is_some
returns-in-Restriction c = some_within _ _ _ ∙ entry_by_lem _ _ _ _ (Restriction _) (sym c.kind_of.ensures ∙ c.in-Restriction.is)

pub returns-in-Variable : goal.returns-in-Variable
unfolding entry_of_kind is_some
returns-in-Variable c = some_within _ _ _ ∙ entry_by_lem _ _ _ _ (Variable _) (sym c.kind_of.ensures ∙ c.in-Variable.is)

pub returns-in-Other : goal.returns-in-Other
unfolding entry_of_kind is_some
returns-in-Other c = entry_by_lem _ _ _ _ Other (sym c.kind_of.ensures ∙ c.in-Other.is)
