-- `order::entry_set` is the set of the entry, by the kind of its code; a declared code holds a number in range.
use Rattle.std.proofs.Common.{refl, sym, ◌∙◌, inl, inr, arith}
use Rattle.order.proofs.CodeLaws.{entry_constant_fits, entry_restriction_fits, entry_variable_fits, entry_none, entry_one, entry_row, entry_given}
use Rattle.order.proofs.entry_set.Goals as goal

pub overflow_shl-result : goal.overflow_shl-result
overflow_shl-result c = entry_constant_fits _ _ _ refl _ c.requires.1 (sym c.kind_of.ensures ∙ c.in-Constant.is)

pub overflow_add-result : goal.overflow_add-result
overflow_add-result c = omega (arith, entry_restriction_fits _ _ _ c.from.ensures _ c.requires.1 (sym c.kind_of.ensures ∙ c.in-Restriction.is))

pub overflow_shl-result-in-Restriction : goal.overflow_shl-result-in-Restriction
overflow_shl-result-in-Restriction c = entry_restriction_fits _ _ _ c.from.ensures _ c.requires.1 (sym c.kind_of.ensures ∙ c.in-Restriction.is)

pub bounds-set-from : goal.bounds-set-from
bounds-set-from c = entry_variable_fits _ _ _ c.from-in-Variable.ensures _ c.requires.1 _ c.requires.0 (sym c.kind_of.ensures ∙ c.in-Variable.is)

pub returns-in-Top : goal.returns-in-Top
returns-in-Top c t same = elim c.in-Top.is [
  | inl e ↦ entry_none t _ _ _ (sym c.kind_of.ensures ∙ e) refl
  | inr e ↦ entry_none t _ _ _ (sym c.kind_of.ensures ∙ e) refl
]

pub returns-in-Constant : goal.returns-in-Constant
returns-in-Constant c t same = entry_one t _ _ _ _ refl (entry_constant_fits _ _ _ refl _ c.requires.1 (sym c.kind_of.ensures ∙ c.in-Constant.is)) (sym c.kind_of.ensures ∙ c.in-Constant.is)

pub returns-in-Restriction : goal.returns-in-Restriction
returns-in-Restriction c t same = entry_row t _ _ _ _ _ same c.from.ensures (entry_restriction_fits _ _ _ c.from.ensures _ c.requires.1 (sym c.kind_of.ensures ∙ c.in-Restriction.is)) (sym c.kind_of.ensures ∙ c.in-Restriction.is)

pub returns-in-Variable : goal.returns-in-Variable
returns-in-Variable c t same = entry_given t _ _ _ _ c.from-in-Variable.ensures (sym c.kind_of.ensures ∙ c.in-Variable.is)
