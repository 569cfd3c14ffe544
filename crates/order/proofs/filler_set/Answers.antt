-- `order::filler_set` is the set of the filler, by the kind of its code; a declared code holds a number in range.
use Rattle.std.proofs.Common.{refl, sym, ◌∙◌, inl, inr}
use Rattle.order.proofs.CodeLaws.{filler_constant_fits, filler_variable_fits, set_none, set_one, set_given}
use Rattle.order.proofs.filler_set.Goals as goal

pub overflow_shl-result : goal.overflow_shl-result
overflow_shl-result c = filler_constant_fits _ _ _ refl c.requires.1 (sym c.kind_of.ensures ∙ c.in-Constant.is)

pub bounds-set-from : goal.bounds-set-from
bounds-set-from c = filler_variable_fits _ _ _ c.from.ensures _ c.requires.0 c.requires.1 (sym c.kind_of.ensures ∙ c.in-Variable.is)

pub returns-in-Top : goal.returns-in-Top
returns-in-Top c = elim c.in-Top.is [
  | inl e ↦ set_none _ _ _ (sym c.kind_of.ensures ∙ e) refl
  | inr (inl (k, e)) ↦ set_none _ _ _ (sym c.kind_of.ensures ∙ e) refl
  | inr (inr e) ↦ set_none _ _ _ (sym c.kind_of.ensures ∙ e) refl
]

pub returns-in-Constant : goal.returns-in-Constant
returns-in-Constant c = set_one _ _ _ _ refl (filler_constant_fits _ _ _ refl c.requires.1 (sym c.kind_of.ensures ∙ c.in-Constant.is)) (sym c.kind_of.ensures ∙ c.in-Constant.is)

pub returns-in-Variable : goal.returns-in-Variable
returns-in-Variable c = set_given _ _ _ _ c.from.ensures (sym c.kind_of.ensures ∙ c.in-Variable.is)
