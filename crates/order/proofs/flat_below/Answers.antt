-- `order::flat_below` is the flat test, by the kind of the right code.
use Rattle.std.proofs.Common.{sym, ◌∙◌, inl, inr}
use Rattle.order.proofs.CodeLaws.{flat_kind}
use Rattle.order.proofs.flat_below.Goals as goal

pub returns-in-Constant : goal.returns-in-Constant
returns-in-Constant c = c.is_constant.ensures ∙ flat_kind _ _ _ (sym c.kind_of.ensures ∙ c.in-Constant.is)

pub returns-in-Top : goal.returns-in-Top
returns-in-Top c = elim c.in-Top.is [
  | inl e ↦ flat_kind _ _ _ (sym c.kind_of.ensures ∙ e)
  | inr (inl (k, e)) ↦ flat_kind _ _ _ (sym c.kind_of.ensures ∙ e)
  | inr (inr (inl (k, e))) ↦ flat_kind _ _ _ (sym c.kind_of.ensures ∙ e)
  | inr (inr (inr e)) ↦ flat_kind _ _ _ (sym c.kind_of.ensures ∙ e)
]
