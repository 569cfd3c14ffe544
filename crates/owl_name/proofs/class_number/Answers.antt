-- An open name or a constant, by its first declaration.
use Rattle.std.proofs.Common.{sym, ap, ap₂, ◌∙◌}
use Rattle.owl_name.specs.Declarations.{group_number, different}
use Rattle.owl_name.proofs.NumberLaws as laws
use Rattle.owl_name.proofs.class_number.Goals as goal
use Rattle.owl_name.proofs.class_number.Goals.{then-is_open, else-is_open}

pub returns : goal.returns
returns c =
    c.different.ensures
    ∙ elim c.if-is_open.branch [
      | then-is_open w ↦ ap₂ (different _) (ap group_number w.group-is) c.declared_at.ensures.at ∙ laws.open_number_lem _ _ (sym c.is_open.ensures ∙ w.if-is_open.true)
      | else-is_open w ↦ ap₂ (different _) (ap group_number w.group-is) c.declared_at.ensures.at ∙ laws.constant_number_lem _ _ (sym c.is_open.ensures ∙ w.if-is_open.false) c.requires
    ]
