-- The role, and behind it the filler.
use Rattle.std.specs.Prelude.{eqb, true, false, None}
use Rattle.std.proofs.Common.{sym, ap, ◌∙◌}
use Rattle.owl.specs.Naming.{same_name}
use Rattle.owl_name.specs.Walk.{written, does_number, named_and}
use Rattle.owl_name.specs.declared.walks.Does.{Does}
use Rattle.owl_row.proofs.LikeLaws as laws
use Rattle.owl_row.proofs.alike.Goals as goal

pub returns-then-is : goal.returns-then-is
returns-then-is c =
    c.is-then-is.ensures ∙ laws.filler_is c.args.s.now (written c.args.role.now) (written c.args.filler.now) _ _ c.name_at.ensures
    ∙ sym (laws.alike_by c.args.s.now (written c.args.role.now) (written c.args.filler.now) c.args.stop.now _ _
    (ap (λ (q : Does). named_and (same_name (written c.args.role.now)) (elim (eqb (does_number q) 4) [ true ↦ c.args.stop.now.name | false ↦ None ])) c.in-UsesProperty.is ∙ sym c.is.ensures ∙ c.if-is.true))

pub returns-else-is : goal.returns-else-is
returns-else-is c =
    c.if-is.false
    ∙ sym (laws.alike_by c.args.s.now (written c.args.role.now) (written c.args.filler.now) c.args.stop.now c.args.stop.now.end _
    (ap (λ (q : Does). named_and (same_name (written c.args.role.now)) (elim (eqb (does_number q) 4) [ true ↦ c.args.stop.now.name | false ↦ None ])) c.in-UsesProperty.is ∙ sym c.is.ensures ∙ c.if-is.false))
