-- A role, by its first declaration.
use Rattle.std.proofs.Common.{ap, ◌∙◌}
use Rattle.owl_name.specs.Declarations.{different}
use Rattle.owl_name.proofs.NumberLaws as laws
use Rattle.owl_name.proofs.role_number.Goals as goal

pub returns : goal.returns
returns c = c.different.ensures ∙ ap (different _ 2) c.declared_at.ensures.at ∙ laws.role_number_lem _ _
