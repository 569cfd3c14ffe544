-- All of them.
use mathlib.Core.Path.{◌∙◌}
use Rattle.owl_row.proofs.FreshLaws as laws
use Rattle.owl_row.proofs.fresh.Goals as goal

pub returns : goal.returns
returns c = c.fresh_before.ensures ∙ laws.fresh_all_lem _
