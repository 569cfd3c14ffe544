-- All of them.
use mathlib.Core.Path.{◌∙◌}
use Rattle.owl_row.proofs.CountLaws as laws
use Rattle.owl_row.proofs.rows.Goals as goal

pub returns : goal.returns
returns c = c.different.ensures ∙ laws.rows_count _
