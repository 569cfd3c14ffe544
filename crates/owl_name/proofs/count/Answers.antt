-- All of the group.
use Rattle.std.proofs.Common.{◌∙◌}
use Rattle.owl_name.proofs.NumberLaws as laws
use Rattle.owl_name.proofs.count.Goals as goal

pub returns : goal.returns
returns c = c.different.ensures ∙ laws.group_count _ c.args.group
