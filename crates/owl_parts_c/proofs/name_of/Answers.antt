-- By the first byte.
use Rattle.std.proofs.Common.{sym, ◌∙◌}
use Rattle.owl_parts_c.proofs.CLaws as laws
use Rattle.owl_parts_c.proofs.name_of.Goals as goal

pub returns-then-starts_with : goal.returns-then-starts_with
returns-then-starts_with c = laws.full_by _ (sym c.starts_with.ensures.value ∙ c.if-starts_with.true)

pub returns-else-starts_with : goal.returns-else-starts_with
returns-else-starts_with c = laws.short_by _ (sym c.starts_with.ensures.value ∙ c.if-starts_with.false)
