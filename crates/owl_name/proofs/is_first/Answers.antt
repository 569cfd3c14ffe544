-- A name of the group does something.
use Rattle.std.proofs.Common.{sym, ◌∙◌}
use Rattle.owl_name.proofs.AddLaws as laws
use Rattle.owl_name.proofs.is_first.Goals as goal

pub declared_at-requires : goal.declared_at-requires
declared_at-requires c = laws.in_does _ _ _ (sym c.has.ensures ∙ c.if-has.true)
