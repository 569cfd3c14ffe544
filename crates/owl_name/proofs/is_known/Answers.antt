-- owl:Thing needs no declaration; any other name is known where its first declaration lies in the text.
use Rattle.std.proofs.Common.{sym, ap, ◌∙◌}
use Rattle.owl_name.specs.Walk.{does_number}
use Rattle.owl_name.proofs.GroupLaws as laws
use Rattle.owl_name.proofs.is_known.Goals as goal

pub returns-then-is_thing : goal.returns-then-is_thing
returns-then-is_thing c = c.if-is_thing.true ∙ laws.use_thing _ _ _ (ap does_number c.in-UsesClass.is) (sym c.is_thing.ensures ∙ c.if-is_thing.true)

pub returns-else-is_thing : goal.returns-else-is_thing
returns-else-is_thing c = laws.use_class _ _ _ _ (ap does_number c.in-UsesClass.is) (sym c.is_thing.ensures ∙ c.if-is_thing.false) c.declared_at.ensures.at

pub returns-in-UsesProperty : goal.returns-in-UsesProperty
returns-in-UsesProperty c = laws.use_role _ _ _ _ (ap does_number c.in-UsesProperty.is) c.declared_at-in-UsesProperty.ensures.at
