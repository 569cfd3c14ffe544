-- The one that is given after so many others.
use Rattle.owl_class.proofs.RunLaws as laws
use Rattle.owl_class.proofs.conjunct.Goals as goal

pub returns-clause-is : goal.returns-clause-is
returns-clause-is c = laws.one_found _ _ _ _ c.new.ensures _ _ c.nth.ensures.ran

pub returns-clause-named : goal.returns-clause-named
returns-clause-named c = laws.one_named _ _ _ _ c.new.ensures _ _ c.nth.ensures.ran
