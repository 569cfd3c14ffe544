-- By what the count says.
use Rattle.owl_call.proofs.CallLaws as laws
use Rattle.owl_call.proofs.names.Goals as goal

pub returns : goal.returns
returns c = laws.names_within _ _ _ _ _ c.up_to.ensures c.within.ensures
