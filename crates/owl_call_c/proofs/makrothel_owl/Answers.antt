-- It hands on what `owl` answers.
use Rattle.owl_call_c.proofs.CLaws as laws
use Rattle.owl_call_c.proofs.makrothel_owl.Goals as goal

pub returns : goal.returns
returns c = laws.owl_in _ _ _ _ _ _ c.owl-a.ensures
