-- As many as are given.
use Rattle.owl_class.proofs.RunLaws as laws
use Rattle.owl_class.proofs.conjuncts.Goals as goal

pub returns : goal.returns
returns c = laws.all_counted _ _ _ _ c.new.ensures c.count.ensures.ran
