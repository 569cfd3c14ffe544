-- A fresh variable is one entry; a class expression has its conjuncts.
use Rattle.owl_line.proofs.SideLaws as laws
use Rattle.owl_line.proofs.parts.Side.count.Goals as goal

pub returns-in-Fresh : goal.returns-in-Fresh
returns-in-Fresh c = rw c.in-Fresh.is (laws.count_fresh _ _)

pub returns-in-Class : goal.returns-in-Class
returns-in-Class c = rw c.in-Class.is (laws.count_class _ _ _ c.conjuncts.ensures)
