-- By what the entry is.
use Rattle.owl_line.proofs.SideLaws as laws
use Rattle.owl_line.proofs.parts.Side.code_at.Goals as goal

pub returns-in-Fresh : goal.returns-in-Fresh
returns-in-Fresh c = rw c.in-Fresh.is (laws.code_fresh _ _ _ _ _ c.fresh_code.ensures)

pub returns-in-Some-Constant : goal.returns-in-Some-Constant
returns-in-Some-Constant c = rw c.in-Class.is (laws.code_class _ _ _ _ _ _ _ c.in-Some-Constant.field-0-is c.in-Some-Constant.ensures.is c.code_of.ensures)

pub returns-in-Some-Row : goal.returns-in-Some-Row
returns-in-Some-Row c = rw c.in-Class.is (laws.code_class _ _ _ _ _ _ _ c.in-Some-Row.field-0-is c.in-Some-Row.ensures.is c.code_of-in-Some-Row.ensures)

pub returns-in-Some-Open : goal.returns-in-Some-Open
returns-in-Some-Open c = rw c.in-Class.is (laws.code_class _ _ _ _ _ _ _ c.in-Some-Open.field-0-is c.in-Some-Open.ensures.is c.code_of-in-Some-Open.ensures)

pub returns-in-None : goal.returns-in-None
returns-in-None c = rw c.in-Class.is (laws.code_none _ _ _ _ _ c.in-None.ensures.none)
