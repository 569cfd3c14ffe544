-- By what the filler is.
use Rattle.owl_table.proofs.RowLaws as laws
use Rattle.owl_table.proofs.filler_code.Goals as goal

pub returns-in-Top : goal.returns-in-Top
returns-in-Top c = laws.code_top _ _ _ c.in-Top.ensures

pub returns-in-Constant : goal.returns-in-Constant
returns-in-Constant c = laws.code_constant _ _ _ _ _ c.in-Constant.ensures c.code_of.ensures

pub returns-in-Open : goal.returns-in-Open
returns-in-Open c = laws.code_open _ _ _ _ _ c.in-Open.ensures c.code_of-in-Open.ensures

pub returns-in-Fresh : goal.returns-in-Fresh
returns-in-Fresh c = laws.code_own _ _ _ _ _ c.in-Fresh.ensures c.fresh_code.ensures
