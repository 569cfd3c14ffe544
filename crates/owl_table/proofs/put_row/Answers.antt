-- The role, then the filler.
use Rattle.owl_table.proofs.RowLaws as laws
use Rattle.owl_table.proofs.put_row.Goals as goal

pub returns-clause-put : goal.returns-clause-put
returns-clause-put c = laws.row_put _ _ _ _ _ _ _ _ _ _ _ _ _ c.role_number-number.ensures c.code_of.ensures c.filler_code.ensures c.put_byte-end.ensures c.put_byte.ensures
