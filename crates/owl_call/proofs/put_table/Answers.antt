-- Header, rows and lines, one after the other.
use Rattle.owl_call.proofs.CallLaws as laws
use Rattle.owl_call.proofs.put_table.Goals as goal

pub returns-clause-table : goal.returns-clause-table
returns-clause-table c = laws.table_put _ _ _ _ _ _ _ _ _ _ _ _ c.put_text-rows.ensures c.put_rows-from.ensures.put c.put_lines.ensures
