-- The lines, one by one.
use Rattle.std.proofs.Common.{rules}
use Rattle.owl_line.proofs.LineLaws as laws
use Rattle.owl_line.proofs.put_lines.Goals as goal

pub loop-j-init : goal.loop-j-init
loop-j-init c = laws.lines_start _ _ _ _ _ _ _ _

pub loop-j-preserved : goal.loop-j-preserved
loop-j-preserved c = laws.lines_turn _ _ _ _ _ _ _ _ _ _ _ _ _ _ _ _ _ _ c.loop-j.invariant (search rules) c.put_byte-end.ensures c.put_entries-end.ensures.put c.code_at.ensures c.put_byte-end-in-loop-j.ensures

pub returns-clause-put : goal.returns-clause-put
returns-clause-put c = laws.lines_end _ _ _ _ _ _ _ _ _ _ _ c.loop-j.invariant (search rules)
