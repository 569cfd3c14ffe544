-- The codes, one by one.
use Rattle.std.proofs.Common.{rules}
use Rattle.owl_line.proofs.SideLaws as laws
use Rattle.owl_line.proofs.parts.Side.put_entries.Goals as goal

pub loop-i-init : goal.loop-i-init
loop-i-init c = laws.entries_start _ _ _ _ _ _

pub loop-i-preserved : goal.loop-i-preserved
loop-i-preserved c = laws.entries_turn _ _ _ _ _ _ _ _ _ _ _ _ c.loop-i.invariant (search rules) c.code_at.ensures c.put_byte-end.ensures

pub returns-clause-put : goal.returns-clause-put
returns-clause-put c = laws.entries_end _ _ _ _ _ _ _ _ _ c.loop-i.invariant (search rules)
