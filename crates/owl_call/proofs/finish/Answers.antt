-- The buffer is too short; or the table is put into it.
use Rattle.std.proofs.Common.{refl, arith}
use Rattle.owl_call.proofs.CallLaws as laws
use Rattle.owl_call.proofs.finish.Goals as goal

pub returns-then-out-long : goal.returns-then-out-long
returns-then-out-long c = laws.too_short _ _ _ c.requires.counted _ _ c.requires.lines _ c.min-end.ensures _ refl c.if-out-long.true

pub returns : goal.returns
returns c =
    laws.all_made _ _ _ c.requires.counted _ _ c.requires.lines _ c.min-end.ensures _ _ _ _ c.requires.opens refl (omega (arith, c.if-out-long.false)) c.put_table.ensures.table
