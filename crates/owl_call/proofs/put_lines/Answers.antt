-- No byte is written at first, and each turn writes one more.
use Rattle.std.proofs.Common.{sym}
use Rattle.std.proofs.lemmas.List.{take_more}
use Rattle.text.specs.AppendLaws.{appended_none, appended_as, appended_then}
use Rattle.owl_call.proofs.put_lines.Goals as goal

pub loop-b-init : goal.loop-b-init
loop-b-init c = appended_none _ _

pub loop-b-preserved : goal.loop-b-preserved
loop-b-preserved c = appended_as (appended_then c.loop-b.invariant c.put_byte-end.ensures) (sym (take_more c.args.lines.now c.loop-b.b-index 0 c.loop-b-test.true))
