-- The last block was read.
use Rattle.std.proofs.Common.{◌+◌, arith}
use Rattle.owl_text.proofs.StepLaws as steps
use Rattle.owl_text.proofs.check.Goals as goal

pub returns-then-end-block : goal.returns-then-end-block
returns-then-end-block c = steps.settled c.args.s.now (c.loop-end.block + 1) _ _ _ c.read-end.ensures (omega arith)
