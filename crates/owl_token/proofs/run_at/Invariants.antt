-- The invariant: the run and its shape from the start are those passed and those from here.
use Rattle.std.proofs.Common.{◌-◌, length}
use Rattle.owl_token.specs.Run.{shape_number}
use Rattle.owl_token.proofs.RunLaws as laws
use Rattle.owl_token.proofs.run_at.Given as goal

abbrev pub invariant-loop-end : goal.invariant-loop-end
invariant-loop-end l = laws.Running l.s l.at l.end (shape_number l.shape)

abbrev pub decreases-loop-end : goal.decreases-loop-end
decreases-loop-end l = length l.s - l.end
