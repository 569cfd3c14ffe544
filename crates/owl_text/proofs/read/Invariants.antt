-- The invariant: so many tokens were read, and the array has the states of the block; the measure is what is left of the text.
use Rattle.std.proofs.Common.{◌≡◌, ◌-◌, length}
use Rattle.owl_text.proofs.BlockLaws as blocks
use Rattle.owl_text.proofs.read.Given as goal

abbrev pub invariant-loop-at : goal.invariant-loop-at
invariant-loop-at l = record {
  same_block : l.levels.block ≡ l.block;
  so_far : blocks.Reading l.s l.block l.at l.depth l.most l.levels.states;
}

abbrev pub decreases-loop-at : goal.decreases-loop-at
decreases-loop-at l = length l.s - l.at
