-- The invariant: every block before this one was read; the measure is how many numbers of blocks are left.
use Rattle.std.proofs.Common.{◌-◌, ◌<◌, ◌⊎◌, length}
use Rattle.owl_text.specs.Levels.{Clear, Refused}
use Rattle.owl_text.specs.Verdict.{verdict_of}
use Rattle.owl_text.proofs.check.Given as goal

abbrev pub invariant-loop-end : goal.invariant-loop-end
invariant-loop-end l = record {
  clear : Clear l.s l.block l.end.at;
  refused : Refused l.s l.end.at (verdict_of l.end.verdict) ⊎ (length l.s < l.end.at);
}

abbrev pub decreases-loop-end : goal.decreases-loop-end
decreases-loop-end l = 18446744073709551616 - l.block
