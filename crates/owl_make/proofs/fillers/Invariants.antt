-- The invariant: the lines of the fillers before byte `at` are passed; the measure is what is left of the text.
use Rattle.std.proofs.Common.{◌-◌, ◌≤◌, length, Some}
use Rattle.owl_name.specs.Walk.{does_number}
use Rattle.owl_make.proofs.LinesLaws as laws
use Rattle.owl_make.proofs.fillers.Given as goal

abbrev pub invariant-loop-next : goal.invariant-loop-next
invariant-loop-next l = (l.at ≤ length l.source.text.now) × (l.n ≤ l.at) × laws.Fillers l.source.text.now l.initial.passed l.initial.out l.at (does_number l.does) l.n (Some l.passed) l.out

abbrev pub decreases-loop-next : goal.decreases-loop-next
decreases-loop-next l = length l.source.text.now - l.at
