-- `join::write_text` meets its contract. The invariant: the buffer keeps its length, and the text up to `from` was passed and written. The measure is what is left of the text.
use Rattle.std.proofs.Common.{◌≡◌, ◌-◌, ◌≤◌, length, take}
use Rattle.std.specs.Io.KnownBytes.{Appends}
use Rattle.join.specs.Join.{join_text}
use Rattle.join.proofs.Joined.write_to.Given as goal

abbrev pub invariant-loop-from : goal.invariant-loop-from
invariant-loop-from g l =
    (length l.buffer ≡ 65536) × (l.from ≤ length (join_text l.self.file.now)) × Appends (g.W.Write.contents l.initial.to) (g.W.Write.contents l.to) (take l.from (join_text l.self.file.now))

abbrev pub decreases-loop-from : goal.decreases-loop-from
decreases-loop-from g l = length (join_text l.self.file.now) - l.from
