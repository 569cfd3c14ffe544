-- The invariant: the bytes before this one are written.
use Rattle.std.proofs.Common.{take}
use Rattle.text.specs.Append.{Appended}
use Rattle.owl_call.proofs.put_lines.Given as goal

abbrev pub invariant-loop-b : goal.invariant-loop-b
invariant-loop-b l = Appended l.initial.out l.from (take l.b-index l.lines) l.out l.end
