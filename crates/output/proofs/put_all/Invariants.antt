-- `output::put_all` meets its contract. The invariant: the first i set numbers are written.
use Rattle.std.proofs.Common.{◌≡◌, take}
use Rattle.output.specs.Written.{written}
use Rattle.output.proofs.put_all.Given as goal

abbrev pub invariant-loop-i : goal.invariant-loop-i
invariant-loop-i l = l.out ≡ written (take l.i l.sets) l.fn.out
