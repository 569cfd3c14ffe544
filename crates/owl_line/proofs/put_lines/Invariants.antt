-- The invariant: the bytes of the first j lines are written.
use Rattle.owl_line.proofs.LineLaws as laws
use Rattle.owl_line.proofs.put_lines.Given as goal

abbrev pub invariant-loop-j : goal.invariant-loop-j
invariant-loop-j l = laws.PuttingLines l.source.text.now l.source.opens l.left l.right l.p l.q l.initial.out l.from l.out l.end l.j
