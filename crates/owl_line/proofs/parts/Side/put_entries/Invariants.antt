-- The invariant: the codes of the first i entries are written.
use Rattle.owl_line.proofs.SideLaws as laws
use Rattle.owl_line.proofs.parts.Side.put_entries.Given as goal

abbrev pub invariant-loop-i : goal.invariant-loop-i
invariant-loop-i l = laws.PuttingEntries l.source.text.now l.source.opens l.self l.p l.initial.out l.from l.out l.end l.i
