-- The invariant: the rows of the restrictions before the next stop are written.
use Rattle.owl_table.proofs.RowLaws as laws
use Rattle.owl_table.proofs.put_rows.Given as goal

abbrev pub invariant-loop-stop : goal.invariant-loop-stop
invariant-loop-stop l = laws.Writing l.source.text.now l.source.opens l.initial.out l.from l.stop-iterator l.end l.out
