-- The invariant: `Spanning`.
use Rattle.owl_span.proofs.SpanLaws as laws
use Rattle.owl_span.proofs.spans.Given as goal

abbrev pub invariant-loop-stop : goal.invariant-loop-stop
invariant-loop-stop l = laws.Spanning l.s l.group l.initial.out l.out l.stop-iterator l.count
