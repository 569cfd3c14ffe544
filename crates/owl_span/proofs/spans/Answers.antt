-- The invariant: `Spanning`.
use Rattle.std.proofs.Common.{sym, ◌∙◌}
use Rattle.owl_span.proofs.SpanLaws as laws
use Rattle.owl_span.proofs.spans.Goals as goal

pub loop-stop-init : goal.loop-stop-init
loop-stop-init c =
    laws.spanning_start _ _ _ _ _ c.new-stop-items.ensures.text c.new-stop-items.ensures.at c.new-stop-items.ensures.does c.into_iter-stop-iterator.ensures.into_iter_gives

pub returns : goal.returns
returns c = laws.spanning_end _ _ _ _ _ c.next.new.self _ c.loop-stop.invariant c.in-None.ensures.steps

pub loop-stop-preserved-then-is_first : goal.loop-stop-preserved-then-is_first
loop-stop-preserved-then-is_first c =
    laws.spanning_turn _ _ _ _ _ _ _ _ _ c.loop-stop.invariant c.in-Some.ensures.steps (sym c.is_first.ensures ∙ c.if-is_first.true) c.store.ensures

pub loop-stop-preserved : goal.loop-stop-preserved
loop-stop-preserved c = laws.spanning_idle _ _ _ _ _ _ _ _ c.loop-stop.invariant c.in-Some.ensures.steps (sym c.is_first.ensures ∙ c.if-is_first.false)
