-- The invariant: what is left of the head and the items stand here.
use Rattle.std.proofs.Common.{ap, ◌∙◌, not}
use Rattle.owl_axiom.proofs.HeadLaws as laws
use Rattle.owl_axiom.proofs.behind_names.Goals as goal

pub loop-stop-init : goal.loop-stop-init
loop-stop-init c = laws.heading_start _ _ _ _ c.requires c.from-stop-items.ensures.text c.from-stop-items.ensures.at c.into_iter-stop-iterator.ensures.into_iter_gives

pub loop-stop-preserved : goal.loop-stop-preserved
loop-stop-preserved c = laws.heading_turn _ _ _ _ c.next.new.self c.loop-stop.invariant _ c.in-Some.ensures.steps (c.is_none.ensures ∙ ap not c.if-is_none.false)

pub returns-in-None : goal.returns-in-None
returns-in-None c = laws.heading_end _ _ _ _ c.next.new.self c.loop-stop.invariant c.in-None.ensures.steps

pub returns-then-is_none : goal.returns-then-is_none
returns-then-is_none c = laws.heading_stop _ _ _ _ c.next.new.self c.loop-stop.invariant _ c.in-Some.ensures.steps (c.is_none.ensures ∙ ap not c.if-is_none.true)
