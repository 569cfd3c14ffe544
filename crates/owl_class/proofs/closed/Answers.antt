-- The invariant: what is left behind from the start is what is left behind from here.
use Rattle.owl_class.proofs.ClosedLaws as laws
use Rattle.owl_class.proofs.closed.Goals as goal

pub loop-stop-init : goal.loop-stop-init
loop-stop-init c = laws.closing_start _ _ _ _ c.requires c.from-stop-items.ensures.text c.from-stop-items.ensures.at c.into_iter-stop-iterator.ensures.into_iter_gives

pub loop-stop-preserved : goal.loop-stop-preserved
loop-stop-preserved c = laws.closing_turn _ _ _ _ _ c.next.new.self c.loop-stop.invariant _ c.in-Some.ensures.steps _ c.deeper-depth.ensures c.if-depth-eq0.false

pub returns-in-None : goal.returns-in-None
returns-in-None c = laws.closing_end _ _ _ _ _ c.next.new.self c.loop-stop.invariant c.in-None.ensures.steps

pub returns-then-depth-eq0 : goal.returns-then-depth-eq0
returns-then-depth-eq0 c = laws.closing_stop _ _ _ _ _ c.next.new.self c.loop-stop.invariant _ c.in-Some.ensures.steps _ c.deeper-depth.ensures c.if-depth-eq0.true
