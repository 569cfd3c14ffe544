-- The invariant: the fillers from the start on are those from here on.
use Rattle.std.proofs.Common.{sym, ◌∙◌}
use Rattle.owl_name.proofs.RestLaws.{stop_in}
use Rattle.owl_axiom.proofs.FillerLaws as laws
use Rattle.owl_axiom.proofs.next_filler.Goals as goal

pub loop-stop-init : goal.loop-stop-init
loop-stop-init c =
    laws.walk_start _ _ _ _ _ c.requires c.from-stop-items.ensures.text c.from-stop-items.ensures.at c.from-stop-items.ensures.does c.into_iter-stop-iterator.ensures.into_iter_gives

pub own_here-requires : goal.own_here-requires
own_here-requires c = (stop_in _ c.loop-stop.stop-iterator c.next.new.self _ c.loop-stop.invariant.text c.in-Some.ensures.steps).within

pub returns-then-own_here : goal.returns-then-own_here
returns-then-own_here c = laws.walk_found _ _ _ _ c.next.new.self c.loop-stop.invariant _ c.in-Some.ensures.steps (sym c.own_here.ensures ∙ c.if-own_here.true)

pub loop-stop-preserved : goal.loop-stop-preserved
loop-stop-preserved c = laws.walk_turn _ _ _ _ c.next.new.self c.loop-stop.invariant _ c.in-Some.ensures.steps (sym c.own_here.ensures ∙ c.if-own_here.false)

pub returns : goal.returns
returns c = laws.walk_end _ _ _ _ c.next.new.self c.loop-stop.invariant c.in-None.ensures.steps
