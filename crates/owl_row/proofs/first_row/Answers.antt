-- The invariant: the first from the start is the first from here.
use Rattle.std.proofs.Common.{sym, ◌∙◌}
use Rattle.owl_row.proofs.LikeLaws as laws
use Rattle.owl_row.proofs.first_row.Goals as goal

pub loop-stop-init : goal.loop-stop-init
loop-stop-init c =
    laws.like_start _ _ _ _ _ c.new-stop-items.ensures.text c.new-stop-items.ensures.at c.new-stop-items.ensures.does c.into_iter-stop-iterator.ensures.into_iter_gives

pub returns-then-alike : goal.returns-then-alike
returns-then-alike c = laws.like_hit _ _ _ _ c.next.new.self _ c.loop-stop.invariant c.in-Some.ensures.steps (sym c.alike.ensures ∙ c.if-alike.true)

pub loop-stop-preserved : goal.loop-stop-preserved
loop-stop-preserved c = laws.like_miss _ _ _ _ c.next.new.self _ c.loop-stop.invariant c.in-Some.ensures.steps (sym c.alike.ensures ∙ c.if-alike.false)

pub returns : goal.returns
returns c = laws.like_end _ _ _ _ c.next.new.self c.loop-stop.invariant c.in-None.ensures.steps
