-- The invariant: so many stand before the next stop.
use Rattle.std.proofs.Common.{◌∙◌, arith}
use Rattle.owl_name.proofs.CountLaws as laws
use Rattle.owl_name.proofs.count_until.Goals as goal
use Rattle.owl_name.proofs.count_until.Goals.{then-limit-stop-via-then-limit-stop, then-limit-stop-via-else-limit-stop+then-most-count}

pub loop-stop-init : goal.loop-stop-init
loop-stop-init c =
    laws.counting_start _ _ _ _ _ c.new-stop-items.ensures.text c.new-stop-items.ensures.at c.new-stop-items.ensures.does c.into_iter-stop-iterator.ensures.into_iter_gives

pub loop-stop-preserved : goal.loop-stop-preserved
loop-stop-preserved c =
    laws.counting_turn _ _ _ _ _ _ _ _ _ c.loop-stop.invariant c.in-Some.ensures.steps (let before = c.if-limit-stop.false in omega arith) c.is_first.ensures (c.from-count.ensures ∙ laws.byte_one _)

pub returns-in-None : goal.returns-in-None
returns-in-None c = laws.reaches_all _ _ _ _ _ (laws.counting_end _ _ _ _ c.next.new.self _ c.loop-stop.invariant c.in-None.ensures.steps)

pub returns-then-limit-stop : goal.returns-then-limit-stop
returns-then-limit-stop c =
    elim c.then-limit-stop.branch [
      | then-limit-stop-via-then-limit-stop w ↦ laws.reaches_all _ _ _ _ _ (laws.counting_limit _ _ _ _ c.next.new.self _ _ c.loop-stop.invariant c.in-Some.ensures.steps w.if-limit-stop.true)
      | then-limit-stop-via-else-limit-stop+then-most-count w ↦ laws.reaches_over _ _ _ _ _ _ c.loop-stop.invariant w.if-most-count.true
    ]
