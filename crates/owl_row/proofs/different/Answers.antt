-- The invariant: so many stand before the next stop.
use Rattle.std.proofs.Common.{arith, ◌∙◌}
use Rattle.owl_name.proofs.CountLaws.{byte_one}
use Rattle.owl_name.proofs.RestLaws.{stop_in}
use Rattle.owl_row.proofs.CountLaws as laws
use Rattle.owl_row.proofs.different.Goals as goal

pub loop-stop-init : goal.loop-stop-init
loop-stop-init c =
    laws.counting_start _ _ _ _ c.new-stop-items.ensures.text c.new-stop-items.ensures.at c.new-stop-items.ensures.does c.into_iter-stop-iterator.ensures.into_iter_gives

pub adds-requires : goal.adds-requires
adds-requires c = (stop_in _ c.loop-stop.stop-iterator c.next.new.self _ c.loop-stop.invariant.text c.in-Some.ensures.steps).within

pub loop-stop-preserved : goal.loop-stop-preserved
loop-stop-preserved c =
    laws.counting_turn _ _ _ _ _ _ _ _ c.loop-stop.invariant c.in-Some.ensures.steps (let before = c.if-limit-stop.false in omega arith) c.adds.ensures (c.from-count.ensures ∙ byte_one _)

pub returns-in-None : goal.returns-in-None
returns-in-None c = laws.counting_end _ _ _ c.next.new.self _ c.loop-stop.invariant c.in-None.ensures.steps

pub returns-then-limit-stop : goal.returns-then-limit-stop
returns-then-limit-stop c = laws.counting_limit _ _ _ c.next.new.self _ _ c.loop-stop.invariant c.in-Some.ensures.steps c.if-limit-stop.true
