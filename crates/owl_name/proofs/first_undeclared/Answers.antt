-- The invariant: the first from the start is the first from here.
use Rattle.std.proofs.Common.{refl, sym, ◌∙◌, not}
use Rattle.owl.specs.Mention.{is_known, undeclared}
use Rattle.owl_name.proofs.GroupLaws.{use_idle}
use Rattle.owl_name.proofs.RestLaws as laws
use Rattle.owl_name.proofs.first_undeclared.Goals as goal

pub loop-stop-init : goal.loop-stop-init
unfolding undeclared
loop-stop-init c =
    laws.seek_start (λ m. not (is_known _ m)) _ (use_idle _) _ _ _ _ c.new-stop-items.ensures.text c.new-stop-items.ensures.at c.new-stop-items.ensures.does c.into_iter-stop-iterator.ensures.into_iter_gives refl

pub returns-then-is_undeclared : goal.returns-then-is_undeclared
returns-then-is_undeclared c =
    laws.seek_hit (λ m. not (is_known _ m)) _ (use_idle _) _ _ _ c.next.new.self _ c.loop-stop.invariant c.in-Some.ensures.steps (sym c.is_undeclared.ensures ∙ c.if-is_undeclared.true)

pub loop-stop-preserved : goal.loop-stop-preserved
loop-stop-preserved c =
    laws.seek_miss (λ m. not (is_known _ m)) _ (use_idle _) _ _ _ c.next.new.self _ c.loop-stop.invariant c.in-Some.ensures.steps (sym c.is_undeclared.ensures ∙ c.if-is_undeclared.false)

pub returns : goal.returns
returns c = laws.seek_end (λ m. not (is_known _ m)) _ (use_idle _) _ _ _ c.next.new.self c.loop-stop.invariant c.in-None.ensures.steps
