-- The invariant: the first declaration from the start is the first from here.
use Rattle.std.proofs.Common.{refl, sym, ◌∙◌}
use Rattle.owl_name.specs.Declarations.{declares, declared_at}
use Rattle.owl_name.proofs.NameLaws.{declares_none}
use Rattle.owl_name.proofs.RestLaws as laws
use Rattle.owl_name.proofs.declared_at.Goals as goal

pub loop-stop-init : goal.loop-stop-init
unfolding declared_at
loop-stop-init c =
    laws.seek_start (declares _ _) _ (λ m. declares_none _ _ m c.requires) _ _ _ _ c.new-stop-items.ensures.text c.new-stop-items.ensures.at c.new-stop-items.ensures.does
    c.into_iter-stop-iterator.ensures.into_iter_gives refl

pub returns-then-declares : goal.returns-then-declares
returns-then-declares c = record {
  at = laws.seek_hit (declares _ _) _ (λ m. declares_none _ _ m c.requires) _ _ _ c.next.new.self _ c.loop-stop.invariant c.in-Some.ensures.steps (sym c.declares.ensures ∙ c.if-declares.true);
  within = laws.seek_within _ _ _ _ _ c.next.new.self _ c.loop-stop.invariant c.in-Some.ensures.steps;
}

pub loop-stop-preserved : goal.loop-stop-preserved
loop-stop-preserved c =
    laws.seek_miss (declares _ _) _ (λ m. declares_none _ _ m c.requires) _ _ _ c.next.new.self _ c.loop-stop.invariant c.in-Some.ensures.steps (sym c.declares.ensures ∙ c.if-declares.false)

pub returns-clause-at : goal.returns-clause-at
returns-clause-at c = laws.seek_end (declares _ _) _ (λ m. declares_none _ _ m c.requires) _ _ _ c.next.new.self c.loop-stop.invariant c.in-None.ensures.steps
