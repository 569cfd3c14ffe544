-- The invariant: the same conjuncts are left.
use Rattle.std.proofs.Common.{sym, ◌∙◌, arith}
use Rattle.owl_class.proofs.GiveLaws as laws
use Rattle.owl_class.proofs.spread.ConjunctsIterator.next.Goals as goal

pub loop-self-init : goal.loop-self-init
loop-self-init c = (laws.same_start _, omega arith)

pub returns-in_default-next-clause-steps : goal.returns-in_default-next-clause-steps
returns-in_default-next-clause-steps c = laws.same_end _ _ c.loop-self.invariant.0 c.next.new.self c.loop-self.self c.in_default-next.ensures.steps

pub invariant_of-self-in-Some : goal.invariant_of-self-in-Some
invariant_of-self-in-Some c = record {
  few = laws.few_behind c.loop-self.self c.in-Some-next.stop c.next.new.self c.in-Some.inside c.after.result c.in-Some.is c.in-Some-next.ensures.steps c.after.ensures.outer c.after.ensures.inner c.ends_here-ended.result _ c.then_some-self.ensures;
}

pub returns-then-is_some-clause-steps : goal.returns-then-is_some-clause-steps
returns-then-is_some-clause-steps c =
    laws.same_found _ _ c.loop-self.invariant.0 c.in-Some-next.stop _
    c.in-Some.inside (record { on = c.in-Some.is; goes = c.in-Some-next.ensures.steps; after = c.after.result; inside = laws.going_is _ _ _ _ c.ends_here-ended.ensures c.then_some-self.ensures; outer = c.after.ensures.outer; inner = c.after.ensures.inner })
    c.conjunct-found.result c.conjunct-found.ensures (sym c.is_some.ensures ∙ c.if-is_some.true)

pub loop-self-preserved : goal.loop-self-preserved
loop-self-preserved c = (
  laws.same_turn _ _ c.loop-self.invariant.0 c.in-Some-next.stop _
      c.in-Some.inside (record { on = c.in-Some.is; goes = c.in-Some-next.ensures.steps; after = c.after.result; inside = laws.going_is _ _ _ _ c.ends_here-ended.ensures c.then_some-self.ensures; outer = c.after.ensures.outer; inner = c.after.ensures.inner })
      c.conjunct-found.result c.conjunct-found.ensures (sym c.is_some.ensures ∙ c.if-is_some.false),
  (let goes = c.in-Some-next.ensures.steps.0.goes in let far = c.in-Some-next.ensures.steps.2 in let on = c.loop-self.invariant.1 in omega arith),
)

pub returns-clause-steps : goal.returns-clause-steps
returns-clause-steps c = laws.same_ended _ _ c.loop-self.invariant.0 c.loop-self.self c.in_default.is
