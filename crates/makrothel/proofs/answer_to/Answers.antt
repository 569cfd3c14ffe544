-- `makrothel::answer_to` meets its contract: refused, too short, or walked.
use Rattle.std.proofs.Common.{◌≡◌, ◌*◌, ap, subst, ◌∙◌, arith}
use Rattle.bounds.specs.Bounds.{set_bytes}
use Rattle.el.specs.Walk.{Outcome}
use Rattle.answer.specs.declared.Answer.TheVariants.{OutputShort}
use Rattle.table.specs.declared.Header.{Header}
use Rattle.table.specs.LayoutLaws.{layout}
use Rattle.makrothel.specs.Solve.{answered, outcome_as, answer}
use Rattle.makrothel.proofs.Laws.{solve_refused, solve_short, solve_walked}
use Rattle.makrothel.proofs.answer_to.Goals as goal

pub returns-in-Err : goal.returns-in-Err
returns-in-Err c = solve_refused _ _ _ _ c.in-Err.ensures.err

pub returns-then-out-needed : goal.returns-then-out-needed
returns-then-out-needed c =
    subst (λ s. answered (OutputShort (set_bytes * c.from-needed.result)) c.args.out.now ≡ answer s c.args.budget c.args.out.now) c.in-Ok.ensures.ok
    (solve_short _ _ _ c.in-Ok.readable.reads _ c.from-needed.result c.header.ensures c.from-needed.ensures (omega arith))

pub finish-requires : goal.finish-requires
finish-requires c =
    let few = (layout _ c.in-Ok.readable.reads).few_variables in
    let v = ap (λ (h : Header). h.v) c.header.ensures in
    let w = c.from-needed.ensures in
    let k = c.walk.ensures.1 in
    (omega arith, omega arith)

pub returns : goal.returns
returns c =
    subst (λ s. answered c.finish.result c.finish.new.out ≡ answer s c.args.budget c.args.out.now) c.in-Ok.ensures.ok
    (c.finish.ensures ∙ ap (λ (o : Outcome). outcome_as set_bytes o c.args.out.now) c.walk.ensures.0
    ∙ solve_walked _ _ _ c.in-Ok.readable.reads _ c.from-needed.result c.header.ensures c.from-needed.ensures (omega arith))
