-- The token, its name and what comes behind it.
use Rattle.std.proofs.Common.{refl, arith}
use Rattle.owl_name.proofs.RestLaws as laws
use Rattle.owl_name.proofs.walks.WalkIterator.next.Goals as goal

pub slice_bounds-of-count : goal.slice_bounds-of-count
slice_bounds-of-count c = laws.token_order _ _ _ _ _ (c.token_at-token.ensures.0, c.token_at-token.ensures.1, c.token_at-token.ensures.2)

pub slice_bounds-of-start : goal.slice_bounds-of-start
slice_bounds-of-start c = laws.token_order _ _ _ _ _ (c.token_at-token.ensures.0, c.token_at-token.ensures.1, c.token_at-token.ensures.2)

pub returns-clause-steps : goal.returns-clause-steps
returns-clause-steps c =
    (laws.stop_at _ _ _ c.args.self.now.within _ _ (c.token_at-token.ensures.0, c.token_at-token.ensures.1, c.token_at-token.ensures.2) c.token_at-token.ensures.3 c.eq.ensures c.if-eq.false c.of.ensures, refl, refl, c.after-self.ensures)

pub returns-clause-goes : goal.returns-clause-goes
returns-clause-goes c =
    let ahead = laws.goes_on _ _ c.args.self.now.within _ (c.token_at-token.ensures.0, c.token_at-token.ensures.1, c.token_at-token.ensures.2) c.eq.ensures c.if-eq.false in
    let fits = c.args.self.now.within in
    let left = c.token_at-token.ensures.3 in
    record { on = λ _. (tt, tt, omega arith); keeps = tt; rests = λ _. tt }
