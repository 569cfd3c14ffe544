-- The next token is `(` if that byte stands where it begins.
use Rattle.std.proofs.Common.{refl, ap, ◌∙◌, ℕ, eqb, arith}
use Rattle.owl_token.proofs.TokenAtLaws as laws
use Rattle.owl_token.proofs.opens_after.Goals as goal

pub returns : goal.returns
returns c =
    c.eq.ensures ∙ laws.is_open c.get.result _ refl ∙ ap (λ (b : ℕ). eqb b 40) (c.get.ensures.lookup.4 (omega arith) 0)
    ∙ laws.opens_here c.args.s.now c.args.at c.skip.result c.skip.ensures.0
