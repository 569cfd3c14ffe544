-- In the block the next state, outside of it the same.
use Rattle.std.proofs.Common.{◌<◌, subst, ℕ, arith}
use Rattle.owl_text.proofs.BlockLaws as blocks
use Rattle.owl_text.proofs.Levels.step.Goals as goal

pub returns-in_ok-self-clause-judged : goal.returns-in_ok-self-clause-judged
returns-in_ok-self-clause-judged c = (
  blocks.stored c.args.self.now.states _ _ _ _ (omega arith) c.if-level-self.true c.in_ok-self.ensures.0,
  λ e. subst (λ (q : ℕ). q < 80) c.in_ok-self.ensures.0 c.in_ok-self.ensures.1,
)

pub returns-else-level-self-clause-judged : goal.returns-else-level-self-clause-judged
returns-else-level-self-clause-judged c = (blocks.left_out c.args.self.now.states _ _ _ (omega arith) c.if-level-self.false, λ e. absurd (c.if-level-self.false e))
