-- In the block the state of the token's body, if it has one, else the same.
use Rattle.std.proofs.Common.{sym, ◌∙◌, arith, rules}
use Rattle.owl_text.proofs.TableLaws as tables
use Rattle.owl_text.proofs.BlockLaws as blocks
use Rattle.owl_text.proofs.Levels.open.Goals as goal
use Rattle.owl_text.proofs.Levels.open.Goals.{in_default-via-in-None-1, in_default-via-in-Some+else-level-self}

pub returns-then-level-self-clause-begun : goal.returns-then-level-self-clause-begun
returns-then-level-self-clause-begun c =
    blocks.stored c.args.self.now.states _ _ _ _ (omega arith) c.if-level-self.true (c.in-Some.ensures.1 ∙ sym (tables.opened_at _ _ c.in-Some.ensures.0))

pub returns-in_default-clause-begun : goal.returns-in_default-clause-begun
returns-in_default-clause-begun c = elim c.in_default.branch [
  | in_default-via-in-None-1 w ↦ blocks.left_same c.args.self.now.states _ _ _ (omega arith) (λ q. tables.opened_none _ q (search rules))
  | in_default-via-in-Some+else-level-self w ↦ blocks.left_out c.args.self.now.states _ _ _ (omega arith) w.if-level-self.false
]
