-- `level::passes` meets its contract.
use Rattle.level.specs.ListedLaws.{fresh_none, fresh_some}
use Rattle.level.proofs.passes.Goals as goal

pub returns-then-own-about-ne0 : goal.returns-then-own-about-ne0
returns-then-own-about-ne0 c = fresh_some _ _ _ c.if-own-about-ne0.true

pub returns-else-own-about-ne0 : goal.returns-else-own-about-ne0
returns-else-own-about-ne0 c = simp (c.if-own-about-ne0.false) (fresh_none _ _ _ c.if-own-about-ne0.false)
