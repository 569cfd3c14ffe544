-- The text is spoiled; a name is not declared; or there is a table.
use Rattle.std.proofs.lemmas.Result.{err_from_is_err_and}
use Rattle.owl_call.proofs.CallLaws as laws
use Rattle.owl_call.proofs.read.Goals as goal

pub returns-in_err-check : goal.returns-in_err-check
returns-in_err-check c = let p = err_from_is_err_and c.from_residual.result c.from_residual.ensures.1 in rw (p.1, p.2) (laws.call_spoiled _ _ _ c.in_err-check.ensures)

pub returns-then-first-text : goal.returns-then-first-text
returns-then-first-text c = laws.call_unknown _ _ _ c.in_ok-check.ensures c.first_undeclared-first.ensures c.if-first-text.true

pub returns : goal.returns
returns c = laws.call_said _ _ _ _ _ c.in_ok-check.ensures c.first_undeclared-first.ensures c.if-first-text.false c.made.ensures
