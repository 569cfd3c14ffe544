-- By the first bound that is passed.
use Rattle.std.proofs.Common.{refl}
use Rattle.owl_call.proofs.CallLaws as laws
use Rattle.owl_call.proofs.counts.Goals as goal

pub returns-in_err-constants : goal.returns-in_err-constants
returns-in_err-constants c = rw c.from_residual.ensures (laws.over_constants _ c.in_err-constants.ensures)

pub returns-in_err-roles : goal.returns-in_err-roles
returns-in_err-roles c = rw c.from_residual-in_err-roles.ensures (laws.over_roles _ c.in_err-roles.ensures)

pub returns-in_err-opens : goal.returns-in_err-opens
returns-in_err-opens c = rw c.from_residual-in_err-opens.ensures (laws.over_opens _ c.in_err-opens.ensures)

pub returns-in_err-fresh : goal.returns-in_err-fresh
returns-in_err-fresh c = rw c.from_residual-in_err-fresh.ensures (laws.over_fresh _ _ _ c.in_ok-opens.ensures.0 c.fresh.ensures c.in_err-fresh.ensures)

pub returns-in_err-rows : goal.returns-in_err-rows
returns-in_err-rows c = rw c.from_residual-in_err-rows.ensures (laws.over_rows _ _ _ _ c.in_ok-constants.ensures.0 c.rows.ensures c.min.ensures c.in_err-rows.ensures)

pub returns : goal.returns
returns c =
    laws.counted_make _ _ _ _ _ c.in_ok-constants.ensures c.in_ok-roles.ensures c.in_ok-opens.ensures c.fresh.ensures c.in_ok-fresh.ensures _ c.rows.ensures c.min.ensures c.in_ok-rows.ensures refl
