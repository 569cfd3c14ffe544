-- By the first token of the filler.
use Rattle.std.proofs.Common.{sym, ◌∙◌}
use Rattle.owl_row.proofs.FillerLaws as laws
use Rattle.owl_row.proofs.filler_of.Goals as goal

pub returns-in-None : goal.returns-in-None
returns-in-None c = laws.filler_fresh _ _ _ _ _ c.token_at-role.ensures.1 c.token_at-role.ensures.2 c.in-None.ensures c.fresh_before.ensures

pub returns-in-Some : goal.returns-in-Some
returns-in-Some c = laws.filler_thing _ _ _ _ c.token_at-role.ensures.2 c.in-Some.ensures (sym c.is_thing.ensures ∙ c.if-is_thing.true)

pub returns-in-Some-2 : goal.returns-in-Some-2
returns-in-Some-2 c =
    laws.filler_open _ _ _ _ c.token_at-role.ensures.2 c.in-Some.ensures _ (sym c.is_thing.ensures ∙ c.if-is_thing.false) (sym c.is_open.ensures ∙ c.if-is_open.true) c.class_number.ensures

pub returns-in-Some-3 : goal.returns-in-Some-3
returns-in-Some-3 c =
    laws.filler_constant _ _ _ _ c.token_at-role.ensures.2 c.in-Some.ensures _ (sym c.is_thing.ensures ∙ c.if-is_thing.false) (sym c.is_open.ensures ∙ c.if-is_open.false)
    c.class_number-in-Some-3.ensures
