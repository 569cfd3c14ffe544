-- A filler that is no name: its own row. Else the first restriction that is the same. The role of a restriction is a name.
use Rattle.std.specs.Prelude.{Some, None}
use Rattle.std.proofs.Common.{ap, ◌∙◌}
use Rattle.owl_name.proofs.RestLaws as rests
use Rattle.owl_row.specs.Rows.{different_rows}
use Rattle.owl_row.proofs.CountLaws as laws
use Rattle.owl_row.proofs.row_number.Goals as goal
use Rattle.owl_row.proofs.row_number.Goals.{in-None, in-Some+in-Some-of, in-Some+in-None-of}

pub slice_bounds-of-count : goal.slice_bounds-of-count
slice_bounds-of-count c = rests.token_order _ _ _ _ _ (c.token_at-token.ensures.0, c.token_at-token.ensures.1, c.token_at-token.ensures.2)

pub slice_bounds-of-start : goal.slice_bounds-of-start
slice_bounds-of-start c = rests.token_order _ _ _ _ _ (c.token_at-token.ensures.0, c.token_at-token.ensures.1, c.token_at-token.ensures.2)

pub returns : goal.returns
returns c =
    elim c.match-name_at.branch [
      | in-None w ↦ laws.number_fresh _ _ _ _ _ c.token_at-token.ensures.1 c.token_at-token.ensures.2 w.in-None.ensures (c.different.ensures ∙ ap (different_rows _) w.first-is)
      | in-Some+in-Some-of w ↦
          laws.number_named _ _ _ _ _ _ _ c.token_at-token.ensures.2
          (rests.named_at _ _ _ _ _ (Some w.in-Some-of.role) (c.token_at-token.ensures.0, c.token_at-token.ensures.1, c.token_at-token.ensures.2) w.in-Some-of.ensures).1
          w.in-Some.ensures w.first_row.ensures (c.different.ensures ∙ ap (different_rows _) w.first-is)
      | in-Some+in-None-of w ↦
          laws.number_none _ _ _ (rests.named_at _ _ _ _ _ None (c.token_at-token.ensures.0, c.token_at-token.ensures.1, c.token_at-token.ensures.2) w.in-None-of.ensures)
    ]
