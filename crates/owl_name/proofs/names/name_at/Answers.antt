-- The next token and its name.
use Rattle.owl_name.proofs.RestLaws as laws
use Rattle.owl_name.proofs.names.name_at.Goals as goal

pub slice_bounds-of-count : goal.slice_bounds-of-count
slice_bounds-of-count c = laws.token_order _ _ _ _ _ (c.token_at-token.ensures.0, c.token_at-token.ensures.1, c.token_at-token.ensures.2)

pub slice_bounds-of-start : goal.slice_bounds-of-start
slice_bounds-of-start c = laws.token_order _ _ _ _ _ (c.token_at-token.ensures.0, c.token_at-token.ensures.1, c.token_at-token.ensures.2)

pub returns : goal.returns
returns c = laws.named_at _ _ _ _ _ _ (c.token_at-token.ensures.0, c.token_at-token.ensures.1, c.token_at-token.ensures.2) c.of.ensures
