-- `owl_span::store` meets its contract: past the end nothing is stored.
use Rattle.std.proofs.Common.{sym}
use Rattle.std.proofs.lemmas.List.{set_past}
use Rattle.owl_span.proofs.store.Goals as goal

pub returns-else-k-out : goal.returns-else-k-out
returns-else-k-out c = sym (set_past c.args.out.now c.args.k c.args.span c.if-k-out.false)
