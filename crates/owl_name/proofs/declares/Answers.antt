-- A name that does this, and is the same.
use Rattle.std.proofs.Common.{sym, ◌∙◌}
use Rattle.owl_name.proofs.NameLaws as laws
use Rattle.owl_name.proofs.declares.Goals as goal

pub returns-then-eq : goal.returns-then-eq
returns-then-eq c = c.eq-then-eq.ensures ∙ laws.declares_at c.args.stop.now c.args.sort c.in-Some.found c.args.name _ c.in-Some.is (sym c.eq.ensures ∙ c.if-eq.true)

pub returns-else-eq : goal.returns-else-eq
returns-else-eq c = c.if-eq.false ∙ laws.declares_at c.args.stop.now c.args.sort c.in-Some.found c.args.name _ c.in-Some.is (sym c.eq.ensures ∙ c.if-eq.false)
