-- A short name with these bytes.
use Rattle.std.specs.Prelude.{eqb}
use Rattle.std.proofs.Common.{sym, ap, ◌∙◌}
use Rattle.std.specs.Cmp.Lexicographic.{pointwise}
use Rattle.owl.specs.Naming.{is_thing, thing_bytes}
use Rattle.owl_name.specs.declared.names.Name.{Name}
use Rattle.owl_name.specs.Walk.{written}
use Rattle.owl_name.proofs.NameLaws as laws
use Rattle.owl_name.proofs.names.Name.is_thing.Goals as goal

pub returns-in-Short : goal.returns-in-Short
unfolding thing_bytes
returns-in-Short c =
    c.eq.ensures ∙ ap (pointwise eqb c.in-Short.bytes.now) c.as_slice.ensures ∙ laws.same_is c.in-Short.bytes.now thing_bytes ∙ sym (ap (λ (n : Name). is_thing (written n)) c.in-Short.is)
