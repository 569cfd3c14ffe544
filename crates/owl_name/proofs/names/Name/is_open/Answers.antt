-- A short name that begins with these bytes.
use Rattle.std.proofs.Common.{sym, ap, ◌∙◌}
use Rattle.owl.specs.Naming.{is_open, open_bytes}
use Rattle.owl_name.specs.declared.names.Name.{Name}
use Rattle.owl_name.specs.Walk.{written}
use Rattle.owl_name.proofs.NameLaws as laws
use Rattle.owl_name.proofs.names.Name.is_open.Goals as goal

pub returns-in-Short : goal.returns-in-Short
unfolding open_bytes
returns-in-Short c = c.starts_with.ensures.value ∙ laws.begins_is open_bytes c.in-Short.bytes.now ∙ sym (ap (λ (n : Name). is_open (written n)) c.in-Short.is)
