-- A name, and the same.
use Rattle.std.specs.Prelude.{Some}
use Rattle.std.proofs.Common.{sym, ap, ◌∙◌}
use Rattle.owl.specs.Naming.{same_name}
use Rattle.owl_name.specs.Walk.{written, named_and}
use Rattle.owl_name.proofs.NameLaws.{found_is}
use Rattle.owl_row.proofs.is.Goals as goal

pub returns-in-Some : goal.returns-in-Some
returns-in-Some c = c.eq.ensures ∙ found_is (Some c.in-Some.found) c.args.name.now ∙ ap (named_and (same_name (written c.args.name.now))) (sym c.in-Some.is)
