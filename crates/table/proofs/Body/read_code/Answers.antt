-- `table::Body::read_code` meets its contract: a byte that is not there, one that the test refuses, and one that it allows.
use Rattle.std.proofs.Common.{◌≡◌, sym, ap, ◌∙◌, arith}
use Rattle.std.proofs.lemmas.Grind.{common_steps}
use Rattle.table.specs.Reading.{byte_at}
use Rattle.table.proofs.Laws.{code_short, code_stop, code_next}
use Rattle.table.proofs.Body.read_code.Goals as goal

pub returns-in_default : goal.returns-in_default
returns-in_default g c allows says = code_short _ _ _ (grind (arith, common_steps))

pub returns-then-not-is_allowed : goal.returns-then-not-is_allowed
returns-then-not-is_allowed g c allows says =
    let here : byte_at c.args.self.now.table.now c.args.at ≡ c.in-Some.field-0.now = grind (arith, common_steps) in
    code_stop _ _ _ (grind (arith, common_steps)) (ap allows here ∙ sym (says _ _ c.if-not-is_allowed.ensures))

pub returns : goal.returns
returns g c allows says =
    let here : byte_at c.args.self.now.table.now c.args.at ≡ c.in-Some.field-0.now = grind (arith, common_steps) in
    code_next _ _ _ (grind (arith, common_steps)) (ap allows here ∙ sym (says _ _ c.if-not-is_allowed.ensures))
