-- `table::Body::read_line` meets its contract: a law for each refusal, in order, and one for the right entry after the left ones.
use Rattle.std.proofs.Common.{◌≡◌, sym, ◌∙◌, arith, rules}
use Rattle.std.proofs.lemmas.Grind.{common_steps}
use Rattle.table.specs.Reading.{byte_at, read_entry}
use Rattle.table.specs.Step.{step_of}
use Rattle.table.specs.ReadLaws.{line_short, line_over}
use Rattle.table.proofs.Laws.{stops, steps_many, line_right_is, line_stop}
use Rattle.table.proofs.Body.read_line.Goals as goal

pub returns-in_default : goal.returns-in_default
returns-in_default c = stops (line_short _ _ _ _ (grind (arith, common_steps)))

pub returns-then-over : goal.returns-then-over
returns-then-over c =
    let here : byte_at c.args.self.now.table.now c.args.at ≡ c.in-Some.field-0.now = grind (arith, common_steps) in
    stops (line_over _ _ _ _ (grind (arith, common_steps)) (omega arith))

pub returns-in_err-next : goal.returns-in_err-next
returns-in_err-next c =
    let here : byte_at c.args.self.now.table.now c.args.at ≡ c.in-Some.field-0.now = grind (arith, common_steps) in
    search rules ∙ line_stop _ _ _ c.from-p.result (c.from-p.ensures ∙ sym here) (grind (arith, common_steps)) (omega arith) _
    (sym (c.in_err-next.ensures (λ at. step_of (read_entry c.args.self.now.table.now c.args.self.now.header at)) (λ at r post. search rules) ∙ steps_many _ _ _))

pub returns : goal.returns
returns c =
    let here : byte_at c.args.self.now.table.now c.args.at ≡ c.in-Some.field-0.now = grind (arith, common_steps) in
    c.read_entry.ensures ∙ line_right_is _ _ _ c.from-p.result (c.from-p.ensures ∙ sym here) (grind (arith, common_steps)) (omega arith) _
    (sym (c.in_ok-next.ensures (λ at. step_of (read_entry c.args.self.now.table.now c.args.self.now.header at)) (λ at r post. search rules) ∙ steps_many _ _ _))
