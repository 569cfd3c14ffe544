-- `table::Body::read_body` meets its contract: a law for a refused role row, row, line, bytes after the last line, and nothing after it.
use Rattle.std.proofs.Common.{◌≡◌, sym, ◌∙◌, arith, rules, Ok}
use Rattle.bounds.specs.Bounds.{bounds}
use Rattle.table.specs.Reading.{read_role_row, read_role_rows, read_row, read_rows, read_line, read_lines}
use Rattle.table.specs.Step.{step_of}
use Rattle.table.proofs.Laws.{steps_many, body_role_rows, body_rows, body_lines, body_after, body_all}
use Rattle.table.proofs.Body.read_body.Goals as goal
use Rattle.table.proofs.Body.read_body.Goals.{In_ok-first, In_ok-next, In_ok-end}

-- the role rows, the rows and the lines were read
past_role_rows : (c : In_ok-first) → step_of (read_role_rows c.args.self.now.table.now c.args.self.now.header c.from.result c.header_end.result) ≡ Ok c.in_ok-first.first
past_role_rows c = sym (c.in_ok-first.ensures (λ at. step_of (read_role_row c.args.self.now.table.now c.args.self.now.header at)) (λ at r post. search rules) ∙ steps_many _ _ _)

past_rows : (c : In_ok-next) → step_of (read_rows c.args.self.now.table.now c.args.self.now.header c.from-2.result c.in_ok-first.first) ≡ Ok c.in_ok-next.next
past_rows c = sym (c.in_ok-next.ensures (λ at. step_of (read_row c.args.self.now.table.now c.args.self.now.header at)) (λ at r post. search rules) ∙ steps_many _ _ _)

past_lines : (c : In_ok-end) → step_of (read_lines bounds c.args.self.now.table.now c.args.self.now.header c.from-3.result c.in_ok-next.next) ≡ Ok c.in_ok-end.end
past_lines c = sym (c.in_ok-end.ensures (λ at. step_of (read_line bounds c.args.self.now.table.now c.args.self.now.header at)) (λ at r post. search rules) ∙ steps_many _ _ _)

pub returns-in_err-first : goal.returns-in_err-first
returns-in_err-first c =
    search rules ∙ body_role_rows _ _ _ c.from.ensures _ c.header_end.ensures _
    (sym (c.in_err-first.ensures (λ at. step_of (read_role_row c.args.self.now.table.now c.args.self.now.header at)) (λ at r post. search rules) ∙ steps_many _ _ _))

pub returns-in_err-next : goal.returns-in_err-next
returns-in_err-next c =
    search rules ∙ body_rows _ _ _ c.from.ensures _ c.header_end.ensures _ (past_role_rows (goal.at.returns-in_err-next c).In_ok-first) _ c.from-2.ensures _
    (sym (c.in_err-next.ensures (λ at. step_of (read_row c.args.self.now.table.now c.args.self.now.header at)) (λ at r post. search rules) ∙ steps_many _ _ _))

pub returns-in_err-end : goal.returns-in_err-end
returns-in_err-end c =
    search rules ∙ body_lines _ _ _ c.from.ensures _ c.header_end.ensures _ (past_role_rows (goal.at.returns-in_err-end c).In_ok-first) _ c.from-2.ensures _ (past_rows (goal.at.returns-in_err-end c).In_ok-next) _ c.from-3.ensures _
    (sym (c.in_err-end.ensures (λ at. step_of (read_line bounds c.args.self.now.table.now c.args.self.now.header at)) (λ at r post. search rules) ∙ steps_many _ _ _))

pub returns-then-end-self : goal.returns-then-end-self
returns-then-end-self c =
    body_after _ _ _ c.from.ensures _ c.header_end.ensures _ (past_role_rows (goal.at.returns-then-end-self c).In_ok-first) _ c.from-2.ensures _ (past_rows (goal.at.returns-then-end-self c).In_ok-next) _ c.from-3.ensures _ (past_lines (goal.at.returns-then-end-self c).In_ok-end) (omega arith)

pub returns : goal.returns
returns c =
    body_all _ _ _ c.from.ensures _ c.header_end.ensures _ (past_role_rows (goal.at.returns c).In_ok-first) _ c.from-2.ensures _ (past_rows (goal.at.returns c).In_ok-next) _ c.from-3.ensures _ (past_lines (goal.at.returns c).In_ok-end) (omega arith)
