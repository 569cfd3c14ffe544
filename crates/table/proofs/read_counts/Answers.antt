-- `table::read_counts` meets its contract: a law for counts over their bounds, by the first of them, and one for counts within.
use native.Mathlib.Omega.{arith}
use mathlib.Core.Path.{sym, ap, ◌∙◌}
use Rattle.std.specs.Prelude.{◌≡◌, ℕ, Result}
use Rattle.std.proofs.Common.{rules, Ok, Err}
use Rattle.bounds.specs.Bounds.{bounds}
use Rattle.answer.specs.declared.Answer.{Answer}
use Rattle.answer.specs.declared.Answer.TheVariants.{OverBound}
use Rattle.table.specs.declared.Header.{Header}
use Rattle.table.specs.Reading.{read_counts}
use Rattle.table.specs.Refusal.{Over, over_constants, over_roles, over_variables, over_restrictions, over_atoms, over_lines, over_role_rows}
use Rattle.table.specs.RefusalLaws.{counts_over}
use Rattle.table.specs.ReadLaws.{counts_within}
use Rattle.table.specs.Step.{step_of}
use Rattle.table.proofs.Laws.{stops}
use Rattle.table.proofs.read_counts.Goals as goal

over : {h : Header} {at : ℕ} {why : Answer} → why ≡ OverBound at → Over h at → ◌≡◌ {A = Result ℕ Answer} (Err why) (step_of (read_counts bounds h))
over e o = ap Err e ∙ stops (counts_over _ o)

pub returns-in_err-within : goal.returns-in_err-within
returns-in_err-within c =
    let o = c.in_err-within.ensures.err in
    search rules ∙ over o.1 (over_constants (omega arith))

pub returns-in_err-within-2 : goal.returns-in_err-within-2
returns-in_err-within-2 c =
    let a = c.in_ok-within.ensures.ok in
    let o = c.in_err-within-2.ensures.err in
    search rules ∙ over o.1 (over_roles (omega arith) (omega arith))

pub returns-in_err-within-3 : goal.returns-in_err-within-3
returns-in_err-within-3 c =
    let a = c.in_ok-within.ensures.ok in
    let b = c.in_ok-within-2.ensures.ok in
    let o = c.in_err-within-3.ensures.err in
    search rules ∙ over o.1 (over_variables (omega arith) (omega arith) (omega arith))

pub returns-in_err-within-4 : goal.returns-in_err-within-4
returns-in_err-within-4 c =
    let a = c.in_ok-within.ensures.ok in
    let b = c.in_ok-within-2.ensures.ok in
    let d = c.in_ok-within-3.ensures.ok in
    let o = c.in_err-within-4.ensures.err in
    search rules ∙ over o.1 (over_restrictions (omega arith) (omega arith) (omega arith) (omega arith))

pub returns-in_err-within-5 : goal.returns-in_err-within-5
returns-in_err-within-5 c =
    let a = c.in_ok-within.ensures.ok in
    let b = c.in_ok-within-2.ensures.ok in
    let d = c.in_ok-within-3.ensures.ok in
    let e = c.in_ok-within-4.ensures.ok in
    let o = c.in_err-within-5.ensures.err in
    search rules ∙ over o.1 (over_atoms (omega arith) (omega arith) (omega arith) (omega arith) (omega arith))

pub returns-in_err-within-6 : goal.returns-in_err-within-6
returns-in_err-within-6 c =
    let a = c.in_ok-within.ensures.ok in
    let b = c.in_ok-within-2.ensures.ok in
    let d = c.in_ok-within-3.ensures.ok in
    let e = c.in_ok-within-4.ensures.ok in
    let f = c.in_ok-within-5.ensures.ok in
    let o = c.in_err-within-6.ensures.err in
    search rules ∙ over o.1 (over_lines (omega arith) (omega arith) (omega arith) (omega arith) (omega arith) (omega arith))

pub returns-in_err-within-7 : goal.returns-in_err-within-7
returns-in_err-within-7 c =
    let a = c.in_ok-within.ensures.ok in
    let b = c.in_ok-within-2.ensures.ok in
    let d = c.in_ok-within-3.ensures.ok in
    let e = c.in_ok-within-4.ensures.ok in
    let f = c.in_ok-within-5.ensures.ok in
    let g = c.in_ok-within-6.ensures.ok in
    let o = c.in_err-within-7.ensures.err in
    search rules ∙ over o.1 (over_role_rows (omega arith) (omega arith) (omega arith) (omega arith) (omega arith) (omega arith) (omega arith))

pub returns : goal.returns
unfolding step_of
returns c =
    let a = c.in_ok-within.ensures.ok in
    let b = c.in_ok-within-2.ensures.ok in
    let d = c.in_ok-within-3.ensures.ok in
    let e = c.in_ok-within-4.ensures.ok in
    let f = c.in_ok-within-5.ensures.ok in
    let g = c.in_ok-within-6.ensures.ok in
    let h = c.in_ok-within-7.ensures.ok in
    ap Ok c.header_end.ensures
    ∙ ap step_of (sym (counts_within bounds _ (record { few_constants = omega arith; few_roles = omega arith; few_variables = omega arith; few_restrictions = omega arith; few_atoms = omega arith; few_lines = omega arith; few_role_rows = omega arith })))
