-- `table::check` meets its contract: a law for a refused header, a refused body, and a table that is read.
use Rattle.std.proofs.Common.{◌≡◌, Err, IfErr, sym, ap, subst, ◌∙◌, rules}
use Rattle.table.specs.Reading.{reading, refusal}
use Rattle.table.specs.Step.{verdict_in}
use Rattle.table.proofs.Laws.{header_in, refused_said, check_header, check_body, check_said, check_all}
use Rattle.table.proofs.check.Goals as goal

pub header_of-requires : goal.header_of-requires
header_of-requires c = header_in _ _ (sym c.in_ok-read_header.ensures)

pub returns-in_err-read_header-clause-err : goal.returns-in_err-read_header-clause-err
returns-in_err-read_header-clause-err c =
    let is : c.from_residual.result ≡ Err c.in_err-read_header.field-0.0 = search rules in
    subst (λ r. IfErr r (λ why. reading c.args.table.now ≡ refusal why)) (sym is) (check_header _ _ (sym c.in_err-read_header.ensures))

pub returns-in_err-read_header-clause-verdict : goal.returns-in_err-read_header-clause-verdict
returns-in_err-read_header-clause-verdict c =
    let is : c.from_residual.result ≡ Err c.in_err-read_header.field-0.0 = search rules in
    ap verdict_in is ∙ refused_said _ _ (check_header _ _ (sym c.in_err-read_header.ensures))

pub returns-in_err-read_body-clause-err : goal.returns-in_err-read_body-clause-err
returns-in_err-read_body-clause-err c =
    let is : c.from_residual-in_err-read_body.result ≡ Err c.in_err-read_body.field-0.0 = search rules in
    subst (λ r. IfErr r (λ why. reading c.args.table.now ≡ refusal why)) (sym is)
    (check_body _ _ (sym c.in_ok-read_header.ensures) _ c.header_of.ensures _ (sym c.in_err-read_body.ensures))

pub returns-in_err-read_body-clause-verdict : goal.returns-in_err-read_body-clause-verdict
returns-in_err-read_body-clause-verdict c =
    let is : c.from_residual-in_err-read_body.result ≡ Err c.in_err-read_body.field-0.0 = search rules in
    ap verdict_in is ∙ refused_said _ _ (check_body _ _ (sym c.in_ok-read_header.ensures) _ c.header_of.ensures _ (sym c.in_err-read_body.ensures))

pub returns-clause-verdict : goal.returns-clause-verdict
returns-clause-verdict c = sym (check_said _ _ (sym c.in_ok-read_header.ensures) _ c.header_of.ensures _ (sym c.in_ok-read_body.ensures))

pub invariant_of-result : goal.invariant_of-result
invariant_of-result c = record { reads = check_all _ _ (sym c.in_ok-read_header.ensures) _ c.header_of.ensures _ (sym c.in_ok-read_body.ensures) }
