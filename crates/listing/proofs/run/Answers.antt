-- `listing::run` meets its contract. What is read of an input are its first bytes, and no more is looked at. A failed read writes nothing.
use Rattle.std.proofs.Common.{rules, ◌≡◌, length}
use Rattle.table.specs.Bytes.{enough_length}
use Rattle.input.proofs.PartLaws.{none_written}
use Rattle.listing.specs.Report.{report_text}
use Rattle.listing.proofs.Laws.{run_is, run_part, report_some}
use Rattle.listing.proofs.run.Goals as goal

pub returns-clause-text : goal.returns-clause-text
returns-clause-text g c =
    let room : length c.read_full.new.buffer ≡ enough_length = search rules in
    run_is _ _ _ _ room c.in_ok-n.ensures.known c.report-text.ensures c.write_full.result _ _ c.write_full.ensures.bytes

pub returns-clause-err : goal.returns-clause-err
returns-clause-err g c =
    let room : length c.read_full.new.buffer ≡ enough_length = search rules in
    run_part _ _ _ _ room c.in_ok-n.ensures.known c.report-text.ensures c.write_full.result _ _ c.write_full.ensures.err

pub returns-in_err-n-clause-err : goal.returns-in_err-n-clause-err
returns-in_err-n-clause-err g c = none_written report_text report_some c.from_residual.result (g.R.Read.remaining c.args.input.now) (g.W.Write.contents c.args.output.now)
