-- `join::run` meets its contract. What is read of a file are its first bytes, and they have the text of the whole file. A failed read writes nothing.
use Rattle.std.proofs.Common.{rules, ◌≡◌, ◌+◌, length}
use Rattle.join.specs.Join.{join_most, join_text}
use Rattle.input.proofs.PartLaws.{none_written}
use Rattle.join.proofs.PartLaws.{run_bytes, run_text, run_part, text_some}
use Rattle.join.proofs.run.Goals as goal

pub returns-clause-bytes : goal.returns-clause-bytes
returns-clause-bytes g c =
    let room : length c.read_full.new.buffer ≡ join_most + 1 = search rules in
    run_bytes _ _ _ room c.in_ok-n.ensures.known c.write_joined.result c.write_joined.ensures.bytes

pub returns-clause-text : goal.returns-clause-text
returns-clause-text g c =
    let room : length c.read_full.new.buffer ≡ join_most + 1 = search rules in
    run_text _ _ _ room c.in_ok-n.ensures.known _ _ c.write_joined.result c.write_joined.ensures.text

pub returns-clause-err : goal.returns-clause-err
returns-clause-err g c =
    let room : length c.read_full.new.buffer ≡ join_most + 1 = search rules in
    run_part _ _ _ room c.in_ok-n.ensures.known c.write_joined.result _ _ c.write_joined.ensures.err

pub returns-in_err-n-clause-err : goal.returns-in_err-n-clause-err
returns-in_err-n-clause-err g c = none_written join_text text_some c.from_residual.result (g.R.Read.remaining c.args.from.now) (g.W.Write.contents c.args.to.now)
