-- A count passes its bound; the lines pass theirs; or the table is put into the buffer.
use Rattle.std.proofs.Common.{refl, ap, ◌∙◌, Err}
use Rattle.std.proofs.lemmas.Result.{err_from_is_err_and}
use Rattle.owl_call.proofs.CallLaws as laws
use Rattle.owl_call.proofs.made.Goals as goal

pub returns-in_err-t : goal.returns-in_err-t
returns-in_err-t c =
    let p = err_from_is_err_and c.from_residual.result c.from_residual.ensures.1 in
    laws.counts_err _ _ _ _ _ _ c.ok_or.ensures.value c.in_err-t.was (p.1 ∙ ap Err p.2) c.counts.ensures

pub returns-in_err-passed : goal.returns-in_err-passed
returns-in_err-passed c =
    let p = err_from_is_err_and c.from_residual-in_err-passed.result c.from_residual-in_err-passed.ensures.1 in
    laws.lines_err _ _ _ _ _ _ _ _ c.ok_or-2.ensures.value c.in_err-passed.was (p.1 ∙ ap Err p.2) c.lines.ensures.lines

pub finish-requires-clause-lines : goal.finish-requires-clause-lines
finish-requires-clause-lines c = laws.lines_in_lem _ _ _ _ _ _ c.ok_or-2.ensures.value c.in_ok-passed.was refl c.lines.ensures.room c.lines.ensures.lines
