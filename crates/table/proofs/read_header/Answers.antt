-- `table::read_header` meets its contract: a law for each refusal, in order, and one for the header that is read.
use mathlib.Core.Path.{sym, ◌∙◌}
use Rattle.std.specs.Prelude.{◌≡◌, true}
use Rattle.std.proofs.Common.{rules}
use Rattle.table.specs.Reading.{marked}
use native.Mathlib.Omega.{arith}
use Rattle.table.specs.ReadLaws.{header_short, header_mark, header_version}
use Rattle.table.proofs.Laws.{stops, header_stop, header_cut, header_done}
use Rattle.table.proofs.read_header.Goals as goal

pub returns-then-table-lt-HEADER : goal.returns-then-table-lt-HEADER
returns-then-table-lt-HEADER c = stops (header_short _ _ c.if-table-lt-HEADER.true)

pub returns-then-not-mark : goal.returns-then-not-mark
returns-then-not-mark c = stops (header_mark _ _ (omega arith) (sym c.has_mark-mark.ensures ∙ c.if-not-mark.true))

pub returns-then-not-version : goal.returns-then-not-version
returns-then-not-version c =
    let m : marked c.args.table.now ≡ true = cc in
    stops (header_version _ _ (omega arith) m (sym c.is_version_known-version.ensures ∙ c.if-not-version.true))

pub returns-then-table-end : goal.returns-then-table-end
returns-then-table-end c = header_cut _ _ c.header_of.ensures (omega arith) (sym c.has_mark-mark.ensures ∙ c.if-not-mark.false) (sym c.is_version_known-version.ensures ∙ c.if-not-version.false) _ (sym c.in_ok-end.ensures) c.if-table-end.true

pub returns : goal.returns
returns c = header_done _ _ c.header_of.ensures (omega arith) (sym c.has_mark-mark.ensures ∙ c.if-not-mark.false) (sym c.is_version_known-version.ensures ∙ c.if-not-version.false) _ (sym c.in_ok-end.ensures) (omega arith)

pub returns-in_err-end : goal.returns-in_err-end
returns-in_err-end c = search rules ∙ header_stop _ _ c.header_of.ensures (omega arith) (sym c.has_mark-mark.ensures ∙ c.if-not-mark.false) (sym c.is_version_known-version.ensures ∙ c.if-not-version.false) _ (sym c.in_err-end.ensures)
