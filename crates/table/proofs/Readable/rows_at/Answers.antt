-- `table::Readable::rows_at` meets its contract: the rows stand behind the header and the role rows.
use Rattle.std.proofs.Common.{ℕ, ◌+◌, ◌*◌, ap, ap₂, ◌∙◌, arith}
use Rattle.table.specs.declared.Header.{Header}
use Rattle.table.specs.Reading.{header_end}
use Rattle.table.specs.ReadLaws.{header_long}
use Rattle.table.proofs.Readable.rows_at.Goals as goal

pub overflow_add-result : goal.overflow_add-result
overflow_add-result c = omega (arith, c.header_end.ensures, header_long c.header-header.result)

pub returns : goal.returns
returns c = ap₂ (λ (a b : ℕ). a + 2 * b) c.header_end.ensures c.from.ensures
    ∙ ap (λ (h : Header). header_end h + 2 * h.q) c.header-header.ensures
