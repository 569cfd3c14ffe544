-- `table::role_count` meets its contract: by the length and the version.
use Rattle.std.proofs.Common.{true, false, sym, ◌∙◌, arith}
use Rattle.table.proofs.Laws.{role_count_short, role_count_by}
use Rattle.table.proofs.role_count.Goals as goal
use Rattle.table.proofs.role_count.Goals.{else-table-gt-ROLE_ROWS-via-then-table-gt-ROLE_ROWS+else-has_role_rows, else-table-gt-ROLE_ROWS-via-else-table-gt-ROLE_ROWS}

pub returns-then-has_role_rows : goal.returns-then-has_role_rows
returns-then-has_role_rows c = role_count_by _ true (sym c.if-has_role_rows.true ∙ c.has_role_rows.ensures)

pub returns-else-table-gt-ROLE_ROWS : goal.returns-else-table-gt-ROLE_ROWS
returns-else-table-gt-ROLE_ROWS c =
    elim c.else-table-gt-ROLE_ROWS.branch [
      | else-table-gt-ROLE_ROWS-via-then-table-gt-ROLE_ROWS+else-has_role_rows w ↦ role_count_by _ false (sym w.if-has_role_rows.false ∙ w.has_role_rows.ensures)
      | else-table-gt-ROLE_ROWS-via-else-table-gt-ROLE_ROWS w ↦ role_count_short _ (omega arith)
    ]
