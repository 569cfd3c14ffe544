-- `text::Writer::put_row` meets its contract. A letter with the role, a dot and the filler, one after the other.
use Rattle.text.proofs.WroteLaws.{wrote_then, wrote_as}
use Rattle.text.proofs.ListingLaws.{row_text_lem}
use Rattle.text.proofs.Writer.put_row.Goals as goal

pub returns : goal.returns
returns c =
    wrote_as (wrote_then c.put_named.ensures (wrote_then c.put_byte.ensures c.put_filler.ensures))
    (row_text_lem _ c.args.table.reads _ _ _ _ c.from-role.ensures c.role_of.ensures c.filler_of.ensures)
