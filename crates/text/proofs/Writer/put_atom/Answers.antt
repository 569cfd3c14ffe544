-- `text::Writer::put_atom` meets its contract. A constant by its number, a restriction by its row.
use Rattle.text.proofs.WroteLaws.{wrote_as}
use Rattle.text.proofs.ListingLaws.{atom_constant, atom_row_lem}
use Rattle.text.proofs.Writer.put_atom.Goals as goal

pub returns-then-i-constants : goal.returns-then-i-constants
returns-then-i-constants c = wrote_as c.put_named.ensures (atom_constant _ c.args.table.reads _ _ _ c.header.ensures c.from-constants.ensures c.if-i-constants.true)

pub returns-else-i-constants : goal.returns-else-i-constants
returns-else-i-constants c = wrote_as c.put_row.ensures (atom_row_lem _ c.args.table.reads _ _ _ c.header.ensures c.from-constants.ensures c.if-i-constants.false)
