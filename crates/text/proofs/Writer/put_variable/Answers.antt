-- `text::Writer::put_variable` meets its contract. Four texts one after the other.
use Rattle.text.proofs.ListingLaws.{variable_line_lem}
use Rattle.text.proofs.Writer.put_variable.Goals as goal

pub returns : goal.returns
returns c = variable_line_lem _ _ _ c.set_in.ensures c.put_named.ensures c.put_text.ensures c.put_set.ensures c.put_byte.ensures
