-- `text::Writer::put_set` meets its contract. The invariant: the atoms with a number below i are written, and `later` says whether there were any.
use Rattle.std.proofs.Common.{◌≡◌}
use Rattle.table.specs.Reading.{table_of}
use Rattle.text.specs.Text.{joined, any}
use Rattle.text.specs.Listing.{atom_texts, ampersand}
use Rattle.text.specs.Wrote.{Wrote}
use Rattle.text.proofs.Writer.put_set.Given as goal

abbrev pub invariant-loop-i : goal.invariant-loop-i
invariant-loop-i l = (l.later ≡ any (atom_texts (table_of l.table.bytes.now) l.set l.i)) × Wrote l.fn.self (joined ampersand (atom_texts (table_of l.table.bytes.now) l.set l.i)) l.self
