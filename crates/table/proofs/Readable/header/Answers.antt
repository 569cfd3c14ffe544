-- `table::Readable::header` meets its contract: a readable table has a header.
use Rattle.table.specs.LayoutLaws.{layout}
use Rattle.table.proofs.Readable.header.Goals as goal

pub header_of-requires : goal.header_of-requires
header_of-requires c = (layout _ c.args.self.now.reads).header_in
