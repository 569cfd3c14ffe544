-- `batch::line_reply` meets its contract. The part's text is the answer, and fits.
use Rattle.std.proofs.Common.{arith}
use Rattle.batch.proofs.Laws.{line_is}
use Rattle.batch.proofs.line_reply.Goals as goal

pub returns : goal.returns
returns c = line_is (omega arith) _ _ _ c.line.ensures.part c.requires c.hex_line-end.ensures
