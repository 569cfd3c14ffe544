-- `batch::read_reply` meets its contract. The text of the reader's answer fits.
use Rattle.std.proofs.Common.{arith}
use Rattle.batch.proofs.Laws.{read_is}
use Rattle.batch.proofs.read_reply.Goals as goal

pub returns : goal.returns
returns c =
    read_is (omega arith) _ c.read-a.result c.read-a.ensures (grind arith) c.read_line-end.ensures
