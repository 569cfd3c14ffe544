-- `text::Writer::put_if` meets its contract: nothing is written where the text is not there.
use Rattle.text.proofs.Laws.{if_none}
use Rattle.text.proofs.Writer.put_if.Goals as goal

pub returns-else-there : goal.returns-else-there
returns-else-there c = if_none _ _ _ c.if-there.false
