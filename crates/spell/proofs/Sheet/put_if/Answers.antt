-- `spell::Sheet::put_if` meets its contract: the text, or nothing.
use Rattle.spell.proofs.PutLaws.{if_none}
use Rattle.spell.proofs.Sheet.put_if.Goals as goal

pub returns-else-there : goal.returns-else-there
returns-else-there c = if_none _ _ _ c.if-there.false
