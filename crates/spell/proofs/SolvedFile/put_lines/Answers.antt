-- `spell::SolvedFile::put_lines` meets its contract: no line is written at first, and each turn writes one more.
use Rattle.spell.proofs.SpellLaws.{lines_none, lines_turn}
use Rattle.spell.proofs.SolvedFile.put_lines.Goals as goal

pub loop-x-init : goal.loop-x-init
loop-x-init c = lines_none _ _ _ _

pub loop-x-preserved : goal.loop-x-preserved
loop-x-preserved c = lines_turn _ _ _ _ c.loop-x.invariant c.put_line.ensures
