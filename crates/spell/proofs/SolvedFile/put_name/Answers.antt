-- `spell::SolvedFile::put_name` meets its contract. The bytes between its two places, or nothing where there is no such name.
use Rattle.spell.proofs.PutLaws.{name_none, name_there}
use Rattle.spell.proofs.SolvedFile.put_name.Goals as goal

pub returns-in-Some : goal.returns-in-Some
returns-in-Some c = (let found = c.in-Some.ensures.lookup in name_there _ _ found.3.0 (found.3.1 _) c.put.ensures)

pub returns-in_default : goal.returns-in_default
returns-in_default c = name_none _ _ _ _ c.in_default.ensures.lookup.3
