-- `spell::SolvedFile::atoms` meets its contract. The two counts of the header.
use Rattle.spell.proofs.SpellLaws.{atoms_are}
use Rattle.spell.proofs.SolvedFile.atoms.Goals as goal

pub returns : goal.returns
returns c = atoms_are _ c.args.self.now.table.reads _ _ _ c.header-header.ensures c.from.ensures c.from-2.ensures
