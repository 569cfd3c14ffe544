-- `spell::SolvedFile::put_line` meets its contract. Four texts one after the other.
use Rattle.spell.proofs.SpellLaws.{variable_line_lem}
use Rattle.spell.proofs.SolvedFile.put_line.Goals as goal

pub returns : goal.returns
returns c =
    variable_line_lem _ _ c.args.self.now.table.reads _ c.args.self.now.given.opens_at _ _ _ _ c.set_in.ensures c.header.ensures c.from-depth.ensures c.put_name.ensures c.put.ensures c.put_set.ensures c.put-2.ensures
