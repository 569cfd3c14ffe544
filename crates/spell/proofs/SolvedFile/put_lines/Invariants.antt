-- `spell::SolvedFile::put_lines` meets its contract. The invariant: the lines of the first x variables are written.
use Rattle.table.specs.Reading.{table_of}
use Rattle.output.specs.Written.{set_in}
use Rattle.owl.specs.Mention.{names_in}
use Rattle.spell.specs.Penned.{Penned}
use Rattle.spell.specs.Spelling.{variable_lines}
use Rattle.spell.proofs.SolvedFile.put_lines.Given as goal

abbrev pub invariant-loop-x : goal.invariant-loop-x
invariant-loop-x l = Penned l.fn.sheet (variable_lines (names_in l.self.text.now) (table_of l.self.table.bytes.now) (set_in l.self.output.now) l.x) l.sheet
