-- The five writers that call each other meet their contracts. The measure is five times the depth that is left, with one to four more on the way from a
-- variable to its set. The loop goes over the atoms of a set: those with a number below i are written, and `later` says whether there were any.
use Rattle.std.proofs.Common.{◌≡◌, ◌+◌, ◌*◌}
use Rattle.text.specs.Text.{joined, any}
use Rattle.text.specs.Listing.{ampersand}
use Rattle.spell.specs.Spelling.{atom_texts}
use Rattle.spell.specs.Step.{file_names, file_table, spelt_out}
use Rattle.spell.specs.Penned.{Penned}
use Rattle.spell.proofs.SolvedFile.+put_set.Given as goal

abbrev pub decreases-put_set : goal.decreases-put_set
decreases-put_set l = 5 * l.depth + 4

abbrev pub decreases-put_atom : goal.decreases-put_atom
decreases-put_atom l = 5 * l.depth + 3

abbrev pub decreases-put_row : goal.decreases-put_row
decreases-put_row l = 5 * l.depth + 2

abbrev pub decreases-put_filler : goal.decreases-put_filler
decreases-put_filler l = 5 * l.depth + 1

abbrev pub decreases-put_variable : goal.decreases-put_variable
decreases-put_variable l = 5 * l.depth

abbrev pub invariant-put_set-loop-i : goal.invariant-put_set-loop-i
invariant-put_set-loop-i l =
    (l.later ≡ any (atom_texts (file_names l.self) (file_table l.self) (spelt_out l.self l.depth) l.set l.i))
    × Penned l.fn.sheet (joined ampersand (atom_texts (file_names l.self) (file_table l.self) (spelt_out l.self l.depth) l.set l.i)) l.sheet
