-- What the parts of the writers write, and what they are told.
--
--   file_names f, file_table f == the names of the text of the solved file f, and its table
--   spelt_out f n        == its variables spelt out n deep
--   code_text .. kind    == a filler by the kind of its code; nothing for a code that is no filler
--   kind_fits v kind     == a variable by its code is one of v
--   FillerFits table b   == so it is by the code b
use Rattle.std.specs.Prelude.{List, [], ℕ, ◌<◌}
use Rattle.el.specs.Table.{Table}
use Rattle.table.specs.declared.Kind.{Kind}
use Rattle.table.specs.declared.Kind.TheVariants.{Top, Constant, Restriction, Variable, Other}
use Rattle.table.specs.Code.{kind_of}
use Rattle.table.specs.Reading.{table_of, header_of}
use Rattle.output.specs.Written.{set_in}
use Rattle.owl.specs.Naming.{Names, thing_bytes}
use Rattle.owl.specs.Mention.{names_in}
use Rattle.spell.specs.declared.SolvedFile.{SolvedFile}
use Rattle.spell.specs.Spelling.{name_of, variable_text, spelt_to}

abbrev pub file_names : SolvedFile → Names
file_names f = names_in f.text.now

abbrev pub file_table : SolvedFile → Table
file_table f = table_of f.table.bytes.now

abbrev pub spelt_out : SolvedFile → ℕ → ℕ → List ℕ
spelt_out f n = spelt_to (file_names f) (file_table f) (set_in f.output.now) n

unfoldable pub code_text : Names → Table → (ℕ → List ℕ) → Kind → List ℕ
code_text d t spelt Top = thing_bytes
code_text d t spelt (Constant k) = name_of d.constants k
code_text d t spelt (Restriction k) = []
code_text d t spelt (Variable x) = variable_text d t spelt x
code_text d t spelt Other = []

abbrev pub kind_fits : ℕ → Kind → Type 0
kind_fits v Top = Unit {0}
kind_fits v (Constant k) = Unit {0}
kind_fits v (Restriction k) = Unit {0}
kind_fits v (Variable x) = x < v
kind_fits v Other = Unit {0}

unfoldable pub FillerFits : List ℕ → ℕ → Type 0
FillerFits table b = kind_fits (header_of table).v (kind_of b)
