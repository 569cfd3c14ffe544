-- The lines of a text's table: those of its axioms, then those of its fresh variables.
--
--   opens_in s             == how many open names the text s declares
--   statements_in s items  == the axioms of items, numbered by the names of s
--   axiom_lines s f, equation_lines s f == the lines of the axioms of a file f that the text s says, and those of its fresh variables
--   BothDone            == the lines of one side below another, and the reverse, are passed besides (`Done`, owl_line/Sides)
--   AxiomDone           == the lines of one axiom are
--   AxiomsDone, FillersDone, LinesDone == those of all axioms, of all fresh variables, all lines of the table
use Rattle.std.specs.Prelude.{◌≡◌, List, ◌++◌, ℕ, T, length, Option, Some}
use Rattle.el.specs.Table.{Entry, Line}
use Rattle.owl.specs.Tree.{Item, File, axioms_of}
use Rattle.owl.specs.Naming.{all_known}
use Rattle.owl.specs.Written.{Says}
use Rattle.owl.specs.Mention.{names_in}
use Rattle.owl.specs.Flattening.{lines_of, both_ways, Statement, statements_of, lines_in, equations_in, each_of, flat_table}
use Rattle.owl.specs.Restriction.{rows_of_file}
use Rattle.owl_line.specs.declared.parts.Side.{Side}
use Rattle.owl_line.specs.declared.parts.Side.TheVariants.{Class}
use Rattle.owl_line.specs.declared.parts.Passed.{Passed}
use Rattle.owl_line.specs.Sides.{SideHas, Done}

abbrev pub opens_in : List ℕ → ℕ
opens_in s = length (names_in s).opens

abbrev pub statements_in : List ℕ → List Item → List Statement
statements_in s items = statements_of (names_in s) (axioms_of items)

unfoldable pub axiom_lines : List ℕ → File → List Line
axiom_lines s f = each_of (lines_in (rows_of_file f)) (opens_in s) (statements_in s f.items)

unfoldable pub equation_lines : List ℕ → File → List Line
equation_lines s f = each_of (equations_in (rows_of_file f)) (opens_in s) (statements_in s f.items)

unfoldable pub BothDone : List ℕ → ℕ → Side → Side → Passed → List ℕ → Option Passed → List ℕ → Type 0
BothDone s opens left right x a r a' =
    (b : List ℕ) (lines : List Line) (ls rs : List Entry) → SideHas s opens left ls → SideHas s opens right rs → Done b (Some x) a lines →
    Done b r a' (lines ++ both_ways ls rs)

unfoldable pub AxiomDone : List ℕ → ℕ → ℕ → ℕ → ℕ → Passed → List ℕ → Option Passed → List ℕ → Type 0
AxiomDone s opens kind left right x a r a' =
    (b : List ℕ) (lines : List Line) (ls rs : List Entry) → SideHas s opens (Class left) ls → SideHas s opens (Class right) rs → Done b (Some x) a lines →
    (kind ≡ 9 → Done b r a' (lines ++ lines_of ls rs)) × ((kind ≡ 9 → ⊥) → Done b r a' (lines ++ both_ways ls rs))

unfoldable pub AxiomsDone : List ℕ → List ℕ → Option Passed → List ℕ → Type 0
AxiomsDone s b r a = (f : File) → Says s f → T (all_known f) → Done b r a (axiom_lines s f)

unfoldable pub FillersDone : List ℕ → Passed → List ℕ → Option Passed → List ℕ → Type 0
FillersDone s x a r a' = (f : File) → Says s f → T (all_known f) → (b : List ℕ) (lines : List Line) → Done b (Some x) a lines → Done b r a' (lines ++ equation_lines s f)

unfoldable pub LinesDone : List ℕ → List ℕ → Option Passed → List ℕ → Type 0
LinesDone s b r a = (f : File) → Says s f → T (all_known f) → Done b r a (flat_table f).lines
