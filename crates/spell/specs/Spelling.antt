-- What is written of a solved file: a line for each named variable, with the file's own names.
--
--   name_text n           == the bytes of the name n, as written
--   name_of l k           == those of name k of l; none where there is none
--   opening, closing     == `(` and `)`
--   some_text role filler == a restriction, from the texts of its role and its filler
--   joined_text ts        == the texts of atoms joined by ` & `, or `owl:Thing` for none
--   enclosed ts          == the same, in parentheses where there are several
--
-- The names d of a file, its table t, and the set number of each variable are given:
--
--   variable_text spelt x == variable x as a filler, where `spelt` gives the texts of fresh variables
--   filler_text spelt f   == a filler
--   row_text, atom_text    == a restriction row; atom i
--   atom_texts spelt s n  == the texts of the atoms of the set s with a number below n, in rising number
--   spelt_to n x          == variable x spelt out by its own atoms, and the fresh variables in these, n deep
--   set_text n s          == the set s, its fresh variables spelt out n deep
--   variable_line x       == the line of variable x
--   variable_lines n      == the lines of variables 0 to n - 1
--   named_lines           == THE LINES of the named variables
use Rattle.std.specs.Prelude.{true, false, List, [], ◌∷◌, ◌++◌, map, ℕ, zero, suc, ◌-◌, ltb, length}
use Rattle.el.specs.Table.{Filler, top_f, constant_f, variable_f, Row, Table, row_at, atoms}
use Rattle.text.specs.Text.{newline, space, joined}
use Rattle.text.specs.Listing.{ampersand, atoms_in}
use Rattle.owl.specs.Tree.{Name, short, full}
use Rattle.owl.specs.Naming.{Names, thing_bytes}
use Rattle.owl.specs.Token.{some_values_word}

-- "its name as written in the file"
unfoldable pub name_text : Name → List ℕ
name_text (short w) = w
name_text (full w) = w

unfoldable pub name_of : List Name → ℕ → List ℕ
name_of [] k = []
name_of (n ∷ l) zero = name_text n
name_of (n ∷ l) (suc k) = name_of l k

abbrev pub opening : List ℕ
opening = 0x28 ∷ []

abbrev pub closing : List ℕ
closing = 0x29 ∷ []

-- "a restriction as `ObjectSomeValuesFrom(role filler)`"
unfoldable pub some_text : List ℕ → List ℕ → List ℕ
some_text role filler = (some_values_word ++ opening) ++ (role ++ (space ++ (filler ++ closing)))

-- "its atoms joined by ` & `", "`owl:Thing` for none"
unfoldable pub joined_text : List (List ℕ) → List ℕ
joined_text [] = thing_bytes
joined_text (t ∷ ts) = joined ampersand (t ∷ ts)

-- "in parentheses where there are several"
unfoldable pub enclosed : List (List ℕ) → List ℕ
enclosed [] = thing_bytes
enclosed (t ∷ []) = t
enclosed (t ∷ u ∷ ts) = opening ++ (joined_text (t ∷ u ∷ ts) ++ closing)

module _ (d : Names) (t : Table) where
  module _ (spelt : ℕ → List ℕ) where
    -- a named variable "with the file's own names"; the fresh ones are numbered after them
    unfoldable pub variable_text : ℕ → List ℕ
    variable_text x = elim (ltb x (length d.opens)) [ true ↦ name_of d.opens x | false ↦ spelt x ]

    unfoldable pub filler_text : Filler → List ℕ
    filler_text top_f = thing_bytes
    filler_text (constant_f k) = name_of d.constants k
    filler_text (variable_f x) = variable_text x

    unfoldable pub row_text : Row → List ℕ
    row_text row = some_text (name_of d.roles row.role) (filler_text row.filler)

    -- "a constant as written"; "constant k is k, restriction k is c + k"
    unfoldable pub atom_text : ℕ → List ℕ
    atom_text i = elim (ltb i t.constants) [ true ↦ name_of d.constants i | false ↦ row_text (row_at t.rows (i - t.constants)) ]

    abbrev pub atom_texts : ℕ → ℕ → List (List ℕ)
    atom_texts s n = map atom_text (atoms_in n s)

  module _ (sets : ℕ → ℕ) where
    -- "a fresh variable spelt out by its own atoms (in parentheses where there are several)"
    unfoldable pub spelt_to : ℕ → ℕ → List ℕ
    spelt_to zero x = thing_bytes
    spelt_to (suc n) x = enclosed (atom_texts (spelt_to n) (sets x) (atoms t))

    unfoldable pub set_text : ℕ → ℕ → List ℕ
    set_text n s = joined_text (atom_texts (spelt_to n) s (atoms t))

    -- "its name as written in the file, `: `, its atoms"; as deep as there are variables: `spelt_equation` says that this is enough
    unfoldable pub variable_line : ℕ → List ℕ
    variable_line x = name_of d.opens x ++ (0x3A ∷ 0x20 ∷ (set_text t.variables (sets x) ++ newline))

    unfoldable pub variable_lines : ℕ → List ℕ
    variable_lines zero = []
    variable_lines (suc n) = variable_lines n ++ variable_line n

    -- "a line for each named variable"
    abbrev pub named_lines : List ℕ
    named_lines = variable_lines (length d.opens)
