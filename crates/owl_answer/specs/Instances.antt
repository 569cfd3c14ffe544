-- The answer at concrete texts: the hypotheses of its theorems are met, and the bytes are computed.
--
--   nested_bytes, nested_made, nested_table == a text with nested fillers makes a table, byte for byte: outer rows before inner ones, a fresh variable for each filler, the fresh equivalences last
--   nested_short == a buffer that is one byte shorter is refused with 17
use Rattle.std.specs.Prelude.{◌≡◌, refl, ℕ, length, replicate, drop}
use Rattle.std.proofs.Common.{ap, subst, arith}
use mathlib.Core.List.{List, [], ◌∷◌, ◌++◌, flat_map}
use Rattle.el.specs.Test.{any_of, every_of}
use Rattle.table.specs.Reading.{has_role_rows}
use Rattle.table.specs.Bytes.{filler_code, entry_code, written_role_count, written_header, written_role_row, written_row, written_entry, written_line, bytes_with, counts_of, bytes_of}
use Rattle.owl.specs.Once.{is_among, place, once}
use Rattle.owl.specs.Tree.{File, axioms_of, classes_of, properties_of}
use Rattle.owl.specs.Naming.{same_bytes, begins_with, thing_bytes, open_bytes, keep, names_of, constant_number, open_number, role_number}
use Rattle.owl.specs.Flattening.{name_of, statements_of, same_row, rows_all, lines_all, table_of, flat_table}
use Rattle.owl.specs.RowCases.{text, file, text_says, text_declared}
use Rattle.owl_answer.specs.Owl.{owl, InBounds, OwlAt, said, made, short, Made}
use Rattle.owl_answer.specs.OwlLaws.{owl_table_lem}

-- header; rows; lines of the axioms; the equivalences of the two fresh variables
abbrev pub expected : List ℕ
expected =
    0x56 ∷ 0x4F ∷ 0x43 ∷ 1 ∷ 0 ∷ 2 ∷ 2 ∷ 3 ∷ 3 ∷ 7
    ∷ 0 ∷ 0x61 ∷ 1 ∷ 0x62 ∷ 1 ∷ 0x20
    ∷ 1 ∷ 0x60 ∷ 0x40 ∷ 1 ∷ 0x60 ∷ 0x42
    ∷ 1 ∷ 0x61 ∷ 0x41 ∷ 1 ∷ 0x41 ∷ 0x61
    ∷ 1 ∷ 0x62 ∷ 0x20 ∷ 1 ∷ 0x62 ∷ 0x21 ∷ 2 ∷ 0x20 ∷ 0x21 ∷ 0x62 ∷ []

pub nested_bytes : bytes_of 1 (flat_table file) ≡ expected
unfolding flat_table table_of rows_all lines_all statements_of name_of constant_number open_number role_number names_of keep same_bytes begins_with thing_bytes open_bytes axioms_of classes_of properties_of once is_among place any_of same_row bytes_of bytes_with counts_of has_role_rows written_role_count written_header written_role_row written_row written_entry written_line filler_code entry_code flat_map
nested_bytes = refl

-- within the bounds
nested_bounds : InBounds (flat_table file)
unfolding flat_table table_of rows_all lines_all statements_of name_of constant_number open_number role_number names_of keep same_bytes begins_with thing_bytes open_bytes axioms_of classes_of properties_of once is_among place any_of same_row counts_of every_of
nested_bounds = record { counts = record { few_constants = omega arith; few_roles = omega arith; few_variables = omega arith; few_restrictions = omega arith; few_atoms = omega arith; few_lines = omega arith; few_role_rows = omega arith }; left = tt }

-- a buffer of 40 bytes: two are left
abbrev pub buffer : List ℕ
buffer = replicate 40 170

nested_length : length (bytes_of 1 (flat_table file)) ≡ 38
nested_length = ap length nested_bytes

pub nested_made : OwlAt text buffer (owl 0 38 0 (expected ++ (170 ∷ 170 ∷ [])))
nested_made =
    subst (λ (b : List ℕ). OwlAt text buffer (owl 0 (length b) 0 (b ++ drop (length b) buffer))) nested_bytes
    (said file text_says text_declared (made nested_bounds (let h : length (bytes_of 1 (flat_table file)) ≡ 38 = nested_length in omega arith)))

pub nested_table : (f : File) × Made text buffer (owl 0 38 0 (expected ++ (170 ∷ 170 ∷ []))) f
nested_table = owl_table_lem nested_made refl

-- one byte short
pub nested_short : OwlAt text (replicate 37 170) (owl 17 0 38 (replicate 37 170))
nested_short =
    subst (λ (n : ℕ). OwlAt text (replicate 37 170) (owl 17 0 n (replicate 37 170))) nested_length
    (said file text_says text_declared (short nested_bounds (let h : length (bytes_of 1 (flat_table file)) ≡ 38 = nested_length in omega arith)))
