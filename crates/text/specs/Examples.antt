-- The texts at concrete answers.
use Rattle.std.specs.Prelude.{◌≡◌, refl, List, [], ◌∷◌, ℕ, replicate}
use Rattle.el.specs.Test.{bit}
use Rattle.el.specs.Table.{row_at, atoms}
use Rattle.table.specs.Code.{kind_of, within, role_of, filler_of_kind, filler_of, entry_of_kind, entry_of}
use Rattle.table.specs.Reading.{marked, version_known, has_role_rows, header_end, role_count, read_counts, read_header, read_many, read_pair, read_code, read_line, read_body, reading, table_of}
use Rattle.output.specs.Written.{number_at}
use Rattle.text.specs.Text.{decimal_to, decimal, behind, joined, numbers_text, bytes_text, hex_text}
use Rattle.text.specs.Listing.{filler_text, row_text, atom_text, atoms_in, conjunction_text, set_text, variable_line, variable_lines, solved_text, first_line, listing_text}
use Rattle.text.specs.Batch.{read_text, line_text, solve_text}

-- the specification's worked example
unfoldable pub worked : List ℕ
worked = 0x56 ∷ 0x4F ∷ 0x43 ∷ 0x01 ∷ 0x00 ∷ 0x01 ∷ 0x01 ∷ 0x02 ∷ 0x01 ∷ 0x02 ∷ 0x00 ∷ 0x61 ∷ 0x01 ∷ 0x60 ∷ 0x40 ∷ 0x01 ∷ 0x61 ∷ 0x20 ∷ []

-- both atoms and none: `v0: c0 & r0.v1`, `v1: top`
pub several_and_none : listing_text worked (record { number = 0; count = 14; place = 0 }) (3 ∷ replicate 15 0)
    ≡ 0x30 ∷ 0x20 ∷ 0x31 ∷ 0x34 ∷ 0x20 ∷ 0x30 ∷ 0x0A
    ∷ 0x76 ∷ 0x30 ∷ 0x3A ∷ 0x20 ∷ 0x63 ∷ 0x30 ∷ 0x20 ∷ 0x26 ∷ 0x20 ∷ 0x72 ∷ 0x30 ∷ 0x2E ∷ 0x76 ∷ 0x31 ∷ 0x0A
    ∷ 0x76 ∷ 0x31 ∷ 0x3A ∷ 0x20 ∷ 0x74 ∷ 0x6F ∷ 0x70 ∷ 0x0A ∷ []
unfolding listing_text first_line solved_text variable_lines variable_line set_text conjunction_text atoms_in atom_text row_text filler_text number_at numbers_text joined behind decimal decimal_to table_of reading read_body read_line read_code read_pair read_many read_header read_counts header_end role_count has_role_rows version_known marked role_of entry_of entry_of_kind filler_of filler_of_kind within kind_of row_at atoms bit worked
several_and_none = refl

-- an empty input: `1 0 0`
pub empty_input : listing_text [] (record { number = 1; count = 0; place = 0 }) [] ≡ 0x31 ∷ 0x20 ∷ 0x30 ∷ 0x20 ∷ 0x30 ∷ 0x0A ∷ []
unfolding listing_text first_line numbers_text joined behind decimal decimal_to
empty_input = refl

-- `0 4 aa1f` and an empty output, `-`
pub batch_lines : (solve_text (record { number = 0; count = 4; place = 0 }) (0xAA ∷ 0x1F ∷ []) ≡ 0x30 ∷ 0x20 ∷ 0x34 ∷ 0x20 ∷ 0x30 ∷ 0x20 ∷ 0x61 ∷ 0x61 ∷ 0x31 ∷ 0x66 ∷ 0x0A ∷ [])
    × (line_text [] ≡ 0x2D ∷ 0x0A ∷ [])
    × (read_text (4 ∷ 714 ∷ 0 ∷ 0 ∷ 0 ∷ 0 ∷ 0 ∷ []) ≡ 0x34 ∷ 0x20 ∷ 0x37 ∷ 0x31 ∷ 0x34 ∷ 0x20 ∷ 0x30 ∷ 0x20 ∷ 0x30 ∷ 0x20 ∷ 0x30 ∷ 0x20 ∷ 0x30 ∷ 0x20 ∷ 0x30 ∷ 0x0A ∷ [])
unfolding solve_text line_text read_text numbers_text hex_text bytes_text joined behind decimal decimal_to
batch_lines = (refl, refl, refl)
