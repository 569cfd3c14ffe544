-- The specification's worked example, from its bytes to its text through reading, answer and text.
--
--   worked_example == what the listing program writes for it
use Rattle.std.specs.Prelude.{◌≡◌, [], ◌∷◌}
use Rattle.std.proofs.Common.{ap₂, arith}
use Rattle.el.specs.Test.{bit}
use Rattle.el.specs.Table.{row_at, atoms}
use Rattle.table.specs.Code.{kind_of, within, role_of, filler_of_kind, filler_of, entry_of_kind, entry_of}
use Rattle.table.specs.Reading.{marked, version_known, has_role_rows, header_end, role_count, read_counts, read_header, read_many, read_pair, read_code, read_line, read_body, reading, table_of}
use Rattle.output.specs.Written.{little_endian, number_at, assignment_bytes, written_in}
use Rattle.text.specs.Text.{decimal_to, decimal, behind, joined, numbers_text}
use Rattle.text.specs.Listing.{filler_text, row_text, atom_text, atoms_in, conjunction_text, set_text, variable_line, variable_lines, solved_text, first_line, listing_text}
use Rattle.text.specs.Examples.{worked}
use Rattle.makrothel.specs.Solve.{answer}
use Rattle.makrothel.specs.Cases.{p8, Is, Answers, cases_hold}
use Rattle.listing.specs.Report.{listing_budget, listing_output, answer_text, report_text}

-- it is P8
worked_is : Is p8 listing_output (answer worked listing_budget listing_output)
unfolding worked Answers
worked_is = cases_hold.1.1.1.1.1.1.1.0 listing_budget (omega arith) listing_output (omega arith)

-- "Input 56 4F 43 01 00 01 01 02 01 02 00 61 01 60 40 01 61 20 prints:"
--   0 14 0
--   v0: r0.v1
--   v1: c0
pub worked_example : report_text worked
    ≡ 0x30 ∷ 0x20 ∷ 0x31 ∷ 0x34 ∷ 0x20 ∷ 0x30 ∷ 0x0A
    ∷ 0x76 ∷ 0x30 ∷ 0x3A ∷ 0x20 ∷ 0x72 ∷ 0x30 ∷ 0x2E ∷ 0x76 ∷ 0x31 ∷ 0x0A
    ∷ 0x76 ∷ 0x31 ∷ 0x3A ∷ 0x20 ∷ 0x63 ∷ 0x30 ∷ 0x0A ∷ []
unfolding worked report_text answer_text written_in assignment_bytes little_endian listing_text first_line solved_text variable_lines variable_line set_text conjunction_text atoms_in atom_text row_text filler_text number_at numbers_text joined behind decimal decimal_to table_of reading read_body read_line read_code read_pair read_many read_header read_counts header_end role_count has_role_rows version_known marked role_of entry_of entry_of_kind filler_of filler_of_kind within kind_of row_at atoms bit
worked_example = ap₂ (listing_text worked) worked_is.0 worked_is.1
