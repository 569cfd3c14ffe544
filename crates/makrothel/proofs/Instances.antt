-- The demands at concrete tables, so that no hypothesis of theirs is empty. P5 and P12 are answered "none", P8 "solved", and P8 under the
-- budget 13 "budget"; an empty input, and P8 with one byte more or with too short an output, are refused.
--
--   p5_table, p8_table, p12_table == they are readable
--   p8_wider                      == and so within larger bounds
--   p5_more, p8_more, p12_more    == a growth of each
--   empty_.., longer_.., short_.. == demand 1 at inputs that are refused
--   p5_.., p8_.., p9_.., p12_..   == the demands at the cases
--   r2_.., r5_..                  == the demands at tables of version 2
--   p3_.., bounds_read, p8_narrow, p8_counts == tables and outputs at the bounds, and within 01's own
--   role_row_needed               == a "none" table that becomes "solved" by one more role row, and by nothing else
use Rattle.std.specs.Prelude.{◌≡◌, refl, ◌⊎◌, List, [], ◌∷◌, ◌++◌, ℕ, ◌*◌, ◌≤◌, ◌<◌, T, length, take, replicate}
use Rattle.std.proofs.Common.{sym, ap, ◌∙◌, inl, inr, arith}
use Rattle.bounds.specs.Bounds.{Bounds, bounds, max_constants, max_restrictions, max_atoms, max_roles, max_variables, max_lines, max_left, max_role_rows, set_bytes}
use Rattle.el.specs.Description.{same_role}
use Rattle.el.specs.Table.{role_order}
use Rattle.el.specs.Meaning.{Substitution, makes}
use Rattle.el.specs.Assignment.{Assignment}
use Rattle.answer.specs.declared.Answer.{Answer}
use Rattle.answer.specs.declared.Answer.TheVariants.{Solved, EndsEarly, BytesAfter, OutputShort, Nothing, Budget}
use Rattle.answer.specs.Handed.{handed}
use Rattle.answer.specs.HandedLaws.{handed_apart}
use Rattle.table.specs.Code.{kind_of, within, role_of, filler_of_kind, filler_of, entry_of_kind, entry_of}
use Rattle.table.specs.Reading.{marked, version_known, has_role_rows, header_end, role_count, read_counts, read_header, read_many, read_pair, read_code, read_line, read_body, readable, reading_within, reading, header_of, table_of}
use Rattle.table.specs.WiderLaws.{readable_wider}
use Rattle.table.specs.Bytes.{Within, IsTable}
use Rattle.table.specs.Refusal.{RefusedAt, header_cut}
use Rattle.table.specs.RefusalLaws.{refused_means}
use Rattle.output.specs.Written.{little_endian, assignment_bytes, written_in, written, set_at, set_in}
use Rattle.makrothel.specs.Answer.{read_answer}
use Rattle.makrothel.specs.Numbers.{FirstSolving, NoneSolves, N, NumberAt, refused, Said}
use Rattle.makrothel.specs.Solve.{Answered, answered, answer}
use Rattle.makrothel.specs.Grown.{role_row_bytes, row_bytes, line_bytes, Grown, SameLines, SameAnswer}
use Rattle.makrothel.specs.Demand1.{is_table, answer_short, demand_1_row, demand_1_only, demand_1_number, demand_1_refused, demand_1_short, demand_1_kept, demand_1_written, demand_1_read_refused, demand_1_read}
use Rattle.makrothel.specs.Demand2.{demand_2_solved, demand_2_none, demand_2_budget, demand_2_no_budget, demand_2_decides, demand_2_solved_exactly, demand_2_none_exactly, demand_2_budget_exactly}
use Rattle.makrothel.specs.Demand3.{demand_3_none, demand_3_solved, demand_3_grown, demand_3_widened, demand_3_budget}
use Rattle.makrothel.specs.Versions.{version_one_order}
use Rattle.makrothel.specs.Narrow.{narrow_bounds, narrow_set_bytes, narrow_answer}
use Rattle.makrothel.specs.NarrowLaws.{narrow_counts, narrow_answer_lem}
use Rattle.makrothel.specs.Instances.{r1_more}
use Rattle.makrothel.specs.Cases.{Case, p3, p5, p8, p9, p12, r1, r2, r4, r5, Is, Answers, cases_hold}

-- an output of sixteen bytes has room for two variables
abbrev sixteen : List ℕ
sixteen = 1 ∷ 2 ∷ 3 ∷ 4 ∷ 5 ∷ 6 ∷ 7 ∷ 8 ∷ 9 ∷ 10 ∷ 11 ∷ 12 ∷ 13 ∷ 14 ∷ 15 ∷ 16 ∷ []

----------------------------------------------------------------------------------------------------
-- The cases are readable, and their answers

tables : IsTable p5.bytes (table_of p5.bytes) × IsTable p8.bytes (table_of p8.bytes) × IsTable p12.bytes (table_of p12.bytes)
unfolding table_of reading read_body read_line read_code read_pair read_many read_header read_counts header_end role_count has_role_rows version_known marked role_of entry_of entry_of_kind filler_of filler_of_kind within kind_of
tables = (is_table p5.bytes (header_of p5.bytes) _ refl, is_table p8.bytes (header_of p8.bytes) _ refl, is_table p12.bytes (header_of p12.bytes) _ refl)

pub p5_table : IsTable p5.bytes (table_of p5.bytes)
p5_table = tables.0

pub p8_table : IsTable p8.bytes (table_of p8.bytes)
p8_table = tables.1

pub p12_table : IsTable p12.bytes (table_of p12.bytes)
p12_table = tables.2

-- within larger bounds P8 is read as the same table
abbrev larger : Bounds
larger = record { constants = 2 * max_constants; restrictions = max_restrictions; atoms = 2 * max_atoms; roles = max_roles; variables = 2 * max_variables; lines = max_lines; left = max_left; role_rows = max_role_rows }

pub p8_wider : reading_within larger p8.bytes ≡ readable (header_of p8.bytes) (table_of p8.bytes)
unfolding table_of reading read_body read_line read_code read_pair read_many read_header read_counts header_end role_count has_role_rows version_known marked role_of entry_of entry_of_kind filler_of filler_of_kind within kind_of
p8_wider =
    readable_wider bounds larger (record { constants = omega arith; restrictions = omega arith; atoms = omega arith; roles = omega arith; variables = omega arith; lines = omega arith; left = omega arith; role_rows = omega arith })
    p8.bytes (header_of p8.bytes) (table_of p8.bytes) refl

-- how many variables they have
variables : ((table_of p5.bytes).variables ≡ 1) × ((table_of p8.bytes).variables ≡ 2) × ((table_of p12.bytes).variables ≡ 1)
unfolding table_of reading read_body read_line read_code read_pair read_many read_header read_counts header_end role_count has_role_rows version_known marked role_of entry_of entry_of_kind filler_of filler_of_kind within kind_of
variables = (refl, refl, refl)

room_p5 : set_bytes * (table_of p5.bytes).variables ≤ length sixteen
room_p5 = omega (arith, variables.0)

room_p8 : set_bytes * (table_of p8.bytes).variables ≤ length sixteen
room_p8 = omega (arith, variables.1)

room_p12 : set_bytes * (table_of p12.bytes).variables ≤ length sixteen
room_p12 = omega (arith, variables.2)

-- the answer that a case is
is : (k : Case) (out : List ℕ) (r : Answered) (a : Answer) → handed a ≡ record { number = k.number; count = k.count; place = 0 } → Is k out r → r ≡ answered a (written k.sets out)
is k out r a e w = let p : r.says ≡ a = handed_apart r.says a (w.0 ∙ sym e) in λ i. record { says = p i; output = w.1 i }

pub p5_answer : answer p5.bytes 3 sixteen ≡ answered (Nothing 3) sixteen
unfolding Answers written_in assignment_bytes
p5_answer = is p5 sixteen _ (Nothing 3) refl (cases_hold.1.1.1.1.0 3 (omega arith) sixteen (omega arith))

pub p8_answer : answer p8.bytes 14 sixteen ≡ answered (Solved 14) (2 ∷ 0 ∷ 0 ∷ 0 ∷ 0 ∷ 0 ∷ 0 ∷ 0 ∷ 1 ∷ 0 ∷ 0 ∷ 0 ∷ 0 ∷ 0 ∷ 0 ∷ 0 ∷ [])
unfolding Answers written_in assignment_bytes little_endian
p8_answer = is p8 sixteen _ (Solved 14) refl (cases_hold.1.1.1.1.1.1.1.0 14 (omega arith) sixteen (omega arith))

pub p9_answer : answer p8.bytes 13 sixteen ≡ answered (Budget 13) sixteen
unfolding Answers written_in assignment_bytes
p9_answer = is p9 sixteen _ (Budget 13) refl (cases_hold.1.1.1.1.1.1.1.1.0 13 refl sixteen (omega arith))

pub p12_answer : answer p12.bytes 33 sixteen ≡ answered (Nothing 33) sixteen
unfolding Answers written_in assignment_bytes
p12_answer = is p12 sixteen _ (Nothing 33) refl (cases_hold.1.1.1.1.1.1.1.1.1.1.1.0 33 (omega arith) sixteen (omega arith))

p5_none : Said Nothing (answer p5.bytes 3 sixteen).says
p5_none = (3, ap (λ (r : Answered). r.says) p5_answer)

p8_solved : Said Solved (answer p8.bytes 14 sixteen).says
p8_solved = (14, ap (λ (r : Answered). r.says) p8_answer)

p9_spent : Said Budget (answer p8.bytes 13 sixteen).says
p9_spent = (13, ap (λ (r : Answered). r.says) p9_answer)

p12_none : Said Nothing (answer p12.bytes 33 sixteen).says
p12_none = (33, ap (λ (r : Answered). r.says) p12_answer)

-- an answer with another number is not "solved"
other : {a c : Answer} → a ≡ c → ((handed c).number ≡ 0 → ⊥) → Said Solved a → ⊥
other e f w = f (ap (λ (x : Answer). (handed x).number) (sym e ∙ w.1))

----------------------------------------------------------------------------------------------------
-- Demand 1

-- an empty input is cut short
empty_refused : RefusedAt [] (EndsEarly 0)
empty_refused = header_cut (omega arith)

pub empty_only : handed (answer [] 5 sixteen).says ≡ record { number = 1; count = 0; place = 0 }
empty_only = ap handed (demand_1_only [] 5 sixteen (EndsEarly 0) (refused empty_refused))

pub empty_kept : (answer [] 5 sixteen).output ≡ sixteen
empty_kept = demand_1_kept [] 5 sixteen (other (demand_1_only [] 5 sixteen (EndsEarly 0) (refused empty_refused)) (λ z. omega arith))

pub empty_read : read_answer (reading []) ≡ record { number = 1; place = 0; constants = 0; roles = 0; variables = 0; restrictions = 0; lines = 0; inclusions = 0 }
empty_read = demand_1_read_refused [] (EndsEarly 0) empty_refused

-- P8 has 18 bytes; one byte more is refused with 6 at 18
pub longer_refused : RefusedAt (p8.bytes ++ (0 ∷ [])) (BytesAfter 18)
unfolding reading read_body read_line read_code read_pair read_many read_header read_counts header_end role_count has_role_rows version_known marked role_of entry_of entry_of_kind filler_of filler_of_kind within kind_of
longer_refused = refused_means (p8.bytes ++ (0 ∷ [])) (BytesAfter 18) refl

pub longer_answer : handed (answer (p8.bytes ++ (0 ∷ [])) 14 sixteen).says ≡ record { number = 6; count = 0; place = 18 }
longer_answer = ap handed ((demand_1_refused (p8.bytes ++ (0 ∷ [])) 14 sixteen (BytesAfter 18) (omega arith, omega arith)).1 longer_refused)

-- P8 and an output of no bytes
pub short_answer : Said OutputShort (answer p8.bytes 14 []).says
short_answer = (demand_1_short p8.bytes 14 []).1 (table_of p8.bytes, p8_table, omega (arith, variables.1))

-- the rows of the table of answers that the cases are, and their numbers
pub p8_row : NumberAt p8.bytes 14 16 (answer p8.bytes 14 sixteen).says
p8_row = demand_1_row p8.bytes 14 sixteen

pub p12_row : NumberAt p12.bytes 33 16 (answer p12.bytes 33 sixteen).says
p12_row = demand_1_row p12.bytes 33 sixteen

pub p12_number : (handed (answer p12.bytes 33 sixteen).says).number ≤ 9
p12_number = demand_1_number p12.bytes 33 sixteen

pub p5_kept : (answer p5.bytes 3 sixteen).output ≡ sixteen
p5_kept = demand_1_kept p5.bytes 3 sixteen (other p5_none.1 (λ z. omega arith))

pub p12_kept : (answer p12.bytes 33 sixteen).output ≡ sixteen
p12_kept = demand_1_kept p12.bytes 33 sixteen (other p12_none.1 (λ z. omega arith))

pub p8_behind : length (answer p8.bytes 14 sixteen).output ≡ 16
p8_behind = (demand_1_written p8.bytes 14 sixteen p8_solved).1

pub p12_read : read_answer (reading p12.bytes) ≡ record { number = 0; place = 0; constants = 2; roles = 1; variables = 1; restrictions = 3; lines = 3; inclusions = 0 }
unfolding table_of reading read_body read_line read_code read_pair read_many read_header read_counts header_end role_count has_role_rows version_known marked role_of entry_of entry_of_kind filler_of filler_of_kind within kind_of
p12_read = demand_1_read p12.bytes (table_of p12.bytes) p12_table

----------------------------------------------------------------------------------------------------
-- Growths

-- P5 with a constant more
abbrev p5_more : List ℕ
p5_more = 0x56 ∷ 0x4F ∷ 0x43 ∷ 1 ∷ 0 ∷ 1 ∷ 1 ∷ 1 ∷ 1 ∷ 1 ∷ 0 ∷ 0x60 ∷ 1 ∷ 0x60 ∷ 0x40 ∷ []

-- P8 with a constant, a role, a variable and a row more, and no line more
abbrev p8_more : List ℕ
p8_more = 0x56 ∷ 0x4F ∷ 0x43 ∷ 1 ∷ 0 ∷ 2 ∷ 2 ∷ 3 ∷ 2 ∷ 2 ∷ 0 ∷ 0x61 ∷ 1 ∷ 0x62 ∷ 1 ∷ 0x60 ∷ 0x40 ∷ 1 ∷ 0x61 ∷ 0x20 ∷ []

-- P12 with a constant, a row and a line more
abbrev p12_more : List ℕ
p12_more =
    0x56 ∷ 0x4F ∷ 0x43 ∷ 1 ∷ 0 ∷ 3 ∷ 1 ∷ 1 ∷ 4 ∷ 4 ∷ 0 ∷ 0x20 ∷ 0 ∷ 0x21 ∷ 0 ∷ 0x60 ∷ 0 ∷ 0x22
    ∷ 1 ∷ 0x60 ∷ 0x20 ∷ 1 ∷ 0x60 ∷ 0x21 ∷ 2 ∷ 0x40 ∷ 0x41 ∷ 0x42 ∷ 1 ∷ 0x43 ∷ 0x60 ∷ []

p5_grown : Grown p5.bytes p5_more
unfolding role_row_bytes row_bytes line_bytes reading read_body read_line read_code read_pair read_many read_header read_counts header_end role_count has_role_rows version_known marked role_of entry_of entry_of_kind filler_of filler_of_kind within kind_of
p5_grown =
    record { readable_before = tt; readable_after = tt; version_low = refl; version_high = refl; constants = omega arith; roles = omega arith; variables = omega arith; restrictions = omega arith; lines = omega arith; role_count_is = refl; role_rows_are = refl; rows_first = ([], refl); lines_first = ([], refl) }

p8_grown : Grown p8.bytes p8_more
unfolding role_row_bytes row_bytes line_bytes reading read_body read_line read_code read_pair read_many read_header read_counts header_end role_count has_role_rows version_known marked role_of entry_of entry_of_kind filler_of filler_of_kind within kind_of
p8_grown =
    record { readable_before = tt; readable_after = tt; version_low = refl; version_high = refl; constants = omega arith; roles = omega arith; variables = omega arith; restrictions = omega arith; lines = omega arith; role_count_is = refl; role_rows_are = refl; rows_first = (1 ∷ 0x62 ∷ [], refl); lines_first = ([], refl) }

p12_grown : Grown p12.bytes p12_more
unfolding role_row_bytes row_bytes line_bytes reading read_body read_line read_code read_pair read_many read_header read_counts header_end role_count has_role_rows version_known marked role_of entry_of entry_of_kind filler_of filler_of_kind within kind_of
p12_grown =
    record { readable_before = tt; readable_after = tt; version_low = refl; version_high = refl; constants = omega arith; roles = omega arith; variables = omega arith; restrictions = omega arith; lines = omega arith; role_count_is = refl; role_rows_are = refl; rows_first = (0 ∷ 0x22 ∷ [], refl); lines_first = (1 ∷ 0x43 ∷ 0x60 ∷ [], refl) }

-- R5 with a role, a constant, a variable and a row more; its version and its role rows stay
abbrev r5_more : List ℕ
r5_more = 0x56 ∷ 0x4F ∷ 0x43 ∷ 2 ∷ 0 ∷ 2 ∷ 4 ∷ 1 ∷ 3 ∷ 1 ∷ 3 ∷ 0 ∷ 2 ∷ 2 ∷ 1 ∷ 2 ∷ 0 ∷ 0 ∷ 0x20 ∷ 1 ∷ 0x20 ∷ 3 ∷ 0x21 ∷ 1 ∷ 0x40 ∷ 0x41 ∷ []

r5_grown : Grown r5.bytes r5_more
unfolding role_row_bytes row_bytes line_bytes reading read_body read_line read_code read_pair read_many read_header read_counts header_end role_count has_role_rows version_known marked role_of entry_of entry_of_kind filler_of filler_of_kind within kind_of
r5_grown =
    record { readable_before = tt; readable_after = tt; version_low = refl; version_high = refl; constants = omega arith; roles = omega arith; variables = omega arith; restrictions = omega arith; lines = omega arith; role_count_is = refl; role_rows_are = refl; rows_first = (3 ∷ 0x21 ∷ [], refl); lines_first = ([], refl) }

-- R1 with a constant more
r1_grown : Grown r1.bytes r1_more
unfolding role_row_bytes row_bytes line_bytes reading read_body read_line read_code read_pair read_many read_header read_counts header_end role_count has_role_rows version_known marked role_of entry_of entry_of_kind filler_of filler_of_kind within kind_of
r1_grown =
    record { readable_before = tt; readable_after = tt; version_low = refl; version_high = refl; constants = omega arith; roles = omega arith; variables = omega arith; restrictions = omega arith; lines = omega arith; role_count_is = refl; role_rows_are = refl; rows_first = ([], refl); lines_first = ([], refl) }

----------------------------------------------------------------------------------------------------
-- Demand 2

-- P8 has a first solving assignment, and N is within 14
pub p8_first : (N (table_of p8.bytes) ≤ 14) × ((a : Assignment) × FirstSolving (table_of p8.bytes) a)
p8_first = (demand_2_solved_exactly p8.bytes (table_of p8.bytes) p8_table 14 sixteen room_p8).0 p8_solved

-- which is what is written
pub p8_written : (answer p8.bytes 14 sixteen).output ≡ written p8_first.1.0 sixteen
p8_written = ap (λ (r : Answered). r.output) (demand_2_solved p8.bytes (table_of p8.bytes) p8_table 14 sixteen room_p8 p8_first.0 p8_first.1.0 p8_first.1.1)

-- P5 and P12 have none
pub p5_nothing : (N (table_of p5.bytes) ≤ 3) × NoneSolves (table_of p5.bytes)
p5_nothing = (demand_2_none_exactly p5.bytes (table_of p5.bytes) p5_table 3 sixteen room_p5).0 p5_none

pub p12_nothing : (N (table_of p12.bytes) ≤ 33) × NoneSolves (table_of p12.bytes)
p12_nothing = (demand_2_none_exactly p12.bytes (table_of p12.bytes) p12_table 33 sixteen room_p12).0 p12_none

-- so with any larger budget they are answered "none"
pub p12_larger : (handed (answer p12.bytes 1000 sixteen).says).number ≡ 8
p12_larger = ap (λ (r : Answered). (handed r.says).number) (demand_2_none p12.bytes (table_of p12.bytes) p12_table 1000 sixteen room_p12 (let l : N (table_of p12.bytes) ≤ 33 = p12_nothing.0 in omega arith) p12_nothing.1)

pub p12_decided : (((answer p12.bytes 33 sixteen).says ≡ Solved (N (table_of p12.bytes))) × ((a : Assignment) × FirstSolving (table_of p12.bytes) a)) ⊎ (((answer p12.bytes 33 sixteen).says ≡ Nothing (N (table_of p12.bytes))) × NoneSolves (table_of p12.bytes))
p12_decided = demand_2_decides p12.bytes (table_of p12.bytes) p12_table 33 sixteen room_p12 p12_nothing.0

-- P8 needs more than 13 nodes, and so fewer do not do either
pub p9_over : 13 < N (table_of p8.bytes)
p9_over = (demand_2_budget_exactly p8.bytes (table_of p8.bytes) p8_table 13 sixteen room_p8).0 p9_spent

pub p9_fewer : answer p8.bytes 7 sixteen ≡ answered (Budget 7) sixteen
p9_fewer = demand_2_budget p8.bytes (table_of p8.bytes) p8_table 7 sixteen room_p8 (let l : 13 < N (table_of p8.bytes) = p9_over in omega arith)

pub p12_no_budget : answer p12.bytes 0 sixteen ≡ answered (Budget 0) sixteen
p12_no_budget = demand_2_no_budget p12.bytes (table_of p12.bytes) p12_table 0 sixteen room_p12 refl

----------------------------------------------------------------------------------------------------
-- Demand 3

pub p5_any_depth : (γ : Substitution) → T (makes (role_order (table_of p5.bytes)) (table_of p5.bytes) γ) → ⊥
p5_any_depth = demand_3_none p5.bytes 3 sixteen p5_none

pub p12_any_depth : (γ : Substitution) → T (makes (role_order (table_of p12.bytes)) (table_of p12.bytes) γ) → ⊥
p12_any_depth = demand_3_none p12.bytes 33 sixteen p12_none

pub p8_some : (γ : Substitution) × T (makes (role_order (table_of p8.bytes)) (table_of p8.bytes) γ)
p8_some = demand_3_solved p8.bytes 14 sixteen p8_solved

pub p5_grown_never : (b : ℕ) (out : List ℕ) → Said Solved (answer p5_more b out).says → ⊥
p5_grown_never b out = demand_3_grown p5.bytes p5_more p5_grown 3 b sixteen out p5_none

pub p12_grown_never : (b : ℕ) (out : List ℕ) → Said Solved (answer p12_more b out).says → ⊥
p12_grown_never b out = demand_3_grown p12.bytes p12_more p12_grown 33 b sixteen out p12_none

pub p8_widened_never : (b : ℕ) (out : List ℕ) → Said Nothing (answer p8_more b out).says → ⊥
unfolding SameLines
p8_widened_never b out = demand_3_widened p8.bytes p8_more p8_grown 14 b sixteen out refl p8_solved

pub p8_larger_budget : (b : ℕ) → 14 ≤ b → SameAnswer p8.bytes (answer p8.bytes 14 sixteen) (answer p8.bytes b sixteen)
p8_larger_budget b h = demand_3_budget p8.bytes 14 b sixteen sixteen (inl p8_solved) h room_p8

pub p12_larger_budget : (b : ℕ) → 33 ≤ b → SameAnswer p12.bytes (answer p12.bytes 33 sixteen) (answer p12.bytes b sixteen)
p12_larger_budget b h = demand_3_budget p12.bytes 33 b sixteen sixteen (inr p12_none) h room_p12

----------------------------------------------------------------------------------------------------
-- Role rows

r_answers : (answer r1.bytes 1 [] ≡ answered (Nothing 1) []) × (answer r2.bytes 1 [] ≡ answered (Solved 1) []) × (answer r5.bytes 1 [] ≡ answered (Solved 1) [])
unfolding Answers written_in assignment_bytes
r_answers =
    let held = cases_hold.1.1.1.1.1.1.1.1.1.1.1.1 in (
      is r1 [] _ (Nothing 1) refl (held.0 1 (omega arith) [] (omega arith)),
      is r2 [] _ (Solved 1) refl (held.1.0 1 (omega arith) [] (omega arith)),
      is r5 [] _ (Solved 1) refl (held.1.1.1.1.0 1 (omega arith) [] (omega arith)),
    )

r1_none : Said Nothing (answer r1.bytes 1 []).says
r1_none = (1, ap (λ (r : Answered). r.says) r_answers.0)

pub r2_solved : Said Solved (answer r2.bytes 1 []).says
r2_solved = (1, ap (λ (r : Answered). r.says) r_answers.1)

r5_solved : Said Solved (answer r5.bytes 1 []).says
r5_solved = (1, ap (λ (r : Answered). r.says) r_answers.2)

pub r1_any_depth : (γ : Substitution) → T (makes (role_order (table_of r1.bytes)) (table_of r1.bytes) γ) → ⊥
r1_any_depth = demand_3_none r1.bytes 1 [] r1_none

pub r2_some : (γ : Substitution) × T (makes (role_order (table_of r2.bytes)) (table_of r2.bytes) γ)
r2_some = demand_3_solved r2.bytes 1 [] r2_solved

pub r1_grown_never : (b : ℕ) (out : List ℕ) → Said Solved (answer r1_more b out).says → ⊥
r1_grown_never b out = demand_3_grown r1.bytes r1_more r1_grown 1 b [] out r1_none

pub r5_widened_never : (b : ℕ) (out : List ℕ) → Said Nothing (answer r5_more b out).says → ⊥
unfolding SameLines
r5_widened_never b out = demand_3_widened r5.bytes r5_more r5_grown 1 b [] out refl r5_solved

-- R1 is "none" and R2 is "solved". R2 is R1 with one role row more: the mark, the version, the five counts, the rows and the lines are the
-- same. So growth must keep the role rows, and R2 does not grow from R1.
pub role_row_needed :
    Said Nothing (answer r1.bytes 1 []).says × Said Solved (answer r2.bytes 1 []).says × (take 10 r1.bytes ≡ take 10 r2.bytes)
    × (row_bytes r2.bytes ≡ row_bytes r1.bytes) × (line_bytes r2.bytes ≡ line_bytes r1.bytes) × (Grown r1.bytes r2.bytes → ⊥)
unfolding row_bytes line_bytes header_end role_count has_role_rows
role_row_needed = (r1_none, r2_solved, refl, refl, refl, λ g. demand_3_grown r1.bytes r2.bytes g 1 1 [] [] r1_none r2_solved)

-- P8 is of version 1
pub p8_roles : role_order (table_of p8.bytes) ≡ same_role
unfolding reading read_body read_line read_code read_pair read_many read_header read_counts header_end role_count has_role_rows version_known marked role_of entry_of entry_of_kind filler_of filler_of_kind within kind_of
p8_roles = version_one_order p8.bytes tt refl

-- the reader hands back q
pub r4_read : read_answer (reading r4.bytes) ≡ record { number = 0; place = 0; constants = 1; roles = 3; variables = 0; restrictions = 2; lines = 2; inclusions = 3 }
unfolding read_answer reading read_body read_line read_code read_pair read_many read_header read_counts header_end role_count has_role_rows version_known marked role_of entry_of entry_of_kind filler_of filler_of_kind within kind_of
r4_read = refl

----------------------------------------------------------------------------------------------------
-- The bounds

-- P3 with an output of seven bytes, and of eight
abbrev seven : List ℕ
seven = 1 ∷ 2 ∷ 3 ∷ 4 ∷ 5 ∷ 6 ∷ 7 ∷ []

pub p3_seven : handed (answer p3.bytes 3 seven).says ≡ record { number = 7; count = 0; place = 8 }
unfolding table_of reading read_body read_line read_code read_pair read_many read_header read_counts header_end role_count has_role_rows version_known marked role_of entry_of entry_of_kind filler_of filler_of_kind within kind_of
p3_seven = ap (λ (r : Answered). handed r.says) (answer_short p3.bytes 3 seven (table_of p3.bytes) (is_table p3.bytes (header_of p3.bytes) _ refl) (omega arith))

pub p3_eight : answer p3.bytes 3 (8 ∷ seven) ≡ answered (Solved 3) (1 ∷ 0 ∷ 0 ∷ 0 ∷ 0 ∷ 0 ∷ 0 ∷ 0 ∷ [])
unfolding Answers written_in assignment_bytes little_endian
p3_eight = is p3 (8 ∷ seven) _ (Solved 3) refl (cases_hold.1.1.0 3 (omega arith) (8 ∷ seven) (omega arith))

-- e 32 with c 24, and as many variables as there may be, with no line
pub bounds_read : read_answer (reading (0x56 ∷ 0x4F ∷ 0x43 ∷ 1 ∷ 0 ∷ 24 ∷ 1 ∷ 24 ∷ 32 ∷ 0 ∷ replicate 64 0))
    ≡ record { number = 0; place = 0; constants = 24; roles = 1; variables = 24; restrictions = 32; lines = 0; inclusions = 0 }
unfolding read_answer reading read_body read_line read_code read_pair read_many read_header read_counts header_end role_count has_role_rows version_known marked role_of entry_of entry_of_kind filler_of filler_of_kind within kind_of
bounds_read = refl

-- P8 is within 01's bounds: its answer is 01's, whose sets stand in four bytes each
abbrev eight : List ℕ
eight = 1 ∷ 2 ∷ 3 ∷ 4 ∷ 5 ∷ 6 ∷ 7 ∷ 8 ∷ []

pub p8_narrow : ((answer p8.bytes 14 sixteen).says ≡ (narrow_answer p8.bytes 14 eight).says)
    × ((x : ℕ) → x < 2 → set_in (answer p8.bytes 14 sixteen).output x ≡ set_at narrow_set_bytes (narrow_answer p8.bytes 14 eight).output x)
unfolding table_of reading read_body read_line read_code read_pair read_many read_header read_counts header_end role_count has_role_rows version_known marked role_of entry_of entry_of_kind filler_of filler_of_kind within kind_of
p8_narrow =
    let same = narrow_answer_lem p8.bytes (header_of p8.bytes) (table_of p8.bytes) refl 14 sixteen eight (omega arith) (omega arith) in
    (same.0, same.1 p8_solved)

pub p8_counts : Within narrow_bounds (header_of p8.bytes)
unfolding role_count has_role_rows
p8_counts = (narrow_counts (header_of p8.bytes)).1 (omega arith, omega arith, omega arith, omega arith, omega arith)
