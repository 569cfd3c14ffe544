-- What of a longer input the report looks at, and what it lists.
--
--   answer_first == the first 780 bytes of an input are answered as the whole input is
--   longer_input == "a longer input gives the same answer": and so they are reported
--   lines_same   == assignments that give the same sets are listed alike
--   found_listed == THE ASSIGNMENT THAT WAS FOUND IS LISTED
use Rattle.std.specs.Prelude.{◌≡◌, refl, List, ◌++◌, ℕ, zero, suc, ◌*◌, ◌^◌, ◌≤◌, ◌<◌, take}
use Rattle.std.proofs.Common.{sym, ap, ap₂, ◌∙◌, le-ltb}
use native.Mathlib.Omega.{arith}
use Rattle.std.proofs.Math.Dec.{ltb, ltb→lt}
use Rattle.std.proofs.Math.ListN.{length, get_or}
use Rattle.std.proofs.Math.Pow.{pow_mono}
use Rattle.bounds.specs.Bounds.{max_atoms, max_variables, set_bytes, set_numbers}
use Rattle.el.specs.TestLaws.{every_of_at}
use Rattle.el.specs.Table.{Table, atoms}
use Rattle.el.specs.Assignment.{Assignment, IsAssignment, set_of}
use Rattle.answer.specs.declared.Answer.TheVariants.{Solved}
use Rattle.answer.specs.Handed.{handed}
use Rattle.table.specs.Reading.{Reading, the_table, table_of, reading}
use Rattle.table.specs.Bytes.{counts_of, Fits, IsTable, enough_length}
use Rattle.table.specs.LengthLaws.{first_bytes}
use Rattle.output.specs.Written.{set_in, written}
use Rattle.output.specs.WrittenLaws.{written_length, set_back}
use Rattle.text.specs.Listing.{variable_line, variable_lines, listing_text, first_line, under_number, solved_text}
use Rattle.makrothel.specs.Numbers.{FirstSolving, N}
use Rattle.makrothel.specs.Solve.{Answered, reading_as, answer}
use Rattle.makrothel.specs.Demand2.{table_is, demand_2_solved}
use Rattle.listing.specs.Report.{listing_budget, listing_output, answer_text, report_text}

pub answer_first : (s : List ℕ) (b : ℕ) (out : List ℕ) → answer (take enough_length s) b out ≡ answer s b out
unfolding answer
answer_first s b out = ap (λ (r : Reading). reading_as set_bytes r b out) (first_bytes s)

pub longer_input : (s : List ℕ) → report_text (take enough_length s) ≡ report_text s
unfolding report_text answer_text listing_text table_of
longer_input s =
    ap (λ (r : Reading). answer_under (the_table r) (answer (take enough_length s) listing_budget listing_output)) (first_bytes s)
    ∙ ap (answer_under (the_table (reading s))) (answer_first s listing_budget listing_output)
  where
    answer_under : Table → Answered → List ℕ
    answer_under t a = first_line (handed a.says) ++ under_number (handed a.says).number (solved_text t a.output)

pub lines_same : (t : Table) (a b : ℕ → ℕ) (n : ℕ) → ((x : ℕ) → x < n → a x ≡ b x) → variable_lines t a n ≡ variable_lines t b n
unfolding variable_lines
lines_same t a b zero h = refl
lines_same t a b (suc n) h = ap₂ ◌++◌ (lines_same t a b n (λ x l. h x (omega arith))) (ap (λ (s : ℕ). variable_line t s n) (h n (omega arith)))

module _ (n : ℕ) (t : Table) (fits : Fits n t) (a : Assignment) (f : FirstSolving t a) where
  few_variables : t.variables ≤ max_variables
  unfolding Fits counts_of
  few_variables = fits.counts.few_variables

  -- a set of a table within its bounds is a set number
  set_number : (x : ℕ) → x < length a → get_or a x 0 < set_numbers
  unfolding Fits counts_of atoms FirstSolving IsAssignment
  set_number x l =
      let few : 2 ^ atoms t ≤ 2 ^ max_atoms = pow_mono fits.counts.few_atoms in
      let one : get_or a x 0 < 2 ^ atoms t = ltb→lt (get_or a x 0) (2 ^ atoms t) (every_of_at (λ s. ltb s (2 ^ atoms t)) a x 0 f.0.1 l) in
      omega arith

  listed : (out : List ℕ) → set_bytes * t.variables ≤ length out → solved_text t (written a out) ≡ variable_lines t (set_of a) t.variables
  unfolding solved_text set_of FirstSolving IsAssignment
  listed out room =
      let e : length a ≡ t.variables = f.0.0 in
      let long : length (written a out) ≡ length out = written_length set_bytes a out (omega arith) in
      rw (le-ltb (length (written a out)) (set_bytes * t.variables) (omega arith), solved_text)
      (lines_same t (set_in (written a out)) (set_of a) t.variables (λ x l. set_back set_bytes a out x (omega arith) (set_number x (omega arith))))

-- THE ASSIGNMENT THAT WAS FOUND IS LISTED
pub found_listed : (s : List ℕ) (t : Table) → IsTable s t → N t ≤ listing_budget → (a : Assignment) → FirstSolving t a
    → report_text s ≡ first_line (handed (Solved (N t))) ++ variable_lines t (set_of a) t.variables
unfolding IsTable report_text answer_text listing_text
found_listed s t is l a f =
    let few : t.variables ≤ max_variables = few_variables is.0 t is.2 a f in
    ap (answer_text s) (demand_2_solved s t is listing_budget listing_output (omega arith) l a f)
    ∙ ap (λ (u : Table). first_line (handed (Solved (N t))) ++ solved_text u (written a listing_output)) (sym (table_is s t is))
    ∙ ap (λ (x : List ℕ). first_line (handed (Solved (N t))) ++ x) (listed is.0 t is.2 a f listing_output (omega arith))
