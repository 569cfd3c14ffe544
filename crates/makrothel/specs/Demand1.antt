-- DEMAND 1: every byte string, every budget and every output gets the answer that belongs to it, and a refusal changes nothing.
--
--   is_table, readable_table == a readable input is the bytes of its table
--   answer_refused, answer_short == the answer to a refusal of the reader, and where the output is too short
--   demand_1_row     == every answer is a row of the table of answers
--   demand_1_only    == and the row that belongs to an input is its answer
--   demand_1_number  == so no number is above that of "budget"
--   demand_1_refused == a refusal of the reader is said exactly if the bytes are so refused, with its place
--   demand_1_short   == "output shorter" is said exactly if the table is readable and the output shorter than 8v
--   demand_1_kept    == under every answer but "solved" the output stays
--   demand_1_written == under "solved" the bytes from 8v on stay, and so does the output's length
--   demand_1_read_refused, demand_1_read == the reader's answer to bytes that are refused, and to a readable table
use Rattle.std.specs.Prelude.{◌≡◌, refl, ◌↔◌, ℕ, ◌*◌, ◌≤◌, ◌<◌, T}
use Rattle.std.proofs.Common.{sym, ◌∙◌, inl, inr, arith, lt-ltb}
use Rattle.std.proofs.Math.Path.{ap, subst}
use mathlib.Core.List.{List}
use Rattle.std.proofs.Math.Decide.{dec_le}
use Rattle.std.proofs.Math.ListN.{length, drop}
use Rattle.bounds.specs.Bounds.{set_bytes}
use Rattle.el.specs.Table.{Table}
use Rattle.el.specs.Assignment.{IsAssignment}
use Rattle.answer.specs.declared.Answer.{Answer}
use Rattle.answer.specs.declared.Answer.TheVariants.{Solved, OutputShort, Budget}
use Rattle.answer.specs.Handed.{handed}
use Rattle.table.specs.declared.Header.{Header}
use Rattle.table.specs.Reading.{Reading, refusal, readable, reading, the_table, table_of, is_readable}
use Rattle.table.specs.Bytes.{counts_of, IsTable}
use Rattle.table.specs.BytesLaws.{table_read, readable_exactly}
use Rattle.table.specs.Refusal.{RefusedAt}
use Rattle.table.specs.RefusalLaws.{refused_number, refused_means, means_refusal}
use Rattle.output.specs.Written.{written}
use Rattle.output.specs.WrittenLaws.{written_length, written_behind}
use Rattle.makrothel.specs.Answer.{read_as, zeros, read_answer}
use Rattle.makrothel.specs.Numbers.{FirstSolving, N, NumberAt, refused, too_short, is_solved, is_none, is_budget, Said, OfReader}
use Rattle.makrothel.specs.Solve.{Answered, answered, table_as, reading_as, answer}
use Rattle.makrothel.specs.Demand2.{table_is, demand_2_solved, demand_2_none, demand_2_budget, demand_2_decides}

-- a readable input is the bytes of its table
pub is_table : (s : List ℕ) (h : Header) (t : Table) → reading s ≡ readable h t → IsTable s t
unfolding IsTable
is_table s h t e = let w = (readable_exactly s h t).0 e in (h.version, w.0, w.1)

pub readable_table : (s : List ℕ) → T (is_readable (reading s)) → IsTable s (table_of s)
unfolding table_of
readable_table s ok = go (reading s) refl ok
  where
    go : (x : Reading) → reading s ≡ x → T (is_readable x) → IsTable s (the_table x)
    go (refusal why) e ok = absurd ok
    go (readable h t) e ok = is_table s h t e

module _ (s : List ℕ) (b : ℕ) (out : List ℕ) where
  -- the answer to a refusal of the reader
  pub answer_refused : (why : Answer) → RefusedAt s why → answer s b out ≡ answered why out
  unfolding answer
  answer_refused why r = ap (λ (x : Reading). reading_as set_bytes x b out) (means_refusal s why r)

  pub answer_short : (t : Table) → IsTable s t → length out < set_bytes * t.variables → answer s b out ≡ answered (OutputShort (set_bytes * t.variables)) out
  unfolding answer table_as
  answer_short t is l = ap (λ (r : Reading). reading_as set_bytes r b out) (table_read s t is).1 ∙ rw (lt-ltb (length out) (set_bytes * t.variables) l, table_as)

  abbrev Row : Answer → Type 0
  Row a = NumberAt s b (length out) a

  -- EVERY INPUT GETS A ROW OF THE TABLE OF ANSWERS
  pub demand_1_row : NumberAt s b (length out) (answer s b out).says
  demand_1_row = go (reading s) refl
    where
      said : (q : Answered) → answer s b out ≡ q → Row q.says → Row (answer s b out).says
      said q e = subst (λ (r : Answered). Row r.says) (sym e)

      walked : (t : Table) → IsTable s t → set_bytes * t.variables ≤ length out → Dec (N t ≤ b) → Row (answer s b out).says
      walked t is room (no l) = said _ (demand_2_budget s t is b out room (omega arith)) (is_budget t is room (omega arith))
      walked t is room (yes l) = elim (demand_2_decides s t is b out room l) [
        | inl w ↦ subst Row (sym w.0) (is_solved t is room l w.1.0 w.1.1)
        | inr w ↦ subst Row (sym w.0) (is_none t is room l w.1)
      ]

      read : (t : Table) → IsTable s t → Dec (set_bytes * t.variables ≤ length out) → Row (answer s b out).says
      read t is (yes room) = walked t is room (dec_le (N t) b)
      read t is (no l) = said _ (answer_short t is (omega arith)) (too_short t is (omega arith))

      go : (r : Reading) → reading s ≡ r → Row (answer s b out).says
      go (refusal why) e = said _ (answer_refused why (refused_means s why e)) (refused (refused_means s why e))
      go (readable h t) e = read t (is_table s h t e) (dec_le (set_bytes * t.variables) (length out))

  -- the output afterwards, by the row
  abbrev after : {a : Answer} → Row a → List ℕ
  after (refused r) = out
  after (too_short t i w) = out
  after (is_solved t i w l a f) = written a out
  after (is_none t i w l f) = out
  after (is_budget t i w l) = out

  row_is : (a : Answer) (r : Row a) → answer s b out ≡ answered a (after r)
  row_is a (refused r) = answer_refused a r
  row_is a (too_short t i w) = answer_short t i w
  row_is a (is_solved t i w l x f) = demand_2_solved s t i b out w l x f
  row_is a (is_none t i w l f) = demand_2_none s t i b out w l f
  row_is a (is_budget t i w l) = demand_2_budget s t i b out w l

  -- AND NO OTHER ROW IS SAID
  pub demand_1_only : (a : Answer) → NumberAt s b (length out) a → (answer s b out).says ≡ a
  demand_1_only a r = ap (λ (x : Answered). x.says) (row_is a r)

  pub demand_1_number : (handed (answer s b out).says).number ≤ (handed (Budget b)).number
  demand_1_number = go demand_1_row
    where
      go : {a : Answer} → Row a → (handed a).number ≤ (handed (Budget b)).number
      go (refused r) = let q = refused_number r in omega arith
      go (too_short t i w) = omega arith
      go (is_solved t i w l a f) = omega arith
      go (is_none t i w l n) = omega arith
      go (is_budget t i w l) = omega arith

  -- THE READER'S REFUSALS
  pub demand_1_refused : (why : Answer) → OfReader why → ((answer s b out).says ≡ why) ↔ RefusedAt s why
  demand_1_refused why of = ((λ e. subst (RefusedAt s) e (go demand_1_row (subst OfReader (sym e) of))), λ r. demand_1_only why (refused r))
    where
      go : {a : Answer} → Row a → OfReader a → RefusedAt s a
      go (refused r) o = r
      go (too_short t i w) o = absurd (omega (arith, o.1))
      go (is_solved t i w l a g) o = absurd (omega (arith, o.0))
      go (is_none t i w l g) o = absurd (omega (arith, o.1))
      go (is_budget t i w l) o = absurd (omega (arith, o.1))

  -- "OUTPUT SHORTER", OF 8v BYTES
  pub demand_1_short : Said OutputShort (answer s b out).says ↔ ((t : Table) × IsTable s t × (length out < set_bytes * t.variables))
  demand_1_short = ((λ w. go demand_1_row (ap (λ (a : Answer). (handed a).number) w.1)), λ w. (set_bytes * w.0.variables, demand_1_only _ (too_short w.0 w.1 w.2)))
    where
      go : {a : Answer} → Row a → (handed a).number ≡ (handed (OutputShort 0)).number → (t : Table) × IsTable s t × (length out < set_bytes * t.variables)
      go (refused r) e = let z = refused_number r in absurd (let y : ⊥ = omega arith in y)
      go (too_short t i w) e = (t, i, w)
      go (is_solved t i w l a g) e = absurd (let z : ⊥ = omega arith in z)
      go (is_none t i w l g) e = absurd (let z : ⊥ = omega arith in z)
      go (is_budget t i w l) e = absurd (let z : ⊥ = omega arith in z)

  -- UNDER EVERY ANSWER BUT "SOLVED" NO BYTE OF THE OUTPUT CHANGES
  pub demand_1_kept : (Said Solved (answer s b out).says → ⊥) → (answer s b out).output ≡ out
  demand_1_kept f = ap (λ (x : Answered). x.output) (row_is _ demand_1_row) ∙ go demand_1_row f
    where
      go : {a : Answer} (r : Row a) → (Said Solved a → ⊥) → after r ≡ out
      go (refused r) f = refl
      go (too_short t i w) f = refl
      go (is_solved t i w l a g) f = absurd (f (N t, refl))
      go (is_none t i w l g) f = refl
      go (is_budget t i w l) f = refl

  -- "SOLVED" CHANGES AT MOST THE FIRST 8v BYTES
  pub demand_1_written : Said Solved (answer s b out).says
      → (drop (set_bytes * (table_of s).variables) (answer s b out).output ≡ drop (set_bytes * (table_of s).variables) out) × (length (answer s b out).output ≡ length out)
  unfolding FirstSolving IsAssignment
  demand_1_written w = subst (λ (x : List ℕ). (drop (set_bytes * (table_of s).variables) x ≡ drop (set_bytes * (table_of s).variables) out) × (length x ≡ length out)) (sym (ap (λ (x : Answered). x.output) (row_is _ demand_1_row))) (go demand_1_row)
    where
      go : {a : Answer} (r : Row a) → (drop (set_bytes * (table_of s).variables) (after r) ≡ drop (set_bytes * (table_of s).variables) out) × (length (after r) ≡ length out)
      go (refused r) = (refl, refl)
      go (too_short t i w) = (refl, refl)
      go (is_solved t i w l a f) =
          let e : length a ≡ (table_of s).variables = f.0.0 ∙ ap (λ (u : Table). u.variables) (table_is s t i) in
          let z : length a ≡ t.variables = f.0.0 in
          (written_behind set_bytes (table_of s).variables a out e, written_length set_bytes a out (omega arith))
      go (is_none t i w l g) = (refl, refl)
      go (is_budget t i w l) = (refl, refl)

-- THE READER'S ANSWER: "0 to 6 with the same places, and the five counts (zeros when refused)"
pub demand_1_read_refused : (s : List ℕ) (why : Answer) → RefusedAt s why → read_answer (reading s) ≡ read_as why zeros
unfolding read_answer
demand_1_read_refused s why r = ap read_answer (means_refusal s why r)

pub demand_1_read : (s : List ℕ) (t : Table) → IsTable s t
    → read_answer (reading s)
    ≡ record { number = 0; place = 0; constants = t.constants; roles = t.roles; variables = t.variables; restrictions = length t.rows; lines = length t.lines; inclusions = length t.role_rows }
unfolding read_answer counts_of
demand_1_read s t is = ap read_answer (table_read s t is).1
