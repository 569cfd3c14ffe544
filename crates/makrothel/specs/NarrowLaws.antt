-- Tables within 01's own bounds are answered as 01 answers them, with its output of four bytes for each variable.
--
--   narrow_counts == within these bounds are the counts that 01 bounds
--   narrow_answer_lem == WHAT IS READABLE WITHIN THEM GETS THE SAME NUMBER, COUNT AND SETS
use Rattle.std.specs.Prelude.{◌≡◌, ◌↔◌, List, ℕ, ◌+◌, ◌*◌, ◌^◌, ◌≤◌, ◌<◌}
use Rattle.std.proofs.Math.Path.{refl, sym, ap}
use Rattle.std.proofs.Common.{subst, ◌∙◌}
use native.Mathlib.Omega.{arith}
use Rattle.std.proofs.Math.Dec.{ltb→lt}
use Rattle.std.proofs.Math.ListN.{length, get_or}
use Rattle.std.proofs.Math.Pow.{pow_mono}
use Rattle.bounds.specs.Bounds.{bounds, set_bytes}
use Rattle.el.specs.TestLaws.{every_of_at}
use Rattle.el.specs.Table.{Table, atoms, role_order}
use Rattle.el.specs.Assignment.{Assignment, IsAssignment}
use Rattle.el.specs.Walk.{Outcome, solved, nothing, budget, outcome}
use Rattle.el.specs.First.{OutcomeSays}
use Rattle.el.proofs.OutcomeLaws.{outcome_says}
use Rattle.answer.specs.declared.Answer.{Answer}
use Rattle.answer.specs.declared.Answer.TheVariants.{Solved}
use Rattle.answer.specs.Handed.{handed}
use Rattle.table.specs.declared.Header.{Header}
use Rattle.table.specs.Reading.{readable, reading_within, reading, Wider}
use Rattle.table.specs.Bytes.{Within, IsTable}
use Rattle.table.specs.ReadLaws.{readable_read}
use Rattle.table.specs.WiderLaws.{readable_wider}
use Rattle.output.specs.Written.{set_at, set_in}
use Rattle.output.specs.WrittenLaws.{set_back}
use Rattle.makrothel.specs.Numbers.{Said}
use Rattle.makrothel.specs.Solve.{Answered, outcome_as, answer}
use Rattle.makrothel.specs.Narrow.{narrow_bounds, narrow_set_bytes, narrow_answer}
use Rattle.makrothel.specs.Demand1.{is_table}
use Rattle.makrothel.specs.Demand2.{reading_outcome, known, answer_outcome}

pub narrow_counts : (h : Header) → Within narrow_bounds h ↔ ((h.c + h.e ≤ 24) × (h.r ≤ 16) × (h.v ≤ 12) × (h.m ≤ 64) × (h.q ≤ 32))
narrow_counts h = (
  (λ w. (w.few_atoms, w.few_roles, w.few_variables, w.few_lines, w.few_role_rows)),
  λ w. let e : h.c + h.e ≤ 24 = w.0 in
      record { few_constants = omega arith; few_roles = w.1; few_variables = w.2; few_restrictions = omega arith; few_atoms = e; few_lines = w.3; few_role_rows = w.4 },
)

wider : Wider narrow_bounds bounds
wider =
    record { constants = omega arith; restrictions = omega arith; atoms = omega arith; roles = omega arith; variables = omega arith; lines = omega arith; left = omega arith; role_rows = omega arith }

module _ (s : List ℕ) (h : Header) (t : Table) (was : reading_within narrow_bounds s ≡ readable h t) where
  still : reading s ≡ readable h t
  unfolding reading
  still = readable_wider narrow_bounds bounds wider s h t was

  few : atoms t ≤ 24
  unfolding atoms
  few =
      let r = readable_read narrow_bounds s h t was in
      let e = r.1.same in
      let c : t.constants ≡ h.c = ap (λ (u : Table). u.constants) e in
      let n : length t.rows ≡ h.e = ap (λ (u : Table). length u.rows) e ∙ r.1.all_rows in
      let l : h.c + h.e ≤ 24 = r.0.counts.few_atoms in
      omega arith

  is : IsTable s t
  is = is_table s h t still

  -- with room both answers are the outcome of one walk
  narrow_outcome : (b : ℕ) (out : List ℕ) → narrow_set_bytes * t.variables ≤ length out → narrow_answer s b out ≡ outcome_as narrow_set_bytes (outcome (role_order t) t b) out
  unfolding narrow_answer
  narrow_outcome b out room = reading_outcome narrow_set_bytes (reading_within narrow_bounds s) h t b out was room

  small : (a : Assignment) → IsAssignment t a → (x : ℕ) → x < length a → get_or a x 0 < 2 ^ 24
  unfolding IsAssignment
  small a of x l =
      let one : get_or a x 0 < 2 ^ atoms t = ltb→lt (get_or a x 0) (2 ^ atoms t) (every_of_at _ a x 0 of.1 l) in
      let most : 2 ^ atoms t ≤ 2 ^ 24 = pow_mono few in
      omega arith

  module _ (b : ℕ) (out narrow : List ℕ) (room : set_bytes * t.variables ≤ length out) (narrow_room : narrow_set_bytes * t.variables ≤ length narrow) where
    abbrev Same : Answered → Answered → Type 0
    Same q r = (q.says ≡ r.says) × (Said Solved q.says → (x : ℕ) → x < t.variables → set_in q.output x ≡ set_at narrow_set_bytes r.output x)

    same : (o : Outcome) → OutcomeSays (role_order t) t b o → Same (outcome_as set_bytes o out) (outcome_as narrow_set_bytes o narrow)
    unfolding IsAssignment
    same (solved n a) w = (
      refl,
      λ said x l.
          let many : length a ≡ t.variables = w.2.0.0 in
          let low : get_or a x 0 < 2 ^ 24 = small a w.2.0 x (omega arith) in
          set_back set_bytes a out x (omega arith) (omega arith) ∙ sym (set_back narrow_set_bytes a narrow x (omega arith) (omega arith)),
    )
    same (nothing n) w = (refl, λ said. absurd (let z : 8 ≡ 0 = ap (λ (a : Answer). (handed a).number) said.1 in let y : ⊥ = omega arith in y))
    same (budget n) w = (refl, λ said. absurd (let z : 9 ≡ 0 = ap (λ (a : Answer). (handed a).number) said.1 in let y : ⊥ = omega arith in y))

    -- "THESE GET THE SAME NUMBER, COUNT AND SETS AS BEFORE WHEREVER THE OUTPUT HAS 8v BYTES"
    pub narrow_answer_lem : ((answer s b out).says ≡ (narrow_answer s b narrow).says)
        × (Said Solved (answer s b out).says → (x : ℕ) → x < t.variables → set_in (answer s b out).output x ≡ set_at narrow_set_bytes (narrow_answer s b narrow).output x)
    narrow_answer_lem =
        subst (λ (q : Answered). Same q (narrow_answer s b narrow)) (sym (answer_outcome s t is b out room))
        (subst (λ (r : Answered). Same (outcome_as set_bytes (outcome (role_order t) t b) out) r) (sym (narrow_outcome b narrow narrow_room))
        (same (outcome (role_order t) t b) (outcome_says (role_order t) t (known s t is) b)))
