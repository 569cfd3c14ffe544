-- DEMAND 2: what the solver answers to a readable table with room.
--
--   table_is         == a readable table's table
--   known            == a readable table declares all it names
--   reading_outcome, answer_outcome == with room the answer is the outcome of the walk
--   first_unique     == there is at most one first assignment that solves
--   demand_2_solved  == within the budget, the first assignment that solves is answered: "solved", count N, and its sets written
--   demand_2_none    == within the budget, where none solves: "none", count N, and the output as it was
--   demand_2_budget  == beyond the budget b: "budget", count b, and the output as it was
--   demand_2_no_budget == so with budget 0 the answer is "budget", count 0
--   demand_2_decides == within the budget some assignment is the first that solves, or none solves
--   demand_2_solved_exactly, demand_2_none_exactly, demand_2_budget_exactly == so each is answered exactly then
use Rattle.std.specs.Prelude.{◌≡◌, ◌↔◌, ◌⊎◌, List, ℕ, ◌*◌, ◌≤◌, ◌<◌, T, length}
use Rattle.std.proofs.Math.Path.{sym, ap}
use Rattle.std.proofs.Common.{subst, ◌∙◌, inl, le-ltb}
use Rattle.std.proofs.Math.Logic.{inr}
use native.Mathlib.Omega.{arith}
use Rattle.std.proofs.Math.Decide.{dec_le}
use Rattle.bounds.specs.Bounds.{set_bytes}
use Rattle.el.specs.Table.{Table, declared, role_order}
use Rattle.el.specs.Assignment.{Assignment, Solves, solves, Before}
use Rattle.el.specs.Walk.{Outcome, solved, nothing, budget, outcome}
use Rattle.el.specs.CountingLaws.{counting_order}
use Rattle.el.specs.CountLaws.{count_some}
use Rattle.el.proofs.LocalityLaws.{solves_means}
use Rattle.el.proofs.OutcomeLaws.{outcome_says, outcome_beyond}
use Rattle.el.specs.First.{OutcomeSays}
use Rattle.answer.specs.declared.Answer.{Answer}
use Rattle.answer.specs.declared.Answer.TheVariants.{Solved, Nothing, Budget}
use Rattle.answer.specs.Handed.{handed}
use Rattle.table.specs.declared.Header.{Header}
use Rattle.table.specs.Reading.{Reading, readable, reading, the_table, table_of, is_readable}
use Rattle.table.specs.Bytes.{IsTable}
use Rattle.table.specs.BytesLaws.{table_read}
use Rattle.table.specs.LayoutLaws.{layout}
use Rattle.output.specs.Written.{written}
use Rattle.makrothel.specs.Numbers.{FirstSolving, NoneSolves, N, Said}
use Rattle.makrothel.specs.Solve.{Answered, answered, outcome_as, table_as, reading_as, answer}

pub first_unique : (t : Table) (a b : Assignment) → FirstSolving t a → FirstSolving t b → a ≡ b
unfolding FirstSolving
first_unique t a b f g = go ((counting_order t).total a b f.0 g.0)
  where
    go : Before a b ⊎ (a ≡ b) ⊎ Before b a → a ≡ b
    go (inl l) = absurd (g.2 a f.0 f.1 l)
    go (inr (inl e)) = e
    go (inr (inr l)) = absurd (f.2 b g.0 g.1 l)

-- not both: some assignment is the first that solves, and none solves
first_none : (t : Table) (a : Assignment) → FirstSolving t a → NoneSolves t → ⊥
unfolding FirstSolving NoneSolves
first_none t a f n = n a f.0 f.1

-- with room a readable table is answered by the outcome of the walk, whatever the width of a set
pub reading_outcome : (k : ℕ) (r : Reading) (h : Header) (t : Table) (b : ℕ) (out : List ℕ) → r ≡ readable h t → k * t.variables ≤ length out
    → reading_as k r b out ≡ outcome_as k (outcome (role_order t) t b) out
unfolding table_as
reading_outcome k r h t b out e room = ap (λ (x : Reading). reading_as k x b out) e ∙ rw (le-ltb (length out) (k * t.variables) room, table_as)

module _ (s : List ℕ) (t : Table) (is : IsTable s t) where
  pub table_is : t ≡ table_of s
  unfolding table_of
  table_is = sym (ap the_table (table_read s t is).1)

  -- a readable table declares all it names
  pub known : T (declared t)
  known =
      subst (λ (u : Table). T (declared u)) (sym table_is)
      (layout s (subst (λ (r : Reading). T (is_readable r)) (sym (table_read s t is).1) tt)).all_declared

module _ (s : List ℕ) (t : Table) (is : IsTable s t) (b : ℕ) (out : List ℕ) (room : set_bytes * t.variables ≤ length out) where
  pub answer_outcome : answer s b out ≡ outcome_as set_bytes (outcome (role_order t) t b) out
  unfolding answer
  answer_outcome = reading_outcome set_bytes (reading s) _ t b out (table_read s t is).1 room

  -- BUDGET
  pub demand_2_budget : b < N t → answer s b out ≡ answered (Budget b) out
  demand_2_budget over = answer_outcome ∙ ap (λ (o : Outcome). outcome_as set_bytes o out) (outcome_beyond (role_order t) t (known s t is) b over)

  -- "any readable table with budget 0 and enough room gives 9, count 0"
  pub demand_2_no_budget : b ≡ 0 → answer s b out ≡ answered (Budget 0) out
  demand_2_no_budget z = let some : 0 < N t = count_some (role_order t) t in demand_2_budget (omega arith) ∙ ap (λ (k : ℕ). answered (Budget k) out) z

  -- the two answers within the budget
  abbrev Within : Type 0
  Within = ((a : Assignment) × FirstSolving t a × (answer s b out ≡ answered (Solved (N t)) (written a out))) ⊎ (NoneSolves t × (answer s b out ≡ answered (Nothing (N t)) out))

  within : N t ≤ b → Within
  within l = go (outcome (role_order t) t b) (outcome_says (role_order t) t (known s t is) b) answer_outcome
    where
      bool : (m : Assignment) → Solves (role_order t) t m → T (solves (role_order t) t m)
      bool m = (solves_means (role_order t) t (known s t is) m).1

      go : (o : Outcome) → OutcomeSays (role_order t) t b o → answer s b out ≡ outcome_as set_bytes o out → Within
      go (solved n a) w e =
          inl (
            a,
            (unfold FirstSolving in (w.2.0, (solves_means (role_order t) t (known s t is) a).0 w.2.1, λ m i g l. w.2.2 m i (bool m g) l)),
            e ∙ ap (λ (k : ℕ). answered (Solved k) (written a out)) w.0,
          )
      go (nothing n) w e = inr ((unfold NoneSolves in λ m i g. w.2 m i (bool m g)), e ∙ ap (λ (k : ℕ). answered (Nothing k) out) w.0)
      go (budget n) w e = absurd (let z : b < N t = w.1 in let y : ⊥ = omega arith in y)

  -- SOLVED
  pub demand_2_solved : N t ≤ b → (a : Assignment) → FirstSolving t a → answer s b out ≡ answered (Solved (N t)) (written a out)
  demand_2_solved l a f = elim (within l) [
    | inl w ↦ w.2 ∙ ap (λ (x : Assignment). answered (Solved (N t)) (written x out)) (first_unique t w.0 a w.1 f)
    | inr w ↦ absurd (first_none t a f w.0)
  ]

  -- NONE
  pub demand_2_none : N t ≤ b → NoneSolves t → answer s b out ≡ answered (Nothing (N t)) out
  demand_2_none l n = elim (within l) [ inl w ↦ absurd (first_none t w.0 w.1 n) | inr w ↦ w.1 ]

  -- WITHIN THE BUDGET ONE OF THE TWO IS ANSWERED
  pub demand_2_decides : N t ≤ b
      → (((answer s b out).says ≡ Solved (N t)) × ((a : Assignment) × FirstSolving t a)) ⊎ (((answer s b out).says ≡ Nothing (N t)) × NoneSolves t)
  demand_2_decides l = elim (within l) [
    | inl w ↦ inl (ap (λ (x : Answered). x.says) w.2, (w.0, w.1))
    | inr w ↦ inr (ap (λ (x : Answered). x.says) w.1, w.0)
  ]

  -- of the three answers two are never one
  apart : {a c : Answer} → (answer s b out).says ≡ a → (answer s b out).says ≡ c → ((handed a).number ≡ (handed c).number → ⊥) → ⊥
  apart p q f = f (ap (λ (x : Answer). (handed x).number) (sym p ∙ q))

  beyond : b < N t → (answer s b out).says ≡ Budget b
  beyond over = ap (λ (x : Answered). x.says) (demand_2_budget over)

  pub demand_2_budget_exactly : Said Budget (answer s b out).says ↔ (b < N t)
  demand_2_budget_exactly = ((λ g. go g (dec_le (N t) b)), λ over. (b, beyond over))
    where
      go : Said Budget (answer s b out).says → Dec (N t ≤ b) → b < N t
      go g (no l) = omega arith
      go g (yes l) = elim (demand_2_decides l) [ inl w ↦ absurd (apart g.1 w.0 (λ z. omega arith)) | inr w ↦ absurd (apart g.1 w.0 (λ z. omega arith)) ]

  pub demand_2_solved_exactly : Said Solved (answer s b out).says ↔ ((N t ≤ b) × ((a : Assignment) × FirstSolving t a))
  demand_2_solved_exactly = ((λ g. go g (dec_le (N t) b)), λ w. (N t, ap (λ (x : Answered). x.says) (demand_2_solved w.0 w.1.0 w.1.1)))
    where
      go : Said Solved (answer s b out).says → Dec (N t ≤ b) → (N t ≤ b) × ((a : Assignment) × FirstSolving t a)
      go g (no l) = absurd (apart g.1 (beyond (omega arith)) (λ z. omega arith))
      go g (yes l) = elim (demand_2_decides l) [ inl w ↦ (l, w.1) | inr w ↦ absurd (apart g.1 w.0 (λ z. omega arith)) ]

  pub demand_2_none_exactly : Said Nothing (answer s b out).says ↔ ((N t ≤ b) × NoneSolves t)
  demand_2_none_exactly = ((λ g. go g (dec_le (N t) b)), λ w. (N t, ap (λ (x : Answered). x.says) (demand_2_none w.0 w.1)))
    where
      go : Said Nothing (answer s b out).says → Dec (N t ≤ b) → (N t ≤ b) × NoneSolves t
      go g (no l) = absurd (apart g.1 (beyond (omega arith)) (λ z. omega arith))
      go g (yes l) = elim (demand_2_decides l) [ inl w ↦ absurd (apart g.1 w.0 (λ z. omega arith)) | inr w ↦ (l, w.1) ]
