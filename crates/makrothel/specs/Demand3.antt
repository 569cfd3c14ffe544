-- DEMAND 3: an answer survives growth.
--
--   solved_row, none_row == an answer "solved" or "none" comes from a readable table with room, within the budget
--   demand_3_none     == "none" means that no descriptions of any depth, over any names, make every line true
--   demand_3_solved   == "solved" means that some descriptions do
--   demand_3_grown    == no growth of a "none" table is ever "solved", under any budget and output
--   demand_3_widened  == no growth without new lines of a "solved" table is ever "none"
--   demand_3_budget   == a larger budget with enough room gives the same number, count, place and bytes
use Rattle.std.specs.Prelude.{◌≡◌, ◌⊎◌, List, ℕ, ◌*◌, ◌≤◌, length, take}
use Rattle.std.proofs.Math.Path.{sym, ap, subst}
use Rattle.std.proofs.Common.{◌∙◌, inl, inr, arith}
use Rattle.std.proofs.Math.Dec.{T}
use Rattle.bounds.specs.Bounds.{set_bytes}
use Rattle.el.proofs.RoleLaws.{role_order_refl, role_order_trans}
use Rattle.el.specs.Table.{Table, declared, role_order}
use Rattle.el.specs.Meaning.{Substitution, makes}
use Rattle.el.specs.Assignment.{Assignment, IsAssignment, induced}
use Rattle.el.proofs.LocalityLaws.{locality, solving_substitution}
use Rattle.el.proofs.GrowthLaws.{order_grown, growth_back, growth_same}
use Rattle.answer.specs.declared.Answer.{Answer}
use Rattle.answer.specs.declared.Answer.TheVariants.{Solved, Nothing}
use Rattle.answer.specs.Handed.{handed}
use Rattle.table.specs.Reading.{table_of}
use Rattle.table.specs.Bytes.{IsTable}
use Rattle.table.specs.RefusalLaws.{refused_number}
use Rattle.output.specs.WrittenLaws.{written_start}
use Rattle.makrothel.specs.Solve.{Answered, answered, answer}
use Rattle.makrothel.specs.Grown.{Grown, SameLines, SameAnswer}
use Rattle.makrothel.specs.GrownLaws.{grown_grows, grown_lines}
use Rattle.makrothel.specs.Numbers.{FirstSolving, NoneSolves, N, NumberAt, refused, too_short, is_solved, is_none, is_budget, Said}
use Rattle.makrothel.specs.Demand1.{demand_1_row}
use Rattle.makrothel.specs.Demand2.{table_is, known, demand_2_solved, demand_2_none}

----------------------------------------------------------------------------------------------------
-- An answer "solved" or "none" comes from a readable table with room, within the budget

module _ (s : List ℕ) (b : ℕ) (out : List ℕ) where
  solved_row : Said Solved (answer s b out).says → (t : Table) × IsTable s t × (set_bytes * t.variables ≤ length out) × (N t ≤ b) × (a : Assignment) × FirstSolving t a
  solved_row w = go (demand_1_row s b out) (ap (λ (a : Answer). (handed a).number) w.1)
    where
      go : {a : Answer} → NumberAt s b (length out) a → (handed a).number ≡ (handed (Solved 0)).number → (t : Table) × IsTable s t × (set_bytes * t.variables ≤ length out) × (N t ≤ b) × (a : Assignment) × FirstSolving t a
      go (refused r) e = absurd (omega (arith, refused_number r))
      go (too_short t i w) e = absurd (omega (arith, e))
      go (is_solved t i w l a f) e = (t, i, w, l, a, f)
      go (is_none t i w l n) e = absurd (omega (arith, e))
      go (is_budget t i w l) e = absurd (omega (arith, e))

  none_row : Said Nothing (answer s b out).says → (t : Table) × IsTable s t × (set_bytes * t.variables ≤ length out) × (N t ≤ b) × NoneSolves t
  none_row w = go (demand_1_row s b out) (ap (λ (a : Answer). (handed a).number) w.1)
    where
      go : {a : Answer} → NumberAt s b (length out) a → (handed a).number ≡ (handed (Nothing 0)).number → (t : Table) × IsTable s t × (set_bytes * t.variables ≤ length out) × (N t ≤ b) × NoneSolves t
      go (refused r) e = absurd (omega (arith, refused_number r))
      go (too_short t i w) e = absurd (omega (arith, e))
      go (is_solved t i w l a f) e = absurd (omega (arith, e))
      go (is_none t i w l n) e = (t, i, w, l, n)
      go (is_budget t i w l) e = absurd (omega (arith, e))

known_table : (s : List ℕ) (t : Table) → IsTable s t → T (declared (table_of s))
known_table s t i = subst (λ (u : Table). T (declared u)) (table_is s t i) (known s t i)

----------------------------------------------------------------------------------------------------
-- What an answer says of substitutions

module _ (s : List ℕ) (b : ℕ) (out : List ℕ) where
  -- NONE: NO SUBSTITUTION, OF ANY DEPTH AND OVER ANY NAMES, MAKES EVERY LINE TRUE
  pub demand_3_none : Said Nothing (answer s b out).says → (γ : Substitution) → T (makes (role_order (table_of s)) (table_of s) γ) → ⊥
  unfolding NoneSolves
  demand_3_none e γ m =
      let w = none_row s b out e in
      let l = locality (role_order w.0) (role_order_refl w.0) (role_order_trans w.0) w.0 (known s w.0 w.1) γ (subst (λ (u : Table). T (makes (role_order u) u γ)) (sym (table_is s w.0 w.1)) m) in
      w.4 l.0 l.1 l.3

  -- SOLVED: SOME SUBSTITUTION DOES, THE ONE THAT THE REPORTED ASSIGNMENT INDUCES
  pub demand_3_solved : Said Solved (answer s b out).says → (γ : Substitution) × T (makes (role_order (table_of s)) (table_of s) γ)
  unfolding FirstSolving
  demand_3_solved e =
      let w = solved_row s b out e in (
        induced w.0 w.4,
        subst (λ (u : Table). T (makes (role_order u) u (induced w.0 w.4))) (table_is s w.0 w.1) (solving_substitution (role_order w.0) w.0 w.4 w.5.1),
      )

----------------------------------------------------------------------------------------------------
-- Growth

module _ (s u : List ℕ) (grown : Grown s u) (b c : ℕ) (out more : List ℕ) where
  -- the two tables order their roles alike
  ordered : role_order (table_of u) ≡ role_order (table_of s)
  ordered = order_grown (table_of s) (table_of u) (grown_grows s u grown)

  -- NO GROWTH OF A "NONE" TABLE IS EVER "SOLVED"
  pub demand_3_grown : Said Nothing (answer s b out).says → Said Solved (answer u c more).says → ⊥
  demand_3_grown e f =
      let w = none_row s b out e in
      let g = demand_3_solved u c more f in
      demand_3_none s b out e g.0 (growth_back (role_order (table_of s)) (table_of s) (table_of u) (known_table s w.0 w.1) (grown_grows s u grown) g.0 (subst (λ under. T (makes under (table_of u) g.0)) ordered g.1))

  -- NO GROWTH WITHOUT NEW LINES OF A "SOLVED" TABLE IS EVER "NONE"
  pub demand_3_widened : SameLines s u → Said Solved (answer s b out).says → Said Nothing (answer u c more).says → ⊥
  demand_3_widened same e f =
      let w = solved_row s b out e in
      let g = demand_3_solved s b out e in
      demand_3_none u c more f g.0
      (subst (λ under. T (makes under (table_of u) g.0)) (sym ordered)
      (growth_same (role_order (table_of s)) (table_of s) (table_of u) (known_table s w.0 w.1) (grown_grows s u grown) (grown_lines s u grown same) g.0 g.1))

----------------------------------------------------------------------------------------------------
-- A larger budget

module _ (s : List ℕ) (b c : ℕ) (out more : List ℕ) where
  same : (a : Answer) (o p : List ℕ) → answer s b out ≡ answered a o → answer s c more ≡ answered a p
      → (Said Solved a → take (set_bytes * (table_of s).variables) o ≡ take (set_bytes * (table_of s).variables) p) → SameAnswer s (answer s b out) (answer s c more)
  same a o p x y h = record {
    says = ap (λ (q : Answered). q.says) x ∙ sym (ap (λ (q : Answered). q.says) y);
    bytes = λ w. let k = set_bytes * (table_of s).variables in ap (λ (q : Answered). take k q.output) x ∙ h (w.0, sym (ap (λ (q : Answered). q.says) x) ∙ w.1) ∙ sym (ap (λ (q : Answered). take k q.output) y);
  }

  -- A LARGER BUDGET WITH ENOUGH ROOM GIVES THE SAME ANSWER, BYTES AND COUNT
  pub demand_3_budget : Said Solved (answer s b out).says ⊎ Said Nothing (answer s b out).says → b ≤ c → set_bytes * (table_of s).variables ≤ length more
      → SameAnswer s (answer s b out) (answer s c more)
  unfolding FirstSolving IsAssignment
  demand_3_budget (inl e) l r =
      let w = solved_row s b out e in
      let h : w.0.variables ≡ (table_of s).variables = ap (λ (t : Table). t.variables) (table_is s w.0 w.1) in
      same _ _ _ (demand_2_solved s w.0 w.1 b out w.2 w.3 w.4 w.5) (demand_2_solved s w.0 w.1 c more (omega arith) (omega (arith, w.3)) w.4 w.5)
      (λ _. written_start set_bytes (table_of s).variables w.4 out (w.5.0.0 ∙ h) ∙ sym (written_start set_bytes (table_of s).variables w.4 more (w.5.0.0 ∙ h)))
  demand_3_budget (inr e) l r =
      let w = none_row s b out e in
      let h : w.0.variables ≡ (table_of s).variables = ap (λ (t : Table). t.variables) (table_is s w.0 w.1) in
      same _ _ _ (demand_2_none s w.0 w.1 b out w.2 w.3 w.4) (demand_2_none s w.0 w.1 c more (omega arith) (omega (arith, w.3)) w.4)
      (λ z. let y : (handed (Nothing (N w.0))).number ≡ (handed (Solved z.0)).number = ap (λ (a : Answer). (handed a).number) z.1 in absurd (omega (arith, y)))
