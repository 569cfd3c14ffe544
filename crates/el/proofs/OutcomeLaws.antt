-- What the outcome of the walk says of the assignments that solve.
--
--   first_solution  == the first node that ends the walk is the first assignment that solves
--   outcome_within  == within the budget the outcome is that first assignment, or that there is none
--   outcome_beyond  == beyond the budget it is the budget
--   outcome_says    == what each outcome says, and when it is given
--   more_budget     == a larger budget gives the same outcome
use Rattle.std.specs.Prelude.{◌≡◌, refl, Bool, false, ◌&&◌, ℕ, zero, suc, ◌^◌, ◌≤◌, ◌<◌, T, ltb}
use Rattle.std.proofs.Common.{sym, subst, ◌∙◌, ltb→lt, lt→ltb, le-leb, ne_eqb}
use Rattle.std.proofs.Math.Path.{ap}
use Rattle.std.proofs.Math.Bool.{not, and-false}
use mathlib.Core.List.{List, [], ◌∷◌, ◌++◌}
use Rattle.std.proofs.Math.Option.{Option, none, some}
use native.Mathlib.Omega.{arith}
use Rattle.std.proofs.Math.Decide.{dec_le}
use Rattle.std.proofs.Math.ListN.{length}
use Rattle.std.proofs.lemmas.Bool.{lt-leb}
use Rattle.el.specs.Test.{every_of}
use Rattle.el.specs.Table.{Table, atoms, declared}
use Rattle.el.specs.Assignment.{Assignment, IsAssignment, solves, Before}
use Rattle.el.specs.Walk.{Node, dead, full, ends, subtree, nodes, first_of, count, budget, ended, outcome}
use Rattle.el.specs.TestLaws.{is_true, true_is, and_make, and_left, and_right}
use Rattle.el.specs.FirstLaws.{first_least, first_same, live_full}
use Rattle.el.proofs.NodeLaws.{set_stays, dead_hides, full_ends}
use Rattle.el.specs.First.{extensions, Choices, FirstSays, assignments, SolutionSays, OutcomeSays}

-- an assignment of t is a choice of as many sets as there are variables
choices_assignment : (t : Table) (r : ℕ) (a : List ℕ) → Choices (2 ^ atoms t) r a → (length a ≡ r) × T (every_of (λ s. ltb s (2 ^ atoms t)) a)
unfolding every_of
choices_assignment t zero [] c = (refl, tt)
choices_assignment t zero (x ∷ a) c = absurd c
choices_assignment t (suc r) [] c = absurd c
choices_assignment t (suc r) (x ∷ a) c =
    let k = choices_assignment t r a c.1 in
    (ap suc k.0, and_make (ltb x (2 ^ atoms t)) (every_of (λ s. ltb s (2 ^ atoms t)) a) (lt→ltb x (2 ^ atoms t) c.0) k.1)

assignment_choices : (t : Table) (r : ℕ) (a : List ℕ) → length a ≡ r → T (every_of (λ s. ltb s (2 ^ atoms t)) a) → Choices (2 ^ atoms t) r a
unfolding every_of
assignment_choices t zero [] e h = tt
assignment_choices t zero (x ∷ a) e h = let q : suc (length a) ≡ 0 = e in absurd (let z : ⊥ = omega arith in z)
assignment_choices t (suc r) [] e h = let q : 0 ≡ suc r = e in absurd (let z : ⊥ = omega arith in z)
assignment_choices t (suc r) (x ∷ a) e h =
    let q : suc (length a) ≡ suc r = e in (
      ltb→lt x (2 ^ atoms t) (and_left (ltb x (2 ^ atoms t)) (every_of (λ s. ltb s (2 ^ atoms t)) a) h),
      assignment_choices t r a (omega arith) (and_right (ltb x (2 ^ atoms t)) (every_of (λ s. ltb s (2 ^ atoms t)) a) h),
    )

module _ (under : ℕ → ℕ → Bool) (t : Table) (known : T (declared t)) where
  not_full : (s : Node) → length s < t.variables → ends under t s ≡ false
  unfolding ends full
  not_full s h = let q : length s ≡ t.variables → ⊥ = omega arith in ap (λ (b : Bool). not (dead under t s) && b) (ne_eqb (length s) t.variables q) ∙ and-false (not (dead under t s))

  -- THE FIRST NODE THAT ENDS THE WALK IS THE FIRST ASSIGNMENT THAT SOLVES
  pub first_solution : first_of (ends under t) (nodes under t) ≡ first_of (solves under t) (assignments t)
  unfolding nodes assignments
  first_solution =
      first_same (ends under t) (solves under t) (subtree under t t.variables []) (extensions (2 ^ atoms t) t.variables [])
      (live_full (dead under t) (solves under t) t.variables (2 ^ atoms t) (λ n l e. dead_hides under t known n (n ++ l) (set_stays n l) e)
      (ends under t) (λ s h. full_ends under t known s h) (λ s h. not_full s h) t.variables [] (omega arith))

  pub outcome_within : (b : ℕ) → count under t ≤ b → outcome under t b ≡ ended (count under t) (first_of (solves under t) (assignments t))
  unfolding outcome
  outcome_within b h = rw (le-leb (count under t) b h, outcome) (ap (ended (count under t)) first_solution)

  pub outcome_beyond : (b : ℕ) → b < count under t → outcome under t b ≡ budget b
  unfolding outcome
  outcome_beyond b h = rw (lt-leb (count under t) b h, outcome)

  first_says : SolutionSays under t (first_of (solves under t) (assignments t))
  first_says = go (first_of (solves under t) (assignments t)) (unfold assignments in first_least (solves under t) (2 ^ atoms t) t.variables [])
    where
      into : (m : Assignment) → IsAssignment t m → Choices (2 ^ atoms t) t.variables m
      into m i = unfold IsAssignment in assignment_choices t t.variables m i.0 i.1

      go : (o : Option Assignment) → FirstSays (solves under t) (2 ^ atoms t) t.variables [] o → SolutionSays under t o
      go (some a) f = (
        subst (IsAssignment t) (sym f.2) (unfold IsAssignment in choices_assignment t t.variables f.0 f.1),
        true_is (solves under t a) f.3,
        λ m i h b. f.4 m (into m i) (is_true (solves under t m) h) (subst (Before m) f.2 b),
      )
      go none f = λ m i h. f m (into m i) (is_true (solves under t m) h)

  -- ── what each outcome says ──────────────────────────────────────────────
  pub outcome_says : (b : ℕ) → OutcomeSays under t b (outcome under t b)
  outcome_says b = go (dec_le (count under t) b)
    where
      at : (o : Option Assignment) → SolutionSays under t o → count under t ≤ b → OutcomeSays under t b (ended (count under t) o)
      at (some a) s h = (refl, h, s)
      at none s h = (refl, h, s)

      go : Dec (count under t ≤ b) → OutcomeSays under t b (outcome under t b)
      go (yes h) = subst (OutcomeSays under t b) (sym (outcome_within b h)) (at (first_of (solves under t) (assignments t)) first_says h)
      go (no h) = subst (OutcomeSays under t b) (sym (outcome_beyond b (omega arith))) (refl, omega arith)

  pub more_budget : (b c : ℕ) → count under t ≤ b → b ≤ c → outcome under t c ≡ outcome under t b
  more_budget b c h l = outcome_within c (omega arith) ∙ sym (outcome_within b h)
