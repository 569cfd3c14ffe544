-- Every full node in counting order, and what it is to be the first that passes a test.
--
--   extensions w r s == the nodes that choose r sets below w more than s, in counting order
--   Choices w r l    == l is r set numbers below w
--   keep p l         == those elements of l that pass p
--   FirstSays p w r s o == o is the least of the extensions of s that passes p, or none where none does
--   assignments t    == the assignments of t in counting order
--   SolutionSays under t o  == o is the first assignment of t that solves, or none where none does
--   OutcomeSays under t b o == what the outcome o says under the budget b
use Rattle.std.specs.Prelude.{◌≡◌, Bool, true, false, List, [], ◌∷◌, ◌++◌, ℕ, zero, suc, ◌^◌, ◌≤◌, ◌<◌, T}
use Rattle.std.proofs.Math.Option.{Option, none, some}
use Rattle.el.specs.Table.{Table, atoms}
use Rattle.el.specs.Assignment.{Assignment, IsAssignment, solves, Before}
use Rattle.el.specs.Walk.{Node, in_turn, count, Outcome, solved, nothing, budget}

unfoldable pub extensions : ℕ → ℕ → Node → List Node
extensions w zero s = s ∷ []
extensions w (suc r) s = in_turn w 0 (λ x. extensions w r (s ++ (x ∷ [])))

abbrev pub Choices : ℕ → ℕ → List ℕ → Type 0
Choices w zero [] = Unit {0}
Choices w zero (x ∷ l) = ⊥
Choices w (suc r) [] = ⊥
Choices w (suc r) (x ∷ l) = (x < w) × Choices w r l

unfoldable pub keep : (Node → Bool) → List Node → List Node
keep p [] = []
keep p (s ∷ l) = elim (p s) [ true ↦ s ∷ keep p l | false ↦ keep p l ]

module _ (p : Node → Bool) (w : ℕ) where
  -- what the first of the extensions of s says
  abbrev pub FirstSays : ℕ → Node → Option Node → Type 0
  FirstSays r s (some a) =
      (l : List ℕ) × Choices w r l × (a ≡ s ++ l) × (p a ≡ true) × ((m : List ℕ) → Choices w r m → p (s ++ m) ≡ true → Before m l → ⊥)
  FirstSays r s none = (m : List ℕ) → Choices w r m → p (s ++ m) ≡ true → ⊥

unfoldable pub assignments : Table → List Assignment
assignments t = extensions (2 ^ atoms t) t.variables []

module _ (under : ℕ → ℕ → Bool) (t : Table) where
  -- what the first one says, as the specification speaks of assignments
  abbrev pub SolutionSays : Option Assignment → Type 0
  SolutionSays (some a) = IsAssignment t a × T (solves under t a) × ((m : Assignment) → IsAssignment t m → T (solves under t m) → Before m a → ⊥)
  SolutionSays none = (m : Assignment) → IsAssignment t m → T (solves under t m) → ⊥

  abbrev pub OutcomeSays : ℕ → Outcome → Type 0
  OutcomeSays b (solved n a) = (n ≡ count under t) × (n ≤ b) × SolutionSays (some a)
  OutcomeSays b (nothing n) = (n ≡ count under t) × (n ≤ b) × SolutionSays none
  OutcomeSays b (budget n) = (n ≡ b) × (b < count under t)
