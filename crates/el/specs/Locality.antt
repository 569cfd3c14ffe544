-- Locality: the assignment that a substitution gives, and what is said of it.
--
--   number n p                 == the number below 2 ^ n whose bit i says p i
--   list_to n f                 == f 0, f 1 and so on, n of them
--   local_set under t γ x       == the set number of the atoms that γ's value at x lies below
--   local_assignment under t γ  == the assignment that gives each variable this set
--   IsLocal under t γ a        == a's set of X holds exactly the non-variable atoms D with γ(X) below γ(D)
--   Unifiable under t          == some substitution makes every line of t true
--   Solvable under t           == some assignment solves t
use Rattle.std.specs.Prelude.{◌≡◌, Bool, List, [], ◌∷◌, ℕ, zero, suc, ◌+◌, ◌*◌, ◌<◌, T}
use Rattle.el.specs.Test.{bit}
use Rattle.el.specs.Description.{below}
use Rattle.el.specs.Table.{Table, atoms}
use Rattle.el.specs.Meaning.{Substitution, makes}
use Rattle.el.specs.Assignment.{Assignment, set_of, IsAssignment, atom_under, Solves}
use Rattle.el.specs.Rank.{one}

-- "bit i of a variable's set number says that atom i is in"
unfoldable pub number : ℕ → (ℕ → Bool) → ℕ
number zero p = 0
number (suc n) p = one (p 0) + 2 * number n (λ i. p (suc i))

unfoldable pub list_to : ℕ → (ℕ → ℕ) → List ℕ
list_to zero f = []
list_to (suc n) f = f 0 ∷ list_to n (λ i. f (suc i))

module _ (under : ℕ → ℕ → Bool) (t : Table) where
  unfoldable pub local_set : Substitution → ℕ → ℕ
  local_set γ x = number (atoms t) (λ i. below under (γ x) (atom_under t γ i))

  unfoldable pub local_assignment : Substitution → Assignment
  local_assignment γ = list_to t.variables (local_set γ)

  unfoldable pub IsLocal : Substitution → Assignment → Type 0
  IsLocal γ a = (x i : ℕ) → x < t.variables → i < atoms t → bit i (set_of a x) ≡ below under (γ x) (atom_under t γ i)

  unfoldable pub Unifiable : Type 0
  Unifiable = (γ : Substitution) × T (makes under t γ)

  unfoldable pub Solvable : Type 0
  Solvable = (a : Assignment) × IsAssignment t a × Solves under t a
