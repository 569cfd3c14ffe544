-- The walk: nodes, and the list of nodes that it goes through.
--
--   Node                == the set numbers chosen for variables 0 to k - 1: a list of length k
--   chosen s x          == x is chosen at the node s
--   line_variables rows l == the variables of the line l, fillers included
--   ready t s l         == the line l is ready at s
--   dead under t s      == the node s is dead
--   full t s            == every variable is chosen at s
--   ends under t s      == s is live and full: it ends the walk
--   in_turn m x f        == f x, f (x + 1) and so on, m of them, one after the other
--   tree_of gone w r s   == the nodes from s down, r levels deep, in order: a node that is gone has no children, any other has w
--   subtree under t r s == the nodes from s down, where r variables are left to choose, in the order of the walk
--   nodes under t       == the nodes of a walk that nothing ends early
--   up_to_first p l       == l up to its first element that passes p, that one included
--   first_of p l         == the first element of l that passes p
--   examined under t    == the nodes examined, in order
--   count under t       == N, how many they are
--   sum_to n f           == f 0 + f 1 + ... + f n
--   most_nodes t         == the sum of 2^((c+e)k) for k from 0 to v
--   Outcome             == solved with N and an assignment, none with N, or budget with b
--   outcome under t b   == the outcome of the walk with the budget b
use Rattle.std.specs.Prelude.{Bool, true, false, ◌&&◌, ◌||◌, not, List, [], ◌∷◌, ◌++◌, ℕ, zero, suc, ◌+◌, ◌*◌, ◌^◌, eqb, ltb, leb, length}
use Rattle.std.proofs.Math.Option.{Option, none, some}
use Rattle.el.specs.Test.{all_below, any_of, every_of}
use Rattle.el.specs.Table.{Filler, top_f, constant_f, variable_f, Entry, constant, restriction, variable, Row, Line, Table, row_at, atoms}
use Rattle.el.specs.Meaning.{holds}
use Rattle.el.specs.Assignment.{Assignment, reaches, acyclic, induced}

-- "A node is a choice of sets for variables 0 to k-1, k from 0 to v."
abbrev pub Node : Type 0
Node = Assignment

-- "Only chosen variables have dependences": where s gives no set, `set_of s x` is the empty one
unfoldable pub chosen : Node → ℕ → Bool
chosen s x = ltb x (length s)

-- "every variable in it, fillers included"
abbrev pub filler_variables : Filler → List ℕ
filler_variables top_f = []
filler_variables (constant_f k) = []
filler_variables (variable_f x) = x ∷ []

abbrev pub entry_variables : List Row → Entry → List ℕ
entry_variables rows (constant k) = []
entry_variables rows (restriction k) = filler_variables (row_at rows k).filler
entry_variables rows (variable x) = x ∷ []

abbrev pub entries_variables : List Row → List Entry → List ℕ
entries_variables rows [] = []
entries_variables rows (e ∷ es) = entry_variables rows e ++ entries_variables rows es

unfoldable pub line_variables : List Row → Line → List ℕ
line_variables rows l = entries_variables rows l.left ++ entry_variables rows l.right

-- "A line is ready at a node if every variable in it, fillers included, and every variable reached from these over dependences is chosen."
unfoldable pub settled : Table → Node → ℕ → Bool
settled t s x = chosen s x && all_below t.variables (λ y. not (reaches t s x y) || chosen s y)

unfoldable pub ready : Table → Node → Line → Bool
ready t s l = every_of (settled t s) (line_variables t.rows l)

unfoldable pub full : Table → Node → Bool
full t s = eqb (length s) t.variables

unfoldable pub in_turn : ℕ → ℕ → (ℕ → List Node) → List Node
in_turn zero x f = []
in_turn (suc m) x f = f x ++ in_turn m (x + 1) f

unfoldable pub tree_of : (Node → Bool) → ℕ → ℕ → Node → List Node
tree_of gone w zero s = s ∷ []
tree_of gone w (suc r) s = s ∷ elim (gone s) [ true ↦ [] | false ↦ in_turn w 0 (λ x. tree_of gone w r (s ++ (x ∷ []))) ]

module _ (under : ℕ → ℕ → Bool) (t : Table) where
  -- "a ready line fails"
  unfoldable pub fails : Node → Line → Bool
  fails s l = ready t s l && not (holds under t.rows (induced t s) l)

  -- "A node is dead if its chosen sets are cyclic, or else if a ready line fails."
  unfoldable pub dead : Node → Bool
  dead s = elim (acyclic t s) [ false ↦ true | true ↦ any_of (fails s) t.lines ]

  -- "A live node with k = v ends the walk: solved."
  unfoldable pub ends : Node → Bool
  ends s = not (dead s) && full t s

  -- "goes depth first, and takes the children of a live node in rising set number from 0 to 2^(c+e) - 1"
  abbrev pub subtree : ℕ → Node → List Node
  subtree = tree_of dead (2 ^ atoms t)

  -- "The walk starts at k = 0"
  unfoldable pub nodes : List Node
  nodes = subtree t.variables []

unfoldable pub up_to_first : (Node → Bool) → List Node → List Node
up_to_first p [] = []
up_to_first p (s ∷ l) = s ∷ elim (p s) [ true ↦ [] | false ↦ up_to_first p l ]

unfoldable pub first_of : (Node → Bool) → List Node → Option Node
first_of p [] = none
first_of p (s ∷ l) = elim (p s) [ true ↦ some s | false ↦ first_of p l ]

-- "N be the number of nodes examined, dead ones and the last included"
unfoldable pub examined : (ℕ → ℕ → Bool) → Table → List Node
examined under t = up_to_first (ends under t) (nodes under t)

unfoldable pub count : (ℕ → ℕ → Bool) → Table → ℕ
count under t = length (examined under t)

unfoldable pub sum_to : ℕ → (ℕ → ℕ) → ℕ
sum_to zero f = f 0
sum_to (suc n) f = sum_to n f + f (suc n)

-- "N is at most the sum of 2^((c+e)k) for k from 0 to v."
unfoldable pub most_nodes : Table → ℕ
most_nodes t = sum_to t.variables (λ k. 2 ^ (atoms t * k))

pub data Outcome : Type 0 where
  solved : ℕ → Assignment → Outcome
  nothing : ℕ → Outcome
  budget : ℕ → Outcome

-- "A live node with k = v ends the walk: solved. If no node is left: none."
abbrev pub ended : ℕ → Option Node → Outcome
ended n (some s) = solved n s
ended n none = nothing n

-- "With budget b the answer is given if N is at most b; otherwise it is "budget" with count b."
unfoldable pub outcome : (ℕ → ℕ → Bool) → Table → ℕ → Outcome
outcome under t b =
    elim (leb (count under t) b) [
      | true ↦ ended (count under t) (first_of (ends under t) (nodes under t))
      | false ↦ budget b
    ]
