-- Going along a list of nodes: what is left of a tree from a node on, and what is read off a list on the way. A node of the tree is the
-- first k set numbers of a list a; the tree is v levels deep, a node that is gone has no children, and any other has w.
--
--   siblings a k      == the later siblings of the node (take (k + 1) a), with what is below them
--   afterwards a k    == the nodes after those from the node (take k a) down
--   remaining a k     == the nodes from the node (take k a) on
--   NonePasses p l    == no element of l passes p
--   Moves p n l m     == l is n elements, none of which passes p, and then m
--   scan p b n l      == the outcome where n nodes were examined, b more may be, and l is what is left of the list
--   read_off p b n l   == the same, read off the whole list
use Rattle.std.specs.Prelude.{◌≡◌, Bool, true, false, List, [], ◌∷◌, ◌++◌, ℕ, zero, suc, ◌+◌, ◌-◌, leb, length, get_or, take}
use Rattle.el.specs.Walk.{Node, in_turn, tree_of, up_to_first, first_of, Outcome, solved, nothing, budget, ended}

module _ (gone : Node → Bool) (w v : ℕ) where
  unfoldable pub siblings : List ℕ → ℕ → List Node
  siblings a k = in_turn (w - suc (get_or a k 0)) (get_or a k 0 + 1) (λ x. tree_of gone w (v - suc k) (take k a ++ (x ∷ [])))

  unfoldable pub afterwards : List ℕ → ℕ → List Node
  afterwards a zero = []
  afterwards a (suc k) = siblings a k ++ afterwards a k

  unfoldable pub remaining : List ℕ → ℕ → List Node
  remaining a k = tree_of gone w (v - k) (take k a) ++ afterwards a k

abbrev pub NonePasses : (Node → Bool) → List Node → Type 0
NonePasses p [] = Unit {0}
NonePasses p (s ∷ l) = (p s ≡ false) × NonePasses p l

pub record Moves (p : Node → Bool) (n : ℕ) (l m : List Node) : Type 0 where
  pub seen : List Node
  pub split : l ≡ seen ++ m
  pub many : length seen ≡ n
  pub none_passes : NonePasses p seen

unfoldable pub scan : (Node → Bool) → ℕ → ℕ → List Node → Outcome
scan p b n [] = nothing n
scan p zero n (s ∷ l) = budget n
scan p (suc b) n (s ∷ l) = elim (p s) [ true ↦ solved (n + 1) s | false ↦ scan p b (n + 1) l ]

abbrev pub read_off : (Node → Bool) → ℕ → ℕ → List Node → Outcome
read_off p b n l = elim (leb (length (up_to_first p l)) b) [ true ↦ ended (n + length (up_to_first p l)) (first_of p l) | false ↦ budget (n + b) ]
