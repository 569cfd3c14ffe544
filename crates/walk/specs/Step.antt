-- The steps of the walk, as the code takes them: how many nodes of the list they go along, and what is left after these.
--
--   rest t sets      == the nodes from the node of `sets` on
--   after t sets     == the nodes after those from that node down
--   InRangeAt t a k  == at the node (take k a) at most v variables are chosen, each with a set of the table's, and the others have the empty set
--   LiveAboveAt t a k == no node above it is dead
--   InRange t sets, LiveAbove t sets == the same of the node of `sets`
--   Sound t sets     == both: what is so of every node that the walk comes to
--   Leads t l n going to == l is n nodes, none of which ends the walk, and then the nodes from that of `to` on. Where it is solved, the last of the n is
--                       that of `to`, and ends the walk; where it is over, no node is left, and `to` is the root
--   Keeps t from to  == what is so of the one node is so of the other; `KeepsAt`, of two lists
--   Goes t l n from going to == it leads there, and what is so of `from` stays so
--   HasEnded going   == the walk does not go on
--   HasParent going to == a node that the walk goes on to is not the root
--   Steps t l n from going to == both, of a step; from what comes after a node, `Next`; from a node that is examined, `Looks`
--   dead_at t sets    == the node is dead
--   Climbs t a₀ k₀ a k == what comes after the node (take k₀ a₀) comes after (take k a), and what is so of the first is so of the second
--   Ran t sets count n to == the node of `sets` moved on by n nodes; count were examined before
--   Advances t from end to == a sweep over siblings until `end` nodes are examined at most, and the step after it
--   RunsOn t sets count share to == the same by `share` nodes, or fewer where the walk ends
--   Runs t from share to == the same of a state; one that has ended stays
--   Running t first counted end to == a run from the first node, up to the state `to`: so far it went along nodes none of which ends the walk, but where it has ended
--   CanCount count share == so many nodes more can be counted
--   Fresh state      == the state at the root
--   Counted s c e v m last == s is a readable table with c constants, e restrictions, v variables and m lines, and `last` is its last set number
--   Given s p last   == p is what is prepared of the table s, and `last` is its last set number
--   outcome_of state == the outcome that the walk's last state says; `outcome_as`, by where it is going
use Rattle.std.specs.Prelude.{◌≡◌, Bool, true, false, List, [], ℕ, ◌+◌, ◌^◌, ◌≤◌, ◌<◌, T, get_or, take}
use Rattle.bounds.specs.Bounds as bounds
use Rattle.el.specs.Table.{Table, atoms, role_order}
use Rattle.el.specs.Walk.{Node, dead, ends, Outcome, solved, nothing, budget}
use Rattle.el.specs.Along.{remaining, afterwards, Moves}
use Rattle.table.specs.Reading.{reading, is_readable, table_of, header_of}
use Rattle.node.specs.declared.Sets.{Sets}
use Rattle.node.specs.declared.Prepared.{Prepared}
use Rattle.node.specs.Node.{node_of, Prepares}
use Rattle.level.specs.Sweep.{sets_of}
use Rattle.walk.specs.declared.Going.{Going}
use Rattle.walk.specs.declared.Going.TheVariants.{Solved, On, Over}
use Rattle.walk.specs.declared.State.{State}

unfoldable pub rest : Table → Sets → List Node
rest t sets = remaining (dead (role_order t) t) (2 ^ atoms t) t.variables sets.set sets.chosen

unfoldable pub after : Table → Sets → List Node
after t sets = afterwards (dead (role_order t) t) (2 ^ atoms t) t.variables sets.set sets.chosen

-- of the node (take k a)
pub record InRangeAt (t : Table) (a : List ℕ) (k : ℕ) : Type 0 where
  pub few : k ≤ t.variables
  pub sets : (x : ℕ) → x < k → get_or a x 0 < 2 ^ atoms t
  pub clean : (x : ℕ) → k ≤ x → get_or a x 0 ≡ 0

unfoldable pub LiveAboveAt : Table → List ℕ → ℕ → Type 0
LiveAboveAt t a k = (j : ℕ) → j < k → dead (role_order t) t (take j a) ≡ false

abbrev pub InRange : Table → Sets → Type 0
InRange t sets = InRangeAt t sets.set sets.chosen

abbrev pub LiveAbove : Table → Sets → Type 0
LiveAbove t sets = LiveAboveAt t sets.set sets.chosen

pub record Sound (t : Table) (sets : Sets) : Type 0 where
  pub in_range : InRange t sets
  pub live_above : LiveAbove t sets

pub record KeepsAt (t : Table) (a₀ : List ℕ) (k₀ : ℕ) (a : List ℕ) (k : ℕ) : Type 0 where
  pub in_range : InRangeAt t a₀ k₀ → InRangeAt t a k
  pub live_above : LiveAboveAt t a₀ k₀ → LiveAboveAt t a k

abbrev pub Keeps : Table → Sets → Sets → Type 0
Keeps t from to = KeepsAt t from.set from.chosen to.set to.chosen

-- where n nodes of the list l lead to
abbrev pub Leads : Table → List Node → ℕ → Going → Sets → Type 0
Leads t l n Solved to = (i : ℕ) × (n ≡ i + 1) × Moves (ends (role_order t) t) i l (rest t to) × (ends (role_order t) t (node_of to) ≡ true)
Leads t l n On to = Moves (ends (role_order t) t) n l (rest t to)
Leads t l n Over to = Moves (ends (role_order t) t) n l [] × (to.chosen ≡ 0)

pub record Goes (t : Table) (l : List Node) (n : ℕ) (from : Sets) (going : Going) (to : Sets) : Type 0 where
  pub leads : Leads t l n going to
  pub keeps : Keeps t from to

abbrev pub HasEnded : Going → Type 0
HasEnded Solved = Unit {0}
HasEnded On = ⊥
HasEnded Over = Unit {0}

abbrev pub HasParent : Going → Sets → Type 0
HasParent going to = going ≡ On → 0 < to.chosen

pub record Steps (t : Table) (l : List Node) (n : ℕ) (from : Sets) (going : Going) (to : Sets) : Type 0 where
  pub goes : Goes t l n from going to
  pub parent : HasParent going to

abbrev pub Next : Table → Sets → Going → Sets → Type 0
Next t sets going to = Steps t (after t sets) 0 sets going to

abbrev pub Looks : Table → Sets → Going → Sets → Type 0
Looks t sets going to = Steps t (rest t sets) 1 sets going to

unfoldable pub dead_at : Table → Sets → Bool
dead_at t sets = dead (role_order t) t (node_of sets)

pub record Climbs (t : Table) (a₀ : List ℕ) (k₀ : ℕ) (a : List ℕ) (k : ℕ) : Type 0 where
  pub same : after t (sets_of a₀ k₀) ≡ after t (sets_of a k)
  pub keeps : KeepsAt t a₀ k₀ a k

pub record Ran (t : Table) (sets : Sets) (count n : ℕ) (to : State) : Type 0 where
  pub counted : to.count ≡ count + n
  pub goes : Goes t (rest t sets) n sets to.going to.sets

pub record Advances (t : Table) (from : State) (end : ℕ) (to : State) : Type 0 where
  pub many : ℕ
  pub some : 0 < many
  pub few : from.count + many ≤ end
  pub ran : Ran t from.sets from.count many to
  pub parent : HasParent to.going to.sets

pub record RunsOn (t : Table) (sets : Sets) (count share : ℕ) (to : State) : Type 0 where
  pub many : ℕ
  pub few : many ≤ share
  pub whole : to.going ≡ On → many ≡ share
  pub ran : Ran t sets count many to

abbrev pub RunsAs : Table → Going → State → ℕ → State → Type 0
RunsAs t Solved from share to = to ≡ from
RunsAs t On from share to = RunsOn t from.sets from.count share to
RunsAs t Over from share to = to ≡ from

unfoldable pub Runs : Table → State → ℕ → State → Type 0
Runs t from share to = RunsAs t from.going from share to

pub record Running (t : Table) (first : Sets) (counted end : ℕ) (to : State) : Type 0 where
  pub many : ℕ
  pub ran : Ran t first counted many to
  pub few : to.count ≤ end
  pub sound : Sound t to.sets
  pub parent : HasParent to.going to.sets

abbrev pub CanCount : ℕ → ℕ → Type 0
CanCount count share = count + share < bounds.counts

pub record Fresh (state : State) : Type 0 where
  pub going : state.going ≡ On
  pub none_chosen : state.sets.chosen ≡ 0
  pub empty : (x : ℕ) → get_or state.sets.set x 0 ≡ 0
  pub none_counted : state.count ≡ 0

pub record Counted (s : List ℕ) (c e v m last : ℕ) : Type 0 where
  pub readable : T (is_readable (reading s))
  pub constants : c ≡ (header_of s).c
  pub restrictions : e ≡ (header_of s).e
  pub variables : v ≡ (header_of s).v
  pub lines : m ≡ (header_of s).m
  pub width : 2 ^ atoms (table_of s) ≡ last + 1
  pub narrow : last < 2 ^ bounds.max_atoms

pub record Given (s : List ℕ) (p : Prepared) (last : ℕ) : Type 0 where
  pub prepares : Prepares s p
  pub width : 2 ^ atoms (table_of s) ≡ last + 1
  pub narrow : last < 2 ^ bounds.max_atoms

abbrev pub outcome_as : Going → ℕ → Node → Outcome
outcome_as Solved n s = solved n s
outcome_as Over n s = nothing n
outcome_as On n s = budget n

unfoldable pub outcome_of : State → Outcome
outcome_of state = outcome_as state.going state.count (node_of state.sets)
