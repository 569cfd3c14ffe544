-- A sweep over siblings: what the test of a child and a sweep are given, and what a sweep says.
--
--   sets_of set k            == the first k sets of a list, as the code holds a node
--   TestGiven s p sets n     == line n is one of the table s, and may be tested under the sets
--   FreshGiven s p level sets == so it is with each of the lines listed
--   ChildGiven s p level sets == the sets are a child of a live node, and the level is that of its parent
--   SweepGiven s p level sets last == so of the first of the siblings to sweep, and `last` is the last set number
--   sibling_of sets x        == the sets with x in place of the newest one
--   own_of sets              == the newest one
--   dead_sibling t sets x    == the node with the set x in place of its newest one is dead
--   Passes t sets i         == the i siblings from the node on are dead
--   At t first last passed here == so many siblings of the first are passed, all dead, and `here` is the next
--   Sweeps t sets last most swept == what a sweep over siblings says; `SweepsAs`, by its end
use Rattle.std.specs.Prelude.{◌≡◌, Bool, true, false, List, ℕ, ◌+◌, ◌-◌, ◌^◌, ◌≤◌, ◌<◌, get_or, take, set}
use Rattle.bounds.specs.Bounds.{max_atoms, max_lines}
use Rattle.el.specs.Table.{Table, role_order}
use Rattle.el.specs.Walk.{dead}
use Rattle.table.specs.Reading.{table_of, header_of}
use Rattle.table.specs.Layout.{line_start}
use Rattle.order.specs.Given.{RowsGiven, LineGiven}
use Rattle.node.specs.declared.Sets.{Sets}
use Rattle.node.specs.declared.Prepared.{Prepared}
use Rattle.node.specs.Mask.{LineStarts}
use Rattle.node.specs.Node.{NodeGiven}
use Rattle.level.specs.declared.Level.{Level}
use Rattle.level.specs.declared.Halt.{Halt}
use Rattle.level.specs.declared.Halt.TheVariants.{Live, Over, Spent}
use Rattle.level.specs.declared.Swept.{Swept}
use Rattle.level.specs.Level.{Levels}

abbrev pub sets_of : List ℕ → ℕ → Sets
sets_of set k = record { set = set; chosen = k }

pub record TestGiven (s : List ℕ) (p : Prepared) (sets : Sets) (n : ℕ) : Type 0 where
  pub inside : n < max_lines
  pub line : n < (header_of s).m
  pub begins : get_or p.lines.start n 0 ≡ line_start s n
  pub test : LineGiven s p.rows sets.set (get_or p.lines.start n 0)

pub record FreshGiven (s : List ℕ) (p : Prepared) (level : Level) (sets : Sets) : Type 0 where
  pub few_fit : level.few ≤ max_lines
  pub each : (i n : ℕ) → i < level.few → n ≡ get_or level.fresh i 0 → TestGiven s p sets n

pub record ChildGiven (s : List ℕ) (p : Prepared) (shared : Level) (sets : Sets) : Type 0 where
  pub node : NodeGiven s sets
  pub rows : RowsGiven s p.rows
  pub line_count : p.lines.count ≡ (header_of s).m
  pub starts : LineStarts s (header_of s).m p.lines.start
  pub some : 0 < sets.chosen
  pub level : Levels (table_of s) (take (sets.chosen - 1) sets.set) p.lines.count shared
  pub live : dead (role_order (table_of s)) (table_of s) (take (sets.chosen - 1) sets.set) ≡ false

pub record SweepGiven (s : List ℕ) (p : Prepared) (level : Level) (sets : Sets) (last : ℕ) : Type 0 where
  pub child : ChildGiven s p level sets
  pub first : get_or sets.set (sets.chosen - 1) 0 ≤ last
  pub narrow : last < 2 ^ max_atoms

abbrev pub sibling_of : Sets → ℕ → List ℕ
sibling_of sets x = set sets.set (sets.chosen - 1) x

abbrev pub own_of : Sets → ℕ
own_of sets = get_or sets.set (sets.chosen - 1) 0

unfoldable pub dead_sibling : Table → Sets → ℕ → Bool
dead_sibling t sets x = dead (role_order t) t (take sets.chosen (sibling_of sets x))

unfoldable pub Passes : Table → Sets → ℕ → Type 0
Passes t sets i = (j : ℕ) → j < i → dead_sibling t sets (own_of sets + j) ≡ true

pub record At (t : Table) (first : Sets) (last passed : ℕ) (here : Sets) : Type 0 where
  pub is : here ≡ sets_of (sibling_of first (own_of first + passed)) first.chosen
  pub within : own_of first + passed ≤ last
  pub dead_all : Passes t first passed

abbrev pub SweepsAs : Table → Sets → ℕ → ℕ → Halt → ℕ → ℕ → Type 0
SweepsAs t sets last most Live passed at =
    (i : ℕ) × (passed ≡ i + 1) × (at ≡ own_of sets + i) × Passes t sets i × (dead_sibling t sets at ≡ false)
SweepsAs t sets last most Over passed at =
    (i : ℕ) × (passed ≡ i + 1) × (at ≡ own_of sets + i) × Passes t sets i × (dead_sibling t sets at ≡ true) × (last ≤ at)
SweepsAs t sets last most Spent passed at = (passed ≡ most) × (at ≡ own_of sets + passed) × Passes t sets passed

pub record Sweeps (t : Table) (sets : Sets) (last most : ℕ) (swept : Swept) : Type 0 where
  pub few : swept.passed ≤ most
  pub within : swept.at ≤ last
  pub ends : SweepsAs t sets last most swept.end swept.passed swept.at
