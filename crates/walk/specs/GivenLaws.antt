-- What the table's counts give.
--
--   few_atoms          == how many atoms there are at most
--   counted_table, counted_variables, counted_node == by the counts alone, whatever is prepared: the last set number, how many variables there are, and what
--                         the test of a node is given; `counted_given`, with what is prepared
--   given_counted      == what is prepared has these counts
--   given_variables    == how many variables there are
--   given_node, given_level, given_sweep == what the test of a node, the level of a node and a sweep are given
--   level_is           == the level that is made of it
--   given_table        == what is prepared, with the last set number
use Rattle.std.specs.Prelude.{◌≡◌, List, ℕ, ◌+◌, ◌-◌, ◌^◌, ◌≤◌, ◌<◌, T, length, take}
use Rattle.std.proofs.Common.{sym, ap, ◌∙◌, arith, pow_mono}
use Rattle.std.proofs.Math.ListN.{get_or}
use Rattle.bounds.specs.Bounds.{max_restrictions, max_atoms, max_variables}
use Rattle.el.specs.Table.{atoms}
use Rattle.table.specs.Reading.{header_of, reading, is_readable, table_of}
use Rattle.table.specs.LayoutLaws.{layout}
use Rattle.node.specs.declared.Sets.{Sets}
use Rattle.node.specs.declared.Prepared.{Prepared}
use Rattle.node.specs.DependLaws.{fills_front}
use Rattle.node.specs.MaskLaws.{each_whole}
use Rattle.node.specs.Node.{Clean, NodeGiven, Prepares}
use Rattle.node.specs.DeadLaws.{node_layout, prepared_counts, node_counts, node_fills, node_depends}
use Rattle.level.specs.declared.Level.{Level}
use Rattle.level.specs.Level.{Levels, LevelGiven, LevelFor}
use Rattle.level.specs.Sweep.{SweepGiven}
use Rattle.walk.specs.Step.{LiveAboveAt, InRange, LiveAbove, Counted, Given}

pub few_atoms : (s : List ℕ) (c e : ℕ) → T (is_readable (reading s)) → c ≡ (header_of s).c → e ≡ (header_of s).e → c + e ≤ max_atoms
few_atoms s c e ok p q = let f : (header_of s).c + (header_of s).e ≤ max_atoms = (layout s ok).few_atoms in omega arith

-- the last set number, from the table's counts
pub counted_table : (s : List ℕ) (c e v m last : ℕ) → T (is_readable (reading s)) → c ≡ (header_of s).c → e ≡ (header_of s).e → v ≡ (header_of s).v → m ≡ (header_of s).m
    → last + 1 ≡ 2 ^ (c + e) → Counted s c e v m last
counted_table s c e v m last ok hc he hv hm hl =
    record {
      readable = ok;
      constants = hc;
      restrictions = he;
      variables = hv;
      lines = hm;
      width = ap (λ (n : ℕ). 2 ^ n) count ∙ sym hl;
      narrow = let h : 2 ^ (c + e) ≤ 2 ^ max_atoms = pow_mono (few_atoms s c e ok hc he) in omega arith;
    }
  where
    count : atoms (table_of s) ≡ c + e
    count = unfold atoms in (let a = (layout s ok).constants in let b = (layout s ok).rows in omega arith)

module _ {s : List ℕ} {c e v m last : ℕ} (counted : Counted s c e v m last) where
  pub counted_variables : ((table_of s).variables ≡ v) × (v ≤ max_variables)
  counted_variables =
      let l = layout s counted.readable in let a : (table_of s).variables ≡ (header_of s).v = l.variables in let b : v ≡ (header_of s).v = counted.variables in
      let f : (header_of s).v ≤ max_variables = l.few_variables in (omega arith, omega arith)

  pub counted_node : (sets : Sets) → InRange (table_of s) sets → NodeGiven s sets × (sets.chosen ≤ v)
  counted_node sets range =
      let h : sets.chosen ≤ (table_of s).variables = range.few in let q = counted_variables in let b : v ≡ (header_of s).v = counted.variables in
      (record { chosen = omega arith; clean = unfold Clean in range.clean }, omega arith)

  -- and with what is prepared of the table
  pub counted_given : {p : Prepared} → Prepares s p → Given s p last
  counted_given prepares = record { prepares = prepares; width = counted.width; narrow = counted.narrow }

module _ {s : List ℕ} {p : Prepared} {last : ℕ} (given : Given s p last) (readable : T (is_readable (reading s))) where
  pub given_counted : Counted s p.rows.c p.rows.e p.rows.v p.lines.count last
  given_counted =
      record {
        readable = readable;
        constants = given.prepares.rows.constants;
        restrictions = given.prepares.rows.restrictions;
        variables = given.prepares.rows.variables;
        lines = given.prepares.line_count;
        width = given.width;
        narrow = given.narrow;
      }

  pub given_variables : ((table_of s).variables ≡ p.rows.v) × (p.rows.v ≤ max_variables)
  given_variables = counted_variables given_counted

  module _ (sets : Sets) (range : InRange (table_of s) sets) where
    pub given_node : NodeGiven s sets
    given_node = (counted_node given_counted sets range).0

    -- the level of the node, and what a sweep from it asks
    module _ (some : 0 < sets.chosen) where
      pub given_level : LevelGiven p.lines sets
      given_level = record {
        few_variables = (node_depends readable (prepared_counts given.prepares) given.prepares.fill_room sets.chosen (counted_node given_counted sets range).1).few_variables;
        few_lines = (node_counts readable (prepared_counts given.prepares)).2;
        some = some;
      }

      pub level_is : {fill : List ℕ} {c : ℕ} → fill ≡ take p.rows.e p.fill → c ≡ p.rows.c → (level : Level) → LevelFor fill c p.lines sets level
          → Levels (table_of s) (take (sets.chosen - 1) sets.set) p.lines.count level
      level_is is same level levels =
          let q : p.lines.count ≡ (header_of s).m = given.prepares.line_count in let v = given_variables in
          let counts = prepared_counts given.prepares in let n = (node_counts readable counts).1 in
          let r : length p.fill ≡ max_restrictions = given.prepares.fill_room in
          levels (table_of s) (node_layout readable).all_declared (omega arith) (fills_front (node_fills readable counts given.prepares.fills) (omega arith) is same)
          (each_whole given.prepares.masks (omega arith) (omega arith)) range.few

      pub given_sweep : (level : Level) → LiveAbove (table_of s) sets → Levels (table_of s) (take (sets.chosen - 1) sets.set) p.lines.count level
          → SweepGiven s p level sets last
      unfolding LiveAboveAt
      given_sweep level live levels =
          record {
            child = record {
              node = given_node;
              rows = given.prepares.rows;
              line_count = given.prepares.line_count;
              starts = given.prepares.starts;
              some = some;
              level = levels;
              live = live (sets.chosen - 1) (omega arith);
            };
            first = let h : get_or sets.set (sets.chosen - 1) 0 < 2 ^ atoms (table_of s) = range.sets (sets.chosen - 1) (omega arith) in let w : 2 ^ atoms (table_of s) ≡ last + 1 = given.width in omega arith;
            narrow = given.narrow;
          }

-- what is prepared, with the last set number
pub given_table : {s : List ℕ} {p : Prepared} {last : ℕ} → T (is_readable (reading s)) → Prepares s p → last + 1 ≡ 2 ^ (p.rows.c + p.rows.e) → Given s p last
given_table {s} {p} {last} readable prepares hl =
    let rows = prepares.rows in
    counted_given (counted_table s p.rows.c p.rows.e p.rows.v p.lines.count last readable rows.constants rows.restrictions rows.variables prepares.line_count hl) prepares
