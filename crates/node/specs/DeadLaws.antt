-- Laws of a dead node: its lines one by one, and its test put together.
--
--   any_below_lem     == a test over the lines asks each by its number
--   same_holds    == a line under two assignments that give the same sets
--   fails_start, fails_next == the lines one by one
--   line_open     == a line that has not only variables of the mask k does not fail so
--   line_tested   == one that has fails so exactly if it does not hold
--   node_layout, node_few, node_counts == the table of a node, and how many variables, atoms, restrictions and lines there are
--   prepared_counts == what is prepared has the counts of the table
--   node_fills, node_filled, node_depends, made_depends, made_fillers == what dependences are read from
--   node_length, node_acyclic, node_settled == how many sets a node has, and what is asked of its dependences
--   node_begins, node_line == where a line begins, and what the test of a line is given
--   first_found, first_none == the first line that fails, and where none does
--   dead_cycle, dead_first == a cyclic node is dead, an acyclic one exactly if there is a first line that fails
use Rattle.std.specs.Prelude.{◌≡◌, Bool, T, get_or, take}
use Rattle.std.proofs.Math.Path.{refl, sym, ap, ap₂}
use Rattle.std.proofs.Common.{subst, ◌∙◌, not-suc-le-zero, ltb→lt, lt→ltb, eq-eqb, ne_eqb, lt-ltb, length-take}
use Rattle.std.proofs.Math.Bool.{true, false, ◌&&◌, not}
use mathlib.Core.List.{List, [], ◌∷◌}
use Prim.Native.Nat.{ℕ, zero, suc, ◌+◌, ◌≤◌, ◌<◌}
use native.Mathlib.Omega.{arith}
use Rattle.std.proofs.Math.Dec.{ltb}
use Rattle.std.proofs.Math.ListN.{length}
use Rattle.std.specs.Int.Bits.{bit_and}
use Rattle.el.specs.Test.{any_below, any_of}
use Rattle.el.specs.TestLaws.{is_true, same_test, any_of_places, every_of_all}
use Rattle.el.specs.Table.{constant, Line, Table, declared, role_order}
use Rattle.el.specs.Meaning.{holds}
use Rattle.el.specs.Assignment.{Assignment, set_of, acyclic, induced}
use Rattle.el.proofs.ReachLaws.{acyclic_same}
use Rattle.el.proofs.InducedLaws.{induced_same}
use Rattle.el.specs.Walk.{Node, line_variables, settled, ready, fails, dead}
use Rattle.el.proofs.NodeLaws.{line_same, dead_cyclic, dead_lines}
use Rattle.bounds.specs.Bounds.{max_restrictions, max_atoms, max_variables, max_lines}
use Rattle.table.specs.Layout.{Layout, line_at, line_start}
use Rattle.table.specs.Reading.{reading, is_readable, table_of, header_of}
use Rattle.table.specs.LayoutLaws.{layout}
use Rattle.order.specs.Given.{LineGiven}
use Rattle.node.specs.declared.Sets.{Sets}
use Rattle.node.specs.declared.Prepared.{Prepared}
use Rattle.node.specs.Mask.{Masks, FillMasks, Fills}
use Rattle.node.specs.MaskLaws.{ready_by, next_below}
use Rattle.node.specs.SetsLaws.{same_sets}
use Rattle.node.specs.DependLaws.{fills_front}
use Rattle.node.specs.Node.{node_of, CountsOf, Prepares, NodeGiven, first_at, first_failing, fails_by, NoneFails, DependsGiven}

pub any_below_lem : (p : Line → Bool) (l : List Line) → any_of p l ≡ any_below (length l) (λ i. p (line_at l i))
unfolding line_at
any_below_lem p l = any_of_places p l (record { left = []; right = constant 0 })

pub same_holds : (t : Table) (a b : Assignment) → ((x : ℕ) → set_of a x ≡ set_of b x) → (l : Line)
    → holds (role_order t) t.rows (induced t a) l ≡ holds (role_order t) t.rows (induced t b) l
same_holds t a b same l =
    line_same t.rows (λ x. true) (induced t a) (induced t b) (λ x u. induced_same t a b same x) (role_order t) l
    (every_of_all (λ x. true) (line_variables t.rows l) 0 (λ i h. tt))

----------------------------------------------------------------------------------------------------
-- The first line that passes a test

ltb_suc : (a b : ℕ) → ltb a b ≡ ltb (suc a) (suc b)
ltb_suc a b =
    same_test (ltb a b) (ltb (suc a) (suc b)) (λ u. lt→ltb (suc a) (suc b) (let h : a < b = ltb→lt a b u in omega arith))
    (λ u. lt→ltb a b (let h : suc a < suc b = ltb→lt (suc a) (suc b) u in omega arith))

module _ (p : Line → Bool) where
  first_is : (l : List Line) (n : ℕ) → n ≤ length l → ((i : ℕ) → i < n → p (line_at l i) ≡ false) → (n < length l → p (line_at l n) ≡ true) → n ≡ first_at p l
  unfolding line_at first_at
  first_is [] n h f g = omega arith
  first_is (x ∷ l) zero h f g = rw (g (omega arith), first_at) refl
  first_is (x ∷ l) (suc n) h f g =
      rw (f 0 (omega arith), first_at) (ap suc (first_is l n (omega arith) (λ i k. f (suc i) (omega arith)) (λ k. g (omega arith))))

  first_any : (l : List Line) → any_of p l ≡ ltb (first_at p l) (length l)
  unfolding any_of first_at
  first_any [] = refl
  first_any (x ∷ l) = go (p x) refl (first_any l)
    where
      go : (b : Bool) → p x ≡ b → any_of p l ≡ ltb (first_at p l) (length l) → any_of p (x ∷ l) ≡ ltb (first_at p (x ∷ l)) (length (x ∷ l))
      go true e ih = rw (e, first_at, any_of) (sym (lt-ltb 0 (suc (length l)) (omega arith)))
      go false e ih = rw (e, first_at, any_of) (ih ∙ ltb_suc (first_at p l) (length l))

----------------------------------------------------------------------------------------------------
-- The lines one by one

module _ (t : Table) (set mask : List ℕ) (k : ℕ) where
  pub fails_start : NoneFails t set mask k 0
  unfolding NoneFails
  fails_start i h = absurd (not-suc-le-zero h)

  module _ (n : ℕ) where
    pub fails_next : NoneFails t set mask k n → fails_by t set mask k n ≡ false → NoneFails t set mask k (n + 1)
    unfolding NoneFails
    fails_next none e = next_below none e

    pub line_open : (bit_and (get_or mask n 0) k ≡ get_or mask n 0 → ⊥) → fails_by t set mask k n ≡ false
    unfolding fails_by
    line_open e = ap (λ (b : Bool). b && not (holds (role_order t) t.rows (induced t set) (line_at t.lines n))) (ne_eqb (bit_and (get_or mask n 0) k) (get_or mask n 0) e)

    pub line_tested : (b : Bool) → bit_and (get_or mask n 0) k ≡ get_or mask n 0 → b ≡ holds (role_order t) t.rows (induced t set) (line_at t.lines n) → fails_by t set mask k n ≡ not b
    unfolding fails_by
    line_tested b e is = ap₂ (λ (x y : Bool). x && not y) (eq-eqb (bit_and (get_or mask n 0) k) (get_or mask n 0) e) (sym is)

----------------------------------------------------------------------------------------------------
-- A node of the code

pub prepared_counts : {s : List ℕ} {p : Prepared} → Prepares s p → CountsOf s p
prepared_counts made =
    record { constants = made.rows.constants; restrictions = made.rows.restrictions; variables = made.rows.variables; lines = made.line_count }

module _ {s : List ℕ} (readable : T (is_readable (reading s))) where
  pub node_layout : Layout s (table_of s)
  node_layout = layout s readable

  pub node_few : {sets : Sets} → NodeGiven s sets → (sets.chosen ≤ max_variables) × (sets.chosen ≤ (table_of s).variables)
  node_few {sets} given =
      let f : (header_of s).v ≤ max_variables = node_layout.few_variables in let h : sets.chosen ≤ (header_of s).v = given.chosen in
      let r : (table_of s).variables ≡ (header_of s).v = node_layout.variables in
      (omega arith, omega arith)

  module _ {sets : Sets} (given : NodeGiven s sets) where
    pub dead_cycle : false ≡ acyclic (table_of s) (node_of sets) → true ≡ dead (role_order (table_of s)) (table_of s) (node_of sets)
    dead_cycle e = sym (dead_cyclic (role_order (table_of s)) (table_of s) (node_of sets) (sym e))

  -- what the counts alone say
  module _ {p : Prepared} (counts : CountsOf s p) where
    pub node_counts : (p.rows.c + p.rows.e ≤ max_atoms) × (p.rows.e ≤ max_restrictions) × (p.lines.count ≤ max_lines) × (p.lines.count ≡ length (table_of s).lines)
    node_counts =
        let f : (header_of s).c + (header_of s).e ≤ max_atoms = node_layout.few_atoms in let a : (header_of s).e ≤ max_restrictions = node_layout.few_restrictions in
        let c : p.rows.c ≡ (header_of s).c = counts.constants in let e : p.rows.e ≡ (header_of s).e = counts.restrictions in
        let g : (header_of s).m ≤ max_lines = node_layout.few_lines in let r : p.lines.count ≡ (header_of s).m = counts.lines in
        (omega arith, omega arith, omega arith, r ∙ sym node_layout.lines)

    in_table : (n : ℕ) → n < p.lines.count → n < (header_of s).m
    in_table n h = let q : p.lines.count ≡ (header_of s).m = counts.lines in omega arith

    pub node_fills : {fill : List ℕ} → FillMasks (table_of s).rows (header_of s).e fill → Fills (table_of s) p.rows.c p.rows.e fill
    node_fills {fill} masks = record {
      constants = counts.constants ∙ sym node_layout.constants;
      restrictions = counts.restrictions ∙ sym node_layout.rows;
      masks = subst (λ (k : ℕ). FillMasks (table_of s).rows k fill) (sym counts.restrictions) masks;
    }

    pub node_depends : {fill : List ℕ} → length fill ≡ max_restrictions → (n : ℕ) → n ≤ p.rows.v → DependsGiven fill p.rows.c p.rows.e n
    node_depends {fill} room n h = record {
      few_atoms = node_counts.0;
      room = let q = node_counts in omega arith;
      few_variables = let f : (header_of s).v ≤ max_variables = node_layout.few_variables in let q : p.rows.v ≡ (header_of s).v = counts.variables in omega arith;
    }

    pub dead_first : {sets : Sets} → NodeGiven s sets → {n : ℕ} → T (acyclic (table_of s) (node_of sets)) → n ≡ first_failing (table_of s) (node_of sets)
        → ltb n p.lines.count ≡ dead (role_order (table_of s)) (table_of s) (node_of sets)
    unfolding first_failing
    dead_first {sets} given is_acyclic e =
        ap₂ ltb e node_counts.3
        ∙ sym (dead_lines (role_order (table_of s)) (table_of s) (node_of sets) (is_true (acyclic (table_of s) (node_of sets)) is_acyclic) ∙ first_any (fails (role_order (table_of s)) (table_of s) (node_of sets)) (table_of s).lines)

  module _ {p : Prepared} (made : Prepares s p) where
    abbrev counts : CountsOf s p
    counts = prepared_counts made

    -- what the dependences of a node are read from, and what `Fillers` is made from
    pub made_depends : DependsGiven p.fill p.rows.c p.rows.e p.rows.v
    made_depends = node_depends counts made.fill_room p.rows.v (omega arith)

    pub made_fillers : (p.rows.c + p.rows.e ≤ max_atoms) × (p.rows.e ≤ max_restrictions)
    made_fillers = (made_depends.few_atoms, let room : p.rows.e ≤ length p.fill = made_depends.room in let r : length p.fill ≡ max_restrictions = made.fill_room in omega arith)

    -- the masks of what is prepared, as `Fillers` has them
    pub node_filled : {masks : List ℕ} {constants : ℕ} → masks ≡ take p.rows.e p.fill → constants ≡ p.rows.c → Fills (table_of s) constants (length masks) masks
    node_filled is same = fills_front (node_fills counts made.fills) (let r : length p.fill ≡ max_restrictions = made.fill_room in let q = node_counts counts in omega arith) is same

    pub node_begins : (n : ℕ) → n < p.lines.count → (n < (header_of s).m) × (get_or p.lines.start n 0 ≡ line_start s n)
    node_begins n h = (in_table counts n h, made.starts.at n (in_table counts n h))

    module _ {sets : Sets} (given : NodeGiven s sets) where
      pub node_length : length (node_of sets) ≤ sets.chosen
      unfolding node_of
      node_length = simp length-take (omega arith)

      -- what the two tests of a node's dependences say, by the table
      module _ {masks : List ℕ} {constants : ℕ} {chosen : Node} (is : masks ≡ take p.rows.e p.fill) (same : constants ≡ p.rows.c) (node : chosen ≡ node_of sets) where
        pub node_acyclic : (b : Bool) → ((u : Table) → Fills u constants (length masks) masks → length chosen ≤ u.variables → b ≡ acyclic u chosen) → b ≡ acyclic (table_of s) (node_of sets)
        node_acyclic b says =
            says (table_of s) (node_filled is same) (subst (λ (c : Node). length c ≤ (table_of s).variables) (sym node) (let l = node_length in let f = (node_few given).1 in omega arith))
            ∙ ap (acyclic (table_of s)) node

        pub node_settled : (k : ℕ) → ((u : Table) → T (declared u) → u.variables ≤ max_variables → Fills u constants (length masks) masks → Masks (settled u chosen) k) → Masks (settled (table_of s) (node_of sets)) k
        node_settled k says =
            subst (λ (c : Node). Masks (settled (table_of s) c) k) node
            (says (table_of s) node_layout.all_declared (let f : (header_of s).v ≤ max_variables = node_layout.few_variables in let r : (table_of s).variables ≡ (header_of s).v = node_layout.variables in omega arith) (node_filled is same))

      module _ (is_acyclic : T (acyclic (table_of s) (node_of sets))) where
        pub node_line : length sets.set ≡ max_variables → (n : ℕ) → n < p.lines.count → LineGiven s p.rows sets.set (get_or p.lines.start n 0)
        node_line room n h = record {
          sets = record { many = room };
          acyclic = subst T (acyclic_same (table_of s) (node_of sets) sets.set (same_sets sets given.clean)) is_acyclic;
          rows = made.rows;
          line = record { number = n; few = in_table counts n h; begins = (node_begins n h).1 };
        }

        module _ (k : ℕ) (settles : Masks (settled (table_of s) (node_of sets)) k) where
          by_masks : (n : ℕ) → n < p.lines.count → fails_by (table_of s) sets.set p.lines.mask k n ≡ fails (role_order (table_of s)) (table_of s) (node_of sets) (line_at (table_of s).lines n)
          unfolding ready fails fails_by
          by_masks n h =
              ap₂ ◌&&◌
              (ready_by (settled (table_of s) (node_of sets)) (line_variables (table_of s).rows (line_at (table_of s).lines n)) (get_or p.lines.mask n 0) k (made.masks.at n (in_table counts n h)) settles)
              (ap not (sym (same_holds (table_of s) (node_of sets) sets.set (same_sets sets given.clean) (line_at (table_of s).lines n))))

          first_by : (n : ℕ) → n ≤ p.lines.count → NoneFails (table_of s) sets.set p.lines.mask k n → (n < p.lines.count → fails_by (table_of s) sets.set p.lines.mask k n ≡ true) → n ≡ first_failing (table_of s) (node_of sets)
          unfolding NoneFails first_failing
          first_by n h none here =
              let q : p.lines.count ≡ length (table_of s).lines = (node_counts counts).3 in
              first_is (fails (role_order (table_of s)) (table_of s) (node_of sets)) (table_of s).lines n (omega arith) (λ i l. sym (by_masks i (omega arith)) ∙ none i l)
              (λ l. sym (by_masks n (omega arith)) ∙ here (omega arith))

          pub first_found : (n : ℕ) → n < p.lines.count → NoneFails (table_of s) sets.set p.lines.mask k n → fails_by (table_of s) sets.set p.lines.mask k n ≡ true → n ≡ first_failing (table_of s) (node_of sets)
          first_found n h none here = first_by n (omega arith) none (λ _. here)

          pub first_none : (n : ℕ) → n ≤ p.lines.count → p.lines.count ≤ n → NoneFails (table_of s) sets.set p.lines.mask k n → p.lines.count ≡ first_failing (table_of s) (node_of sets)
          first_none n h l none =
              let z : p.lines.count ≡ n = omega arith in z ∙ first_by n h none (λ i. absurd (let z : ⊥ = omega arith in z))
