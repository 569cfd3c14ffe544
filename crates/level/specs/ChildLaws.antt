-- The test of a child by its parent's level.
--
--   child_place    == where a child's newest set stands
--   child_turns, child_leaves, child_lines, child_fails == the test of a child, for each of its ends
--   child_sibling  == a sibling is a child of the same node
use Rattle.std.specs.Prelude.{◌≡◌, refl, true, false, ◌&&◌, List, ℕ, suc, ◌-◌, ◌≤◌, ◌<◌, T, length, get_or, take}
use Rattle.std.proofs.Math.Path.{sym, ap}
use Rattle.std.proofs.Common.{subst, ◌∙◌, arith, take-suc, get_or-take, length-take-le}
use Rattle.std.proofs.Math.Bool.{Bool, not}
use Rattle.std.proofs.Math.Decide.{dec_lt}
use Rattle.std.specs.Int.Bits.{bit_and}
use Rattle.std.proofs.lemmas.List.{take-set-le}
use Rattle.bounds.specs.Bounds.{max_variables, max_lines}
use Rattle.el.specs.Test.{any_below, any_of}
use Rattle.el.specs.TestLaws.{true_is, false_not, any_below_same}
use Rattle.el.specs.Table.{Line, Table, declared, role_order}
use Rattle.el.specs.Meaning.{holds}
use Rattle.el.specs.Assignment.{acyclic, induced}
use Rattle.el.proofs.ReachLaws.{acyclic_same}
use Rattle.el.specs.Walk.{Node, dead}
use Rattle.el.proofs.NodeLaws.{dead_cyclic}
use Rattle.el.proofs.ChildLaws.{child_acyclic, child_open, child_dead}
use Rattle.el.specs.Below.{child_of, newly, freshly}
use Rattle.table.specs.Reading.{reading, is_readable, table_of, header_of}
use Rattle.table.specs.Layout.{line_at}
use Rattle.node.specs.declared.Prepared.{Prepared}
use Rattle.node.specs.declared.Sets.{Sets}
use Rattle.level.specs.declared.Level.{Level}
use Rattle.node.specs.Node.{node_of, Clean}
use Rattle.node.specs.SetsLaws.{same_sets, clean_next}
use Rattle.node.specs.DeadLaws.{any_below_lem, same_holds, node_layout, node_few}
use Rattle.level.specs.Level.{Levels, fails_at, fresh_fails}
use Rattle.level.specs.Sweep.{sets_of, TestGiven, FreshGiven, ChildGiven, sibling_of, own_of}
use Rattle.level.specs.ListedLaws.{passing_below, passing_any, any_take}

module _ {s : List ℕ} {p : Prepared} {level : Level} {sets : Sets}
    (given : ChildGiven s p level sets) (readable : T (is_readable (reading s))) (room : length sets.set ≡ max_variables) where
  pub child_place : (0 < sets.chosen) × (sets.chosen ≤ max_variables)
  child_place = (given.some, (node_few readable given.node).0)

  pub child_sibling : (x : ℕ) → ChildGiven s p level (sets_of (sibling_of sets x) sets.chosen)
  child_sibling x =
      record {
        node = record { chosen = given.node.chosen; clean = unfold Clean in clean_next sets.set sets.chosen x given.some given.node.clean };
        rows = given.rows;
        line_count = given.line_count;
        starts = given.starts;
        some = given.some;
        level = subst (λ (q : Node). Levels (table_of s) q p.lines.count level) (sym same) given.level;
        live = ap (dead (role_order (table_of s)) (table_of s)) same ∙ given.live;
      }
    where
      same : take (sets.chosen - 1) (sibling_of sets x) ≡ take (sets.chosen - 1) sets.set
      same = take-set-le (sets.chosen - 1) sets.set (sets.chosen - 1) x (omega arith)

  abbrev t : Table
  t = table_of s

  abbrev parent : Node
  parent = take (sets.chosen - 1) sets.set

  abbrev own : ℕ
  own = own_of sets

  line_many : (p.lines.count ≤ max_lines) × (p.lines.count ≡ length t.lines)
  line_many =
      let f : (header_of s).m ≤ max_lines = (node_layout readable).few_lines in let q : p.lines.count ≡ (header_of s).m = given.line_count in
      (omega arith, q ∙ sym (node_layout readable).lines)

  known : T (declared t)
  known = (node_layout readable).all_declared

  -- the node is its parent with one set more
  node_child : take sets.chosen sets.set ≡ child_of parent own
  node_child =
      let h = child_place in let r = room in
      (let q : sets.chosen ≡ suc (sets.chosen - 1) = omega arith in ap (λ (i : ℕ). take i sets.set) q) ∙ take-suc sets.set (sets.chosen - 1) 0 (omega arith)

  parent_acyclic : acyclic t parent ≡ true
  parent_acyclic = go (acyclic t parent) refl
    where
      go : (b : Bool) → acyclic t parent ≡ b → acyclic t parent ≡ true
      go true q = q
      go false q = absurd (false_not (dead (role_order t) t parent) given.live (true_is (dead (role_order t) t parent) (dead_cyclic (role_order t) t parent q)))

  as_child : (b : Bool) → dead (role_order t) t (child_of parent own) ≡ b → b ≡ dead (role_order t) t (take sets.chosen sets.set)
  as_child b q = sym q ∙ ap (dead (role_order t) t) (sym node_child)

  pub child_turns : (bit_and own level.turning ≡ 0 → ⊥) → true ≡ dead (role_order t) t (take sets.chosen sets.set)
  child_turns h =
      let f = given.level.turning.some own h in
      as_child true (dead_cyclic (role_order t) t (child_of parent own)
      (child_acyclic t known parent own parent_acyclic ∙ ap not (subst (λ (w : ℕ). newly t parent own w ≡ true) f.1 f.2)))

  module _ (stays : bit_and own level.turning ≡ 0) where
    no_new : newly t parent own (length parent) ≡ false
    no_new = given.level.turning.none own stays (length parent) refl

    is_acyclic : acyclic t (child_of parent own) ≡ true
    is_acyclic = child_acyclic t known parent own parent_acyclic ∙ ap not no_new

    pub child_leaves : (bit_and own level.leaving ≡ 0 → ⊥) → false ≡ dead (role_order t) t (take sets.chosen sets.set)
    child_leaves h =
        let f = given.level.leaving.some own h in
        as_child false (child_open t known parent own (role_order t) given.live no_new is_acyclic f.0 f.1 f.2)

    -- what the lines' test asks
    pub child_lines : FreshGiven s p level sets
    child_lines =
        record { few_fit = fit; each = each }
      where
        fit : level.few ≤ max_lines
        fit = let f : level.few ≤ p.lines.count = given.level.lines.fits in let q = line_many in omega arith

        inner : level.few ≤ length level.fresh
        inner = let f = fit in let r : length level.fresh ≡ max_lines = given.level.lines.room in omega arith

        below : (i : ℕ) → i < level.few → get_or level.fresh i 0 < p.lines.count
        below i h =
            let n : length (take level.few level.fresh) ≡ level.few = length-take-le level.few level.fresh inner in
            subst (λ (j : ℕ). j < p.lines.count) (sym (sym (get_or-take level.few level.fresh i 0 h) ∙ ap (λ (l : List ℕ). get_or l i 0) given.level.lines.numbers))
            (passing_below (λ n. freshly t parent (line_at t.lines n)) p.lines.count i (subst (λ (l : List ℕ). i < length l) given.level.lines.numbers (omega arith)))

        each : (i n : ℕ) → i < level.few → n ≡ get_or level.fresh i 0 → TestGiven s p sets n
        each i n h q =
            let l = below i h in
            let m : n < (header_of s).m = (let z : p.lines.count ≡ (header_of s).m = given.line_count in omega arith) in
            record {
              inside = let z = line_many in omega arith;
              line = m;
              begins = given.starts.at n m;
              test = record {
                sets = record { many = room };
                acyclic = subst T (acyclic_same t (node_of sets) sets.set (same_sets sets given.node.clean)) (true_is (acyclic t (node_of sets)) (unfold node_of in ap (acyclic t) node_child ∙ is_acyclic));
                rows = given.rows;
                line = record { number = n; few = m; begins = given.starts.at n m };
              };
            }

    -- one of the level's lines fails exactly if the node is dead
    pub child_fails : bit_and own level.leaving ≡ 0 → fresh_fails t sets.set level.fresh level.few ≡ dead (role_order t) t (take sets.chosen sets.set)
    unfolding fresh_fails
    child_fails none =
        any_take (fails_at t sets.set) level.fresh level.few (let f = child_lines.few_fit in let r : length level.fresh ≡ max_lines = given.level.lines.room in omega arith) ∙ ap (any_of (fails_at t sets.set)) given.level.lines.numbers
        ∙ passing_any (λ n. freshly t parent (line_at t.lines n)) (fails_at t sets.set) p.lines.count
        ∙ any_below_same p.lines.count (λ n. freshly t parent (line_at t.lines n) && fails_at t sets.set n) (λ n. failing (line_at t.lines n))
        (λ n h. ap (λ (b : Bool). freshly t parent (line_at t.lines n) && b) (here n))
        ∙ ap (λ (j : ℕ). any_below j (λ n. failing (line_at t.lines n))) line_many.1 ∙ sym (any_below_lem failing t.lines)
        ∙ sym (ap (dead (role_order t) t) node_child ∙ child_dead t known parent own (role_order t) given.live no_new is_acyclic closed)
      where
        failing : Line → Bool
        failing l = freshly t parent l && not (holds (role_order t) t.rows (induced t (child_of parent own)) l)

        here : (n : ℕ) → fails_at t sets.set n ≡ not (holds (role_order t) t.rows (induced t (child_of parent own)) (line_at t.lines n))
        here n =
            unfold fails_at node_of in
            ap not (sym (same_holds t (node_of sets) sets.set (same_sets sets given.node.clean) (line_at t.lines n))
            ∙ ap (λ (x : Node). holds (role_order t) t.rows (induced t x) (line_at t.lines n)) node_child)

        closed : (w : ℕ) → T (newly t parent own w) → w ≤ length parent
        closed w g = go (dec_lt (length parent) w)
          where
            go : Dec (length parent < w) → w ≤ length parent
            go (yes h) = absurd (false_not (newly t parent own w) (given.level.leaving.none own none w h) g)
            go (no h) = omega arith
