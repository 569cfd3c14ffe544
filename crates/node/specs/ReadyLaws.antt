-- What the marks say of the lines of a node: which variables lead only to chosen ones.
--
--   from_says    == the variables from b on
--   staying_says == those that are not marked, where the marks lead to the variables from b on
--   settled_says == so the settled variables, where b is how many are chosen
--   all_settled  == the same, as the code makes them
use Rattle.std.specs.Prelude.{◌≡◌, Bool, ◌&&◌, not, ◌⊎◌, ◌↔◌, List, [], ℕ, ◌≤◌, ◌<◌, T, ltb, length, take}
use Rattle.std.proofs.Common.{sym, ap, subst, ◌∙◌, inl, inr, arith, T_not, ltb→lt, lt→ltb, length-take-le}
use Rattle.std.proofs.Math.Decide.{dec_lt}
use Rattle.std.proofs.Math.Dec.{not_T}
use Rattle.el.specs.Test.{bit}
use Rattle.el.specs.TestLaws.{same_test, and_make, and_left, and_right}
use Rattle.el.specs.Table.{Table, declared}
use Rattle.el.specs.Assignment.{Reaches, depends, reaches}
use Rattle.el.proofs.ReachLaws.{reaches_declared, reaches_means}
use Rattle.el.specs.Walk.{Node, settled}
use Rattle.el.proofs.NodeLaws.{settled_chosen, settled_reached, settled_make}
use Rattle.bounds.specs.Bounds.{max_variables}
use Rattle.node.specs.Mask.{Masks, Fills}
use Rattle.node.specs.Marks.{depends_in, LeadsInto}
use Rattle.node.specs.MarkLaws.{leads_same, leads_back}
use Rattle.node.specs.DependLaws.{depends_node}

pub from_says : (b first m : ℕ) → Masks (λ x. ltb x b) first → Masks (λ x. ltb x max_variables && not (bit x first)) m → Masks (λ x. ltb x max_variables && not (ltb x b)) m
from_says b first m is of x = of x ∙ ap (λ (p : Bool). ltb x max_variables && not p) (is x)

module _ (t : Table) (known : T (declared t)) (small : t.variables ≤ max_variables) (s : Node) (b from m k : ℕ) (fits : b ≤ max_variables)
    (seeds : Masks (λ x. ltb x max_variables && not (ltb x b)) from) (leads : LeadsInto (depends t s) from m) (stays : Masks (λ x. ltb x max_variables && not (bit x m)) k) where
  -- from b on, all are marked
  late : (x : ℕ) → x < max_variables → b ≤ x → T (bit x m)
  late x h l =
      leads.leading.seeds x (subst T (sym (seeds x)) (and_make (ltb x max_variables) (not (ltb x b)) (lt→ltb x max_variables h)
      (not_T (ltb x b) (λ u. (let k : x < b = ltb→lt x b u in let z : ⊥ = omega arith in z)))))

  seed_late : (x : ℕ) → T (bit x from) → x < b → ⊥
  seed_late x u h = T_not (ltb x b) (and_right (ltb x max_variables) (not (ltb x b)) (subst T (seeds x) u)) (lt→ltb x b h)

  pub staying_says : (x : ℕ) → T (bit x k) ↔ ((x < b) × ((y : ℕ) → T (reaches t s x y) → y < b))
  staying_says x = (to, back)
    where
      to : T (bit x k) → (x < b) × ((y : ℕ) → T (reaches t s x y) → y < b)
      to u = (own (dec_lt x b), λ y r. other y r (dec_lt y b))
        where
          here : T (ltb x max_variables && not (bit x m))
          here = subst T (stays x) u

          unmarked : T (bit x m) → ⊥
          unmarked w = T_not (bit x m) (and_right (ltb x max_variables) (not (bit x m)) here) w

          own : Dec (x < b) → x < b
          own (yes h) = h
          own (no h) = absurd (unmarked (late x (ltb→lt x max_variables (and_left (ltb x max_variables) (not (bit x m)) here)) (omega arith)))

          other : (y : ℕ) → T (reaches t s x y) → Dec (y < b) → y < b
          other y r (yes h) = h
          other y r (no h) =
              let c = (reaches_means t known s x y).0 r in let l : y < t.variables = reaches_declared t known s c in
              absurd (unmarked (leads_back leads c (late y (omega arith) (omega arith))))

      back : (x < b) × ((y : ℕ) → T (reaches t s x y) → y < b) → T (bit x k)
      back f =
          let l : x < b = f.0 in
          subst T (sym (stays x)) (and_make (ltb x max_variables) (not (bit x m)) (lt→ltb x max_variables (omega arith)) (not_T (bit x m) (λ w. go (leads.leading.only x w))))
        where
          go : T (bit x from) ⊎ ((y : ℕ) × T (bit y from) × Reaches (depends t s) x y) → ⊥
          go (inl w) = seed_late x w f.0
          go (inr w) = seed_late w.0 w.1 (f.1 w.0 ((reaches_means t known s x w.0).1 w.2))

  pub settled_says : b ≡ length s → Masks (settled t s) k
  settled_says e x =
      same_test (bit x k) (settled t s x)
      (λ u. let f = (staying_says x).0 u in let l : x < b = f.0 in
      settled_make t known s [] x (omega arith) (λ y r. (let h : y < b = f.1 y r in omega arith)))
      (λ u. let l : x < length s = settled_chosen t known s [] x u in
      (staying_says x).1 (omega arith, λ y r. (let h : y < length s = settled_reached t known s [] x y u r in omega arith)))

-- so the settled variables by the masks of a table
pub all_settled : (t : Table) → T (declared t) → t.variables ≤ max_variables → (c e : ℕ) (fill : List ℕ) → Fills t c e fill → (set : List ℕ) (n first from m k : ℕ) → n ≤ max_variables → n ≤ length set
    → Masks (λ x. ltb x n) first → Masks (λ x. ltb x max_variables && not (bit x first)) from → LeadsInto (depends_in fill c e set n) from m → Masks (λ x. ltb x max_variables && not (bit x m)) k
    → Masks (settled t (take n set)) k
all_settled t known small c e fill fills set n first from m k fits room is seeds leads stays =
    settled_says t known small (take n set) n from m k fits (from_says n first from is seeds)
    (leads_same (λ x y. depends_node t c e fill fills set n x y) leads) stays (sym (length-take-le n set room))
