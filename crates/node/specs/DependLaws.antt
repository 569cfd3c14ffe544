-- Laws of direct dependences: the masks of the restrictions say what depends on what in a table.
--
--   fills_front    == the masks of the restrictions alone, as `Fillers` has them
--   depends_filled == by a set number
--   depends_node   == by the sets of a node
--   chosen_depends == what depends on any is chosen
use Rattle.std.specs.Prelude.{◌≡◌, List, ℕ, ◌+◌, ◌≤◌, ◌<◌, T, ltb, length, take}
use Rattle.std.proofs.Math.Path.{sym, ap, ap₂}
use Rattle.std.proofs.Common.{◌∙◌, arith, lt-ltb, le-ltb, ltb→lt, length-take, get_or-take, length-take-le, subst}
use Rattle.std.proofs.Math.Bool.{◌&&◌}
use Rattle.std.proofs.Math.Decide.{dec_lt}
use Rattle.std.proofs.Math.ListN.{get_or}
use Rattle.el.specs.Test.{any_below, bit}
use Rattle.el.specs.TestLaws.{and_left, any_below_same}
use Rattle.el.specs.Table.{Table, row_at}
use Rattle.el.specs.Assignment.{Assignment, set_of, is_variable, depends}
use Rattle.el.proofs.NodeLaws.{depends_unchosen}
use Rattle.node.specs.Mask.{FillMask, Fills}
use Rattle.node.specs.Marks.{depends_by, depends_in}

pub fills_front : {t : Table} {c e : ℕ} {fill masks : List ℕ} {constants : ℕ} → Fills t c e fill → e ≤ length fill → masks ≡ take e fill → constants ≡ c → Fills t constants (length masks) masks
fills_front {t} {c} {e} {fill} {masks} {constants} fills room is same =
    let many : length (take e fill) ≡ e = length-take-le e fill room in
    subst (λ (k : ℕ). Fills t k (length masks) masks) (sym same) (subst (λ (m : List ℕ). Fills t c (length m) m) (sym is) (record {
      constants = fills.constants;
      restrictions = many ∙ fills.restrictions;
      masks = record { at = λ i h. subst (FillMask t.rows i) (sym (get_or-take e fill i 0 (omega arith))) (fills.masks.at i (omega arith)) };
    }))

module _ (t : Table) (c e : ℕ) (fill : List ℕ) (fills : Fills t c e fill) where
  pub depends_filled : (a : Assignment) (x y : ℕ) → depends_by fill c (set_of a x) e y ≡ depends t a x y
  unfolding depends_by depends
  depends_filled a x y =
      any_below_same e (λ i. bit (c + i) (set_of a x) && bit y (get_or fill i 0)) (λ i. bit (t.constants + i) (set_of a x) && is_variable y (row_at t.rows i).filler)
      (λ i h. ap₂ ◌&&◌ (ap (λ (k : ℕ). bit (k + i) (set_of a x)) fills.constants) (fills.masks.at i h y))
      ∙ ap (λ (n : ℕ). any_below n (λ i. bit (t.constants + i) (set_of a x) && is_variable y (row_at t.rows i).filler)) fills.restrictions

  pub depends_node : (set : List ℕ) (n x y : ℕ) → depends_in fill c e set n x y ≡ depends t (take n set) x y
  unfolding depends_in set_of
  depends_node set n x y = go (dec_lt x n)
    where
      own : x < n → get_or set x 0 ≡ set_of (take n set) x
      own h = sym (get_or-take n set x 0 h)

      unchosen : (x < n → ⊥) → length (take n set) ≤ x
      unchosen h = simp length-take (omega arith)

      go : Dec (x < n) → ltb x n && depends_by fill c (get_or set x 0) e y ≡ depends t (take n set) x y
      go (yes h) =
          rw (lt-ltb x n h) (ap (λ (s : ℕ). depends_by fill c s e y) (own h) ∙ depends_filled (take n set) x y)
      go (no h) = rw (le-ltb x n (omega arith)) (sym (depends_unchosen t (take n set) x y (unchosen h)))

pub chosen_depends : (fill : List ℕ) (c e : ℕ) (set : List ℕ) (n x y : ℕ) → T (depends_in fill c e set n x y) → x < n
unfolding depends_in
chosen_depends fill c e set n x y u = ltb→lt x n (and_left (ltb x n) (depends_by fill c (get_or set x 0) e y) u)
