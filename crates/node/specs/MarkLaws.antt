-- Laws of marks: the atoms whose filler is marked, and the variables that lead to the marks.
--
--   atoms_start, atoms_more, atoms_skip, atoms_whole == the restrictions one by one, and what their atoms say
--   has_none, has_some, has_all == the variables whose sets have one of the atoms are those that depend on a marked one
--   more_ones, all_ones == how many variables masks have
--   marking_start, marking_more == a round that marks more
--   leads_stable, leads_none == a round that marks no more, and none where no atom leads to a marked variable
--   leads_full     == as many rounds as variables
--   leads_same     == relations with the same steps
--   leads_back     == what leads to a marked one is marked
use Rattle.std.specs.Prelude.{◌≡◌, refl, Bool, true, false, ◌&&◌, ◌||◌, ◌⊎◌, List, ℕ, ◌+◌, ◌*◌, ◌%◌, ◌^◌, ◌≤◌, ◌<◌, ltb, get_or}
use Rattle.std.proofs.Math.Path.{sym, subst}
use Rattle.std.proofs.Common.{ap, ◌∙◌, inl, inr, eq-eqb, ne_eqb, eqb→eq, ltb→lt}
use Rattle.std.proofs.Math.Bool.{not, and-false}
use native.Mathlib.Omega.{arith}
use Rattle.std.proofs.Math.Decide.{dec_lt}
use Rattle.std.specs.Int.Bits.{bit_and, bit_or, and_zero_r}
use Rattle.std.proofs.Math.Dec.{T, T_not, not_T, eqb}
use Rattle.el.specs.Test.{any_below, bit}
use Rattle.el.specs.TestLaws.{true_is, false_not, bit_none, same_test, or_left, or_right, or_cases, and_make, and_left, and_right, any_below_next, any_below_hit, any_below_found}
use Rattle.el.specs.Assignment.{Reaches, once, then}
use Rattle.el.specs.BitLaws.{bit_of_or}
use Rattle.el.proofs.CircleLaws.{reaches_along}
use Rattle.el.proofs.InducedLaws.{count_below_lt, count_below_all}
use Rattle.el.specs.Rank.{count_below}
use Rattle.node.specs.Mask.{Masks, Picks}
use Rattle.node.specs.MaskLaws.{masks_none, bit_added, bit_kept, meet_found, meet_hit, same_bits}
use Rattle.node.specs.Marks.{depends_by, depends_in, atoms_to, AtomsInto, has_one, LeadsInto, ones, Marking}
use Rattle.node.specs.DependLaws.{chosen_depends}

----------------------------------------------------------------------------------------------------
-- The atoms whose filler is marked

module _ (fill : List ℕ) (c m : ℕ) where
  pub atoms_start : Masks (atoms_to fill c m 0) 0
  unfolding atoms_to any_below
  atoms_start = masks_none

  module _ (k atoms : ℕ) (is : Masks (atoms_to fill c m k) atoms) where
    next : (i : ℕ) → atoms_to fill c m k i || (not (eqb (bit_and (get_or fill k 0) m) 0) && eqb (c + k) i) ≡ atoms_to fill c m (k + 1) i
    unfolding atoms_to
    next i = sym (any_below_next k (λ j. not (eqb (bit_and (get_or fill j 0) m) 0) && eqb (c + j) i))

    pub atoms_more : (w : ℕ) → c + k < w → (bit_and (get_or fill k 0) m ≡ 0 → ⊥) → Masks (atoms_to fill c m (k + 1)) (bit_or atoms (1 * 2 ^ (c + k) % 2 ^ w))
    atoms_more w h e i = bit_added (atoms_to fill c m k) atoms (c + k) (not (eqb (bit_and (get_or fill k 0) m) 0)) is w h (ap not (ne_eqb (bit_and (get_or fill k 0) m) 0 e)) i ∙ next i

    pub atoms_skip : bit_and (get_or fill k 0) m ≡ 0 → Masks (atoms_to fill c m (k + 1)) atoms
    atoms_skip e i = bit_kept (atoms_to fill c m k) atoms (c + k) (not (eqb (bit_and (get_or fill k 0) m) 0)) is (ap not (eq-eqb (bit_and (get_or fill k 0) m) 0 e)) i ∙ next i

    pub atoms_whole : (e : ℕ) → k ≤ e → e ≤ k → AtomsInto fill c e m atoms
    unfolding atoms_to depends_by
    atoms_whole e h l = record { some = found; none = nowhere }
      where
        same : k ≡ e
        same = omega arith

        found : (s : ℕ) → (bit_and s atoms ≡ 0 → ⊥) → (y : ℕ) × T (bit y m) × T (any_below e (λ i. bit (c + i) s && bit y (get_or fill i 0)))
        found s f =
            let b = meet_found s atoms f in
            let a = any_below_found k (λ j. not (eqb (bit_and (get_or fill j 0) m) 0) && eqb (c + j) b.0) (subst T (is b.0) b.2) in
            let own = get_or fill a.0 0 in
            let g = meet_found own m (λ z. T_not (eqb (bit_and own m) 0) (and_left (not (eqb (bit_and own m) 0)) (eqb (c + a.0) b.0) a.2) (true_is (eqb (bit_and own m) 0) (eq-eqb (bit_and own m) 0 z))) in
            let at : c + a.0 ≡ b.0 = eqb→eq (c + a.0) b.0 (and_right (not (eqb (bit_and own m) 0)) (eqb (c + a.0) b.0) a.2) in
            let low : a.0 < k = a.1 in (
              g.0,
              g.2,
              any_below_hit e a.0 (λ i. bit (c + i) s && bit g.0 (get_or fill i 0)) (omega arith)
                  (and_make (bit (c + a.0) s) (bit g.0 own) (subst (λ (i : ℕ). T (bit i s)) (sym at) b.1) g.1),
            )

        nowhere : (s y : ℕ) → bit_and s atoms ≡ 0 → T (bit y m) → T (any_below e (λ i. bit (c + i) s && bit y (get_or fill i 0))) → ⊥
        nowhere s y z u w =
            let a = any_below_found e (λ i. bit (c + i) s && bit y (get_or fill i 0)) w in
            let own = get_or fill a.0 0 in let low : a.0 < e = a.1 in
            let on : T (bit (c + a.0) s) = and_left (bit (c + a.0) s) (bit y own) a.2 in
            let marked : T (not (eqb (bit_and own m) 0)) = not_T (eqb (bit_and own m) 0) (λ q. meet_hit own m y (and_right (bit (c + a.0) s) (bit y own) a.2) u (eqb→eq (bit_and own m) 0 q)) in
            meet_hit s atoms (c + a.0) on
            (subst T (sym (is (c + a.0))) (any_below_hit k a.0 (λ j. not (eqb (bit_and (get_or fill j 0) m) 0) && eqb (c + j) (c + a.0)) (omega arith)
            (and_make (not (eqb (bit_and own m) 0)) (eqb (c + a.0) (c + a.0)) marked (true_is (eqb (c + a.0) (c + a.0)) (eq-eqb (c + a.0) (c + a.0) refl))))) z

----------------------------------------------------------------------------------------------------
-- The variables whose sets have one of the atoms

-- of no atoms no set has one
has_none : (set : List ℕ) (atoms n : ℕ) → atoms ≡ 0 → Picks (has_one set atoms) n 0
unfolding has_one
has_none set atoms n z = record { bits = λ y. bit_none y ∙ sym (ap (λ b. ltb y n && not b) (eq-eqb _ 0 (ap (bit_and (get_or set y 0)) z ∙ and_zero_r (get_or set y 0))) ∙ and-false (ltb y n)) }

module _ {fill : List ℕ} {c e m atoms : ℕ} (into : AtomsInto fill c e m atoms) (set : List ℕ) (n k : ℕ) (picks : Picks (has_one set atoms) n k) where
  pub has_some : (x : ℕ) → T (bit x k) → (y : ℕ) × T (bit y m) × T (depends_in fill c e set n x y)
  unfolding has_one depends_in
  has_some x u =
      let own = bit_and (get_or set x 0) atoms in
      let g : T (ltb x n && not (eqb own 0)) = subst T (picks.bits x) u in
      let f = into.some (get_or set x 0) (λ z. T_not (eqb own 0) (and_right (ltb x n) (not (eqb own 0)) g) (true_is (eqb own 0) (eq-eqb own 0 z))) in
      (f.0, f.1, and_make (ltb x n) (depends_by fill c (get_or set x 0) e f.0) (and_left (ltb x n) (not (eqb own 0)) g) f.2)

  pub has_all : (x y : ℕ) → T (bit y m) → T (depends_in fill c e set n x y) → T (bit x k)
  unfolding has_one depends_in
  has_all x y u w =
      let own = bit_and (get_or set x 0) atoms in let by = depends_by fill c (get_or set x 0) e y in
      subst T (sym (picks.bits x))
      (and_make (ltb x n) (not (eqb own 0)) (and_left (ltb x n) by w)
      (not_T (eqb own 0) (λ z. into.none (get_or set x 0) y (eqb→eq own 0 z) u (and_right (ltb x n) by w))))

----------------------------------------------------------------------------------------------------
-- How many variables a mask has

more_ones : (n a b : ℕ) → ((x : ℕ) → T (bit x a) → T (bit x b)) → ((x : ℕ) → T (bit x b) → T (bit x a) ⊎ (x < n)) → (a ≡ b → ⊥) → ones n a < ones n b
unfolding ones
more_ones n a b adds low other = go (dec_lt (count_below n (λ x. bit x a)) (count_below n (λ x. bit x b)))
  where
    at : (count_below n (λ x. bit x a) < count_below n (λ x. bit x b) → ⊥) → (x : ℕ) → T (bit x b) → (p : Bool) → bit x a ≡ p → T (bit x a)
    at no_more x u true e = true_is (bit x a) e
    at no_more x u false e =
        elim (low x u) [ inl w ↦ w | inr h ↦ absurd (no_more (count_below_lt n x (λ x. bit x a) (λ x. bit x b) h (false_not (bit x a) e) u (λ i k. adds i))) ]

    go : Dec (count_below n (λ x. bit x a) < count_below n (λ x. bit x b)) → count_below n (λ x. bit x a) < count_below n (λ x. bit x b)
    go (yes h) = h
    go (no h) = absurd (other (same_bits a b (λ x. same_test (bit x a) (bit x b) (adds x) (λ u. at h x u (bit x a) refl))))

all_ones : (n m : ℕ) → n ≤ ones n m → (x : ℕ) → x < n → T (bit x m)
unfolding ones
all_ones n m h x l = go (bit x m) refl
  where
    go : (p : Bool) → bit x m ≡ p → T (bit x m)
    go true e = true_is (bit x m) e
    go false e =
        let f : count_below n (λ x. bit x m) < count_below n (λ x. true) = count_below_lt n x (λ x. bit x m) (λ x. true) l (false_not (bit x m) e) tt (λ i k u. tt) in
        let g : count_below n (λ x. true) ≡ n = count_below_all n in absurd (let z : ⊥ = omega arith in z)

----------------------------------------------------------------------------------------------------
-- The variables that lead to the marks

pub marking_start : (fill : List ℕ) (c e : ℕ) (set : List ℕ) (n seed atoms : ℕ) → AtomsInto fill c e seed atoms → Marking fill c e set n seed seed atoms 0
marking_start fill c e set n seed atoms into = record { leading = record { seeds = λ x u. u; only = λ x u. inl u }; into = into; rounds = omega arith }

module _ (fill : List ℕ) (c e : ℕ) (set : List ℕ) (n seed m atoms i : ℕ) (marking : Marking fill c e set n seed m atoms i) where
  abbrev d : ℕ → ℕ → Bool
  d = depends_in fill c e set n

  module _ (k : ℕ) (picks : Picks (has_one set atoms) n k) where
    over : (x : ℕ) (s : (y : ℕ) × T (bit y m) × T (d x y)) → T (bit s.0 seed) ⊎ ((y : ℕ) × T (bit y seed) × Reaches d s.0 y) → (y : ℕ) × T (bit y seed) × Reaches d x y
    over x s (inl w) = (s.0, w, once s.2)
    over x s (inr w) = (w.0, w.1, then s.2 w.2)

    onto : (x : ℕ) → ((y : ℕ) × T (bit y m) × T (d x y)) → (y : ℕ) × T (bit y seed) × Reaches d x y
    onto x s = over x s (marking.leading.only s.0 s.1)

    joined : (x : ℕ) → T (bit x (bit_or m k)) → T (bit x m) ⊎ T (bit x k)
    joined x u = or_cases (bit x m) (bit x k) (subst T (bit_of_or x m k) u)

    kept : (x : ℕ) → T (bit x m) → T (bit x (bit_or m k))
    kept x u = subst T (sym (bit_of_or x m k)) (or_left (bit x m) (bit x k) u)

    -- a round that marks more marks one of the first n
    pub marking_more : (more : ℕ) → (bit_or m k ≡ m → ⊥) → AtomsInto fill c e (bit_or m k) more → Marking fill c e set n seed (bit_or m k) more (i + 1)
    marking_more more other into = record {
      leading = record {
        seeds = λ x u. kept x (marking.leading.seeds x u);
        only = λ x u. elim (joined x u) [ inl w ↦ marking.leading.only x w | inr w ↦ inr (onto x (has_some marking.into set n k picks x w)) ];
      };
      into = into;
      rounds = let h : i ≤ ones n m = marking.rounds in let l : ones n m < ones n (bit_or m k) = grown in omega arith;
    }
      where
        grown : ones n m < ones n (bit_or m k)
        grown =
            more_ones n m (bit_or m k) kept
            (λ x u. elim (joined x u) [ inl w ↦ inl w | inr w ↦ inr (ltb→lt x n (and_left (ltb x n) (has_one set atoms x) (subst T (picks.bits x) w))) ]) (λ q. other (sym q))

    pub leads_stable : bit_or m k ≡ m → LeadsInto d seed m
    leads_stable q = record {
      leading = marking.leading;
      all = λ x y u w. subst (λ (j : ℕ). T (bit x j)) q (subst T (sym (bit_of_or x m k)) (or_right (bit x m) (bit x k) (has_all marking.into set n k picks x y w u)));
    }

  -- no atom leads to a marked one
  pub leads_none : atoms ≡ 0 → LeadsInto d seed m
  leads_none z = record {
    leading = marking.leading;
    all = λ x y u w. absurd (subst T (bit_none x) (has_all marking.into set n 0 (has_none set atoms n z) x y w u));
  }

  -- as many rounds as variables: each is marked
  pub leads_full : n ≤ i → LeadsInto d seed m
  leads_full h = record {
    leading = marking.leading;
    all = λ x y u w. all_ones n m (let r : i ≤ ones n m = marking.rounds in omega arith) x (chosen_depends fill c e set n x y u);
  }

pub leads_same : {d b : ℕ → ℕ → Bool} {seed m : ℕ} → ((x y : ℕ) → d x y ≡ b x y) → LeadsInto d seed m → LeadsInto b seed m
leads_same {d} {b} {seed} {m} same leads = record {
  leading = record { seeds = leads.leading.seeds; only = λ x u. onto x (leads.leading.only x u) };
  all = λ x y u w. leads.all x y (subst T (sym (same x y)) u) w;
}
  where
    onto : (x : ℕ) → T (bit x seed) ⊎ ((y : ℕ) × T (bit y seed) × Reaches d x y) → T (bit x seed) ⊎ ((y : ℕ) × T (bit y seed) × Reaches b x y)
    onto x (inl u) = inl u
    onto x (inr f) = inr (f.0, f.1, reaches_along (λ x y u. once (subst T (same x y) u)) f.2)

pub leads_back : {d : ℕ → ℕ → Bool} {seed m : ℕ} → LeadsInto d seed m → {x y : ℕ} → Reaches d x y → T (bit y m) → T (bit x m)
leads_back leads {x} {y} (once u) w = leads.all x y u w
leads_back leads {x} {y} (then {y = z} u r) w = leads.all x z u (leads_back leads r w)
