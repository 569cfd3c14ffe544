-- Laws of a level: what its marks say of the children of a node, and so that it is their level.
--
--   about_says, near_says, fresh_says == what the two masks of variables say, and so which lines are listed
--   atoms_tell     == what the atoms whose filler leads to a variable of 𝓛 say of the children
--   parent_depends == what the marks of the parent are made from
--   level_made     == the level that is made so
use Rattle.std.specs.Prelude.{◌≡◌, refl, Bool, true, false, ◌||◌, not, ◌⊎◌, ℕ, ◌+◌, ◌-◌, ◌*◌, ◌%◌, ◌^◌, ◌≤◌, ◌<◌, eqb, ltb, leb, length, get_or, take}
use Rattle.std.proofs.Common.{sym, subst, ◌∙◌, inl, inr, arith, T_not, eqb→eq, ltb→lt, lt→ltb, le→leb, leb→le, length-take-le, eq-eqb}
use Rattle.std.proofs.Math.Path.{ap, ap₂}
use Rattle.std.proofs.Math.Bool.{◌&&◌}
use mathlib.Core.List.{List, []}
use Rattle.std.proofs.Math.Decide.{dec_lt, ℕ_discrete}
use Rattle.std.proofs.Math.Dec.{T, not_T}
use Rattle.std.proofs.Math.Seq.{get_or-append_seam}
use Rattle.bounds.specs.Bounds.{max_variables, mask_bits, masks}
use Rattle.el.specs.Test.{any_below, all_below, bit}
use Rattle.el.specs.TestLaws.{is_true, is_false, true_is, same_test, or_left, or_right, or_cases, and_make, and_left, and_right, any_below_hit, any_below_found, all_below_all, all_below_at}
use Rattle.el.specs.Table.{Table, declared}
use Rattle.el.specs.Assignment.{Reaches, set_of, depends, reaches}
use Rattle.el.proofs.ReachLaws.{reaches_first, depends_declared, reaches_declared, reaches_means}
use Rattle.el.specs.Walk.{Node, line_variables}
use Rattle.el.specs.Below.{child_of, newly, freshly}
use Rattle.el.proofs.NodeLaws.{depends_unchosen}
use Rattle.table.specs.Layout.{line_at}
use Rattle.node.specs.Node.{DependsGiven}
use Rattle.node.specs.Mask.{Masks, Fills, LineMasks}
use Rattle.node.specs.MaskLaws.{eqb_comm, mask_one, ready_by, any_by}
use Rattle.node.specs.Marks.{depends_by, depends_in, AtomsInto, LeadsInto}
use Rattle.node.specs.MarkLaws.{leads_same, leads_back}
use Rattle.node.specs.DependLaws.{depends_filled, depends_node}
use Rattle.node.specs.ReadyLaws.{from_says, staying_says}
use Rattle.level.specs.declared.Level.{Level}
use Rattle.level.specs.Level.{Back, Out, Tells, fresh_mask, is_fresh, Listed, Levels}
use Rattle.level.specs.ListedLaws.{passing_same}

module _ (t : Table) (known : T (declared t)) (p : Node) where
  --------------------------------------------------------------------------------------------------
  -- Which lines are listed

  -- the newest variable, and those that lead to it
  abbrev about : ℕ → Bool
  about z = eqb z (length p) || reaches t p z (length p)

  -- z leads to no variable after the newest
  abbrev low : ℕ → Bool
  low z = all_below t.variables (λ w. not (reaches t p z w) || leb w (length p))

  abbrev near : ℕ → Bool
  near z = eqb z (length p) || (ltb z (length p) && low z)

  about_says : (seed m : ℕ) → Masks (λ z. eqb (length p) z) seed → LeadsInto (depends t p) seed m → Masks about m
  about_says seed m seeds leads z = same_test (bit z m) (about z) (λ u. to (leads.leading.only z u)) (λ u. back (or_cases (eqb z (length p)) (reaches t p z (length p)) u))
    where
      to : T (bit z seed) ⊎ ((w : ℕ) × T (bit w seed) × Reaches (depends t p) z w) → T (about z)
      to (inl u) = or_left (eqb z (length p)) (reaches t p z (length p)) (subst T (seeds z ∙ eqb_comm (length p) z) u)
      to (inr f) =
          or_right (eqb z (length p)) (reaches t p z (length p))
          ((reaches_means t known p z (length p)).1 (subst (λ (w : ℕ). Reaches (depends t p) z w) (sym (eqb→eq (length p) f.0 (subst T (seeds f.0) f.1))) f.2))

      newest : T (bit (length p) m)
      newest = leads.leading.seeds (length p) (subst T (sym (seeds (length p))) (true_is (eqb (length p) (length p)) (eq-eqb (length p) (length p) refl)))

      back : T (eqb z (length p)) ⊎ T (reaches t p z (length p)) → T (bit z m)
      back (inl u) = subst (λ (w : ℕ). T (bit w m)) (sym (eqb→eq z (length p) u)) newest
      back (inr r) = leads_back leads ((reaches_means t known p z (length p)).0 r) newest

  near_says : (seed m k : ℕ) → t.variables ≤ max_variables → length p < max_variables → Masks (λ x. ltb x max_variables && not (ltb x (length p + 1))) seed
      → LeadsInto (depends t p) seed m → Masks (λ x. ltb x max_variables && not (bit x m)) k → Masks near k
  near_says seed m k small room seeds leads stays z =
      same_test (bit z k) (near z) (λ u. to (says.0 u) (ℕ_discrete z (length p))) (λ u. says.1 (back (or_cases (eqb z (length p)) (ltb z (length p) && low z) u)))
    where
      Stays : Type 0
      Stays = (z < length p + 1) × ((w : ℕ) → T (reaches t p z w) → w < length p + 1)

      says : (T (bit z k) → Stays) × (Stays → T (bit z k))
      says = staying_says t known small p (length p + 1) seed m k (omega arith) seeds leads stays z

      to : Stays → Dec (z ≡ length p) → T (near z)
      to f (yes q) = or_left (eqb z (length p)) (ltb z (length p) && low z) (true_is (eqb z (length p)) (eq-eqb z (length p) q))
      to f (no q) =
          let l : z < length p + 1 = f.0 in
          or_right (eqb z (length p)) (ltb z (length p) && low z)
          (and_make (ltb z (length p)) (low z) (lt→ltb z (length p) (omega arith))
          (all_below_all t.variables (λ w. not (reaches t p z w) || leb w (length p)) (λ w h. one w (reaches t p z w) refl)))
        where
          one : (w : ℕ) (b : Bool) → reaches t p z w ≡ b → T (not (reaches t p z w) || leb w (length p))
          one w true e =
              let h : w < length p + 1 = f.1 w (true_is (reaches t p z w) e) in or_right (not (reaches t p z w)) (leb w (length p)) (le→leb w (length p) (omega arith))
          one w false e = or_left (not (reaches t p z w)) (leb w (length p)) (subst (λ (b : Bool). T (not b)) (sym e) tt)

      back : T (eqb z (length p)) ⊎ T (ltb z (length p) && low z) → Stays
      back (inl u) =
          let q : z ≡ length p = eqb→eq z (length p) u in
          (omega arith, λ w r. absurd (let s = reaches_first (depends t p) ((reaches_means t known p z w).0 r) in none s.0 (omega arith) s.1))
        where
          none : (w : ℕ) → length p ≤ z → T (depends t p z w) → ⊥
          none w h d = subst T (depends_unchosen t p z w h) d
      back (inr u) =
          let l : z < length p = ltb→lt z (length p) (and_left (ltb z (length p)) (low z) u) in (
            omega arith,
            λ w r. only w r (or_cases (not (reaches t p z w)) (leb w (length p))
                (all_below_at t.variables w (λ w. not (reaches t p z w) || leb w (length p)) (and_right (ltb z (length p)) (low z) u) (reaches_declared t known p ((reaches_means t known p z w).0 r)))),
          )
        where
          only : (w : ℕ) → T (reaches t p z w) → T (not (reaches t p z w)) ⊎ T (leb w (length p)) → w < length p + 1
          only w r (inl n) = absurd (T_not (reaches t p z w) n r)
          only w r (inr h) = let k : w ≤ length p = leb→le w (length p) h in omega arith

  fresh_says : (m n a k : ℕ) (mask : List ℕ) → LineMasks t m mask → n < m → Masks about a → Masks near k → is_fresh mask a k n ≡ freshly t p (line_at t.lines n)
  unfolding is_fresh fresh_mask freshly
  fresh_says m n a k mask made h is of =
      ap₂ ◌&&◌ (any_by about (line_variables t.rows (line_at t.lines n)) (get_or mask n 0) a (made.at n h) is)
      (ready_by near (line_variables t.rows (line_at t.lines n)) (get_or mask n 0) k (made.at n h) of)

  --------------------------------------------------------------------------------------------------
  -- What the atoms whose filler leads to a variable of 𝓛 say

  module _ (c e : ℕ) (fill : List ℕ) (fills : Fills t c e fill) where
    -- what the newest variable with the set x depends on directly, and what it leads to over another one
    abbrev Direct : ℕ → ℕ → Bool
    Direct x w = depends t (child_of p x) (length p) w

    abbrev Over : ℕ → ℕ → ℕ → Bool
    Over x w u = Direct x u && reaches t p u w

    direct_says : (x w : ℕ) → depends_by fill c x e w ≡ Direct x w
    unfolding set_of
    direct_says x w =
        ap (λ (z : ℕ). depends_by fill c z e w) (sym (get_or-append_seam p x [] 0)) ∙ depends_filled t c e fill fills (child_of p x) (length p) w

    module _ (W : ℕ → Type 0) (seed m atoms : ℕ) (within : (w : ℕ) → T (bit w seed) → W w) (all : (w : ℕ) → w < t.variables → W w → T (bit w seed))
        (leads : LeadsInto (depends t p) seed m) (into : AtomsInto fill c e m atoms) where
      -- over u, which is marked, the newest variable leads to one of W
      over : (x u : ℕ) → T (Direct x u) → T (bit u seed) ⊎ ((w : ℕ) × T (bit w seed) × Reaches (depends t p) u w) → (w : ℕ) × W w × (newly t p x w ≡ true)
      unfolding newly
      over x u d (inl s) = (u, within u s, is_true (Direct x u || any_below t.variables (Over x u)) (or_left (Direct x u) (any_below t.variables (Over x u)) d))
      over x u d (inr f) =
          let w = f.0 in (
            w,
            within w f.1,
            is_true (Direct x w || any_below t.variables (Over x w))
                (or_right (Direct x w) (any_below t.variables (Over x w))
                (any_below_hit t.variables u (Over x w) (depends_declared t known (child_of p x) (length p) u d)
                (and_make (Direct x u) (reaches t p u w) d ((reaches_means t known p u w).1 f.2)))),
          )

      -- what the newest variable leads to one of 𝓛 by is marked
      marked : (x w : ℕ) → W w → T (newly t p x w) → (u : ℕ) × T (Direct x u) × T (bit u m)
      unfolding newly
      marked x w in_W g = go (or_cases (Direct x w) (any_below t.variables (Over x w)) g)
        where
          seeded : w < t.variables → T (bit w m)
          seeded h = leads.leading.seeds w (all w h in_W)

          go : T (Direct x w) ⊎ T (any_below t.variables (Over x w)) → (u : ℕ) × T (Direct x u) × T (bit u m)
          go (inl d) = (w, d, seeded (depends_declared t known (child_of p x) (length p) w d))
          go (inr a) =
              let f = any_below_found t.variables (Over x w) a in let u = f.0 in
              let r = (reaches_means t known p u w).0 (and_right (Direct x u) (reaches t p u w) f.2) in
              (u, and_left (Direct x u) (reaches t p u w) f.2, leads_back leads r (seeded (reaches_declared t known p r)))

      atoms_tell : Tells t p W atoms
      atoms_tell = record {
        some = λ x h. let f = into.some x h in over x f.0 (subst T (direct_says x f.0) f.2) (leads.leading.only f.0 f.1);
        none = λ x z w in_W. is_false (newly t p x w) (λ g. let f = marked x w in_W g in into.none x f.0 z f.2 (subst T (sym (direct_says x f.0)) f.1));
      }

----------------------------------------------------------------------------------------------------
-- The level that is made so

-- what the marks of the parent are made from
pub parent_depends : {fill : List ℕ} {c e n : ℕ} (set : List ℕ) → DependsGiven fill c e n → 0 < n → length set ≡ max_variables → DependsGiven fill c e (n - 1) × (n - 1 ≤ length set)
parent_depends {n = n} set given some room =
    let h : n ≤ max_variables = given.few_variables in
    (record { few_atoms = given.few_atoms; room = given.room; few_variables = omega arith }, omega arith)

module _ (t : Table) (known : T (declared t)) (small : t.variables ≤ max_variables) (c e : ℕ) (fill : List ℕ) (fills : Fills t c e fill) (set : List ℕ) (y : ℕ)
    (few : y < max_variables) (room : y ≤ length set) where
  abbrev parent : Node
  parent = take y set

  here : length parent ≡ y
  here = length-take-le y set room

  by_table : {seed m : ℕ} → LeadsInto (depends_in fill c e set y) seed m → LeadsInto (depends t parent) seed m
  by_table leads = leads_same (λ x z. depends_node t c e fill fills set y x z) leads

  newest : Masks (λ z. eqb (length parent) z) (1 * 2 ^ y % masks)
  newest z = mask_one mask_bits y (omega arith) z ∙ ap (λ (k : ℕ). eqb k z) (sym here)

  module _ (first later : ℕ) (is : Masks (λ x. ltb x (y + 1)) first) (of : Masks (λ x. ltb x max_variables && not (bit x first)) later) where
    after : Masks (λ x. ltb x max_variables && not (ltb x (length parent + 1))) later
    after x = from_says (y + 1) first later is of x ∙ ap (λ (k : ℕ). ltb x max_variables && not (ltb x (k + 1))) (sym here)

    after_within : (w : ℕ) → T (bit w later) → Out (length parent) w
    after_within w u =
        go (dec_lt (length parent) w)
      where
        go : Dec (length parent < w) → length parent < w
        go (yes h) = h
        go (no h) = absurd (T_not (ltb w (length parent + 1)) (and_right (ltb w max_variables) (not (ltb w (length parent + 1))) (subst T (after w) u)) (lt→ltb w (length parent + 1) (omega arith)))

    after_all : (w : ℕ) → w < t.variables → Out (length parent) w → T (bit w later)
    after_all w h l =
        subst T (sym (after w)) (and_make (ltb w max_variables) (not (ltb w (length parent + 1))) (lt→ltb w max_variables (omega arith))
        (not_T (ltb w (length parent + 1)) (λ u. (let k : w < length parent + 1 = ltb→lt w (length parent + 1) u in let z : ⊥ = omega arith in z))))

    pub level_made : (m a turning b leaving k : ℕ) (mask : List ℕ) (level : Level) → LineMasks t m mask
        → LeadsInto (depends_in fill c e set y) (1 * 2 ^ y % masks) a → AtomsInto fill c e a turning → LeadsInto (depends_in fill c e set y) later b → AtomsInto fill c e b leaving
        → Masks (λ x. ltb x max_variables && not (bit x b)) k → level.turning ≡ turning → level.leaving ≡ leaving → Listed (is_fresh mask a k) m level.fresh level.few → Levels t parent m level
    level_made m a turning b leaving k mask level made back turns out leaves stays q r listed =
        record {
          turning = subst (Tells t parent (Back (length parent))) (sym q)
              (atoms_tell t known parent c e fill fills (Back (length parent)) (1 * 2 ^ y % masks) a turning
              (λ w u. sym (eqb→eq (length parent) w (subst T (newest w) u)))
              (λ w h z. subst T (sym (newest w)) (true_is (eqb (length parent) w) (eq-eqb (length parent) w (sym z)))) (by_table back) turns);
          leaving = subst (Tells t parent (Out (length parent))) (sym r)
              (atoms_tell t known parent c e fill fills (Out (length parent)) later b leaving after_within after_all (by_table out) leaves);
          lines = record {
            numbers = listed.numbers ∙ passing_same (is_fresh mask a k) (λ n. freshly t parent (line_at t.lines n)) m
                (λ n h. fresh_says t known parent m n a k mask made h (about_says t known parent (1 * 2 ^ y % masks) a newest (by_table back))
                (near_says t known parent later b k small (let z : length parent ≡ y = here in omega arith) after (by_table out) stays));
            fits = listed.fits;
            room = listed.room;
          };
        }
