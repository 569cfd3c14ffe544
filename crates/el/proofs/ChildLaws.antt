-- What a child of a live node adds, read off the parent: y is the newest variable, p the parent, and the child is p with one set more.
--
--   Child z w         == at the child z reaches w
--   shorten           == what leads to w at the child led there at the parent, or leads to the newest variable, and that to w
--   newly_means       == so the newest variable reaches w exactly if it does so newly
--   child_acyclic     == the child of an acyclic node is acyclic exactly if the newest variable does not lead to itself newly
--   child_open        == where the newest variable leads to one that is not chosen, the child is live
--   child_dead        == where it leads to chosen ones only, the child is dead exactly if one of these lines fails
use Rattle.std.specs.Prelude.{◌≡◌, refl, Bool, true, false, ◌&&◌, ◌||◌, ◌⊎◌, ◌↔◌, ℕ, ◌≤◌, ◌<◌, ltb, leb}
use Rattle.std.proofs.Math.Path.{sym, ap₂, subst}
use Rattle.std.proofs.Common.{ap, ◌∙◌, eqb→eq, ltb→lt, lt→ltb, leb→le, le→leb}
use Rattle.std.proofs.Math.Bool.{not, and_assoc}
use Rattle.std.proofs.Math.Logic.{inl, inr}
use mathlib.Core.List.{[], ◌∷◌}
use native.Mathlib.Omega.{arith}
use Rattle.std.proofs.Math.Decide.{dec_lt, ℕ_discrete}
use Rattle.std.proofs.Math.Dec.{T, T_not, not_T, eqb, eqb_refl}
use Rattle.std.proofs.Math.ListN.{length, get_or}
use Rattle.el.specs.Test.{any_below, all_below, any_of, every_of}
use Rattle.el.specs.Table.{Line, Table, declared}
use Rattle.el.specs.Meaning.{holds}
use Rattle.el.specs.Assignment.{depends, Reaches, once, then, reaches, acyclic, Acyclic, induced}
use Rattle.el.specs.Walk.{Node, line_variables, settled, ready, fails, dead}
use Rattle.el.specs.TestLaws.{is_false, true_is, false_not, same_test, or_left, or_right, or_cases, and_make, and_left, and_right, any_below_hit, any_below_found, all_below_all, all_below_at, any_of_found, any_of_same, every_of_at, every_of_all}
use Rattle.el.proofs.ReachLaws.{reaches_join, reaches_means, reaches_declared, depends_declared, acyclic_means, depends_same}
use Rattle.el.proofs.NodeLaws.{set_stays, append_adds, reaches_stays, depends_unchosen, settled_chosen, settled_reached, settled_make}
use Rattle.el.proofs.FreshLaws.{child_length, dead_fresh}
use Rattle.el.specs.Below.{no_line, child_of, touches, newly, freshly}

module _ (t : Table) (known : T (declared t)) (p : Node) (x : ℕ) where
  abbrev pub Child : ℕ → ℕ → Type 0
  Child = Reaches (depends t (child_of p x))

  abbrev Parent : ℕ → ℕ → Type 0
  Parent = Reaches (depends t p)

  -- the newest variable leads to w
  abbrev New : ℕ → Type 0
  New w = T (depends t (child_of p x) (length p) w) ⊎ ((u : ℕ) × T (depends t (child_of p x) (length p) u) × Parent u w)

  new_newly : (w : ℕ) → New w → T (newly t p x w)
  unfolding newly
  new_newly w (inl d) = or_left (depends t (child_of p x) (length p) w) (any_below t.variables (λ u. depends t (child_of p x) (length p) u && reaches t p u w)) d
  new_newly w (inr n) =
      or_right (depends t (child_of p x) (length p) w) (any_below t.variables (λ u. depends t (child_of p x) (length p) u && reaches t p u w))
      (any_below_hit t.variables n.0 (λ u. depends t (child_of p x) (length p) u && reaches t p u w) (depends_declared t known (child_of p x) (length p) n.0 n.1)
      (and_make (depends t (child_of p x) (length p) n.0) (reaches t p n.0 w) n.1 ((reaches_means t known p n.0 w).1 n.2)))

  newly_new : (w : ℕ) → T (newly t p x w) → New w
  unfolding newly
  newly_new w h = go (or_cases (depends t (child_of p x) (length p) w) (any_below t.variables (λ u. depends t (child_of p x) (length p) u && reaches t p u w)) h)
    where
      go : T (depends t (child_of p x) (length p) w) ⊎ T (any_below t.variables (λ u. depends t (child_of p x) (length p) u && reaches t p u w)) → New w
      go (inl d) = inl d
      go (inr a) =
          let f = any_below_found t.variables (λ u. depends t (child_of p x) (length p) u && reaches t p u w) a in
          inr (
            f.0,
            and_left (depends t (child_of p x) (length p) f.0) (reaches t p f.0 w) f.2,
            (reaches_means t known p f.0 w).0 (and_right (depends t (child_of p x) (length p) f.0) (reaches t p f.0 w) f.2),
          )

  -- where a dependence of the child was the parent's, or is the newest variable's
  from_parent : (z w : ℕ) → T (depends t (child_of p x) z w) → T (depends t p z w) ⊎ (z ≡ length p)
  from_parent z w d = go (dec_lt z (length p)) (ℕ_discrete z (length p))
    where
      go : Dec (z < length p) → Dec (z ≡ length p) → T (depends t p z w) ⊎ (z ≡ length p)
      go (yes h) e = inl (subst T (sym (depends_same t p (child_of p x) z w (set_stays p (x ∷ []) z h))) d)
      go (no h) (yes e) = inr e
      go (no h) (no e) = absurd (false_not (depends t (child_of p x) z w) (depends_unchosen t (child_of p x) z w (let c = child_length t known p x in omega arith)) d)

  abbrev Short : ℕ → ℕ → Type 0
  Short z w = Parent z w ⊎ (New w × ((z ≡ length p) ⊎ Parent z (length p)))

  pub shorten : {z w : ℕ} → Child z w → Short z w
  shorten (once {x = z} {y = w} d) =
      elim (from_parent z w d) [ inl q ↦ inl (once q) | inr e ↦ inr (inl (subst (λ (i : ℕ). T (depends t (child_of p x) i w)) e d), inl e) ]
  shorten (then {x = z} {y = u} {z = w} d r) = go (from_parent z u d) (shorten r)
    where
      via : T (depends t p z u) → (u ≡ length p) ⊎ Parent u (length p) → Parent z (length p)
      via c (inl e) = subst (λ (i : ℕ). Parent z i) e (once c)
      via c (inr q) = then c q

      go : T (depends t p z u) ⊎ (z ≡ length p) → Short u w → Short z w
      go (inl c) (inl q) = inl (then c q)
      go (inl c) (inr q) = inr (q.0, inr (via c q.1))
      go (inr e) (inl q) = inr (inr (u, subst (λ (i : ℕ). T (depends t (child_of p x) i u)) e d, q), inl e)
      go (inr e) (inr q) = inr (q.0, inl e)

  later : {z w : ℕ} → Parent z w → Child z w
  later r = reaches_stays t known p (child_of p x) (append_adds p (x ∷ [])) r

  new_child : (w : ℕ) → New w → Child (length p) w
  new_child w (inl d) = once d
  new_child w (inr n) = then n.1 (later n.2)

  -- at the parent the newest variable has no dependences
  not_yet : {z w : ℕ} → z ≡ length p → Parent z w → ⊥
  not_yet e (once {x = z} {y = w} d) = false_not (depends t p z w) (depends_unchosen t p z w (omega arith)) d
  not_yet e (then {x = z} {y = w} d r) = false_not (depends t p z w) (depends_unchosen t p z w (omega arith)) d

  child_new : (w : ℕ) → Child (length p) w → New w
  child_new w r = go (shorten r)
    where
      go : Short (length p) w → New w
      go (inl q) = absurd (not_yet refl q)
      go (inr q) = q.0

  pub newly_means : (w : ℕ) → T (newly t p x w) ↔ Child (length p) w
  newly_means w = ((λ h. new_child w (newly_new w h)), λ r. new_newly w (child_new w r))

  -- what it leads to, all that leads on to
  new_on : (z : ℕ) → New z → Parent z (length p) → New (length p)
  new_on z (inl d) q = inr (z, d, q)
  new_on z (inr n) q = inr (n.0, n.1, reaches_join (depends t p) n.2 q)

  -- THE CHILD OF AN ACYCLIC NODE
  pub child_acyclic : acyclic t p ≡ true → acyclic t (child_of p x) ≡ not (newly t p x (length p))
  child_acyclic a =
      same_test (acyclic t (child_of p x)) (not (newly t p x (length p)))
      (λ h. not_T (newly t p x (length p)) (λ n. straight h (length p) (new_child (length p) (newly_new (length p) n))))
      (λ h. (acyclic_means t known (child_of p x)).1 (unfold Acyclic in λ z r. T_not (newly t p x (length p)) h (new_newly (length p) (round z (shorten r)))))
    where
      straight : T (acyclic t (child_of p x)) → (z : ℕ) → Child z z → ⊥
      straight h = unfold Acyclic in (acyclic_means t known (child_of p x)).0 h

      before : (z : ℕ) → Parent z z → ⊥
      before = unfold Acyclic in (acyclic_means t known p).0 (true_is (acyclic t p) a)

      round : (z : ℕ) → Short z z → New (length p)
      round z (inl q) = absurd (before z q)
      round z (inr q) = elim q.1 [ inl e ↦ subst New e q.0 | inr r ↦ new_on z q.0 r ]

  module _ (under : ℕ → ℕ → Bool) (live : dead under t p ≡ false) (none : newly t p x (length p) ≡ false) (straight : acyclic t (child_of p x) ≡ true) where
    -- a variable of a line that touches the newest one leads to all that it leads to
    touched : (l : Line) → T (touches t (child_of p x) (length p) l)
        → (i : ℕ) × (i < length (line_variables t.rows l)) × ((get_or (line_variables t.rows l) i 0 ≡ length p) ⊎ Child (get_or (line_variables t.rows l) i 0) (length p))
    touched l h =
        let f = any_of_found (λ z. eqb z (length p) || reaches t (child_of p x) z (length p)) (line_variables t.rows l) 0 (unfold touches in h) in
        let z = get_or (line_variables t.rows l) f.0 0 in
        (f.0, f.1, elim (or_cases (eqb z (length p)) (reaches t (child_of p x) z (length p)) f.2) [ inl e ↦ inl (eqb→eq z (length p) e) | inr r ↦ inr ((reaches_means t known (child_of p x) z (length p)).0 r) ])

    unready : (w : ℕ) → length p < w → New w → (l : Line) → T (touches t (child_of p x) (length p) l) → T (ready t (child_of p x) l) → ⊥
    unready w h n l u r =
        let f = touched l u in
        let z = get_or (line_variables t.rows l) f.0 0 in
        let s : T (settled t (child_of p x) z) = every_of_at (settled t (child_of p x)) (line_variables t.rows l) f.0 0 (unfold ready in r) f.1 in
        let k : w < length (child_of p x) = settled_reached t known (child_of p x) [] z w s ((reaches_means t known (child_of p x) z w).1 (leads z f.2)) in
        let c = child_length t known p x in omega arith
      where
        leads : (z : ℕ) → (z ≡ length p) ⊎ Child z (length p) → Child z w
        leads z (inl e) = subst (λ (i : ℕ). Child i w) (sym e) (new_child w n)
        leads z (inr q) = reaches_join (depends t (child_of p x)) q (new_child w n)

    no_fail : (w : ℕ) → length p < w → New w → (l : Line) → touches t (child_of p x) (length p) l && fails under t (child_of p x) l ≡ false
    no_fail w h n l =
        is_false (touches t (child_of p x) (length p) l && fails under t (child_of p x) l)
        (λ b. unready w h n l (and_left (touches t (child_of p x) (length p) l) (fails under t (child_of p x) l) b)
        (is_ready (and_right (touches t (child_of p x) (length p) l) (fails under t (child_of p x) l) b)))
      where
        is_ready : T (fails under t (child_of p x) l) → T (ready t (child_of p x) l)
        is_ready f = unfold fails in and_left (ready t (child_of p x) l) (not (holds under t.rows (induced t (child_of p x)) l)) f

    -- WHERE THE NEWEST VARIABLE LEADS TO ONE THAT IS NOT CHOSEN, NO LINE CAN FAIL YET
    pub child_open : (w : ℕ) → length p < w → newly t p x w ≡ true → dead under t (child_of p x) ≡ false
    child_open w h e =
        dead_fresh t known p x under live straight
        ∙ is_false (any_of (λ l. touches t (child_of p x) (length p) l && fails under t (child_of p x) l) t.lines)
        (λ a. let f = any_of_found (λ l. touches t (child_of p x) (length p) l && fails under t (child_of p x) l) t.lines no_line a in
        false_not (touches t (child_of p x) (length p) (get_or t.lines f.0 no_line) && fails under t (child_of p x) (get_or t.lines f.0 no_line))
        (no_fail w h (newly_new w (true_is (newly t p x w) e)) (get_or t.lines f.0 no_line)) f.2)

    -- where it leads to chosen ones only, what is ready is read off the parent
    module _ (closed : (w : ℕ) → T (newly t p x w) → w ≤ length p) where
      no_new : New (length p) → ⊥
      no_new n = false_not (newly t p x (length p)) none (new_newly (length p) n)

      -- the newest variable is reached at the child only where it was at the parent
      same_touch : (z : ℕ) → (eqb z (length p) || reaches t (child_of p x) z (length p)) ≡ (eqb z (length p) || reaches t p z (length p))
      same_touch z =
          ap (λ (b : Bool). eqb z (length p) || b)
          (same_test (reaches t (child_of p x) z (length p)) (reaches t p z (length p))
          (λ r. (reaches_means t known p z (length p)).1 (back (shorten ((reaches_means t known (child_of p x) z (length p)).0 r))))
          (λ r. (reaches_means t known (child_of p x) z (length p)).1 (later ((reaches_means t known p z (length p)).0 r))))
        where
          back : Short z (length p) → Parent z (length p)
          back (inl q) = q
          back (inr q) = absurd (no_new q.0)

      abbrev ReadyAt : ℕ → Bool
      ReadyAt z = eqb z (length p) || (ltb z (length p) && all_below t.variables (λ w. not (reaches t p z w) || leb w (length p)))

      low_all : (z : ℕ) → ((w : ℕ) → T (reaches t p z w) → w ≤ length p) → T (all_below t.variables (λ w. not (reaches t p z w) || leb w (length p)))
      low_all z f = all_below_all t.variables (λ w. not (reaches t p z w) || leb w (length p)) (λ w _. go w (reaches t p z w) refl)
        where
          go : (w : ℕ) (b : Bool) → reaches t p z w ≡ b → T (not b || leb w (length p))
          go w true e = le→leb w (length p) (f w (true_is (reaches t p z w) e))
          go w false e = tt

      low_at : (z w : ℕ) → T (all_below t.variables (λ w. not (reaches t p z w) || leb w (length p))) → T (reaches t p z w) → w ≤ length p
      low_at z w h r =
          elim (or_cases (not (reaches t p z w)) (leb w (length p)) (all_below_at t.variables w (λ w. not (reaches t p z w) || leb w (length p)) h (reaches_declared t known p ((reaches_means t known p z w).0 r))))
          [ inl n ↦ absurd (T_not (reaches t p z w) n r) | inr l ↦ leb→le w (length p) l ]

      -- what z reaches at the child is chosen, where what it reaches at the parent is, or is the newest variable
      reach_low : (z : ℕ) → ((w : ℕ) → T (reaches t p z w) → w ≤ length p) → (w : ℕ) → T (reaches t (child_of p x) z w) → w < length (child_of p x)
      reach_low z f w r = let c = child_length t known p x in let q : w ≤ length p = go (shorten ((reaches_means t known (child_of p x) z w).0 r)) in omega arith
        where
          go : Short z w → w ≤ length p
          go (inl q) = f w ((reaches_means t known p z w).1 q)
          go (inr q) = closed w (new_newly w q.0)

      settled_from : (z : ℕ) → T (ReadyAt z) → T (settled t (child_of p x) z)
      settled_from z h =
          elim (or_cases (eqb z (length p)) (ltb z (length p) && all_below t.variables (λ w. not (reaches t p z w) || leb w (length p))) h) [
            | inl e ↦ newest (eqb→eq z (length p) e)
            | inr k ↦ old (ltb→lt z (length p) (and_left (ltb z (length p)) (all_below t.variables (λ w. not (reaches t p z w) || leb w (length p))) k))
                (and_right (ltb z (length p)) (all_below t.variables (λ w. not (reaches t p z w) || leb w (length p))) k)
          ]
        where
          newest : z ≡ length p → T (settled t (child_of p x) z)
          newest e =
              settled_make t known (child_of p x) [] z (let c = child_length t known p x in omega arith)
              (reach_low z (λ w r. absurd (not_yet e ((reaches_means t known p z w).0 r))))

          old : z < length p → T (all_below t.variables (λ w. not (reaches t p z w) || leb w (length p))) → T (settled t (child_of p x) z)
          old l k = settled_make t known (child_of p x) [] z (let c = child_length t known p x in omega arith) (reach_low z (λ w r. low_at z w k r))

      from_settled : (z : ℕ) → T (settled t (child_of p x) z) → T (ReadyAt z)
      from_settled z h = go (ℕ_discrete z (length p))
        where
          go : Dec (z ≡ length p) → T (ReadyAt z)
          go (yes e) = or_left (eqb z (length p)) (ltb z (length p) && all_below t.variables (λ w. not (reaches t p z w) || leb w (length p))) (subst (λ (i : ℕ). T (eqb z i)) e (eqb_refl z))
          go (no e) =
              or_right (eqb z (length p)) (ltb z (length p) && all_below t.variables (λ w. not (reaches t p z w) || leb w (length p)))
              (and_make (ltb z (length p)) (all_below t.variables (λ w. not (reaches t p z w) || leb w (length p)))
              (lt→ltb z (length p) (let a : z < length (child_of p x) = settled_chosen t known (child_of p x) [] z h in let c = child_length t known p x in omega arith))
              (low_all z (λ w r. let a : w < length (child_of p x) = settled_reached t known (child_of p x) [] z w h ((reaches_means t known (child_of p x) z w).1 (later ((reaches_means t known p z w).0 r))) in
              let c = child_length t known p x in omega arith)))

      ready_same : (l : Line) → ready t (child_of p x) l ≡ every_of ReadyAt (line_variables t.rows l)
      unfolding ready
      ready_same l =
          same_test (every_of (settled t (child_of p x)) (line_variables t.rows l)) (every_of ReadyAt (line_variables t.rows l))
          (λ h. every_of_all ReadyAt (line_variables t.rows l) 0 (λ i k. from_settled (get_or (line_variables t.rows l) i 0) (every_of_at (settled t (child_of p x)) (line_variables t.rows l) i 0 h k)))
          (λ h. every_of_all (settled t (child_of p x)) (line_variables t.rows l) 0 (λ i k. settled_from (get_or (line_variables t.rows l) i 0) (every_of_at ReadyAt (line_variables t.rows l) i 0 h k)))

      touch_same : (l : Line) → touches t (child_of p x) (length p) l ≡ any_of (λ z. eqb z (length p) || reaches t p z (length p)) (line_variables t.rows l)
      unfolding touches
      touch_same l = any_of_same (λ z. eqb z (length p) || reaches t (child_of p x) z (length p)) (λ z. eqb z (length p) || reaches t p z (length p)) (line_variables t.rows l) 0 (λ i _. same_touch (get_or (line_variables t.rows l) i 0))

      fails_same : (l : Line) → touches t (child_of p x) (length p) l && fails under t (child_of p x) l ≡ freshly t p l && not (holds under t.rows (induced t (child_of p x)) l)
      unfolding fails freshly
      fails_same l =
          ap₂ (λ (a b : Bool). a && (b && not (holds under t.rows (induced t (child_of p x)) l))) (touch_same l) (ready_same l)
          ∙ sym (and_assoc (any_of (λ z. eqb z (length p) || reaches t p z (length p)) (line_variables t.rows l)) (every_of ReadyAt (line_variables t.rows l)) (not (holds under t.rows (induced t (child_of p x)) l)))

      -- WHERE IT LEADS TO CHOSEN ONES ONLY, THE LINES TO TEST ARE READ OFF THE PARENT
      pub child_dead : dead under t (child_of p x) ≡ any_of (λ l. freshly t p l && not (holds under t.rows (induced t (child_of p x)) l)) t.lines
      child_dead =
          dead_fresh t known p x under live straight
          ∙ any_of_same (λ l. touches t (child_of p x) (length p) l && fails under t (child_of p x) l) (λ l. freshly t p l && not (holds under t.rows (induced t (child_of p x)) l)) t.lines no_line
          (λ i _. fails_same (get_or t.lines i no_line))
