-- Level by level, the text is read as by the machine.
--
--   deeper_.., updated_.., marked_.. == small steps of the definitions
--   stack_of m d          == the states of the levels below d, innermost first
--   machine s f n        == the machine after n tokens, its stack made of the levels
--   turn, run_to         == a token that does not stop, and n of them
--   settled              == the first token that stops gives the verdict
use mathlib.Core.Path.{◌≡◌, refl, sym, ap, ap₂, ◌∙◌}
use mathlib.Core.Bool.{Bool, true, false, ◌||◌, true≢false}
use mathlib.Core.List.{List, [], ◌∷◌}
use Prim.Native.Nat.{ℕ, zero, suc, ◌+◌, ◌-◌, ◌/◌, ◌≤◌, ◌<◌}
use native.Mathlib.Omega.{arith}
use native.Mathlib.Decide.{ℕ_discrete}
use lib.Dec.{eqb, ltb}
use lib.ListN.{length}
use borrow.Author.Tests.{eq-eqb, ne_eqb, eqb-false}
use Rattle.owl.specs.Token.{place_at, kind_at, end_at}
use Rattle.owl.specs.TokenLaws.{end_after, progress, more}
use Rattle.owl.specs.Grammar.{Verdict, verdict, checked}
use Rattle.owl_text.specs.Levels.{next, opener, inner, end_verdict, run, deeper, updated, opened, marked, at_token, depth_at, mark_at, state_at, stops, verdict_at, Found}
use Rattle.owl_text.proofs.LevelLaws.{checked_run}
use Rattle.owl_text.proofs.TableLaws.{opened_at}

----------------------------------------------------------------------------------------------------
-- Small steps of the definitions

pub deeper_open : (k depth : ℕ) → opener k ≡ true → deeper k depth ≡ depth + 1
unfolding deeper
deeper_open k depth h = rw (h, deeper)

pub deeper_plain : (k depth : ℕ) → opener k ≡ false → (k ≡ 2 → ⊥) → deeper k depth ≡ depth
unfolding deeper
deeper_plain k depth h c = rw (h, ne_eqb k 2 c, deeper)

pub deeper_close : (k depth : ℕ) → opener k ≡ false → k ≡ 2 → deeper k depth ≡ depth - 1
unfolding deeper
deeper_close k depth h c = rw (h, eq-eqb k 2 c, deeper)

pub deeper_most : (k depth : ℕ) → deeper k depth ≤ depth + 1
deeper_most k depth = go (opener k) refl (ℕ_discrete k 2)
  where
    go : (o : Bool) → opener k ≡ o → Dec (k ≡ 2) → deeper k depth ≤ depth + 1
    go true o d = let z : deeper k depth ≡ depth + 1 = deeper_open k depth o in omega arith
    go false o (yes e) = let z : deeper k depth ≡ depth - 1 = deeper_close k depth o e in omega arith
    go false o (no e) = let z : deeper k depth ≡ depth = deeper_plain k depth o e in omega arith

pub updated_at : (level : ℕ) (f : ℕ → ℕ) (i mark : ℕ) → level ≡ i → updated level f i mark ≡ f mark
unfolding updated
updated_at level f i mark h = rw (eq-eqb level i h, updated)

pub updated_off : (level : ℕ) (f : ℕ → ℕ) (i mark : ℕ) → (level ≡ i → ⊥) → updated level f i mark ≡ mark
unfolding updated
updated_off level f i mark h = rw (ne_eqb level i h, updated)

module _ (i depth k mark : ℕ) where
  stepped : ℕ
  stepped = updated depth (λ m. next m k) i mark

  marked_top : depth ≡ i → marked i depth k mark ≡ next mark k
  unfolding marked stepped
  marked_top h = updated_off (depth + 1) (opened k) i stepped (λ e. let z : ⊥ = omega arith in z) ∙ updated_at depth (λ m. next m k) i mark h

  marked_low : i < depth → marked i depth k mark ≡ mark
  unfolding marked stepped
  marked_low h = updated_off (depth + 1) (opened k) i stepped (λ e. let z : ⊥ = omega arith in z) ∙ updated_off depth (λ m. next m k) i mark (λ e. let z : ⊥ = omega arith in z)

  marked_open : depth + 1 ≡ i → opener k ≡ true → marked i depth k mark ≡ inner k
  unfolding marked stepped
  marked_open h o = updated_at (depth + 1) (opened k) i stepped h ∙ opened_at k stepped o

----------------------------------------------------------------------------------------------------
-- The stack of the levels

stack_of : (ℕ → ℕ) → ℕ → List ℕ
stack_of m zero = []
stack_of m (suc d) = m d ∷ stack_of m d

stack_same : (m n : ℕ → ℕ) (d : ℕ) → ((i : ℕ) → i < d → m i ≡ n i) → stack_of m d ≡ stack_of n d
unfolding stack_of
stack_same m n zero h = refl
stack_same m n (suc d) h =
    ap₂ (λ (x : ℕ) (l : List ℕ). x ∷ l) (h d (let z : d < suc d = omega arith in z)) (stack_same m n d (λ i l. h i (let z : i < suc d = omega arith in z)))

stack_length : (m : ℕ → ℕ) (d : ℕ) → length (stack_of m d) ≡ d
unfolding stack_of
stack_length m zero = refl
stack_length m (suc d) = ap suc (stack_length m d)

----------------------------------------------------------------------------------------------------
-- The machine's steps

module _ (s : List ℕ) (f at q : ℕ) where
  run_stop : (st : List ℕ) → (eqb (kind_at s at) 0 || ltb 79 (next q (kind_at s at))) ≡ true →
      run s (suc f) at q st ≡ elim (eqb (kind_at s at) 0) [ true ↦ end_verdict s q (length st) | false ↦ verdict (next q (kind_at s at) - 80) (place_at s at) ]
  unfolding run
  run_stop st h = go (eqb (kind_at s at) 0) refl h
    where
      go : (b : Bool) → eqb (kind_at s at) 0 ≡ b → (b || ltb 79 (next q (kind_at s at))) ≡ true →
          run s (suc f) at q st ≡ elim b [ true ↦ end_verdict s q (length st) | false ↦ verdict (next q (kind_at s at) - 80) (place_at s at) ]
      go true e h = rw (e, run)
      go false e h = rw (e, h, run)

  module _ (e : eqb (kind_at s at) 0 ≡ false) (h : ltb 79 (next q (kind_at s at)) ≡ false) where
    run_open : (st : List ℕ) → opener (kind_at s at) ≡ true → run s (suc f) at q st ≡ run s f (end_at s at) (inner (kind_at s at)) (next q (kind_at s at) ∷ st)
    unfolding run
    run_open st o = rw (e, h, o, run)

    run_close : (p : ℕ) (ps : List ℕ) → opener (kind_at s at) ≡ false → kind_at s at ≡ 2 → run s (suc f) at q (p ∷ ps) ≡ run s f (end_at s at) p ps
    unfolding run
    run_close p ps o c = rw (e, h, o, eq-eqb (kind_at s at) 2 c, run)

    run_out : opener (kind_at s at) ≡ false → kind_at s at ≡ 2 → run s (suc f) at q [] ≡ run s f (end_at s at) (next q (kind_at s at)) []
    unfolding run
    run_out o c = rw (e, h, o, eq-eqb (kind_at s at) 2 c, run)

    run_plain : (st : List ℕ) → opener (kind_at s at) ≡ false → (kind_at s at ≡ 2 → ⊥) → run s (suc f) at q st ≡ run s f (end_at s at) (next q (kind_at s at)) st
    unfolding run
    run_plain st o c = rw (e, h, o, ne_eqb (kind_at s at) 2 c, run)

module _ (s : List ℕ) where
  machine : ℕ → ℕ → Verdict
  machine f n = run s f (at_token s n) (state_at s n) (stack_of (λ i. mark_at s i n) (depth_at s n))

  abbrev kind : ℕ → ℕ
  kind n = kind_at s (at_token s n)

  -- where the levels are these, the machine's next state is this
  reaches : (f n d q : ℕ) (st : List ℕ) → deeper (kind n) (depth_at s n) ≡ d → marked d (depth_at s n) (kind n) (mark_at s d n) ≡ q →
      stack_of (λ i. marked i (depth_at s n) (kind n) (mark_at s i n)) d ≡ st → run s f (end_at s (at_token s n)) q st ≡ machine f (suc n)
  unfolding machine at_token depth_at mark_at
  reaches f n d q st a b c =
      sym (ap (λ (x : ℕ). run s f (end_at s (at_token s n)) (marked x (depth_at s n) (kind n) (mark_at s x n)) (stack_of (λ i. marked i (depth_at s n) (kind n) (mark_at s i n)) x)) a
      ∙ ap₂ (λ (x : ℕ) (l : List ℕ). run s f (end_at s (at_token s n)) x l) b c)

  below : (n d : ℕ) → d ≤ depth_at s n → stack_of (λ i. marked i (depth_at s n) (kind n) (mark_at s i n)) d ≡ stack_of (λ i. mark_at s i n) d
  below n d h =
      stack_same (λ i. marked i (depth_at s n) (kind n) (mark_at s i n)) (λ i. mark_at s i n) d (λ i l. marked_low i (depth_at s n) (kind n) (mark_at s i n) (let z : i < depth_at s n = omega arith in z))

  module _ (f n : ℕ) (e : eqb (kind n) 0 ≡ false) (h : ltb 79 (next (state_at s n) (kind n)) ≡ false) where
    turn_open : opener (kind n) ≡ true → machine (suc f) n ≡ machine f (suc n)
    unfolding machine stack_of
    turn_open o =
        run_open s f (at_token s n) (state_at s n) e h (stack_of (λ i. mark_at s i n) (depth_at s n)) o
        ∙ reaches f n (suc (depth_at s n)) (inner (kind n)) (next (state_at s n) (kind n) ∷ stack_of (λ i. mark_at s i n) (depth_at s n))
        (deeper_open (kind n) (depth_at s n) o ∙ (let z : depth_at s n + 1 ≡ suc (depth_at s n) = omega arith in z))
        (marked_open (suc (depth_at s n)) (depth_at s n) (kind n) (mark_at s (suc (depth_at s n)) n) (let z : depth_at s n + 1 ≡ suc (depth_at s n) = omega arith in z) o)
        (ap₂ (λ (x : ℕ) (l : List ℕ). x ∷ l) (marked_top (depth_at s n) (depth_at s n) (kind n) (state_at s n) refl) (below n (depth_at s n) (let z : depth_at s n ≤ depth_at s n = omega arith in z)))

    turn_plain : opener (kind n) ≡ false → (kind n ≡ 2 → ⊥) → machine (suc f) n ≡ machine f (suc n)
    unfolding machine
    turn_plain o c =
        run_plain s f (at_token s n) (state_at s n) e h (stack_of (λ i. mark_at s i n) (depth_at s n)) o c
        ∙ reaches f n (depth_at s n) (next (state_at s n) (kind n)) (stack_of (λ i. mark_at s i n) (depth_at s n)) (deeper_plain (kind n) (depth_at s n) o c)
        (marked_top (depth_at s n) (depth_at s n) (kind n) (state_at s n) refl) (below n (depth_at s n) (let z : depth_at s n ≤ depth_at s n = omega arith in z))

    turn_close : (d : ℕ) → depth_at s n ≡ d → opener (kind n) ≡ false → kind n ≡ 2 → machine (suc f) n ≡ machine f (suc n)
    unfolding machine stack_of
    turn_close zero z o c =
        ap (λ (d : ℕ). run s (suc f) (at_token s n) (state_at s n) (stack_of (λ i. mark_at s i n) d)) z
        ∙ run_out s f (at_token s n) (state_at s n) e h o c
        ∙ reaches f n 0 (next (state_at s n) (kind n)) [] (deeper_close (kind n) (depth_at s n) o c ∙ (let y : depth_at s n - 1 ≡ 0 = omega arith in y))
        (marked_top 0 (depth_at s n) (kind n) (mark_at s 0 n) z ∙ ap (λ (d : ℕ). next (mark_at s d n) (kind n)) (sym z)) refl
    turn_close (suc d) z o c =
        ap (λ (d : ℕ). run s (suc f) (at_token s n) (state_at s n) (stack_of (λ i. mark_at s i n) d)) z
        ∙ run_close s f (at_token s n) (state_at s n) e h (mark_at s d n) (stack_of (λ i. mark_at s i n) d) o c
        ∙ reaches f n d (mark_at s d n) (stack_of (λ i. mark_at s i n) d) (deeper_close (kind n) (depth_at s n) o c ∙ (let y : depth_at s n - 1 ≡ d = omega arith in y))
        (marked_low d (depth_at s n) (kind n) (mark_at s d n) (let y : d < depth_at s n = omega arith in y)) (below n d (let y : d ≤ depth_at s n = omega arith in y))

  -- a token that does not stop is there, and its level takes it
  pub there : (n : ℕ) → stops s n ≡ false → (eqb (kind n) 0 ≡ false) × (ltb 79 (next (state_at s n) (kind n)) ≡ false)
  unfolding stops
  there n h = go (eqb (kind n) 0) (ltb 79 (next (state_at s n) (kind n))) h
    where
      go : (a b : Bool) → (a || b) ≡ false → (a ≡ false) × (b ≡ false)
      go true b h = absurd (true≢false h)
      go false b h = (refl, h)

  turn : (f n : ℕ) → stops s n ≡ false → machine (suc f) n ≡ machine f (suc n)
  turn f n h = go (opener (kind n)) refl (ℕ_discrete (kind n) 2)
    where
      go : (o : Bool) → opener (kind n) ≡ o → Dec (kind n ≡ 2) → machine (suc f) n ≡ machine f (suc n)
      go true o d = turn_open f n (there n h).0 (there n h).1 o
      go false o (yes c) = turn_close f n (there n h).0 (there n h).1 (depth_at s n) refl o c
      go false o (no c) = turn_plain f n (there n h).0 (there n h).1 o c

  run_to : (n f : ℕ) → ((j : ℕ) → j < n → stops s j ≡ false) → run s (n + f) 0 0 [] ≡ machine f n
  unfolding machine at_token depth_at mark_at stack_of
  run_to zero f h = let z : 0 + f ≡ f = omega arith in ap (λ (k : ℕ). run s k 0 0 []) z
  run_to (suc n) f h =
      (let z : suc n + f ≡ n + suc f = omega arith in ap (λ (k : ℕ). run s k 0 0 []) z)
      ∙ run_to n (suc f) (λ j l. h j (let z : j < suc n = omega arith in z)) ∙ turn f n (h n (let z : n < suc n = omega arith in z))

  -- each token has a byte
  rises : (n : ℕ) → ((j : ℕ) → j < n → stops s j ≡ false) → at_token s n ≤ length s → n ≤ at_token s n
  unfolding at_token
  rises zero h b = omega arith
  rises (suc n) h b =
      let a : at_token s n ≤ end_at s (at_token s n) = end_after s (at_token s n) in
      let c : at_token s n ≤ length s = omega arith in
      let i : n ≤ at_token s n = rises n (λ j l. h j (let z : j < suc n = omega arith in z)) c in
      let m : at_token s n < length s = more s (at_token s n) c (eqb-false (kind n) 0 (there n (h n (let z : n < suc n = omega arith in z))).0) in
      let p : at_token s n < end_at s (at_token s n) = progress s (at_token s n) m in
      omega arith

  stop_here : (f n : ℕ) → stops s n ≡ true → machine (suc f) n ≡ verdict_at s n
  unfolding machine stops verdict_at
  stop_here f n h =
      run_stop s f (at_token s n) (state_at s n) (stack_of (λ i. mark_at s i n) (depth_at s n)) h
      ∙ ap (λ (d : ℕ). elim (eqb (kind n) 0) [ true ↦ end_verdict s (state_at s n) d | false ↦ verdict (next (state_at s n) (kind n) - 80) (place_at s (at_token s n)) ])
      (stack_length (λ i. mark_at s i n) (depth_at s n))

-- where every block up to the deepest level was read
pub settled : (s : List ℕ) (block at : ℕ) (v : Verdict) (most : ℕ) → Found s block at v most → most / 4096 < block → v ≡ checked s
settled s block at v most F small = sym whole
  where
    n : ℕ
    n = F.refused.count

    clear : (j : ℕ) → j < n → stops s j ≡ false
    clear j l =
        let a : at_token s j < at = F.refused.first j l in
        let d : depth_at s j ≤ most = F.deepest j a in
        F.clear j a (let z : depth_at s j / 4096 < block = omega arith in z)

    enough : suc (length s) ≡ n + suc (length s - n)
    enough =
        let e : at ≡ at_token s n = F.refused.here in
        let b : at ≤ length s = F.refused.within in
        let r : n ≤ at_token s n = rises s n clear (let z : at_token s n ≤ length s = omega arith in z) in
        omega arith

    whole : checked s ≡ v
    whole =
        checked_run s ∙ ap (λ (k : ℕ). run s k 0 0 []) enough ∙ run_to s n (suc (length s - n)) clear ∙ stop_here s (length s - n) n F.refused.stop ∙ F.refused.says
