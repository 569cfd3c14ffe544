-- A block of levels in an array of 4,096.
--
--   stored, left_out, left_same == the states of the block's levels, but for one
--   Reading              == the loop of `read`: n tokens were read, the array has the states of the block, and no token in it stopped
--   reading_turn         == one token more
--   found_..             == what `read` hands back
use Rattle.std.proofs.Common.{◌≡◌, refl, sym, ap, ap₂, subst, ◌∙◌, Bool, true, false, ◌&&◌, ◌||◌, ◌⊎◌, inl, inr, List, [], ◌∷◌, ℕ, zero, suc, ◌+◌, ◌-◌, ◌%◌, ◌/◌, ◌≤◌, ◌<◌, arith, eqb, ltb, length, get_or}
use Rattle.std.proofs.Math.ListN.{set, length-set, replicate, get_or-replicate}
use mathlib.Core.Bool.{true≢false}
use native.Mathlib.Decide.{ℕ_discrete, dec_lt}
use borrow.Author.Tests.{eq-eqb, ne_eqb, lt-ltb, le-ltb}
use Rattle.owl.specs.Token.{place_at, kind_at, end_at}
use Rattle.owl.specs.TokenLaws.{end_after, progress, more}
use Rattle.owl.specs.Grammar.{Verdict, verdict}
use Rattle.owl_text.specs.Levels.{next, end_verdict, deeper, updated, opened, marked, at_token, depth_at, mark_at, state_at, stops, verdict_at, Updated, Clear, Refused, Found}
use Rattle.owl_text.proofs.StepLaws.{deeper_most, updated_at, updated_off}

----------------------------------------------------------------------------------------------------
-- Places in the array

set_here : (l : List ℕ) (i x : ℕ) → i < length l → get_or (set l i x) i 0 ≡ x
set_here [] i x h = absurd (let z : ⊥ = omega arith in z)
set_here (y ∷ l) zero x h = refl
set_here (y ∷ l) (suc i) x h = set_here l i x (let z : i < length l = omega arith in z)

set_other : (l : List ℕ) (i j x : ℕ) → (i ≡ j → ⊥) → get_or (set l i x) j 0 ≡ get_or l j 0
set_other [] i j x h = refl
set_other (y ∷ l) zero zero x h = absurd (h refl)
set_other (y ∷ l) zero (suc j) x h = refl
set_other (y ∷ l) (suc i) zero x h = refl
set_other (y ∷ l) (suc i) (suc j) x h = set_other l i j x (λ e. h (ap suc e))

-- the level is one of the block
pub stored : (kept : List ℕ) (block level : ℕ) (f : ℕ → ℕ) (x : ℕ) → length kept ≡ 4096 → level / 4096 ≡ block → x ≡ f (get_or kept (level % 4096) 0) → Updated block level f kept (set kept (level % 4096) x)
stored kept block level f x full c e = (length-set kept (level % 4096) x ∙ full, λ i b. go i b (ℕ_discrete level i))
  where
    go : (i : ℕ) → i / 4096 ≡ block → Dec (level ≡ i) → get_or (set kept (level % 4096) x) (i % 4096) 0 ≡ updated level f i (get_or kept (i % 4096) 0)
    go i b (yes d) =
        let p : level % 4096 < 4096 = omega arith in
        ap (λ (j : ℕ). get_or (set kept (level % 4096) x) (j % 4096) 0) (sym d) ∙ set_here kept (level % 4096) x (let z : level % 4096 < length kept = omega arith in z)
        ∙ e ∙ ap (λ (j : ℕ). f (get_or kept (j % 4096) 0)) d ∙ sym (updated_at level f i (get_or kept (i % 4096) 0) d)
    go i b (no d) =
        set_other kept (level % 4096) (i % 4096) x (λ z. d (let y : level ≡ i = omega arith in y)) ∙ sym (updated_off level f i (get_or kept (i % 4096) 0) d)

-- it is not, or f changes nothing there
pub left_out : (kept : List ℕ) (block level : ℕ) (f : ℕ → ℕ) → length kept ≡ 4096 → (level / 4096 ≡ block → ⊥) → Updated block level f kept kept
left_out kept block level f full c = (full, λ i b. sym (updated_off level f i (get_or kept (i % 4096) 0) (λ z. c (ap (λ (j : ℕ). j / 4096) z ∙ b))))

pub left_same : (kept : List ℕ) (block level : ℕ) (f : ℕ → ℕ) → length kept ≡ 4096 → ((q : ℕ) → f q ≡ q) → Updated block level f kept kept
left_same kept block level f full e = (full, λ i b. go i (ℕ_discrete level i))
  where
    go : (i : ℕ) → Dec (level ≡ i) → get_or kept (i % 4096) 0 ≡ updated level f i (get_or kept (i % 4096) 0)
    go i (yes d) = sym (updated_at level f i (get_or kept (i % 4096) 0) d ∙ e (get_or kept (i % 4096) 0))
    go i (no d) = sym (updated_off level f i (get_or kept (i % 4096) 0) d)

----------------------------------------------------------------------------------------------------
-- The loop of `read`

pub record Reading (s : List ℕ) (block at depth most : ℕ) (kept : List ℕ) : Type 0 where
  pub count : ℕ
  pub here : at ≡ at_token s count
  pub deep : depth ≡ depth_at s count
  pub within : at ≤ length s
  pub shallow : depth ≤ at
  pub full : length kept ≡ 4096
  pub states : (i : ℕ) → i / 4096 ≡ block → get_or kept (i % 4096) 0 ≡ mark_at s i count
  pub passed : (j : ℕ) → j < count → (at_token s j < at) × (depth_at s j / 4096 ≡ block → stops s j ≡ false) × (depth_at s j ≤ most)
  pub deepest : depth ≤ most

pub reading_start : (s : List ℕ) (block : ℕ) → Reading s block 0 0 0 (replicate 4096 0)
unfolding at_token depth_at mark_at
reading_start s block =
    record {
      count = 0;
      here = refl;
      deep = refl;
      within = (let z : 0 ≤ length s = omega arith in z);
      shallow = (let z : ◌≤◌ 0 0 = omega arith in z);
      full = refl;
      states = λ i b. get_or-replicate 4096 (i % 4096) 0 0 (let z : i % 4096 < 4096 = omega arith in z);
      passed = λ j l. absurd (let z : ⊥ = omega arith in z);
      deepest = (let z : ◌≤◌ 0 0 = omega arith in z);
    }

module _ (s : List ℕ) (block at depth most : ℕ) (kept : List ℕ) (R : Reading s block at depth most kept) (k : ℕ) (u : k ≡ kind_at s at) where
  same_kind : k ≡ kind_at s (at_token s R.count)
  same_kind = u ∙ ap (kind_at s) R.here

  -- the state of the level at hand
  own : depth / 4096 ≡ block → get_or kept (depth % 4096) 0 ≡ state_at s R.count
  own b = R.states depth b ∙ ap (λ (d : ℕ). mark_at s d R.count) R.deep

  does : depth / 4096 ≡ block → next (get_or kept (depth % 4096) 0) k ≡ next (state_at s R.count) (kind_at s (at_token s R.count))
  does b = ap₂ next (own b) same_kind

  pub goes : (k ≡ 0 → ⊥) → (e : ℕ) → e ≡ end_at s at → at < e
  goes h e d = let z : at < end_at s at = progress s at (more s at R.within (λ c. h (u ∙ c))) in omega arith

  module _ (h : k ≡ 0 → ⊥) where
    takes : (depth / 4096 ≡ block → next (get_or kept (depth % 4096) 0) k < 80) → depth / 4096 ≡ block → stops s R.count ≡ false
    unfolding stops
    takes f b =
        ap₂ ◌||◌ (ne_eqb (kind_at s (at_token s R.count)) 0 (λ c. h (same_kind ∙ c)))
        (ap (ltb 79) (sym (does b)) ∙ le-ltb 79 (next (get_or kept (depth % 4096) 0) k) (let z : next (get_or kept (depth % 4096) 0) k < 80 = f b in omega arith))

    pub reading_turn : (one two : List ℕ) → Updated block depth (λ q. next q k) kept one → (depth / 4096 ≡ block → next (get_or kept (depth % 4096) 0) k < 80) → Updated block (depth + 1) (opened k) one two →
        (e r m : ℕ) → e ≡ end_at s at → e ≤ length s → r ≡ deeper k depth → most ≤ m → r ≤ m → Reading s block e r m two
    unfolding at_token depth_at mark_at marked
    reading_turn one two p f q e r m d b w g l =
        let a : at < e = goes h e d in
        let n : deeper k depth ≤ depth + 1 = deeper_most k depth in
        let o : depth ≤ at = R.shallow in
        record {
          count = suc R.count;
          here = d ∙ ap (end_at s) R.here;
          deep = w ∙ ap₂ deeper same_kind R.deep;
          within = b;
          shallow = (let z : r ≤ e = omega arith in z);
          full = q.0;
          states = λ i c.
              q.1 i c ∙ ap (updated (depth + 1) (opened k) i) (p.1 i c ∙ ap (updated depth (λ q. next q k) i) (R.states i c))
              ∙ ap₂ (λ (d' k' : ℕ). marked i d' k' (mark_at s i R.count)) R.deep same_kind;
          passed = λ j c. past j c (ℕ_discrete j R.count) a;
          deepest = l;
        }
      where
        past : (j : ℕ) → j < suc R.count → Dec (j ≡ R.count) → at < e → (at_token s j < e) × (depth_at s j / 4096 ≡ block → stops s j ≡ false) × (depth_at s j ≤ m)
        past j c (yes z) a =
            subst (λ (j : ℕ). (at_token s j < e) × (depth_at s j / 4096 ≡ block → stops s j ≡ false) × (depth_at s j ≤ m)) (sym z) (
              subst (λ (x : ℕ). x < e) R.here a,
              (λ v. takes f (ap (λ (d : ℕ). d / 4096) R.deep ∙ v)),
              subst (λ (x : ℕ). x ≤ m) R.deep (let i : depth ≤ most = R.deepest in let v : depth ≤ m = omega arith in v),
            )
        past j c (no z) a =
            let v = R.passed j (let v : j < R.count = omega arith in v) in
            let v₀ : at_token s j < at = v.0 in
            let v₂ : depth_at s j ≤ most = v.2 in
            ((let i : at_token s j < e = omega arith in i), v.1, (let i : depth_at s j ≤ m = omega arith in i))

----------------------------------------------------------------------------------------------------
-- What is handed back

pub end_well : (s : List ℕ) (q depth : ℕ) → depth ≡ 0 → q ≡ 1 → end_verdict s q depth ≡ verdict 0 0
unfolding end_verdict
end_well s q depth d e = rw (eq-eqb depth 0 d, eq-eqb q 1 e, end_verdict)

pub end_early : (s : List ℕ) (q depth : ℕ) → (depth ≡ 0 → q ≡ 1 → ⊥) → end_verdict s q depth ≡ verdict 10 (length s)
unfolding end_verdict
end_early s q depth h = go (ℕ_discrete depth 0)
  where
    go : Dec (depth ≡ 0) → end_verdict s q depth ≡ verdict 10 (length s)
    go (yes d) = rw (eq-eqb depth 0 d, ne_eqb q 1 (h d), end_verdict)
    go (no d) = rw (ne_eqb depth 0 d, end_verdict)

at_rises : (s : List ℕ) (n j : ℕ) → n ≤ j → at_token s n ≤ at_token s j
unfolding at_token
at_rises s n zero h = subst (λ (k : ℕ). at_token s k ≤ at_token s zero) (let z : 0 ≡ n = omega arith in z) (omega arith)
at_rises s n (suc j) h = go (dec_lt j n) (at_rises s n j)
  where
    go : Dec (j < n) → (n ≤ j → at_token s n ≤ at_token s j) → at_token s n ≤ at_token s (suc j)
    go (yes l) f = subst (λ (k : ℕ). at_token s k ≤ at_token s (suc j)) (let z : suc j ≡ n = omega arith in z) (omega arith)
    go (no l) f = let a : at_token s n ≤ at_token s j = f (omega arith) in let b : at_token s j ≤ end_at s (at_token s j) = end_after s (at_token s j) in omega arith

module _ (s : List ℕ) (block at depth most : ℕ) (kept : List ℕ) (R : Reading s block at depth most kept) (limit : ℕ) (C : Clear s block limit) where
  among : (j : ℕ) → at_token s j < at → j < R.count
  among j h = go (dec_lt j R.count)
    where
      go : Dec (j < R.count) → j < R.count
      go (yes l) = l
      go (no l) = absurd (let a : at_token s R.count ≤ at_token s j = at_rises s R.count j (omega arith) in let e : at ≡ at_token s R.count = R.here in let z : ⊥ = omega arith in z)

  clear_on : (to : ℕ) → to ≤ at → to ≤ limit → Clear s (block + 1) to
  clear_on to a b j h d = go (ℕ_discrete (depth_at s j / 4096) block)
    where
      go : Dec (depth_at s j / 4096 ≡ block) → stops s j ≡ false
      go (yes e) = (R.passed j (among j (let z : at_token s j < at = omega arith in z))).1 e
      go (no e) = C j (let z : at_token s j < limit = omega arith in z) (let z : depth_at s j / 4096 < block = omega arith in z)

  found : (to : ℕ) (v : Verdict) → to ≤ at → to ≤ limit → Refused s to v → Found s (block + 1) to v most
  found to v a b F =
      record {
        clear = clear_on to a b;
        refused = F;
        deepest = λ j h. (R.passed j (among j (let z : at_token s j < at = omega arith in z))).2;
      }

  -- nothing was found before the first refusal that was given
  pub found_before : (v : Verdict) → limit ≤ at → Refused s limit v ⊎ (length s < limit) → Found s (block + 1) limit v most
  found_before v h (inl F) = found limit v h (let z : limit ≤ limit = omega arith in z) F
  found_before v h (inr l) = absurd (let b : at ≤ length s = R.within in let z : ⊥ = omega arith in z)

  module _ (k : ℕ) (u : k ≡ kind_at s at) (l : at < limit) where
    stopped : (v : Verdict) → stops s R.count ≡ true → verdict_at s R.count ≡ v → Found s (block + 1) at v most
    stopped v a b =
        found at v (let z : at ≤ at = omega arith in z) (let z : at ≤ limit = omega arith in z) (
        record { count = R.count; here = R.here; within = R.within; first = λ j h. (R.passed j h).0; stop = a; says = b }
        )

    kind_here : k ≡ kind_at s (at_token s R.count)
    kind_here = same_kind s block at depth most kept R k u

    -- a level of the block refuses the token
    pub found_bad : depth / 4096 ≡ block → (k ≡ 0 → ⊥) → (n place : ℕ) → next (get_or kept (depth % 4096) 0) k ≡ 80 + n → place ≡ place_at s at → Found s (block + 1) at (verdict n place) most
    unfolding stops verdict_at
    found_bad c h n place p b =
        let d : 80 + n ≡ next (state_at s R.count) (kind_at s (at_token s R.count)) = sym p ∙ does s block at depth most kept R k u c in
        stopped (verdict n place) (ap₂ ◌||◌ none (ap (ltb 79) (sym d) ∙ lt-ltb 79 (80 + n) (omega arith)))
        (ap (λ (t : Bool). elim t [
          | true ↦ end_verdict s (state_at s R.count) (depth_at s R.count)
          | false ↦ verdict (next (state_at s R.count) (kind_at s (at_token s R.count)) - 80) (place_at s (at_token s R.count))
        ]) none
        ∙ ap₂ verdict (ap (λ (m : ℕ). m - 80) (sym d) ∙ (let z : (80 + n) - 80 ≡ n = omega arith in z)) (ap (place_at s) (sym R.here) ∙ sym b))
      where
        none : eqb (kind_at s (at_token s R.count)) 0 ≡ false
        none = ne_eqb (kind_at s (at_token s R.count)) 0 (λ c. h (kind_here ∙ c))

    -- the text ends: at depth 0 the first block has the state
    pub found_end : k ≡ 0 → (v : Verdict) → end_verdict s (get_or kept 0 0) depth ≡ v → Found s (block + 1) at v most
    unfolding stops verdict_at end_verdict
    found_end h v w =
        stopped v halts
        (ap (λ (t : Bool). elim t [
          | true ↦ end_verdict s (state_at s R.count) (depth_at s R.count)
          | false ↦ verdict (next (state_at s R.count) (kind_at s (at_token s R.count)) - 80) (place_at s (at_token s R.count))
        ]) none
        ∙ ap (λ (t : Bool). elim t [ true ↦ verdict 0 0 | false ↦ verdict 10 (length s) ]) (sym (same (ℕ_discrete depth 0)))
        ∙ w)
      where
        none : eqb (kind_at s (at_token s R.count)) 0 ≡ true
        none = eq-eqb (kind_at s (at_token s R.count)) 0 (sym kind_here ∙ h)

        halts : stops s R.count ≡ true
        halts = ap (λ (t : Bool). t || ltb 79 (next (state_at s R.count) (kind_at s (at_token s R.count)))) none

        first : depth ≡ 0 → Dec (block ≡ 0) → depth / 4096 ≡ block
        first z (yes y) = omega arith
        first z (no y) =
            absurd (true≢false (sym halts ∙ C R.count (subst (λ (x : ℕ). x < limit) R.here l) (subst (λ (x : ℕ). x / 4096 < block) R.deep (let v : depth / 4096 < block = omega arith in v))))

        same : Dec (depth ≡ 0) → (eqb depth 0 && eqb (get_or kept 0 0) 1) ≡ (eqb (depth_at s R.count) 0 && eqb (state_at s R.count) 1)
        same (yes z) =
            ap₂ (λ (x y : ℕ). eqb x 0 && eqb y 1) R.deep
            ((let v : 0 ≡ depth % 4096 = omega arith in ap (λ (x : ℕ). get_or kept x 0) v) ∙ own s block at depth most kept R k u (first z (ℕ_discrete block 0)))
        same (no z) = ap (λ (t : Bool). t && eqb (get_or kept 0 0) 1) (ne_eqb depth 0 z) ∙ sym (ap (λ (t : Bool). t && eqb (state_at s R.count) 1) (ne_eqb (depth_at s R.count) 0 (λ c. z (R.deep ∙ c))))
