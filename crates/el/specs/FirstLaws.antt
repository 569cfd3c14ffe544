-- What the first full node that passes a test says.
--
--   keep_append, keep_in_turn == of two lists, and of lists in turn
--   or_else a b       == a, or b where a is none
--   first_same       == two lists that keep the same have the same first
--   first_least      == the first of the extensions that passes a test is the least in counting order that does; where there is none, none does
--   live_full        == where a dead node hides nothing, the live full nodes of a tree are the extensions that pass
use Rattle.std.specs.Prelude.{◌≡◌, Bool, length}
use Rattle.std.proofs.Math.Path.{refl, sym, ap, subst}
use Rattle.std.proofs.Common.{ap₂, ◌∙◌, inl, inr, arith, length-append}
use Rattle.std.proofs.Math.Bool.{true, false, true≢false}
use mathlib.Core.List.{List, [], ◌∷◌, ◌++◌, append_assoc, append-nil}
use Rattle.std.proofs.Math.Option.{Option, none, some}
use Prim.Native.Nat.{ℕ, zero, suc, ◌+◌, ◌≤◌, ◌<◌}
use Rattle.std.proofs.Math.Decide.{ℕ_discrete}
use Rattle.el.specs.Assignment.{Before}
use Rattle.el.specs.Walk.{Node, in_turn, tree_of, first_of}
use Rattle.el.specs.First.{extensions, Choices, keep, FirstSays}

-- ── keeping ───────────────────────────────────────────────────────────────
pub keep_append : (p : Node → Bool) (l m : List Node) → keep p (l ++ m) ≡ keep p l ++ keep p m
unfolding keep
keep_append p [] m = refl
keep_append p (s ∷ l) m = go (p s) (keep_append p l m)
  where
    go : (b : Bool) → keep p (l ++ m) ≡ keep p l ++ keep p m
        → elim b [ true ↦ s ∷ keep p (l ++ m) | false ↦ keep p (l ++ m) ] ≡ (elim b as (λ _. List Node) [ true ↦ s ∷ keep p l | false ↦ keep p l ]) ++ keep p m
    go true e = ap (λ (z : List Node). s ∷ z) e
    go false e = e

pub keep_in_turn : (p q : Node → Bool) (f g : ℕ → List Node) → ((x : ℕ) → keep p (f x) ≡ keep q (g x)) → (m x : ℕ) → keep p (in_turn m x f) ≡ keep q (in_turn m x g)
unfolding in_turn
keep_in_turn p q f g h zero x = unfold keep in refl
keep_in_turn p q f g h (suc m) x =
    keep_append p (f x) (in_turn m (x + 1) f) ∙ ap₂ (λ (a b : List Node). a ++ b) (h x) (keep_in_turn p q f g h m (x + 1))
    ∙ sym (keep_append q (g x) (in_turn m (x + 1) g))

keep_hit : (p : Node → Bool) (s : Node) (l : List Node) → p s ≡ true → keep p (s ∷ l) ≡ s ∷ keep p l
unfolding keep
keep_hit p s l e = rw (e, keep)

keep_miss : (p : Node → Bool) (s : Node) (l : List Node) → p s ≡ false → keep p (s ∷ l) ≡ keep p l
unfolding keep
keep_miss p s l e = rw (e, keep)

keep_nil : (p : Node → Bool) → keep p [] ≡ []
unfolding keep
keep_nil p = refl

keep_none_in_turn : (p : Node → Bool) (f : ℕ → List Node) → ((x : ℕ) → keep p (f x) ≡ []) → (m x : ℕ) → keep p (in_turn m x f) ≡ []
unfolding in_turn
keep_none_in_turn p f h zero x = keep_nil p
keep_none_in_turn p f h (suc m) x = keep_append p (f x) (in_turn m (x + 1) f) ∙ ap₂ (λ (a b : List Node). a ++ b) (h x) (keep_none_in_turn p f h m (x + 1))

first_keep : (p : Node → Bool) (l : List Node) → first_of p l ≡ first_of (λ _. true) (keep p l)
first_keep p [] = unfold keep first_of in refl
first_keep p (s ∷ l) = go (p s) refl (first_keep p l)
  where
    hit : p s ≡ true → first_of p (s ∷ l) ≡ some s
    hit e = unfold first_of in rw (e, first_of)

    miss : p s ≡ false → first_of p (s ∷ l) ≡ first_of p l
    miss e = unfold first_of in rw (e, first_of)

    top : first_of (λ _. true) (s ∷ keep p l) ≡ some s
    top = unfold first_of in refl

    go : (b : Bool) → p s ≡ b → first_of p l ≡ first_of (λ _. true) (keep p l) → first_of p (s ∷ l) ≡ first_of (λ _. true) (keep p (s ∷ l))
    go true e ih = hit e ∙ sym (ap (first_of (λ _. true)) (keep_hit p s l e) ∙ top)
    go false e ih = miss e ∙ ih ∙ ap (first_of (λ _. true)) (sym (keep_miss p s l e))

pub first_same : (p q : Node → Bool) (l m : List Node) → keep p l ≡ keep q m → first_of p l ≡ first_of q m
first_same p q l m e = first_keep p l ∙ ap (first_of (λ _. true)) e ∙ sym (first_keep q m)

-- ── the first in counting order ───────────────────────────────────────────
abbrev pub or_else : Option Node → Option Node → Option Node
or_else none o = o
or_else (some s) o = some s

first_append : (p : Node → Bool) (l m : List Node) → first_of p (l ++ m) ≡ or_else (first_of p l) (first_of p m)
unfolding first_of
first_append p [] m = refl
first_append p (s ∷ l) m = go (p s) (first_append p l m)
  where
    go : (b : Bool) → first_of p (l ++ m) ≡ or_else (first_of p l) (first_of p m)
        → elim b [ true ↦ some s | false ↦ first_of p (l ++ m) ] ≡ or_else (elim b [ true ↦ some s | false ↦ first_of p l ]) (first_of p m)
    go true e = refl
    go false e = e

module _ (p : Node → Bool) (w : ℕ) where
  -- the same of the children from x on
  abbrev SaysFrom : ℕ → Node → ℕ → Option Node → Type 0
  SaysFrom r s x (some a) =
      (y : ℕ) × (l : List ℕ) × (x ≤ y) × (y < w) × Choices w r l × (a ≡ s ++ (y ∷ l)) × (p a ≡ true)
      × ((z : ℕ) (m : List ℕ) → x ≤ z → z < w → Choices w r m → p (s ++ (z ∷ m)) ≡ true → Before (z ∷ m) (y ∷ l) → ⊥)
  SaysFrom r s x none = (z : ℕ) (m : List ℕ) → x ≤ z → z < w → Choices w r m → p (s ++ (z ∷ m)) ≡ true → ⊥

  module _ (r : ℕ) (s : Node) where
    -- at the child x
    one : (x : ℕ) → x < w → (o : Option Node) → FirstSays p w r (s ++ (x ∷ [])) o → (rest : Option Node) → SaysFrom r s (x + 1) rest → SaysFrom r s x (or_else o rest)
    one x h (some a) f rest g =
        (x, f.0, omega arith, h, f.1, f.2 ∙ append_assoc s (x ∷ []) f.0, f.3, least)
      where
        least : (z : ℕ) (m : List ℕ) → x ≤ z → z < w → Choices w r m → p (s ++ (z ∷ m)) ≡ true → Before (z ∷ m) (x ∷ f.0) → ⊥
        least z m k l c q (inl b) = omega arith
        least z m k l c q (inr b) =
            f.4 m c (subst (λ (i : Node). p i ≡ true) (sym (append_assoc s (x ∷ []) m)) (subst (λ (y : ℕ). p (s ++ (y ∷ m)) ≡ true) b.0 q)) b.1
    one x h none f (some a) g =
        (g.0, g.1, (let k : x + 1 ≤ g.0 = g.2 in omega arith), g.3, g.4, g.5, g.6, least)
      where
        least : (z : ℕ) (m : List ℕ) → x ≤ z → z < w → Choices w r m → p (s ++ (z ∷ m)) ≡ true → Before (z ∷ m) (g.0 ∷ g.1) → ⊥
        least z m k l c q b = at (ℕ_discrete x z)
          where
            at : Dec (x ≡ z) → ⊥
            at (yes e) = f m c (subst (λ (i : Node). p i ≡ true) (sym (append_assoc s (x ∷ []) m)) (subst (λ (y : ℕ). p (s ++ (y ∷ m)) ≡ true) (sym e) q))
            at (no e) = g.7 z m (omega arith) l c q b
    one x h none f none g = λ z m k l c q. at z m k l c q (ℕ_discrete x z)
      where
        at : (z : ℕ) (m : List ℕ) → x ≤ z → z < w → Choices w r m → p (s ++ (z ∷ m)) ≡ true → Dec (x ≡ z) → ⊥
        at z m k l c q (yes e) = f m c (subst (λ (i : Node). p i ≡ true) (sym (append_assoc s (x ∷ []) m)) (subst (λ (y : ℕ). p (s ++ (y ∷ m)) ≡ true) (sym e) q))
        at z m k l c q (no e) = g z m (omega arith) l c q

    from : (f : ℕ → List Node) → ((x : ℕ) → FirstSays p w r (s ++ (x ∷ [])) (first_of p (f x))) → (m x : ℕ) → x + m ≡ w → SaysFrom r s x (first_of p (in_turn m x f))
    unfolding in_turn
    from f h zero x e = unfold first_of in (λ z m k l c q. omega arith)
    from f h (suc m) x e =
        subst (SaysFrom r s x) (sym (first_append p (f x) (in_turn m (x + 1) f)))
        (one x (omega arith) (first_of p (f x)) (h x) (first_of p (in_turn m (x + 1) f)) (from f h m (x + 1) (omega arith)))

    all : (o : Option Node) → SaysFrom r s 0 o → FirstSays p w (suc r) s o
    all (some a) g = (g.0 ∷ g.1, (g.3, g.4), g.5, g.6, least)
      where
        least : (m : List ℕ) → Choices w (suc r) m → p (s ++ m) ≡ true → Before m (g.0 ∷ g.1) → ⊥
        least [] c q b = c
        least (z ∷ m) c q b = g.7 z m (omega arith) c.0 c.1 q b
    all none g = nowhere
      where
        nowhere : (m : List ℕ) → Choices w (suc r) m → p (s ++ m) ≡ true → ⊥
        nowhere [] c q = c
        nowhere (z ∷ m) c q = g z m (omega arith) c.0 c.1 q

  -- THE FIRST IS THE LEAST
  pub first_least : (r : ℕ) (s : Node) → FirstSays p w r s (first_of p (extensions w r s))
  unfolding extensions
  first_least zero s = go (p s) refl
    where
      nowhere : p s ≡ false → (m : List ℕ) → Choices w zero m → p (s ++ m) ≡ true → ⊥
      nowhere e [] c q = true≢false (sym q ∙ ap p (append-nil s) ∙ e)
      nowhere e (x ∷ m) c q = c

      least : (m : List ℕ) → Choices w zero m → p (s ++ m) ≡ true → Before m [] → ⊥
      least [] c q b = b
      least (x ∷ m) c q b = b

      hit : p s ≡ true → some s ≡ first_of p (s ∷ [])
      hit e = unfold first_of in rw (e, first_of)

      miss : p s ≡ false → none ≡ first_of p (s ∷ [])
      miss e = unfold first_of in rw (e, first_of)

      go : (b : Bool) → p s ≡ b → FirstSays p w zero s (first_of p (s ∷ []))
      go true e = subst (FirstSays p w zero s) (hit e) ([], tt, sym (append-nil s), e, least)
      go false e = subst (FirstSays p w zero s) (miss e) (nowhere e)
  first_least (suc r) s = all r s (first_of p (in_turn w 0 (λ x. extensions w r (s ++ (x ∷ []))))) (from r s (λ x. extensions w r (s ++ (x ∷ []))) (λ x. first_least r (s ++ (x ∷ []))) w 0 (omega arith))

-- ── trees ─────────────────────────────────────────────────────────────────
-- A tree over a test `gone` for nodes without children and a test `good` for full ones.
module _ (gone good : Node → Bool) (v w : ℕ) (hides : (s l : Node) → gone s ≡ true → good (s ++ l) ≡ false) where
  -- below a dead node nothing is good
  hidden : (r : ℕ) (s l : Node) → gone s ≡ true → keep good (extensions w r (s ++ l)) ≡ []
  unfolding extensions
  hidden zero s l e = keep_miss good (s ++ l) [] (hides s l e) ∙ keep_nil good
  hidden (suc r) s l e =
      keep_none_in_turn good (λ x. extensions w r ((s ++ l) ++ (x ∷ [])))
      (λ x. subst (λ (n : Node). keep good (extensions w r n) ≡ []) (sym (append_assoc s l (x ∷ []))) (hidden r s (l ++ (x ∷ [])) e)) w 0

  module _ (stop : Node → Bool) (at_full : (s : Node) → length s ≡ v → stop s ≡ good s) (before_full : (s : Node) → length s < v → stop s ≡ false) where
    grown : (s : Node) (r x : ℕ) → length s + suc r ≡ v → length (s ++ (x ∷ [])) + r ≡ v
    grown s r x h = rw length-append (omega arith)

    -- THE LIVE FULL NODES OF THE TREE ARE THE GOOD EXTENSIONS, IN COUNTING ORDER
    pub live_full : (r : ℕ) (s : Node) → length s + r ≡ v → keep stop (tree_of gone w r s) ≡ keep good (extensions w r s)
    unfolding tree_of extensions
    live_full zero s h = go (good s) refl
      where
        go : (b : Bool) → good s ≡ b → keep stop (s ∷ []) ≡ keep good (s ∷ [])
        go true e = keep_hit stop s [] (at_full s (omega arith) ∙ e) ∙ ap (λ (l : List Node). s ∷ l) (keep_nil stop ∙ sym (keep_nil good)) ∙ sym (keep_hit good s [] e)
        go false e = keep_miss stop s [] (at_full s (omega arith) ∙ e) ∙ keep_nil stop ∙ sym (keep_nil good) ∙ sym (keep_miss good s [] e)
    live_full (suc r) s h =
        keep_miss stop s (elim (gone s) [ true ↦ [] | false ↦ in_turn w 0 (λ x. tree_of gone w r (s ++ (x ∷ []))) ]) (before_full s (omega arith))
        ∙ go (gone s) refl (keep_in_turn stop good (λ x. tree_of gone w r (s ++ (x ∷ []))) (λ x. extensions w r (s ++ (x ∷ []))) (λ x. live_full r (s ++ (x ∷ [])) (grown s r x h)) w 0)
      where
        go : (b : Bool) → gone s ≡ b
            → keep stop (in_turn w 0 (λ x. tree_of gone w r (s ++ (x ∷ [])))) ≡ keep good (in_turn w 0 (λ x. extensions w r (s ++ (x ∷ []))))
            → keep stop (elim b [ true ↦ [] | false ↦ in_turn w 0 (λ x. tree_of gone w r (s ++ (x ∷ []))) ]) ≡ keep good (in_turn w 0 (λ x. extensions w r (s ++ (x ∷ []))))
        go true e ih = keep_nil stop ∙ sym (keep_none_in_turn good (λ x. extensions w r (s ++ (x ∷ []))) (λ x. hidden r s (x ∷ []) e) w 0)
        go false e ih = ih
