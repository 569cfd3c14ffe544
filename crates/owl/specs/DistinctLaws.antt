-- Laws of different ones: how many there are, and which place one has.
--
--   among_last  == what is among a list and one element more
--   among_once  == what is kept is what was there, and what came
--   once_append == two lists one after the other
--   once_after  == one more element is kept if it is not among those before it
--   once_map, place_map == where two are the same exactly if their images are, the images are kept, and placed, alike
--   place_eq    == two that are there have one place exactly if they are the same
--   place_none  == what is not among a list has the place behind it
--   place_once  == what comes and is not there yet has the place behind those that are there
use Rattle.std.specs.Prelude.{◌≡◌, Bool, eqb, get_or}
use Rattle.std.proofs.Math.Path.{refl, sym, ap, ap₂, subst}
use Rattle.std.proofs.Common.{◌∙◌, eqb→eq}
use Rattle.std.proofs.Math.Bool.{true, false, ◌||◌}
use mathlib.Core.List.{List, [], ◌∷◌, ◌++◌, append-nil, map, map-append}
use Prim.Native.Nat.{ℕ, suc, ◌+◌}
use native.Mathlib.Omega.{arith}
use Rattle.std.proofs.Math.Dec.{T, eqb_refl}
use Rattle.std.proofs.Math.ListN.{length}
use Rattle.el.specs.Test.{any_of, every_of}
use Rattle.el.specs.TestLaws.{is_true, same_test, and_make, and_left, and_right, any_of_append}
use Rattle.owl.specs.Once.{is_among, place, once}
use Rattle.owl.specs.OnceLaws.{place_at_lem, every_join}

absorb : (a b c : Bool) → (T b → T a) → (a || c) ≡ (a || (b || c))
absorb true b c f = refl
absorb false true c f = absurd (f tt)
absorb false false c f = refl

regroup : (a b c : Bool) → ((a || (b || false)) || c) ≡ (a || (b || c))
regroup true b c = refl
regroup false true c = refl
regroup false false c = refl

or_none : (a : Bool) → a ≡ (a || false)
or_none true = refl
or_none false = refl

module _ {A : Type 0} (same : A → A → Bool) where
  pub among_last : (x y : A) (l : List A) → is_among same x (l ++ (y ∷ [])) ≡ (is_among same x l || (same x y || false))
  unfolding is_among any_of
  among_last x y l = any_of_append (same x) l (y ∷ [])

  pub once_append : (l m seen : List A) → once same seen (l ++ m) ≡ once same (once same seen l) m
  unfolding once
  once_append [] m seen = refl
  once_append (x ∷ l) m seen = go (is_among same x seen) (once_append l m seen) (once_append l m (seen ++ (x ∷ [])))
    where
      go : (b : Bool) → once same seen (l ++ m) ≡ once same (once same seen l) m → once same (seen ++ (x ∷ [])) (l ++ m) ≡ once same (once same (seen ++ (x ∷ [])) l) m →
          elim b [ true ↦ once same seen (l ++ m) | false ↦ once same (seen ++ (x ∷ [])) (l ++ m) ] ≡ once same (elim b [ true ↦ once same seen l | false ↦ once same (seen ++ (x ∷ [])) l ]) m
      go true h k = h
      go false h k = k

  pub place_none : (x : A) (l : List A) → is_among same x l ≡ false → place same x l ≡ length l
  unfolding is_among any_of place
  place_none x [] e = refl
  place_none x (y ∷ l) e = go (same x y) e (place_none x l)
    where
      go : (b : Bool) → (b || any_of (same x) l) ≡ false → (any_of (same x) l ≡ false → place same x l ≡ length l) → elim b [ true ↦ 0 | false ↦ suc (place same x l) ] ≡ suc (length l)
      go true e f = absurd (subst T e tt)
      go false e f = ap suc (f e)

  place_behind : (x y : A) (l r : List A) → is_among same x l ≡ false → T (same x y) → place same x ((l ++ (y ∷ [])) ++ r) ≡ length l
  unfolding is_among any_of place
  place_behind x y [] r e t = ap (λ (b : Bool). elim b [ true ↦ 0 | false ↦ suc (place same x r) ]) (is_true (same x y) t)
  place_behind x y (z ∷ l) r e t = go (same x z) e (λ d. place_behind x y l r d t)
    where
      go : (b : Bool) → (b || any_of (same x) l) ≡ false → (any_of (same x) l ≡ false → place same x ((l ++ (y ∷ [])) ++ r) ≡ length l) →
          elim b [ true ↦ 0 | false ↦ suc (place same x ((l ++ (y ∷ [])) ++ r)) ] ≡ suc (length l)
      go true e f = absurd (subst T e tt)
      go false e f = ap suc (f e)

  -- what was there stays in front
  once_extends : (l seen : List A) → (r : List A) × (once same seen l ≡ seen ++ r)
  unfolding once
  once_extends [] seen = ([], sym (append-nil seen))
  once_extends (x ∷ l) seen = go (is_among same x seen) (once_extends l seen) (once_extends l (seen ++ (x ∷ [])))
    where
      joined : (a b : List A) → (a ++ (x ∷ [])) ++ b ≡ a ++ (x ∷ b)
      joined [] b = refl
      joined (y ∷ a) b = ap (λ (m : List A). y ∷ m) (joined a b)

      go : (b : Bool) → (r : List A) × (once same seen l ≡ seen ++ r) → (r : List A) × (once same (seen ++ (x ∷ [])) l ≡ (seen ++ (x ∷ [])) ++ r) →
          (r : List A) × (elim b [ true ↦ once same seen l | false ↦ once same (seen ++ (x ∷ [])) l ] ≡ seen ++ r)
      go true h k = h
      go false h k = (x ∷ k.0, k.1 ∙ joined seen k.0)

  pub place_once : (x y : A) (l seen : List A) → is_among same x seen ≡ false → T (same x y) → place same x (once same (seen ++ (y ∷ [])) l) ≡ length seen
  place_once x y l seen e t = let r = once_extends l (seen ++ (y ∷ [])) in ap (place same x) r.1 ∙ place_behind x y seen r.0 e t

  module _ (same_means : (x y : A) → T (same x y) → x ≡ y) where
    pub among_once : (x : A) (l seen : List A) → is_among same x (once same seen l) ≡ (is_among same x seen || is_among same x l)
    unfolding once is_among any_of
    among_once x [] seen = or_none (is_among same x seen)
    among_once x (y ∷ l) seen = go (is_among same y seen) refl (among_once x l seen) (among_once x l (seen ++ (y ∷ [])))
      where
        go : (b : Bool) → is_among same y seen ≡ b → is_among same x (once same seen l) ≡ (is_among same x seen || is_among same x l) →
            is_among same x (once same (seen ++ (y ∷ [])) l) ≡ (is_among same x (seen ++ (y ∷ [])) || is_among same x l) →
            is_among same x (elim b [ true ↦ once same seen l | false ↦ once same (seen ++ (y ∷ [])) l ]) ≡ (is_among same x seen || (same x y || is_among same x l))
        go true e h k = h ∙ absorb (is_among same x seen) (same x y) (is_among same x l) (λ t. subst (λ (z : A). T (is_among same z seen)) (sym (same_means x y t)) (subst T (sym e) tt))
        go false e h k = k ∙ ap (λ (b : Bool). b || is_among same x l) (among_last x y seen) ∙ regroup (is_among same x seen) (same x y) (is_among same x l)

    pub once_after : (y : A) (l : List A) → length (once same [] (l ++ (y ∷ []))) ≡ length (once same [] l) + elim (is_among same y l) [ true ↦ 0 | false ↦ 1 ]
    unfolding once is_among any_of
    once_after y l = ap length (once_append l (y ∷ []) []) ∙ ap (λ (b : Bool). length {A = A} (elim b [ true ↦ once same [] l | false ↦ once same [] l ++ (y ∷ []) ])) (among_once y l []) ∙ go (is_among same y l)
      where
        longer : (m : List A) → length (m ++ (y ∷ [])) ≡ length m + 1
        longer [] = refl
        longer (x ∷ m) = let h : length (m ++ (y ∷ [])) ≡ length m + 1 = longer m in let z : suc (length (m ++ (y ∷ []))) ≡ suc (length m) + 1 = omega arith in z

        go : (b : Bool) → length {A = A} (elim b [ true ↦ once same [] l | false ↦ once same [] l ++ (y ∷ []) ]) ≡ length (once same [] l) + elim b [ true ↦ 0 | false ↦ 1 ]
        go true = let z : length (once same [] l) ≡ length (once same [] l) + 0 = omega arith in z
        go false = longer (once same [] l)

module _ {A B : Type 0} (same : A → A → Bool) (same' : B → B → Bool) (f : A → B) (p : A → Bool) (alike : (x y : A) → T (p x) → T (p y) → same' (f x) (f y) ≡ same x y) where
  among_map : (x : A) (l : List A) → T (p x) → T (every_of p l) → is_among same' (f x) (map f l) ≡ is_among same x l
  unfolding is_among any_of every_of
  among_map x [] h k = refl
  among_map x (y ∷ l) h k = ap₂ ◌||◌ (alike x y h (and_left (p y) (every_of p l) k)) (among_map x l h (and_right (p y) (every_of p l) k))

  pub place_map : (x : A) (l : List A) → T (p x) → T (every_of p l) → place same' (f x) (map f l) ≡ place same x l
  unfolding place every_of
  place_map x [] h k = refl
  place_map x (y ∷ l) h k =
      ap₂ (λ (b : Bool) (n : ℕ). elim b [ true ↦ 0 | false ↦ suc n ]) (alike x y h (and_left (p y) (every_of p l) k)) (place_map x l h (and_right (p y) (every_of p l) k))

  pub once_map : (l seen : List A) → T (every_of p seen) → T (every_of p l) → once same' (map f seen) (map f l) ≡ map f (once same seen l)
  unfolding once every_of
  once_map [] seen h k = refl
  once_map (x ∷ l) seen h k =
      let px = and_left (p x) (every_of p l) k in
      let pl = and_right (p x) (every_of p l) k in
      ap (λ (b : Bool). elim b [ true ↦ once same' (map f seen) (map f l) | false ↦ once same' (map f seen ++ (f x ∷ [])) (map f l) ]) (among_map x seen px h)
      ∙ go (is_among same x seen) (once_map l seen h pl)
      (ap (λ (m : List B). once same' m (map f l)) (sym (map-append f seen (x ∷ []))) ∙ once_map l (seen ++ (x ∷ [])) (every_join p seen (x ∷ []) h (and_make (p x) true px tt)) pl)
    where
      go : (b : Bool) → once same' (map f seen) (map f l) ≡ map f (once same seen l) → once same' (map f seen ++ (f x ∷ [])) (map f l) ≡ map f (once same (seen ++ (x ∷ [])) l) →
          elim b [ true ↦ once same' (map f seen) (map f l) | false ↦ once same' (map f seen ++ (f x ∷ [])) (map f l) ] ≡ map f (elim b [ true ↦ once same seen l | false ↦ once same (seen ++ (x ∷ [])) l ])
      go true h k = h
      go false h k = k

module _ {A : Type 0} (same : A → A → Bool) (same_refl : (x : A) → T (same x x)) (same_means : (x y : A) → T (same x y) → x ≡ y) where
  pub place_eq : (x y : A) (l : List A) → T (is_among same x l) → T (is_among same y l) → eqb (place same x l) (place same y l) ≡ same x y
  place_eq x y l h k =
      same_test (eqb (place same x l) (place same y l)) (same x y)
      (λ t. subst (λ (z : A). T (same x z))
      (sym (same_means y (get_or l (place same y l) x) (place_at_lem same y l x k) ∙ ap (λ (i : ℕ). get_or l i x) (sym (eqb→eq (place same x l) (place same y l) t)))) (place_at_lem same x l x h))
      (λ t. subst (λ (z : A). T (eqb (place same x l) (place same z l))) (same_means x y t) (eqb_refl (place same x l)))
