-- Laws of equal ones once.
--
--   is_among_left, is_among_right == what is among one of two lists is among both, one after the other
--   place_lt, place_at_lem          == what is among a list has a place in it, where the same element stands
--   once_all                    == each element is among those kept
--   once_every                  == what holds of each element holds of those kept
use Rattle.std.specs.Prelude.{◌≡◌, Bool, ◌||◌, get_or}
use Rattle.std.proofs.Math.Path.{refl, subst}
use Rattle.std.proofs.Common.{sym}
use Rattle.std.proofs.Math.Bool.{true, false}
use mathlib.Core.List.{List, [], ◌∷◌, ◌++◌}
use Prim.Native.Nat.{suc, ◌<◌}
use native.Mathlib.Omega.{arith}
use Rattle.std.proofs.Math.Dec.{T}
use Rattle.std.proofs.Math.ListN.{length}
use Rattle.el.specs.Test.{any_of, every_of}
use Rattle.el.specs.TestLaws.{or_left, or_right, and_make, and_left, and_right, any_of_append, every_of_append}
use Rattle.owl.specs.Once.{is_among, place, once}

pub every_join : {A : Type 0} (p : A → Bool) (l m : List A) → T (every_of p l) → T (every_of p m) → T (every_of p (l ++ m))
every_join p l m h k = subst T (sym (every_of_append p l m)) (and_make (every_of p l) (every_of p m) h k)

pub every_first : {A : Type 0} (p : A → Bool) (l m : List A) → T (every_of p (l ++ m)) → T (every_of p l)
every_first p l m h = and_left (every_of p l) (every_of p m) (subst T (every_of_append p l m) h)

pub every_second : {A : Type 0} (p : A → Bool) (l m : List A) → T (every_of p (l ++ m)) → T (every_of p m)
every_second p l m h = and_right (every_of p l) (every_of p m) (subst T (every_of_append p l m) h)

module _ {A : Type 0} (same : A → A → Bool) where
  pub is_among_left : (x : A) (l m : List A) → T (is_among same x l) → T (is_among same x (l ++ m))
  unfolding is_among
  is_among_left x l m h = subst T (sym (any_of_append (same x) l m)) (or_left (any_of (same x) l) (any_of (same x) m) h)

  pub is_among_right : (x : A) (l m : List A) → T (is_among same x m) → T (is_among same x (l ++ m))
  unfolding is_among
  is_among_right x l m h = subst T (sym (any_of_append (same x) l m)) (or_right (any_of (same x) l) (any_of (same x) m) h)

  pub place_lt : (x : A) (l : List A) → T (is_among same x l) → place same x l < length l
  unfolding is_among any_of place
  place_lt x [] h = absurd h
  place_lt x (y ∷ l) h = go (same x y) h (λ k. place_lt x l k)
    where
      go : (b : Bool) → T (b || any_of (same x) l) → (T (any_of (same x) l) → place same x l < length l) → elim b [ true ↦ 0 | false ↦ suc (place same x l) ] < suc (length l)
      go true h f = omega arith
      go false h f = let k : place same x l < length l = f h in omega arith

  pub place_at_lem : (x : A) (l : List A) (d : A) → T (is_among same x l) → T (same x (get_or l (place same x l) d))
  unfolding is_among any_of place
  place_at_lem x [] d h = absurd h
  place_at_lem x (y ∷ l) d h = go (same x y) refl h (λ k. place_at_lem x l d k)
    where
      go : (b : Bool) → same x y ≡ b → T (b || any_of (same x) l) → (T (any_of (same x) l) → T (same x (get_or l (place same x l) d))) →
          T (same x (get_or (y ∷ l) (elim b [ true ↦ 0 | false ↦ suc (place same x l) ]) d))
      go true e h f = subst T (sym e) tt
      go false e h f = f h

  once_keeps : (x : A) (l seen : List A) → T (is_among same x seen) → T (is_among same x (once same seen l))
  unfolding once
  once_keeps x [] seen h = h
  once_keeps x (y ∷ l) seen h = go (is_among same y seen) (once_keeps x l seen h) (once_keeps x l (seen ++ (y ∷ [])) (is_among_left x seen (y ∷ []) h))
    where
      go : (b : Bool) → T (is_among same x (once same seen l)) → T (is_among same x (once same (seen ++ (y ∷ [])) l)) →
          T (is_among same x (elim b [ true ↦ once same seen l | false ↦ once same (seen ++ (y ∷ [])) l ]))
      go true h k = h
      go false h k = k

  pub once_every : (p : A → Bool) (l seen : List A) → T (every_of p seen) → T (every_of p l) → T (every_of p (once same seen l))
  unfolding once every_of
  once_every p [] seen h k = h
  once_every p (x ∷ l) seen h k =
      go (is_among same x seen) (once_every p l seen h (and_right (p x) (every_of p l) k))
      (once_every p l (seen ++ (x ∷ [])) (every_join p seen (x ∷ []) h (and_make (p x) true (and_left (p x) (every_of p l) k) tt)) (and_right (p x) (every_of p l) k))
    where
      go : (b : Bool) → T (every_of p (once same seen l)) → T (every_of p (once same (seen ++ (x ∷ [])) l)) →
          T (every_of p (elim b [ true ↦ once same seen l | false ↦ once same (seen ++ (x ∷ [])) l ]))
      go true h k = h
      go false h k = k

  module _ (same_refl : (x : A) → T (same x x)) where
    pub once_all : (l seen : List A) → T (every_of (λ x. is_among same x (once same seen l)) l)
    unfolding once every_of is_among any_of
    once_all [] seen = tt
    once_all (x ∷ l) seen = go (is_among same x seen) refl (once_all l seen) (once_all l (seen ++ (x ∷ [])))
      where
        go : (b : Bool) → is_among same x seen ≡ b → T (every_of (λ y. is_among same y (once same seen l)) l) → T (every_of (λ y. is_among same y (once same (seen ++ (x ∷ [])) l)) l) →
            T (every_of (λ y. is_among same y (elim b [ true ↦ once same seen l | false ↦ once same (seen ++ (x ∷ [])) l ])) (x ∷ l))
        go true e h k =
            and_make (is_among same x (once same seen l)) (every_of (λ y. is_among same y (once same seen l)) l)
            (once_keeps x l seen (subst T (sym e) tt)) h
        go false e h k =
            and_make (is_among same x (once same (seen ++ (x ∷ [])) l)) (every_of (λ y. is_among same y (once same (seen ++ (x ∷ [])) l)) l)
            (once_keeps x l (seen ++ (x ∷ [])) (is_among_right x seen (x ∷ []) (or_left (same x x) false (same_refl x)))) k
