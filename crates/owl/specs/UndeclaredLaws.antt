-- The first use of a name that is not declared.
--
--   place_within     == where a token is, it begins in the text
--   placed_within    == every mention begins in the text
--   first_none       == where every mention passes, none fails first
--   first_all        == where none fails first, every mention passes
--   first_splits     == a mention that fails first stands behind those that pass
--   undeclared_means == no use is undeclared exactly if each name of the file's axioms is known
--   text_undeclared  == an accepted text says a file of which this holds
--   undeclared_first == else the byte is that of a mention that is not known, and each one before it is known
use Rattle.std.specs.Prelude.{◌≡◌, Bool, ◌&&◌, ◌↔◌, ℕ, zero, suc, ◌≤◌, ◌<◌, eqb, length}
use Rattle.std.proofs.Math.Path.{refl, ap}
use Rattle.std.proofs.Common.{sym, subst, lt→ltb}
use Rattle.std.proofs.Math.Bool.{true, false, not}
use mathlib.Core.List.{List, [], ◌∷◌, ◌++◌}
use native.Mathlib.Omega.{arith}
use Rattle.std.proofs.Math.Decide.{dec_lt}
use Rattle.std.proofs.Math.Dec.{T, ltb, ltb→lt}
use Rattle.std.proofs.lemmas.Bool.{eqb-false}
use Rattle.el.specs.Test.{every_of}
use Rattle.el.specs.TestLaws.{and_make, and_left, and_right}
use Rattle.owl.specs.Tree.{File}
use Rattle.owl.specs.Naming.{all_known}
use Rattle.owl.specs.Token.{place_at, kind_at, end_at}
use Rattle.owl.specs.TokenLaws.{at_the_end}
use Rattle.owl.specs.Written.{Says}
use Rattle.owl.specs.Grammar.{is_name, checked}
use Rattle.owl.specs.TextLaws.{accepted_means}
use Rattle.owl.specs.Mention.{sort_after, Mention, Placed, placed_at, placed_from, placed, mentions_of, names_in, is_known, first_place, undeclared}
use Rattle.owl.specs.MentionLaws.{known_said}

----------------------------------------------------------------------------------------------------
-- Mentions begin in the text

pub place_within : (s : List ℕ) (at : ℕ) → eqb (kind_at s at) 0 ≡ false → place_at s at < length s
place_within s at e = go (dec_lt (place_at s at) (length s))
  where
    go : Dec (place_at s at < length s) → place_at s at < length s
    go (yes h) = h
    go (no h) = let l : length s ≤ place_at s at = omega arith in absurd (eqb-false (kind_at s at) 0 e (at_the_end s at l))

pub placed_within : (s : List ℕ) (f at q : ℕ) → T (every_of (λ (x : Placed). ltb x.place (length s)) (placed_from s f at q))
unfolding placed_from every_of
placed_within s zero at q = tt
placed_within s (suc f) at q = go (eqb (kind_at s at) 0) refl (is_name (kind_at s at) && ltb 0 q) (placed_within s f (end_at s at) (sort_after q (kind_at s at)))
  where
    l : List Placed
    l = placed_from s f (end_at s at) (sort_after q (kind_at s at))

    go : (b : Bool) → eqb (kind_at s at) 0 ≡ b → (c : Bool) → T (every_of (λ (x : Placed). ltb x.place (length s)) l) →
        T (every_of (λ (x : Placed). ltb x.place (length s)) (elim b [ true ↦ [] | false ↦ elim c [ true ↦ placed_at s at q ∷ l | false ↦ l ] ]))
    go true e c h = tt
    go false e true h = and_make (ltb (place_at s at) (length s)) (every_of (λ (x : Placed). ltb x.place (length s)) l) (lt→ltb (place_at s at) (length s) (place_within s at e)) h
    go false e false h = h

----------------------------------------------------------------------------------------------------
-- The first that fails

module _ (g : Mention → Bool) (end : ℕ) where
  pub first_none : (l : List Placed) → T (every_of g (mentions_of l)) → first_place (λ m. not (g m)) end l ≡ end
  unfolding first_place mentions_of every_of
  first_none [] h = refl
  first_none (x ∷ l) h = go (g x.mention) h (first_none l)
    where
      go : (b : Bool) → T (b && every_of g (mentions_of l)) → (T (every_of g (mentions_of l)) → first_place (λ m. not (g m)) end l ≡ end) →
          elim (not b) [ true ↦ x.place | false ↦ first_place (λ m. not (g m)) end l ] ≡ end
      go true h f = f h
      go false h f = absurd h

  pub first_all : (l : List Placed) → T (every_of (λ (x : Placed). ltb x.place end) l) → first_place (λ m. not (g m)) end l ≡ end → T (every_of g (mentions_of l))
  unfolding first_place mentions_of every_of
  first_all [] h e = tt
  first_all (x ∷ l) h e = go (g x.mention) e (first_all l (and_right (ltb x.place end) (every_of (λ (x : Placed). ltb x.place end) l) h))
    where
      go : (b : Bool) → elim (not b) [ true ↦ x.place | false ↦ first_place (λ m. not (g m)) end l ] ≡ end → (first_place (λ m. not (g m)) end l ≡ end → T (every_of g (mentions_of l))) →
          T (b && every_of g (mentions_of l))
      go true e f = f e
      go false e f = let k : x.place < end = ltb→lt x.place end (and_left (ltb x.place end) (every_of (λ (x : Placed). ltb x.place end) l) h) in let z : ⊥ = omega arith in absurd z

  pub first_splits : (l : List Placed) → (first_place (λ m. not (g m)) end l ≡ end → ⊥) →
      (pre : List Placed) × (x : Placed) × (post : List Placed) × (l ≡ pre ++ (x ∷ post)) × T (every_of g (mentions_of pre)) × (g x.mention ≡ false) × (first_place (λ m. not (g m)) end l ≡ x.place)
  unfolding first_place mentions_of every_of
  first_splits [] h = absurd (h refl)
  first_splits (x ∷ l) h = go (g x.mention) refl h (first_splits l)
    where
      go : (b : Bool) → g x.mention ≡ b → (elim (not b) [ true ↦ x.place | false ↦ first_place (λ m. not (g m)) end l ] ≡ end → ⊥) →
          ((first_place (λ m. not (g m)) end l ≡ end → ⊥) →
          (pre : List Placed) × (y : Placed) × (post : List Placed) × (l ≡ pre ++ (y ∷ post)) × T (every_of g (mentions_of pre)) × (g y.mention ≡ false) × (first_place (λ m. not (g m)) end l ≡ y.place)) →
          (pre : List Placed) × (y : Placed) × (post : List Placed) × (x ∷ l ≡ pre ++ (y ∷ post)) × T (every_of g (mentions_of pre)) × (g y.mention ≡ false)
          × (elim (not b) [ true ↦ x.place | false ↦ first_place (λ m. not (g m)) end l ] ≡ y.place)
      go true e h f =
          let r = f h in (
            x ∷ r.0,
            r.1,
            r.2,
            ap (λ (k : List Placed). x ∷ k) r.3,
            and_make (g x.mention) (every_of g (mentions_of r.0)) (subst T (sym e) tt) r.4,
            r.5,
            r.6,
          )
      go false e h f = ([], x, l, refl, tt, e, refl)

----------------------------------------------------------------------------------------------------
-- The theorems

all_within : (s : List ℕ) → T (every_of (λ (x : Placed). ltb x.place (length s)) (placed s))
unfolding placed
all_within s = placed_within s (suc (length s)) 0 0

pub undeclared_means : (s : List ℕ) (f : File) → Says s f → (undeclared s ≡ length s) ↔ T (all_known f)
unfolding undeclared
undeclared_means s f e = (
  (λ h. subst T (known_said s f e) (first_all (is_known (names_in s)) (length s) (placed s) (all_within s) h)),
  (λ h. first_none (is_known (names_in s)) (length s) (placed s) (subst T (sym (known_said s f e)) h)),
)

pub text_undeclared : (s : List ℕ) → (checked s).number ≡ 0 → (f : File) × Says s f × ((undeclared s ≡ length s) ↔ T (all_known f))
text_undeclared s e = let found = (accepted_means s).0 e in (found.0, found.1, undeclared_means s found.0 found.1)

pub undeclared_first : (s : List ℕ) → (undeclared s ≡ length s → ⊥) →
    (pre : List Placed) × (x : Placed) × (post : List Placed) × (placed s ≡ pre ++ (x ∷ post)) × T (every_of (is_known (names_in s)) (mentions_of pre)) × (is_known (names_in s) x.mention ≡ false)
    × (undeclared s ≡ x.place)
unfolding undeclared
undeclared_first s h = first_splits (is_known (names_in s)) (length s) (placed s) h
