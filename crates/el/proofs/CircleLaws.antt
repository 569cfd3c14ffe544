-- The finite fact behind the cycle test, over any relation.
--
--   reaches_along  == steps of one relation that are chains of another make its chains chains of the other
--   circle_some    == in a finite set where each element has a step to some element of the set, some element leads to itself
--   circle_stands  == and back: the numbers that lead to themselves are such a set
use Rattle.std.specs.Prelude.{◌≡◌, Bool, true, false, ◌&&◌, ◌||◌, not, ℕ, zero, suc, ◌<◌, T, eqb}
use Rattle.std.proofs.Common.{subst, inl, inr, arith, not-suc-le-zero, T_not, eqb→eq, eq-eqb}
use Rattle.std.proofs.Math.Decide.{ℕ_discrete}
use Rattle.std.proofs.Math.Dec.{not_T}
use Rattle.el.specs.TestLaws.{true_is, or_left, or_right, or_cases, and_make, and_left, and_right}
use Rattle.el.specs.Assignment.{Reaches, once, then}
use Rattle.el.proofs.ReachLaws.{reaches_join}
use Rattle.el.specs.Standing.{Stand}

pub reaches_along : {d e : ℕ → ℕ → Bool} → ((x y : ℕ) → T (d x y) → Reaches e x y) → {x y : ℕ} → Reaches d x y → Reaches e x y
reaches_along f {x} {y} (once u) = f x y u
reaches_along {d} {e} f {x} (then {y = z} u r) = reaches_join e (f x z u) (reaches_along f r)

-- without its last element n: a step to n goes on to where n leads
module _ (d : ℕ → ℕ → Bool) (p : ℕ → Bool) (n : ℕ) where
  abbrev past : ℕ → ℕ → Bool
  past x z = d x z || (d x n && d n z)

  abbrev rest : ℕ → Bool
  rest x = p x && not (eqb x n)

  rest_make : (x : ℕ) → T (p x) → (x ≡ n → ⊥) → T (rest x)
  rest_make x u f = and_make (p x) (not (eqb x n)) u (not_T (eqb x n) (λ e. f (eqb→eq x n e)))

  rest_other : (x : ℕ) → T (rest x) → x ≡ n → ⊥
  rest_other x u e = T_not (eqb x n) (and_right (p x) (not (eqb x n)) u) (true_is (eqb x n) (eq-eqb x n e))

  past_reaches : (x z : ℕ) → T (past x z) → Reaches d x z
  past_reaches x z u =
      elim (or_cases (d x z) (d x n && d n z) u)
      [ inl w ↦ once w | inr w ↦ then (and_left (d x n) (d n z) w) (once (and_right (d x n) (d n z) w)) ]

  rest_stands : Stand d p → (y : ℕ) → T (rest y) → T (d n y) → Stand past rest
  rest_stands f y in_rest on x u = go (f x (and_left (p x) (not (eqb x n)) u)) (ℕ_discrete (f x (and_left (p x) (not (eqb x n)) u)).0 n)
    where
      go : (s : (z : ℕ) × T (p z) × T (d x z)) → Dec (s.0 ≡ n) → (z : ℕ) × T (rest z) × T (past x z)
      go s (yes e) = (y, in_rest, or_right (d x y) (d x n && d n y) (and_make (d x n) (d n y) (subst (λ (z : ℕ). T (d x z)) e s.2) on))
      go s (no e) = (s.0, rest_make s.0 s.1 e, or_left (d x s.0) (d x n && d n s.0) s.2)

-- of the numbers below n
abbrev Circle : ℕ → Type 0
Circle n = (d : ℕ → ℕ → Bool) (p : ℕ → Bool) → ((x : ℕ) → T (p x) → x < n) → Stand d p → (x : ℕ) → T (p x) → (z : ℕ) × T (p z) × Reaches d z z

circle_next : (n : ℕ) → Circle n → Circle (suc n)
circle_next n before d p low stand x u = last (p n) (λ w. w) (λ w. w)
  where
    without : (T (p n) → ⊥) → (z : ℕ) × T (p z) × Reaches d z z
    without f = before d p (λ x w. (let l : x < suc n = low x w in let o : x ≡ n → ⊥ = (λ e. f (subst (λ (z : ℕ). T (p z)) e w)) in omega arith)) stand x u

    back : ((z : ℕ) × T (rest d p n z) × Reaches (past d p n) z z) → (z : ℕ) × T (p z) × Reaches d z z
    back f = (f.0, and_left (p f.0) (not (eqb f.0 n)) f.1, reaches_along (past_reaches d p n) f.2)

    through : T (p n) → (s : (y : ℕ) × T (p y) × T (d n y)) → Dec (s.0 ≡ n) → (z : ℕ) × T (p z) × Reaches d z z
    through w s (yes e) = (n, w, once (subst (λ (z : ℕ). T (d n z)) e s.2))
    through w s (no e) =
        let y = s.0 in let in_rest = rest_make d p n y s.1 e in
        back (before (past d p n) (rest d p n)
        (λ x v. (let l : x < suc n = low x (and_left (p x) (not (eqb x n)) v) in let o : x ≡ n → ⊥ = rest_other d p n x v in omega arith))
        (rest_stands d p n stand y in_rest s.2) y in_rest)

    last : (b : Bool) → (T (p n) → T b) → (T b → T (p n)) → (z : ℕ) × T (p z) × Reaches d z z
    last true to from = through (from tt) (stand n (from tt)) (ℕ_discrete (stand n (from tt)).0 n)
    last false to from = without to

pub circle_some : (n : ℕ) (d : ℕ → ℕ → Bool) (p : ℕ → Bool) → ((x : ℕ) → T (p x) → x < n) → Stand d p → (x : ℕ) → T (p x) → (z : ℕ) × T (p z) × Reaches d z z
circle_some zero d p low stand x u = absurd (not-suc-le-zero (low x u))
circle_some (suc n) d p low stand x u = circle_next n (λ d p low stand x u. circle_some n d p low stand x u) d p low stand x u

pub circle_stands : {d : ℕ → ℕ → Bool} {x : ℕ} → Reaches d x x → (y : ℕ) × T (d x y) × Reaches d y y
circle_stands {d} {x} (once u) = (x, u, once u)
circle_stands {d} {x} (then {y = y} u r) = (y, u, reaches_join d r (once u))
