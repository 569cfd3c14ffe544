-- The induced substitution satisfies its equation.
--
--   conjoin_below       == what lies below a conjunction lies below each of its members
--   conjoin_name        == which names a conjunction has
--   conjoin_some        == which restrictions a conjunction has
--   conjoin_same        == members that agree
--   conjoin_member      == a conjunction lies below each of its members
--   conjoin_greatest    == what lies below each member lies below the conjunction
--   conjoin_none        == the empty conjunction is top
--   atom_under_constant, atom_under_row    == the atoms by their numbers
--   filler_under_same    == substitutions that agree on a filler's variable
--   set_under_same       == substitutions that agree on what the variable of the set depends on
--   set_under_empty      == "the empty set becomes top"
--   count_below_le, count_below_lt, count_below_all    == how counts of tests compare
--   rank_falls          == along a dependence of an acyclic assignment the rank falls
--   rank_below          == a variable of the table does not reach all of them
--   induced_to_stable    == from the rank of x on, carrying out once more changes nothing at x
--   induced_at          == the equation, at a variable of the table
--   induced_equation    == the equation, where only variables of the table have a set
--   induced_only        == on the table's variables no other substitution meets it
--   induced_to_reached   == assignments that give the same sets to x and all that x reaches
--   induced_same        == assignments that give the same sets
use Rattle.std.specs.Prelude.{◌≡◌, Bool, ◌&&◌, ◌||◌, ltb, length}
use Rattle.std.proofs.Math.Path.{refl, sym, ap, subst}
use Rattle.std.proofs.Common.{ap₂, ◌∙◌, arith, not-suc-le-zero, ltb-false, lt-ltb, le-ltb}
use Rattle.std.proofs.Math.Bool.{true, false, not, and-true, or-false}
use Prim.Native.Nat.{ℕ, zero, suc, ◌+◌, ◌-◌, ◌≤◌, ◌<◌}
use Rattle.std.proofs.Math.Decide.{ℕ_discrete, dec_lt}
use Rattle.std.proofs.Math.Dec.{T, eqb_refl, T_not}
use Rattle.std.proofs.Math.ListN.{get_or-eq_default}
use Rattle.el.specs.Test.{any_below, all_below, bit}
use Rattle.el.specs.TestLaws.{is_true, is_false, true_is, false_not, and_make, any_below_hit, all_below_all, all_below_at, bit_none}
use Rattle.el.specs.Description.{Description, top, name, meet, some, has_name, has_some, below}
use Rattle.el.specs.Table.{Filler, top_f, constant_f, variable_f, Table, row_at, atoms, declared}
use Rattle.el.specs.Meaning.{Substitution, filler_under, row_under}
use Rattle.el.specs.Assignment.{Assignment, set_of, is_variable, depends, Reaches, once, then, reaches, acyclic, atom_under, conjoin, set_under, induced_to, induced}
use Rattle.el.proofs.ReachLaws.{depends_declared, depends_reaches, reaches_trans}
use Rattle.el.proofs.OrderLaws.{below_left, below_right, below_refl}
use Rattle.el.specs.Rank.{one, count_below, rank}

----------------------------------------------------------------------------------------------------
-- Conjunctions

module _ (under : ℕ → ℕ → Bool) where
  pub conjoin_below : (C : Description) (n : ℕ) (p : ℕ → Bool) (d : ℕ → Description) → below under C (conjoin n p d) ≡ all_below n (λ i. not (p i) || below under C (d i))
  unfolding conjoin all_below
  conjoin_below C zero p d = refl
  conjoin_below C (suc n) p d = go (p n) (conjoin_below C n p d)
    where
      go : (b : Bool) → below under C (conjoin n p d) ≡ all_below n (λ i. not (p i) || below under C (d i)) →
          below under C (elim b [ true ↦ meet (conjoin n p d) (d n) | false ↦ conjoin n p d ]) ≡ all_below n (λ i. not (p i) || below under C (d i)) && (not b || below under C (d n))
      go true e = ap (λ b. b && below under C (d n)) e
      go false e = e ∙ sym (and-true (all_below n (λ i. not (p i) || below under C (d i))))

  pub conjoin_name : (a n : ℕ) (p : ℕ → Bool) (d : ℕ → Description) → has_name a (conjoin n p d) ≡ any_below n (λ i. p i && has_name a (d i))
  unfolding conjoin any_below
  conjoin_name a zero p d = refl
  conjoin_name a (suc n) p d = go (p n) (conjoin_name a n p d)
    where
      go : (b : Bool) → has_name a (conjoin n p d) ≡ any_below n (λ i. p i && has_name a (d i)) →
          has_name a (elim b [ true ↦ meet (conjoin n p d) (d n) | false ↦ conjoin n p d ]) ≡ any_below n (λ i. p i && has_name a (d i)) || (b && has_name a (d n))
      go true e = ap (λ b. b || has_name a (d n)) e
      go false e = e ∙ sym (or-false (any_below n (λ i. p i && has_name a (d i))))

  pub conjoin_some : (s : ℕ) (q : Description → Bool) (n : ℕ) (p : ℕ → Bool) (d : ℕ → Description) → has_some under s q (conjoin n p d) ≡ any_below n (λ i. p i && has_some under s q (d i))
  unfolding conjoin any_below
  conjoin_some s q zero p d = refl
  conjoin_some s q (suc n) p d = go (p n) (conjoin_some s q n p d)
    where
      go : (b : Bool) → has_some under s q (conjoin n p d) ≡ any_below n (λ i. p i && has_some under s q (d i)) →
          has_some under s q (elim b [ true ↦ meet (conjoin n p d) (d n) | false ↦ conjoin n p d ]) ≡ any_below n (λ i. p i && has_some under s q (d i)) || (b && has_some under s q (d n))
      go true e = ap (λ b. b || has_some under s q (d n)) e
      go false e = e ∙ sym (or-false (any_below n (λ i. p i && has_some under s q (d i))))

  pub conjoin_greatest : (C : Description) (n : ℕ) (p : ℕ → Bool) (d : ℕ → Description) → ((i : ℕ) → i < n → T (p i) → T (below under C (d i))) → T (below under C (conjoin n p d))
  conjoin_greatest C n p d f =
      true_is (below under C (conjoin n p d))
      (conjoin_below C n p d ∙ is_true (all_below n (λ i. not (p i) || below under C (d i))) (all_below_all n (λ i. not (p i) || below under C (d i)) (λ i h. imply (p i) (below under C (d i)) (f i h))))
    where
      imply : (a b : Bool) → (T a → T b) → T (not a || b)
      imply true b g = g tt
      imply false b g = tt

  module _ (under_refl : (r : ℕ) → T (under r r)) where
    pub conjoin_member : (n i : ℕ) (p : ℕ → Bool) (d : ℕ → Description) → i < n → T (p i) → T (below under (conjoin n p d) (d i))
    unfolding conjoin
    conjoin_member zero i p d h u = absurd (not-suc-le-zero h)
    conjoin_member (suc n) i p d h u = go (p n) refl (ℕ_discrete i n) (λ l. conjoin_member n i p d l u)
      where
        go : (b : Bool) → p n ≡ b → Dec (i ≡ n) → (i < n → T (below under (conjoin n p d) (d i))) → T (below under (elim b [ true ↦ meet (conjoin n p d) (d n) | false ↦ conjoin n p d ]) (d i))
        go true q (yes e) rest = below_right under (conjoin n p d) (d n) (d i) (subst (λ (k : ℕ). T (below under (d k) (d i))) e (below_refl under under_refl (d i)))
        go true q (no e) rest = below_left under (conjoin n p d) (d n) (d i) (rest (omega arith))
        go false q (yes e) rest = absurd (false_not (p n) q (subst (λ (k : ℕ). T (p k)) e u))
        go false q (no e) rest = rest (omega arith)

pub conjoin_same : (n : ℕ) (p q : ℕ → Bool) (d e : ℕ → Description) → ((i : ℕ) → i < n → p i ≡ q i) → ((i : ℕ) → i < n → T (p i) → d i ≡ e i) → conjoin n p d ≡ conjoin n q e
unfolding conjoin
conjoin_same zero p q d e f g = refl
conjoin_same (suc n) p q d e f g = go (p n) (q n) (f n (omega arith)) (g n (omega arith)) (conjoin_same n p q d e (λ i h. f i (omega arith)) (λ i h. g i (omega arith)))
  where
    go : (b c : Bool) → b ≡ c → (T b → d n ≡ e n) → conjoin n p d ≡ conjoin n q e →
        ◌≡◌ {A = Description} (elim b [ true ↦ meet (conjoin n p d) (d n) | false ↦ conjoin n p d ]) (elim c [ true ↦ meet (conjoin n q e) (e n) | false ↦ conjoin n q e ])
    go true true h k r = ap₂ meet r (k tt)
    go true false h k r = absurd (false_not true h tt)
    go false true h k r = absurd (false_not true (sym h) tt)
    go false false h k r = r

pub conjoin_none : (n : ℕ) (p : ℕ → Bool) (d : ℕ → Description) → ((i : ℕ) → i < n → p i ≡ false) → conjoin n p d ≡ top
unfolding conjoin
conjoin_none zero p d f = refl
conjoin_none (suc n) p d f = go (p n) (f n (omega arith)) (conjoin_none n p d (λ i h. f i (omega arith)))
  where
    go : (b : Bool) → b ≡ false → conjoin n p d ≡ top → ◌≡◌ {A = Description} (elim b [ true ↦ meet (conjoin n p d) (d n) | false ↦ conjoin n p d ]) top
    go true h r = absurd (false_not true h tt)
    go false h r = r

----------------------------------------------------------------------------------------------------
-- Sets under a substitution

pub atom_under_constant : (t : Table) (σ : Substitution) (i : ℕ) → i < t.constants → atom_under t σ i ≡ name i
unfolding atom_under
atom_under_constant t σ i h = rw (lt-ltb i t.constants h, atom_under)

pub atom_under_row : (t : Table) (σ : Substitution) (k : ℕ) → atom_under t σ (t.constants + k) ≡ row_under σ (row_at t.rows k)
unfolding atom_under
atom_under_row t σ k =
    let e : t.constants + k - t.constants ≡ k = omega arith in
    rw (le-ltb (t.constants + k) t.constants (omega arith), atom_under) (ap (λ (n : ℕ). row_under σ (row_at t.rows n)) e)

pub filler_under_same : (σ τ : Substitution) (f : Filler) → ((y : ℕ) → T (is_variable y f) → σ y ≡ τ y) → filler_under σ f ≡ filler_under τ f
filler_under_same σ τ top_f g = refl
filler_under_same σ τ (constant_f k) g = refl
filler_under_same σ τ (variable_f y) g = g y (eqb_refl y)

pub set_under_same : (t : Table) (a : Assignment) (x : ℕ) (σ τ : Substitution) → ((y : ℕ) → T (depends t a x y) → σ y ≡ τ y) → set_under t σ (set_of a x) ≡ set_under t τ (set_of a x)
unfolding set_under atom_under depends atoms
set_under_same t a x σ τ f =
    conjoin_same (atoms t) (λ i. bit i (set_of a x)) (λ i. bit i (set_of a x)) (atom_under t σ) (atom_under t τ) (λ i h. refl) (λ i h u. go i h u (ltb i t.constants) refl)
  where
    there : (i : ℕ) → i < atoms t → t.constants ≤ i → i - t.constants < length t.rows
    there i h k = omega arith

    go : (i : ℕ) → i < atoms t → T (bit i (set_of a x)) → (b : Bool) → ltb i t.constants ≡ b →
        ◌≡◌ {A = Description} (elim b [ true ↦ name i | false ↦ row_under σ (row_at t.rows (i - t.constants)) ]) (elim b [ true ↦ name i | false ↦ row_under τ (row_at t.rows (i - t.constants)) ])
    go i h u true e = refl
    go i h u false e =
        let low : t.constants ≤ i = ltb-false i t.constants e in
        let same : i ≡ t.constants + (i - t.constants) = omega arith in
        let row = row_at t.rows (i - t.constants) in
        ap (some row.role)
        (filler_under_same σ τ row.filler
        (λ y w. f y
        (any_below_hit (length t.rows) (i - t.constants) (λ k. bit (t.constants + k) (set_of a x) && is_variable y (row_at t.rows k).filler) (there i h low)
        (and_make (bit (t.constants + (i - t.constants)) (set_of a x)) (is_variable y row.filler) (subst (λ (k : ℕ). T (bit k (set_of a x))) same u) w))))

pub set_under_empty : (t : Table) (σ : Substitution) → set_under t σ 0 ≡ top
unfolding set_under
set_under_empty t σ = conjoin_none (atoms t) (λ i. bit i 0) (atom_under t σ) (λ i h. bit_none i)

----------------------------------------------------------------------------------------------------
-- Counts

one_le : (b c : Bool) → (T b → T c) → one b ≤ one c
one_le true true f = omega arith
one_le true false f = absurd (f tt)
one_le false c f = omega arith

pub count_below_le : (n : ℕ) (p q : ℕ → Bool) → ((i : ℕ) → i < n → T (p i) → T (q i)) → count_below n p ≤ count_below n q
unfolding count_below
count_below_le zero p q f = omega arith
count_below_le (suc n) p q f =
    let k : count_below n p ≤ count_below n q = count_below_le n p q (λ i h. f i (omega arith)) in
    let l : one (p n) ≤ one (q n) = one_le (p n) (q n) (f n (omega arith)) in
    omega arith

pub count_below_lt : (n z : ℕ) (p q : ℕ → Bool) → z < n → (T (p z) → ⊥) → T (q z) → ((i : ℕ) → i < n → T (p i) → T (q i)) → count_below n p < count_below n q
unfolding count_below
count_below_lt zero z p q h u w f = absurd (not-suc-le-zero h)
count_below_lt (suc n) z p q h u w f = go (ℕ_discrete z n) (λ l. count_below_lt n z p q l u w (λ i k. f i (omega arith)))
  where
    go : Dec (z ≡ n) → (z < n → count_below n p < count_below n q) → count_below n p + one (p n) < count_below n q + one (q n)
    go (yes e) rest =
        let k : count_below n p ≤ count_below n q = count_below_le n p q (λ i l. f i (omega arith)) in
        let l : one (p n) ≡ 0 = ap one (is_false (p n) (subst (λ (m : ℕ). T (p m) → ⊥) e u)) in
        let m : one (q n) ≡ 1 = ap one (is_true (q n) (subst (λ (m : ℕ). T (q m)) e w)) in
        omega arith
    go (no e) rest =
        let k : count_below n p < count_below n q = rest (omega arith) in
        let l : one (p n) ≤ one (q n) = one_le (p n) (q n) (f n (omega arith)) in
        omega arith

pub count_below_all : (n : ℕ) → count_below n (λ i. true) ≡ n
unfolding count_below
count_below_all zero = refl
count_below_all (suc n) = let k : count_below n (λ i. true) ≡ n = count_below_all n in omega arith

----------------------------------------------------------------------------------------------------
-- The equation

module _ (t : Table) (known : T (declared t)) (a : Assignment) (calm : T (acyclic t a)) where
  not_itself : (x : ℕ) → x < t.variables → T (reaches t a x x) → ⊥
  unfolding acyclic
  not_itself x h u = T_not (reaches t a x x) (all_below_at t.variables x (λ y. not (reaches t a y y)) calm h) u

  -- y is reached from x, all that y reaches x reaches, and y does not reach itself
  pub rank_falls : (x y : ℕ) → T (depends t a x y) → rank t a y < rank t a x
  unfolding rank
  rank_falls x y u =
      let low : y < t.variables = depends_declared t known a x y u in
      let first : T (reaches t a x y) = depends_reaches t known a x y u in
      count_below_lt t.variables y (reaches t a y) (reaches t a x) low (not_itself y low) first (λ z h w. reaches_trans t known a x y z first w)

  pub rank_below : (x : ℕ) → x < t.variables → rank t a x < t.variables
  unfolding rank
  rank_below x h =
      subst (λ (n : ℕ). count_below t.variables (reaches t a x) < n) (count_below_all t.variables)
      (count_below_lt t.variables x (reaches t a x) (λ i. true) h (not_itself x h) tt (λ i k w. tt))

  pub induced_to_stable : (k x : ℕ) → rank t a x < k → induced_to t a k x ≡ induced_to t a (suc k) x
  unfolding induced_to
  induced_to_stable zero x h = absurd (not-suc-le-zero h)
  induced_to_stable (suc k) x h =
      set_under_same t a x (induced_to t a k) (induced_to t a (suc k))
      (λ y u. let g : rank t a y < rank t a x = rank_falls x y u in induced_to_stable k y (omega arith))

  pub induced_at : (x : ℕ) → x < t.variables → induced t a x ≡ set_under t (induced t a) (set_of a x)
  unfolding induced induced_to
  induced_at x h = induced_to_stable t.variables x (rank_below x h)

  -- "each variable becomes the conjunction of its set's atoms, with the substitution carried out inside them; the empty set becomes top"
  pub induced_equation : length a ≤ t.variables → (x : ℕ) → induced t a x ≡ set_under t (induced t a) (set_of a x)
  unfolding set_of induced induced_to
  induced_equation short x = go (dec_lt x t.variables)
    where
      top_at : (k : ℕ) → set_of a x ≡ 0 → induced_to t a k x ≡ top
      top_at zero e = refl
      top_at (suc k) e = ap (set_under t (induced_to t a k)) e ∙ set_under_empty t (induced_to t a k)

      beyond : set_of a x ≡ 0 → induced t a x ≡ set_under t (induced t a) (set_of a x)
      beyond e = top_at t.variables e ∙ sym (ap (set_under t (induced t a)) e ∙ set_under_empty t (induced t a))

      go : Dec (x < t.variables) → induced t a x ≡ set_under t (induced t a) (set_of a x)
      go (yes h) = induced_at x h
      go (no h) = beyond (get_or-eq_default a 0 (omega arith))

  module _ (σ : Substitution) (meets : (x : ℕ) → x < t.variables → σ x ≡ set_under t σ (set_of a x)) where
    only_to : (k x : ℕ) → x < t.variables → rank t a x < k → σ x ≡ induced_to t a k x
    unfolding induced_to
    only_to zero x l h = absurd (not-suc-le-zero h)
    only_to (suc k) x l h =
        meets x l
        ∙ set_under_same t a x σ (induced_to t a k)
        (λ y u. let g : rank t a y < rank t a x = rank_falls x y u in only_to k y (depends_declared t known a x y u) (omega arith))

    -- NO OTHER SUBSTITUTION MEETS THE EQUATION
    pub induced_only : (x : ℕ) → x < t.variables → σ x ≡ induced t a x
    unfolding induced
    induced_only x l = only_to t.variables x l (rank_below x l)

----------------------------------------------------------------------------------------------------
-- Assignments that give the same sets

module _ (t : Table) (a b : Assignment) where
  pub induced_to_reached : (k x : ℕ) → set_of a x ≡ set_of b x → ((y : ℕ) → Reaches (depends t a) x y → set_of a y ≡ set_of b y) → induced_to t a k x ≡ induced_to t b k x
  unfolding induced_to
  induced_to_reached zero x e f = refl
  induced_to_reached (suc k) x e f =
      set_under_same t a x (induced_to t a k) (induced_to t b k) (λ y u. induced_to_reached k y (f y (once u)) (λ z r. f z (then u r)))
      ∙ ap (set_under t (induced_to t b k)) e

  pub induced_same : ((x : ℕ) → set_of a x ≡ set_of b x) → (x : ℕ) → induced t a x ≡ induced t b x
  unfolding induced
  induced_same f x = induced_to_reached t.variables x (f x) (λ y r. f y)
