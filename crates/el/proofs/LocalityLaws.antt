-- Locality: a substitution that makes every line true gives an assignment that solves.
--
--   number_bit, number_lt    == the bits of a number made from a test, and its bound
--   list_to_length, list_to_at == the elements of a list made from a function
--   local_assignment_lem, local_is    == the assignment of a substitution is one of the table, and local
--   local_falls              == along a dependence of a local assignment the depth falls
--   local_acyclic            == so it is acyclic
--   Carries C C'             == whatever atom lies above C under γ lies above C' under σ
--   carries_..               == for each part of a line
--   local_line, local_makes  == a line that γ makes true, what the local assignment induces makes true
--   locality                 == "for every substitution that makes every line true there is an acyclic assignment that solves"
--   solving_substitution     == what a solving assignment induces makes every line true
--   local_iff                == some substitution exactly if some solving assignment
--   solves_means             == the test `solves` says what Solves says
use Rattle.std.specs.Prelude.{◌≡◌, refl, Bool, true, false, ◌&&◌, ◌||◌, ◌↔◌, eqb, get_or}
use Rattle.std.proofs.Common.{sym, ◌∙◌, inl, inr, not-suc-le-zero, le_of_suc-le-suc, eqb→eq, ltb→lt}
use Rattle.std.proofs.Math.Path.{ap, subst}
use mathlib.Core.List.{List, [], ◌∷◌}
use Prim.Native.Nat.{ℕ, zero, suc, ◌+◌, ◌-◌, ◌*◌, ◌^◌, ◌/◌, ◌%◌, ◌≤◌, ◌<◌}
use native.Mathlib.Omega.{arith}
use Rattle.std.proofs.Math.Nat.{pow-succ'}
use Rattle.std.proofs.Math.Decide.{dec_lt}
use Rattle.std.proofs.Math.Dec.{T, ltb, lt→ltb}
use Rattle.std.proofs.Math.ListN.{length, get_or-eq_default}
use Rattle.el.specs.Test.{every_of, bit}
use Rattle.el.specs.TestLaws.{false_not, or_left, or_right, or_cases, and_make, and_left, and_right, any_below_found, every_of_both, bit_none, bit_first, bit_next}
use Rattle.el.specs.Description.{Description, top, name, meet, some, has_name, below}
use Rattle.el.specs.Conjuncts.{depth}
use Rattle.el.proofs.OrderLaws.{below_left, below_right, below_trans, below_depth}
use Rattle.el.specs.Table.{Filler, top_f, constant_f, variable_f, Entry, constant, restriction, variable, Line, Table, row_at, atoms, filler_declared, entry_declared, line_declared, declared}
use Rattle.el.specs.Meaning.{Substitution, filler_under, row_under, entry_under, left_under, holds, makes}
use Rattle.el.specs.Assignment.{Assignment, set_of, IsAssignment, is_variable, depends, Reaches, once, then, Acyclic, acyclic, atom_under, set_under, induced, Solves, solves}
use Rattle.el.specs.TableLaws.{row_declared_lem, lines_declared}
use Rattle.el.proofs.ReachLaws.{acyclic_means}
use Rattle.el.specs.Rank.{one}
use Rattle.el.proofs.InducedLaws.{conjoin_member, conjoin_greatest, atom_under_constant, atom_under_row, induced_equation}
use Rattle.el.specs.Locality.{number, list_to, local_set, local_assignment, IsLocal, Unifiable, Solvable}

----------------------------------------------------------------------------------------------------
-- Numbers and lists made from tests and functions

pub number_lt : (n : ℕ) (p : ℕ → Bool) → number n p < 2 ^ n
unfolding number
number_lt zero p = omega arith
number_lt (suc n) p = go (p 0) (number_lt n (λ i. p (suc i)))
  where
    go : (b : Bool) → number n (λ i. p (suc i)) < 2 ^ n → one b + 2 * number n (λ i. p (suc i)) < 2 ^ suc n
    go true h = rw (pow-succ' 2 n) (omega arith)
    go false h = rw (pow-succ' 2 n) (omega arith)

pub number_bit : (n i : ℕ) (p : ℕ → Bool) → i < n → bit i (number n p) ≡ p i
unfolding number
number_bit zero i p h = absurd (not-suc-le-zero h)
number_bit (suc n) zero p h = bit_first (number (suc n) p) ∙ go (p 0)
  where
    go : (b : Bool) → eqb ((one b + 2 * number n (λ i. p (suc i))) % 2) 1 ≡ b
    go true = let e : (1 + 2 * number n (λ i. p (suc i))) % 2 ≡ 1 = omega arith in ap (λ (k : ℕ). eqb k 1) e
    go false = let e : (0 + 2 * number n (λ i. p (suc i))) % 2 ≡ 0 = omega arith in ap (λ (k : ℕ). eqb k 1) e
number_bit (suc n) (suc i) p h =
    bit_next i (number (suc n) p) ∙ ap (bit i) (go (p 0)) ∙ number_bit n i (λ j. p (suc j)) (le_of_suc-le-suc h)
  where
    go : (b : Bool) → (one b + 2 * number n (λ i. p (suc i))) / 2 ≡ number n (λ i. p (suc i))
    go true = omega arith
    go false = omega arith

pub list_to_length : (n : ℕ) (f : ℕ → ℕ) → length (list_to n f) ≡ n
unfolding list_to
list_to_length zero f = refl
list_to_length (suc n) f = ap suc (list_to_length n (λ i. f (suc i)))

pub list_to_at : (n i d : ℕ) (f : ℕ → ℕ) → i < n → get_or (list_to n f) i d ≡ f i
unfolding list_to
list_to_at zero i d f h = absurd (not-suc-le-zero h)
list_to_at (suc n) zero d f h = refl
list_to_at (suc n) (suc i) d f h = list_to_at n i d (λ j. f (suc j)) (le_of_suc-le-suc h)

list_to_every : (n : ℕ) (f : ℕ → ℕ) (p : ℕ → Bool) → ((i : ℕ) → T (p (f i))) → T (every_of p (list_to n f))
unfolding list_to every_of
list_to_every zero f p g = tt
list_to_every (suc n) f p g = and_make (p (f 0)) (every_of p (list_to n (λ i. f (suc i)))) (g 0) (list_to_every n (λ i. f (suc i)) p (λ i. g (suc i)))

----------------------------------------------------------------------------------------------------
-- The assignment of a substitution

module _ (under : ℕ → ℕ → Bool) (t : Table) (γ : Substitution) where
  pub local_assignment_lem : IsAssignment t (local_assignment under t γ)
  unfolding IsAssignment local_assignment local_set
  local_assignment_lem = (
    list_to_length t.variables (local_set under t γ),
    list_to_every t.variables (local_set under t γ) (λ s. ltb s (2 ^ atoms t))
        (λ x. lt→ltb (local_set under t γ x) (2 ^ atoms t) (number_lt (atoms t) _)),
  )

  pub local_is : IsLocal under t γ (local_assignment under t γ)
  unfolding IsLocal local_assignment local_set set_of
  local_is x i h k =
      ap (bit i) (list_to_at t.variables x 0 (local_set under t γ) h) ∙ number_bit (atoms t) i (λ j. below under (γ x) (atom_under t γ j)) k

----------------------------------------------------------------------------------------------------
-- A local assignment is acyclic

module _ (under : ℕ → ℕ → Bool) (t : Table) (γ : Substitution) (a : Assignment) (short : length a ≤ t.variables) (local : IsLocal under t γ a) where
  chosen_below : (x i : ℕ) → T (bit i (set_of a x)) → x < t.variables
  unfolding set_of
  chosen_below x i u = go (dec_lt x t.variables)
    where
      go : Dec (x < t.variables) → x < t.variables
      go (yes h) = h
      go (no h) = absurd (false_not (bit i (set_of a x)) (ap (bit i) (get_or-eq_default a 0 (omega arith)) ∙ bit_none i) u)

  local_bit : (x i : ℕ) → i < atoms t → T (bit i (set_of a x)) → T (below under (γ x) (atom_under t γ i))
  unfolding IsLocal
  local_bit x i h u = subst T (local x i (chosen_below x i u) h) u

  pub local_falls : (x y : ℕ) → T (depends t a x y) → depth (γ y) < depth (γ x)
  unfolding depends atoms
  local_falls x y u =
      let r = any_below_found (length t.rows) (λ k. bit (t.constants + k) (set_of a x) && is_variable y (row_at t.rows k).filler) u in
      let low : r.0 < length t.rows = r.1 in
      let row = row_at t.rows r.0 in
      let isin = and_left (bit (t.constants + r.0) (set_of a x)) (is_variable y row.filler) r.2 in
      let var = and_right (bit (t.constants + r.0) (set_of a x)) (is_variable y row.filler) r.2 in
      go row.role row.filler var
      (subst (λ (D : Description). T (below under (γ x) D)) (atom_under_row t γ r.0) (local_bit x (t.constants + r.0) (omega arith) isin))
    where
      go : (s : ℕ) (f : Filler) → T (is_variable y f) → T (below under (γ x) (some s (filler_under γ f))) → depth (γ y) < depth (γ x)
      go s top_f is b = absurd is
      go s (constant_f k) is b = absurd is
      go s (variable_f k) is b = subst (λ (z : ℕ). depth (γ z) < depth (γ x)) (eqb→eq k y is) (below_depth under (γ x) (some s (γ k)) b)

  reaches_falls : {x y : ℕ} → Reaches (depends t a) x y → depth (γ y) < depth (γ x)
  reaches_falls {x} {y} (once u) = local_falls x y u
  reaches_falls {x} {y} (then {y = z} u r) =
      let h : depth (γ z) < depth (γ x) = local_falls x z u in
      let k : depth (γ y) < depth (γ z) = reaches_falls r in
      omega arith

  pub local_acyclic : Acyclic t a
  unfolding Acyclic
  local_acyclic x r = let h : depth (γ x) < depth (γ x) = reaches_falls r in omega arith

----------------------------------------------------------------------------------------------------
-- Every line still holds: what lies above under γ lies above under what the local assignment induces.
-- It is enough to ask for atoms, since a variable is the conjunction of the atoms in its set; and an atom is flat, so that no depth is counted.

module _ (under : ℕ → ℕ → Bool) (under_refl : (r : ℕ) → T (under r r)) (under_trans : (r s u : ℕ) → T (under r s) → T (under s u) → T (under r u))
    (t : Table) (known : T (declared t)) (γ : Substitution) (a : Assignment) (short : length a ≤ t.variables) (local : IsLocal under t γ a) where
  abbrev σ : Substitution
  σ = induced t a

  equation : (x : ℕ) → σ x ≡ set_under t σ (set_of a x)
  equation x = induced_equation t known a ((acyclic_means t known a).1 (local_acyclic under t γ a short local)) short x

  abbrev Carries : Description → Description → Type 0
  Carries C C' = (i : ℕ) → i < atoms t → T (below under C (atom_under t γ i)) → T (below under C' (atom_under t σ i))

  carries_variable : (y : ℕ) → y < t.variables → Carries (γ y) (σ y)
  unfolding set_under IsLocal
  carries_variable y h i k b =
      subst (λ (D : Description). T (below under D (atom_under t σ i))) (sym (equation y))
      (conjoin_member under under_refl (atoms t) i (λ j. bit j (set_of a y)) (atom_under t σ) k (subst T (sym (local y i h k)) b))

  -- a variable on the right
  carries_right : (C C' : Description) → Carries C C' → (z : ℕ) → T (below under C (γ z)) → T (below under C' (σ z))
  unfolding set_under
  carries_right C C' f z b =
      subst (λ (D : Description). T (below under C' D)) (sym (equation z))
      (conjoin_greatest under C' (atoms t) (λ j. bit j (set_of a z)) (atom_under t σ)
      (λ i h u. f i h (below_trans under under_trans C (γ z) (atom_under t γ i) b (local_bit under t γ a short local z i h u))))

  -- the two kinds of atoms
  by_atom : (C C' : Description) → ((i : ℕ) → i < t.constants → T (below under C (name i)) → T (below under C' (name i))) →
      ((k : ℕ) → k < length t.rows → T (below under C (row_under γ (row_at t.rows k))) → T (below under C' (row_under σ (row_at t.rows k)))) → Carries C C'
  unfolding atoms
  by_atom C C' f g i h b = go (dec_lt i t.constants)
    where
      go : Dec (i < t.constants) → T (below under C' (atom_under t σ i))
      go (yes l) =
          subst (λ (D : Description). T (below under C' D)) (sym (atom_under_constant t σ i l))
          (f i l (subst (λ (D : Description). T (below under C D)) (atom_under_constant t γ i l) b))
      go (no l) =
          let k : ℕ = i - t.constants in
          let e : t.constants + k ≡ i = omega arith in
          subst (λ (j : ℕ). T (below under C' (atom_under t σ j))) e
          (subst (λ (D : Description). T (below under C' D)) (sym (atom_under_row t σ k))
          (g k (omega arith)
          (subst (λ (D : Description). T (below under C D)) (atom_under_row t γ k)
          (subst (λ (j : ℕ). T (below under C (atom_under t γ j))) (sym e) b))))

  at_constant : (C C' : Description) → Carries C C' → (i : ℕ) → i < t.constants → T (below under C (name i)) → T (below under C' (name i))
  unfolding atoms
  at_constant C C' f i h b =
      subst (λ (D : Description). T (below under C' D)) (atom_under_constant t σ i h)
      (f i (omega arith) (subst (λ (D : Description). T (below under C D)) (sym (atom_under_constant t γ i h)) b))

  at_row : (C C' : Description) → Carries C C' → (k : ℕ) → k < length t.rows → T (below under C (row_under γ (row_at t.rows k))) → T (below under C' (row_under σ (row_at t.rows k)))
  unfolding atoms
  at_row C C' f k h b =
      subst (λ (D : Description). T (below under C' D)) (atom_under_row t σ k)
      (f (t.constants + k) (omega arith) (subst (λ (D : Description). T (below under C D)) (sym (atom_under_row t γ k)) b))

  carries_top : Carries top top
  carries_top = by_atom top top (λ i h b. b) (λ k h b. absurd b)

  carries_name : (k : ℕ) → Carries (name k) (name k)
  carries_name k = by_atom (name k) (name k) (λ i h b. b) (λ j h b. absurd b)

  carries_filler : (f : Filler) → T (filler_declared t f) → Carries (filler_under γ f) (filler_under σ f)
  carries_filler top_f ok = carries_top
  carries_filler (constant_f k) ok = carries_name k
  carries_filler (variable_f y) ok = carries_variable y (ltb→lt y t.variables ok)

  -- "whether one filler lies below another"
  filler_filler : (f g : Filler) → T (filler_declared t f) → T (filler_declared t g) → T (below under (filler_under γ f) (filler_under γ g)) → T (below under (filler_under σ f) (filler_under σ g))
  filler_filler f top_f ok ok' b = tt
  filler_filler f (constant_f k) ok ok' b = at_constant (filler_under γ f) (filler_under σ f) (carries_filler f ok) k (ltb→lt k t.constants ok') b
  filler_filler f (variable_f z) ok ok' b = carries_right (filler_under γ f) (filler_under σ f) (carries_filler f ok) z b

  carries_row : (k : ℕ) → k < length t.rows → Carries (row_under γ (row_at t.rows k)) (row_under σ (row_at t.rows k))
  carries_row k h =
      by_atom (row_under γ (row_at t.rows k)) (row_under σ (row_at t.rows k)) (λ i l b. b)
      (λ j l b.
      let r : ℕ = (row_at t.rows k).role in
      let s : ℕ = (row_at t.rows j).role in
      let f = (row_at t.rows k).filler in
      let g = (row_at t.rows j).filler in
      and_make (under r s) (below under (filler_under σ f) (filler_under σ g))
      (and_left (under r s) (below under (filler_under γ f) (filler_under γ g)) b)
      (filler_filler f g (row_declared_lem t known k) (row_declared_lem t known j) (and_right (under r s) (below under (filler_under γ f) (filler_under γ g)) b)))

  carries_entry : (e : Entry) → T (entry_declared t e) → Carries (entry_under t.rows γ e) (entry_under t.rows σ e)
  carries_entry (constant k) ok = carries_name k
  carries_entry (restriction k) ok = carries_row k (ltb→lt k (length t.rows) ok)
  carries_entry (variable y) ok = carries_variable y (ltb→lt y t.variables ok)

  -- an atom that lies above a conjunction lies above one of its conjuncts
  carries_meet : (C C' D D' : Description) → Carries C C' → Carries D D' → Carries (meet C D) (meet C' D')
  carries_meet C C' D D' f g = by_atom (meet C D) (meet C' D') constants rows
    where
      constants : (i : ℕ) → i < t.constants → T (has_name i C || has_name i D) → T (has_name i C' || has_name i D')
      constants i h b =
          elim (or_cases (has_name i C) (has_name i D) b) [
            | inl u ↦ or_left (has_name i C') (has_name i D') (at_constant C C' f i h u)
            | inr u ↦ or_right (has_name i C') (has_name i D') (at_constant D D' g i h u)
          ]

      rows : (k : ℕ) → k < length t.rows → T (below under (meet C D) (row_under γ (row_at t.rows k))) → T (below under (meet C' D') (row_under σ (row_at t.rows k)))
      rows k h b =
          elim (or_cases (below under C (row_under γ (row_at t.rows k))) (below under D (row_under γ (row_at t.rows k))) b) [
            | inl u ↦ below_left under C' D' (row_under σ (row_at t.rows k)) (at_row C C' f k h u)
            | inr u ↦ below_right under C' D' (row_under σ (row_at t.rows k)) (at_row D D' g k h u)
          ]

  carries_left : (es : List Entry) → T (every_of (entry_declared t) es) → Carries (left_under t.rows γ es) (left_under t.rows σ es)
  unfolding every_of
  carries_left [] ok = carries_top
  carries_left (e ∷ es) ok =
      carries_meet (entry_under t.rows γ e) (entry_under t.rows σ e) (left_under t.rows γ es) (left_under t.rows σ es)
      (carries_entry e (and_left (entry_declared t e) (every_of (entry_declared t) es) ok))
      (carries_left es (and_right (entry_declared t e) (every_of (entry_declared t) es) ok))

  pub local_line : (l : Line) → T (line_declared t l) → T (holds under t.rows γ l) → T (holds under t.rows (induced t a) l)
  unfolding holds
  local_line l ok b =
      go l.right (and_right (every_of (entry_declared t) l.left) (entry_declared t l.right) ok) b
      (carries_left l.left (and_left (every_of (entry_declared t) l.left) (entry_declared t l.right) ok))
    where
      C : Description
      C = left_under t.rows γ l.left

      C' : Description
      C' = left_under t.rows σ l.left

      go : (e : Entry) → T (entry_declared t e) → T (below under C (entry_under t.rows γ e)) → Carries C C' → T (below under C' (entry_under t.rows σ e))
      go (constant k) ok b f = at_constant C C' f k (ltb→lt k t.constants ok) b
      go (restriction k) ok b f = at_row C C' f k (ltb→lt k (length t.rows) ok) b
      go (variable z) ok b f = carries_right C C' f z b

  pub local_makes : T (makes under t γ) → T (makes under t (induced t a))
  unfolding makes
  local_makes m =
      every_of_both (line_declared t) (holds under t.rows γ) (holds under t.rows (induced t a)) t.lines local_line
      (lines_declared t known) m

----------------------------------------------------------------------------------------------------
-- The theorems

pub solving_substitution : (under : ℕ → ℕ → Bool) (t : Table) (a : Assignment) → Solves under t a → T (makes under t (induced t a))
unfolding Solves
solving_substitution under t a s = s.1

module _ (under : ℕ → ℕ → Bool) (under_refl : (r : ℕ) → T (under r r)) (under_trans : (r s u : ℕ) → T (under r s) → T (under s u) → T (under r u)) (t : Table) (known : T (declared t)) where
  -- for every substitution, of any depth and over any names, that makes every line true there is an acyclic assignment that solves the table:
  -- the one whose set of X holds exactly the non-variable atoms D with γ(X) below γ(D)
  pub locality : (γ : Substitution) → T (makes under t γ) → (a : Assignment) × IsAssignment t a × IsLocal under t γ a × Solves under t a
  unfolding IsAssignment Solves
  locality γ m =
      let of_table = local_assignment_lem under t γ in
      let is = local_is under t γ in
      let n : length (local_assignment under t γ) ≡ t.variables = of_table.0 in
      let short : length (local_assignment under t γ) ≤ t.variables = omega arith in (
        local_assignment under t γ,
        of_table,
        is,
        (local_acyclic under t γ (local_assignment under t γ) short is, local_makes under under_refl under_trans t known γ (local_assignment under t γ) short is m),
      )

  -- some substitution makes every line true exactly if some assignment solves
  pub local_iff : Unifiable under t ↔ Solvable under t
  unfolding Unifiable Solvable
  local_iff = ((λ u. let l = locality u.0 u.1 in (l.0, l.1, l.3)), λ s. (induced t s.0, solving_substitution under t s.0 s.2))

pub solves_means : (under : ℕ → ℕ → Bool) (t : Table) → T (declared t) → (a : Assignment) → T (solves under t a) ↔ Solves under t a
unfolding solves Solves
solves_means under t known a = (
  (λ u. ((acyclic_means t known a).0 (and_left (acyclic t a) (makes under t (induced t a)) u), and_right (acyclic t a) (makes under t (induced t a)) u)),
  λ s. and_make (acyclic t a) (makes under t (induced t a)) ((acyclic_means t known a).1 s.0) s.1,
)
