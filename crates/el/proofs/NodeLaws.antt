-- A dead node hides no solution, and a full live node is one.
--
--   line_same       == a line under two substitutions that agree on its variables
--   set_stays       == a chosen set stays where more is chosen
--   agrees_adds, append_adds == who agrees adds
--   set_unchosen, depends_unchosen == a variable that is not chosen has the empty set and depends on none
--   depends_stays, reaches_stays, acyclic_stays == atoms added only add dependences
--   settled_chosen, settled_reached, settled_make == what it is to be settled
--   induced_stays   == what a settled variable stands for stays where the chosen sets do
--   holds_stays     == so does the truth of a ready line
--   dead_cyclic, dead_lines == a cyclic node is dead, and an acyclic one exactly if a line fails
--   dead_hides      == no node below a dead one solves
--   full_ends       == a full node ends the walk exactly if it solves
use Rattle.std.specs.Prelude.{◌≡◌, Bool, ◌&&◌, ◌||◌}
use Rattle.std.proofs.Math.Path.{refl, ap, ap₂, subst}
use Rattle.std.proofs.Common.{sym, ◌∙◌, arith, eq-eqb}
use Rattle.std.proofs.Math.Bool.{true, false, not}
use Rattle.std.proofs.Math.Logic.{inl, inr}
use mathlib.Core.List.{List, [], ◌∷◌, ◌++◌}
use Prim.Native.Nat.{ℕ, zero, suc, ◌+◌, ◌≤◌, ◌<◌}
use Rattle.std.proofs.Math.Decide.{dec_lt}
use Rattle.std.proofs.Math.Dec.{T, T_not, not_T, eqb, ltb, ltb→lt, lt→ltb}
use Rattle.std.proofs.Math.ListN.{length, get_or, get_or-append, get_or-eq_default}
use Rattle.el.specs.Test.{all_below, any_of, every_of, bit}
use Rattle.el.specs.Description.{meet, some, below}
use Rattle.el.specs.Table.{Filler, top_f, constant_f, variable_f, Entry, constant, restriction, variable, Row, Line, Table, row_at, declared, line_declared, entry_declared, filler_declared}
use Rattle.el.specs.Meaning.{Substitution, filler_under, entry_under, left_under, holds, makes}
use Rattle.el.specs.Assignment.{Assignment, set_of, depends, is_variable, Reaches, once, then, reaches, acyclic, set_under, induced_to, induced, solves}
use Rattle.el.specs.Walk.{Node, chosen, filler_variables, entry_variables, entries_variables, line_variables, settled, ready, fails, dead, full, ends}
use Rattle.el.specs.TestLaws.{is_true, is_false, true_is, false_not, same_test, or_cases, and_make, and_left, and_right, any_below_none, any_below_hit, any_below_found, all_below_all, all_below_at, any_of_found, any_of_hit, every_of_at, every_of_all, every_of_append, bit_none}
use Rattle.el.proofs.InducedLaws.{set_under_same}
use Rattle.el.specs.TableLaws.{row_declared_lem, line_declared_lem}
use Rattle.el.proofs.ReachLaws.{reaches_declared, reaches_means, depends_reaches, reaches_trans, acyclic_means}
use Rattle.el.specs.Below.{Agrees, Adds, no_line}

----------------------------------------------------------------------------------------------------
-- A line under two substitutions that agree on its variables

module _ (rows : List Row) (p : ℕ → Bool) (σ τ : Substitution) (same : (x : ℕ) → T (p x) → σ x ≡ τ x) where
  filler_same : (f : Filler) → T (every_of p (filler_variables f)) → filler_under σ f ≡ filler_under τ f
  unfolding every_of
  filler_same top_f h = refl
  filler_same (constant_f k) h = refl
  filler_same (variable_f x) h = same x (and_left (p x) true h)

  entry_same : (e : Entry) → T (every_of p (entry_variables rows e)) → entry_under rows σ e ≡ entry_under rows τ e
  entry_same (constant k) h = refl
  entry_same (restriction k) h = ap (some (row_at rows k).role) (filler_same (row_at rows k).filler h)
  entry_same (variable x) h = same x (unfold every_of in and_left (p x) true h)

  left_same : (es : List Entry) → T (every_of p (entries_variables rows es)) → left_under rows σ es ≡ left_under rows τ es
  left_same [] h = refl
  left_same (e ∷ es) h =
      let k : T (every_of p (entry_variables rows e) && every_of p (entries_variables rows es)) = subst T (every_of_append p (entry_variables rows e) (entries_variables rows es)) h in
      ap₂ meet (entry_same e (and_left (every_of p (entry_variables rows e)) (every_of p (entries_variables rows es)) k))
      (left_same es (and_right (every_of p (entry_variables rows e)) (every_of p (entries_variables rows es)) k))

  pub line_same : (under : ℕ → ℕ → Bool) (l : Line) → T (every_of p (line_variables rows l)) → holds under rows σ l ≡ holds under rows τ l
  unfolding line_variables holds
  line_same under l h =
      let k : T (every_of p (entries_variables rows l.left) && every_of p (entry_variables rows l.right)) = subst T (every_of_append p (entries_variables rows l.left) (entry_variables rows l.right)) h in
      ap₂ (below under) (left_same l.left (and_left (every_of p (entries_variables rows l.left)) (every_of p (entry_variables rows l.right)) k))
      (entry_same l.right (and_right (every_of p (entries_variables rows l.left)) (every_of p (entry_variables rows l.right)) k))

----------------------------------------------------------------------------------------------------
-- A node s and one below it

pub set_stays : (s l : Node) → Agrees s (s ++ l)
unfolding set_of
set_stays s l x h = sym (get_or-append s l 0 x h)

pub set_unchosen : (s : Node) (x : ℕ) → length s ≤ x → set_of s x ≡ 0
unfolding set_of
set_unchosen s x h = get_or-eq_default s 0 h

pub depends_unchosen : (t : Table) (s : Node) (x y : ℕ) → length s ≤ x → depends t s x y ≡ false
unfolding depends
depends_unchosen t s x y h =
    any_below_none (length t.rows) (λ k. bit (t.constants + k) (set_of s x) && is_variable y (row_at t.rows k).filler)
    (λ k q. ap (λ (n : ℕ). bit (t.constants + k) n && is_variable y (row_at t.rows k).filler) (set_unchosen s x h)
    ∙ ap (λ (b : Bool). b && is_variable y (row_at t.rows k).filler) (bit_none (t.constants + k)))

pub agrees_adds : (s n : Node) → Agrees s n → Adds s n
agrees_adds s n agrees x i b = go (dec_lt x (length s))
  where
    go : Dec (x < length s) → T (bit i (set_of n x))
    go (yes h) = subst (λ (z : ℕ). T (bit i z)) (agrees x h) b
    go (no h) = absurd (false_not (bit i (set_of s x)) (ap (bit i) (set_unchosen s x (omega arith)) ∙ bit_none i) b)

pub append_adds : (s l : Node) → Adds s (s ++ l)
append_adds s l = agrees_adds s (s ++ l) (set_stays s l)

module _ (t : Table) (known : T (declared t)) (s n : Node) (adds : Adds s n) where
  pub depends_stays : (x y : ℕ) → T (depends t s x y) → T (depends t n x y)
  unfolding depends
  depends_stays x y d =
      let f = any_below_found (length t.rows) (λ k. bit (t.constants + k) (set_of s x) && is_variable y (row_at t.rows k).filler) d in
      let old = bit (t.constants + f.0) (set_of s x) in let is = is_variable y (row_at t.rows f.0).filler in
      any_below_hit (length t.rows) f.0 (λ k. bit (t.constants + k) (set_of n x) && is_variable y (row_at t.rows k).filler) f.1
      (and_make (bit (t.constants + f.0) (set_of n x)) is (adds x (t.constants + f.0) (and_left old is f.2)) (and_right old is f.2))

  pub reaches_stays : {x y : ℕ} → Reaches (depends t s) x y → Reaches (depends t n) x y
  reaches_stays (once {x} {y} d) = once (depends_stays x y d)
  reaches_stays (then {x} {y} d r) = then (depends_stays x y d) (reaches_stays r)

  pub acyclic_stays : T (acyclic t n) → T (acyclic t s)
  unfolding Rattle.el.specs.Assignment.Acyclic
  acyclic_stays h = (acyclic_means t known s).1 (λ x r. (acyclic_means t known n).0 h x (reaches_stays r))

module _ (t : Table) (known : T (declared t)) (s l : Node) where
  pub settled_chosen : (x : ℕ) → T (settled t s x) → x < length s
  unfolding settled chosen
  settled_chosen x h = ltb→lt x (length s) (and_left (ltb x (length s)) (all_below t.variables (λ y. not (reaches t s x y) || chosen s y)) h)

  pub settled_reached : (x y : ℕ) → T (settled t s x) → T (reaches t s x y) → y < length s
  unfolding settled chosen
  settled_reached x y h r =
      let g : T (not (reaches t s x y) || ltb y (length s)) = all_below_at t.variables y (λ z. not (reaches t s x z) || chosen s z)
      (and_right (ltb x (length s)) (all_below t.variables (λ z. not (reaches t s x z) || chosen s z)) h)
      (reaches_declared t known s ((reaches_means t known s x y).0 r)) in
      elim (or_cases (not (reaches t s x y)) (ltb y (length s)) g) [ inl n ↦ absurd (T_not (reaches t s x y) n r) | inr c ↦ ltb→lt y (length s) c ]

  pub settled_make : (x : ℕ) → x < length s → ((y : ℕ) → T (reaches t s x y) → y < length s) → T (settled t s x)
  unfolding settled chosen
  settled_make x h f =
      and_make (ltb x (length s)) (all_below t.variables (λ y. not (reaches t s x y) || chosen s y)) (lt→ltb x (length s) h)
      (all_below_all t.variables (λ y. not (reaches t s x y) || chosen s y) (λ y q. go y (reaches t s x y) refl))
    where
      go : (y : ℕ) (b : Bool) → reaches t s x y ≡ b → T (not b || ltb y (length s))
      go y true e = lt→ltb y (length s) (f y (true_is (reaches t s x y) e))
      go y false e = tt

  settled_next : (x y : ℕ) → T (settled t s x) → T (depends t s x y) → T (settled t s y)
  settled_next x y h d =
      settled_make y (settled_reached x y h (depends_reaches t known s x y d))
      (λ z r. settled_reached x z h (reaches_trans t known s x y z (depends_reaches t known s x y d) r))

module _ (t : Table) (known : T (declared t)) (s n : Node) (agrees : Agrees s n) where
  pub induced_stays : (k x : ℕ) → T (settled t s x) → induced_to t s k x ≡ induced_to t n k x
  unfolding induced_to
  induced_stays zero x h = refl
  induced_stays (suc k) x h =
      set_under_same t s x (induced_to t s k) (induced_to t n k) (λ y d. induced_stays k y (settled_next t known s [] x y h d))
      ∙ ap (set_under t (induced_to t n k)) (agrees x (settled_chosen t known s [] x h))

  pub holds_stays : (under : ℕ → ℕ → Bool) (line : Line) → T (ready t s line) → holds under t.rows (induced t s) line ≡ holds under t.rows (induced t n) line
  unfolding ready induced
  holds_stays under line h = line_same t.rows (settled t s) (induced t s) (induced t n) (λ x q. induced_stays t.variables x q) under line h

----------------------------------------------------------------------------------------------------
-- Dead, and what ends the walk

module _ (under : ℕ → ℕ → Bool) (t : Table) where
  pub dead_cyclic : (s : Node) → acyclic t s ≡ false → dead under t s ≡ true
  unfolding dead
  dead_cyclic s e = rw (e, dead)

  pub dead_lines : (s : Node) → acyclic t s ≡ true → dead under t s ≡ any_of (fails under t s) t.lines
  unfolding dead
  dead_lines s e = rw (e, dead)

  module _ (known : T (declared t)) where
    -- NO NODE BELOW A DEAD ONE SOLVES
    pub dead_hides : (s n : Node) → Agrees s n → dead under t s ≡ true → solves under t n ≡ false
    unfolding solves makes fails
    dead_hides s n agrees e = is_false (solves under t n) no_solution
      where
        no_solution : T (acyclic t n && every_of (holds under t.rows (induced t n)) t.lines) → ⊥
        no_solution h =
            let a : T (acyclic t n) = and_left (acyclic t n) (every_of (holds under t.rows (induced t n)) t.lines) h in
            let m : T (every_of (holds under t.rows (induced t n)) t.lines) = and_right (acyclic t n) (every_of (holds under t.rows (induced t n)) t.lines) h in
            let q : T (any_of (fails under t s) t.lines) = true_is (any_of (fails under t s) t.lines) (sym (dead_lines s (is_true (acyclic t s) (acyclic_stays t known s n (agrees_adds s n agrees) a))) ∙ e) in
            let f = any_of_found (fails under t s) t.lines no_line q in
            let line = get_or t.lines f.0 no_line in
            let g : T (ready t s line && not (holds under t.rows (induced t s) line)) = f.2 in
            T_not (holds under t.rows (induced t s) line) (and_right (ready t s line) (not (holds under t.rows (induced t s) line)) g)
            (subst T (sym (holds_stays t known s n agrees under line (and_left (ready t s line) (not (holds under t.rows (induced t s) line)) g)))
            (every_of_at (holds under t.rows (induced t n)) t.lines f.0 no_line m f.1))

    -- at a full node every line is ready
    module _ (s : Node) (whole : length s ≡ t.variables) where
      all_settled : (x : ℕ) → x < t.variables → T (settled t s x)
      all_settled x h = settled_make t known s [] x (omega arith) (λ y r. let q : y < t.variables = reaches_declared t known s ((reaches_means t known s x y).0 r) in omega arith)

      filler_ready : (f : Filler) → T (filler_declared t f) → T (every_of (settled t s) (filler_variables f))
      unfolding every_of
      filler_ready top_f d = tt
      filler_ready (constant_f k) d = tt
      filler_ready (variable_f x) d = and_make (settled t s x) true (all_settled x (ltb→lt x t.variables d)) tt

      entry_ready : (e : Entry) → T (entry_declared t e) → T (every_of (settled t s) (entry_variables t.rows e))
      entry_ready (constant k) d = unfold every_of in tt
      entry_ready (restriction k) d = filler_ready (row_at t.rows k).filler (row_declared_lem t known k)
      entry_ready (variable x) d = unfold every_of in and_make (settled t s x) true (all_settled x (ltb→lt x t.variables d)) tt

      entries_ready : (es : List Entry) → T (every_of (entry_declared t) es) → T (every_of (settled t s) (entries_variables t.rows es))
      unfolding every_of
      entries_ready [] d = tt
      entries_ready (e ∷ es) d =
          subst T (sym (every_of_append (settled t s) (entry_variables t.rows e) (entries_variables t.rows es)))
          (and_make (every_of (settled t s) (entry_variables t.rows e)) (every_of (settled t s) (entries_variables t.rows es))
          (entry_ready e (and_left (entry_declared t e) (every_of (entry_declared t) es) d)) (entries_ready es (and_right (entry_declared t e) (every_of (entry_declared t) es) d)))

      line_ready : (line : Line) → T (line_declared t line) → T (ready t s line)
      unfolding ready line_variables
      line_ready line d =
          subst T (sym (every_of_append (settled t s) (entries_variables t.rows line.left) (entry_variables t.rows line.right)))
          (and_make (every_of (settled t s) (entries_variables t.rows line.left)) (every_of (settled t s) (entry_variables t.rows line.right))
          (entries_ready line.left (and_left (every_of (entry_declared t) line.left) (entry_declared t line.right) d))
          (entry_ready line.right (and_right (every_of (entry_declared t) line.left) (entry_declared t line.right) d)))

      live_solves : T (not (dead under t s)) → T (solves under t s)
      unfolding solves makes
      live_solves h = go (acyclic t s) refl
        where
          rest : acyclic t s ≡ true → T (every_of (holds under t.rows (induced t s)) t.lines)
          rest e =
              every_of_all (holds under t.rows (induced t s)) t.lines no_line
              (λ i k. at i k (holds under t.rows (induced t s) (get_or t.lines i no_line)) refl)
            where
              at : (i : ℕ) → i < length t.lines → (b : Bool) → holds under t.rows (induced t s) (get_or t.lines i no_line) ≡ b → T (holds under t.rows (induced t s) (get_or t.lines i no_line))
              at i k true q = true_is (holds under t.rows (induced t s) (get_or t.lines i no_line)) q
              at i k false q =
                  absurd (T_not (dead under t s) h (true_is (dead under t s) (dead_lines s e ∙ is_true (any_of (fails under t s) t.lines)
                  (any_of_hit (fails under t s) t.lines i no_line k
                  (unfold fails in and_make (ready t s (get_or t.lines i no_line)) (not (holds under t.rows (induced t s) (get_or t.lines i no_line)))
                  (line_ready (get_or t.lines i no_line) (line_declared_lem t known i no_line k)) (subst (λ (c : Bool). T (not c)) (sym q) tt))))))

          go : (b : Bool) → acyclic t s ≡ b → T (acyclic t s && every_of (holds under t.rows (induced t s)) t.lines)
          go true e = and_make (acyclic t s) (every_of (holds under t.rows (induced t s)) t.lines) (true_is (acyclic t s) e) (rest e)
          go false e = absurd (T_not (dead under t s) h (true_is (dead under t s) (dead_cyclic s e)))

      solves_live : T (solves under t s) → T (not (dead under t s))
      solves_live h = not_T (dead under t s) (λ d. false_not (solves under t s) (dead_hides s s (λ x _. refl) (is_true (dead under t s) d)) h)

      -- A FULL NODE ENDS THE WALK EXACTLY IF IT SOLVES
      pub full_ends : ends under t s ≡ solves under t s
      unfolding ends full
      full_ends =
          same_test (not (dead under t s) && eqb (length s) t.variables) (solves under t s)
          (λ h. live_solves (and_left (not (dead under t s)) (eqb (length s) t.variables) h))
          (λ h. and_make (not (dead under t s)) (eqb (length s) t.variables) (solves_live h) (true_is (eqb (length s) t.variables) (eq-eqb (length s) t.variables whole)))
