-- At a child only lines that have or reach the newest variable can fail.
--
--   child_length     == it has one variable more
--   ready_before     == a line that is ready at a child and does not touch the newest variable is ready at the parent
--   parent_acyclic   == the parent of an acyclic child is acyclic
--   fresh_fails_lem      == below a live parent a line that fails touches the newest variable
--   dead_fresh       == so the test of a child need not look at other lines
use Rattle.std.specs.Prelude.{◌≡◌, refl, Bool, true, false, ◌&&◌, ◌||◌, not, [], ◌∷◌, ◌++◌, ℕ, suc, ◌+◌, ◌<◌, length}
use Rattle.std.proofs.Common.{sym, subst, ◌∙◌, arith, length-append, eq-eqb}
use Rattle.std.proofs.Math.Dec.{T, eqb}
use Rattle.std.proofs.Math.ListN.{get_or}
use Rattle.el.specs.Test.{any_of}
use Rattle.el.specs.Table.{Line, Table, declared}
use Rattle.el.specs.Meaning.{holds}
use Rattle.el.specs.Assignment.{reaches, acyclic, induced}
use Rattle.el.specs.Walk.{Node, line_variables, settled, ready, fails, dead}
use Rattle.el.specs.TestLaws.{is_true, true_is, false_not, same_test, or_left, or_right, and_make, and_left, and_right, any_of_hit, any_of_same, every_of_at, every_of_all}
use Rattle.el.proofs.ReachLaws.{reaches_means}
use Rattle.el.proofs.NodeLaws.{set_stays, append_adds, reaches_stays, acyclic_stays, settled_chosen, settled_reached, settled_make, holds_stays, dead_lines}
use Rattle.el.specs.Below.{no_line, child_of, touches}

module _ (t : Table) (known : T (declared t)) (p : Node) (x : ℕ) where
  pub child_length : length (child_of p x) ≡ suc (length p)
  child_length = length-append p (x ∷ []) ∙ (let q : length p + 1 ≡ suc (length p) = omega arith in q)

  -- a variable of a line that does not touch the newest one
  apart : (l : Line) (i : ℕ) → i < length (line_variables t.rows l) → (T (touches t (child_of p x) (length p) l) → ⊥)
      → (T (eqb (get_or (line_variables t.rows l) i 0) (length p)) → ⊥) × (T (reaches t (child_of p x) (get_or (line_variables t.rows l) i 0) (length p)) → ⊥)
  unfolding touches
  apart l i h n =
      let z = get_or (line_variables t.rows l) i 0 in (
        λ e. n (any_of_hit (λ w. eqb w (length p) || reaches t (child_of p x) w (length p)) (line_variables t.rows l) i 0 h (or_left (eqb z (length p)) (reaches t (child_of p x) z (length p)) e)),
        λ r. n (any_of_hit (λ w. eqb w (length p) || reaches t (child_of p x) w (length p)) (line_variables t.rows l) i 0 h (or_right (eqb z (length p)) (reaches t (child_of p x) z (length p)) r)),
      )

  settled_before : (z : ℕ) → T (settled t (child_of p x) z) → (T (eqb z (length p)) → ⊥) → (T (reaches t (child_of p x) z (length p)) → ⊥) → T (settled t p z)
  settled_before z h e r =
      settled_make t known p [] z
      (let a : z < length (child_of p x) = settled_chosen t known (child_of p x) [] z h in let b : z ≡ length p → ⊥ = λ q. e (true_is (eqb z (length p)) (eq-eqb z (length p) q)) in let c = child_length in omega arith)
      (λ w g. let k : T (reaches t (child_of p x) z w) = onwards w g in
      let a : w < length (child_of p x) = settled_reached t known (child_of p x) [] z w h k in
      let b : w ≡ length p → ⊥ = λ q. r (subst (λ (i : ℕ). T (reaches t (child_of p x) z i)) q k) in let c = child_length in omega arith)
    where
      onwards : (w : ℕ) → T (reaches t p z w) → T (reaches t (child_of p x) z w)
      onwards w g = (reaches_means t known (p ++ (x ∷ [])) z w).1 (reaches_stays t known p (child_of p x) (append_adds p (x ∷ [])) ((reaches_means t known p z w).0 g))

  pub ready_before : (l : Line) → T (ready t (child_of p x) l) → (T (touches t (child_of p x) (length p) l) → ⊥) → T (ready t p l)
  unfolding ready
  ready_before l h n =
      every_of_all (settled t p) (line_variables t.rows l) 0
      (λ i k. let a = apart l i k n in settled_before (get_or (line_variables t.rows l) i 0) (every_of_at (settled t (child_of p x)) (line_variables t.rows l) i 0 h k) a.0 a.1)

  module _ (under : ℕ → ℕ → Bool) (live : dead under t p ≡ false) (round : acyclic t (child_of p x) ≡ true) where
    pub parent_acyclic : acyclic t p ≡ true
    parent_acyclic = is_true (acyclic t p) (acyclic_stays t known p (child_of p x) (append_adds p (x ∷ [])) (true_is (acyclic t (p ++ (x ∷ []))) round))

    pub fresh_fails_lem : (i : ℕ) → i < length t.lines → T (fails under t (child_of p x) (get_or t.lines i no_line)) → T (touches t (child_of p x) (length p) (get_or t.lines i no_line))
    fresh_fails_lem i h f = go (touches t (child_of p x) (length p) l) refl
      where
        l : Line
        l = get_or t.lines i no_line

        is_ready : T (ready t (child_of p x) l)
        is_ready = unfold fails in and_left (ready t (child_of p x) l) (not (holds under t.rows (induced t (child_of p x)) l)) f

        not_held : T (not (holds under t.rows (induced t (child_of p x)) l))
        not_held = unfold fails in and_right (ready t (child_of p x) l) (not (holds under t.rows (induced t (child_of p x)) l)) f

        earlier : T (ready t p l) → T (fails under t p l)
        earlier r =
            unfold fails in and_make (ready t p l) (not (holds under t.rows (induced t p) l)) r
            (subst (λ (b : Bool). T (not b)) (sym (holds_stays t known p (child_of p x) (set_stays p (x ∷ [])) under l r)) not_held)

        go : (b : Bool) → touches t (child_of p x) (length p) l ≡ b → T (touches t (child_of p x) (length p) l)
        go true e = true_is (touches t (child_of p x) (length p) l) e
        go false e =
            absurd (false_not (dead under t p) live (true_is (dead under t p)
            (dead_lines under t p parent_acyclic ∙ is_true (any_of (fails under t p) t.lines)
            (any_of_hit (fails under t p) t.lines i no_line h (earlier (ready_before l is_ready (false_not (touches t (child_of p x) (length p) l) e)))))))

    -- THE TEST OF A CHILD NEED NOT LOOK AT LINES THAT DO NOT TOUCH THE NEWEST VARIABLE
    pub dead_fresh : dead under t (child_of p x) ≡ any_of (λ l. touches t (child_of p x) (length p) l && fails under t (child_of p x) l) t.lines
    dead_fresh =
        dead_lines under t (child_of p x) round
        ∙ any_of_same (fails under t (child_of p x)) (λ l. touches t (child_of p x) (length p) l && fails under t (child_of p x) l) t.lines no_line
        (λ i h. same_test (fails under t (child_of p x) (get_or t.lines i no_line)) (touches t (child_of p x) (length p) (get_or t.lines i no_line) && fails under t (child_of p x) (get_or t.lines i no_line))
        (λ f. and_make (touches t (child_of p x) (length p) (get_or t.lines i no_line)) (fails under t (child_of p x) (get_or t.lines i no_line)) (fresh_fails_lem i h f) f)
        (λ f. and_right (touches t (child_of p x) (length p) (get_or t.lines i no_line)) (fails under t (child_of p x) (get_or t.lines i no_line)) f))
