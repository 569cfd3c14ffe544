-- Laws of what is written of a solved file.
--
--   filler_same, texts_same == fillers, and the atoms of a set, are written alike where their variables are
--   spelt_sets     == assignments that give the same sets are spelt alike
--   lines_sets     == so are the lines
--   spelt_stable   == a variable of an acyclic assignment that is spelt out deep enough is spelt out to the end
--   spelt_equation == A VARIABLE IS SPELT OUT BY ITS OWN ATOMS, in which the fresh variables are spelt out
use Rattle.std.proofs.Math.Path.{◌≡◌, refl, sym, ap, ap₂, subst}
use Rattle.std.proofs.Common.{◌∙◌, eqb→eq}
use Rattle.std.specs.Prelude.{Bool, ◌&&◌, length}
use Rattle.std.proofs.Math.Bool.{true, false}
use mathlib.Core.List.{List, [], ◌∷◌, ◌++◌, map, map-append}
use Prim.Native.Nat.{ℕ, zero, suc, ◌+◌, ◌-◌, ◌≤◌, ◌<◌}
use native.Mathlib.Omega.{arith}
use Rattle.std.proofs.Math.Dec.{T, eqb_refl, ltb, ltb→lt}
use borrow.Author.Tests.{ltb-false}
use Rattle.el.specs.Test.{bit}
use Rattle.el.specs.TestLaws.{true_is, and_make, and_right, every_of_at, any_below_hit}
use Rattle.el.specs.Table.{Filler, top_f, constant_f, variable_f, Table, row_at, atoms, filler_declared, row_declared, declared}
use Rattle.el.specs.TableLaws.{rows_declared}
use Rattle.el.specs.Assignment.{Assignment, set_of, is_variable, depends, acyclic}
use Rattle.el.specs.Rank.{rank}
use Rattle.el.proofs.InducedLaws.{rank_falls, rank_below}
use Rattle.text.specs.Text.{newline}
use Rattle.text.specs.Listing.{atoms_in}
use Rattle.owl.specs.Naming.{Names}
use Rattle.spell.specs.Spelling.{name_of, some_text, joined_text, enclosed, variable_text, filler_text, row_text, atom_text, atom_texts, spelt_to, set_text, variable_line, variable_lines}

module _ (d : Names) (t : Table) where
  pub filler_same : (p q : ℕ → List ℕ) (f : Filler) → ((y : ℕ) → T (is_variable y f) → p y ≡ q y) → filler_text d t p f ≡ filler_text d t q f
  unfolding filler_text variable_text
  filler_same p q top_f h = refl
  filler_same p q (constant_f k) h = refl
  filler_same p q (variable_f x) h = ap (λ (w : List ℕ). elim (ltb x (length d.opens)) [ true ↦ name_of d.opens x | false ↦ w ]) (h x (eqb_refl x))

  atom_same : (p q : ℕ → List ℕ) (s n : ℕ) → n < atoms t
      → ((k y : ℕ) → k < length t.rows → T (bit (t.constants + k) s) → T (is_variable y (row_at t.rows k).filler) → p y ≡ q y) → T (bit n s) → atom_text d t p n ≡ atom_text d t q n
  unfolding atom_text row_text atoms
  atom_same p q s n h f u = by (ltb n t.constants) refl
    where
      by : (b : Bool) → ltb n t.constants ≡ b
          → ◌≡◌ {A = List ℕ} (elim b [ true ↦ name_of d.constants n | false ↦ row_text d t p (row_at t.rows (n - t.constants)) ]) (elim b [ true ↦ name_of d.constants n | false ↦ row_text d t q (row_at t.rows (n - t.constants)) ])
      by true e = refl
      by false e =
          let low : t.constants ≤ n = ltb-false n t.constants e in
          let same : n ≡ t.constants + (n - t.constants) = omega arith in
          let row = row_at t.rows (n - t.constants) in
          ap (some_text (name_of d.roles row.role))
          (filler_same p q row.filler (λ y w. f (n - t.constants) y (omega arith) (subst (λ (k : ℕ). T (bit k s)) same u) w))

  -- of each restriction in the set
  pub texts_same : (p q : ℕ → List ℕ) (s n : ℕ) → n ≤ atoms t
      → ((k y : ℕ) → k < length t.rows → T (bit (t.constants + k) s) → T (is_variable y (row_at t.rows k).filler) → p y ≡ q y) → atom_texts d t p s n ≡ atom_texts d t q s n
  unfolding atoms_in
  texts_same p q s zero h f = refl
  texts_same p q s (suc n) h f = go (bit n s) refl (texts_same p q s n (omega arith) f)
    where
      go : (b : Bool) → bit n s ≡ b → atom_texts d t p s n ≡ atom_texts d t q s n
          → map (atom_text d t p) (elim b [ true ↦ atoms_in n s ++ (n ∷ []) | false ↦ atoms_in n s ]) ≡ map (atom_text d t q) (elim b [ true ↦ atoms_in n s ++ (n ∷ []) | false ↦ atoms_in n s ])
      go true e ih =
          map-append (atom_text d t p) (atoms_in n s) (n ∷ [])
          ∙ ap₂ (λ (x : List (List ℕ)) (w : List ℕ). x ++ (w ∷ [])) ih (atom_same p q s n (omega arith) f (true_is (bit n s) e))
          ∙ sym (map-append (atom_text d t q) (atoms_in n s) (n ∷ []))
      go false e ih = ih

  module _ (known : T (declared t)) where
    -- the variables that the table names are its own
    own_variable : (k y : ℕ) → k < length t.rows → T (is_variable y (row_at t.rows k).filler) → y < t.variables
    unfolding row_at
    own_variable k y h u =
        go (row_at t.rows k).filler (and_right (ltb (row_at t.rows k).role t.roles) (filler_declared t (row_at t.rows k).filler) (every_of_at (row_declared t) t.rows k _ (rows_declared t known) h)) u
      where
        go : (f : Filler) → T (filler_declared t f) → T (is_variable y f) → y < t.variables
        go top_f w u = absurd u
        go (constant_f k) w u = absurd u
        go (variable_f x) w u = let l : x < t.variables = ltb→lt x t.variables w in subst (λ (z : ℕ). z < t.variables) (eqb→eq x y u) l

    module _ (f g : ℕ → ℕ) (same : (x : ℕ) → x < t.variables → f x ≡ g x) where
      pub spelt_sets : (n x : ℕ) → x < t.variables → spelt_to d t f n x ≡ spelt_to d t g n x
      unfolding spelt_to
      spelt_sets zero x h = refl
      spelt_sets (suc n) x h =
          ap enclosed
          (texts_same (spelt_to d t f n) (spelt_to d t g n) (f x) (atoms t) (omega arith) (λ k y l u w. spelt_sets n y (own_variable k y l w))
          ∙ ap (λ (s : ℕ). atom_texts d t (spelt_to d t g n) s (atoms t)) (same x h))

      set_same : (n x : ℕ) → x < t.variables → set_text d t f n (f x) ≡ set_text d t g n (g x)
      unfolding set_text
      set_same n x h =
          ap joined_text
          (texts_same (spelt_to d t f n) (spelt_to d t g n) (f x) (atoms t) (omega arith) (λ k y l u w. spelt_sets n y (own_variable k y l w))
          ∙ ap (λ (s : ℕ). atom_texts d t (spelt_to d t g n) s (atoms t)) (same x h))

      pub lines_sets : (n : ℕ) → n ≤ t.variables → variable_lines d t f n ≡ variable_lines d t g n
      unfolding variable_lines variable_line
      lines_sets zero h = refl
      lines_sets (suc n) h =
          ap₂ (λ (a b : List ℕ). a ++ (name_of d.opens n ++ (0x3A ∷ 0x20 ∷ (b ++ newline)))) (lines_sets n (omega arith)) (set_same t.variables n (omega arith))

    module _ (a : Assignment) (calm : T (acyclic t a)) where
      pub spelt_stable : (n x : ℕ) → rank t a x < n → spelt_to d t (set_of a) n x ≡ spelt_to d t (set_of a) (suc n) x
      unfolding spelt_to depends
      spelt_stable zero x h = absurd (let z : ⊥ = omega arith in z)
      spelt_stable (suc n) x h =
          ap enclosed
          (texts_same (spelt_to d t (set_of a) n) (spelt_to d t (set_of a) (suc n)) (set_of a x) (atoms t) (omega arith)
          (λ k y l u w.
          let falls : rank t a y < rank t a x =
          rank_falls t known a calm x y
          (any_below_hit (length t.rows) k (λ i. bit (t.constants + i) (set_of a x) && is_variable y (row_at t.rows i).filler) l
          (and_make (bit (t.constants + k) (set_of a x)) (is_variable y (row_at t.rows k).filler) u w)) in
          spelt_stable n y (omega arith)))

      -- A VARIABLE IS SPELT OUT BY ITS OWN ATOMS: no variable is cut short
      pub spelt_equation : (x : ℕ) → x < t.variables
          → spelt_to d t (set_of a) t.variables x ≡ enclosed (atom_texts d t (spelt_to d t (set_of a) t.variables) (set_of a x) (atoms t))
      unfolding spelt_to
      spelt_equation x h = spelt_stable t.variables x (rank_below t known a calm x h)
