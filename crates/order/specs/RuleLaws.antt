-- The rule answers the order between descriptions.
--
--   any_no, all_no   == a test over the empty set of atoms
--   any_one, all_one == a test over a set of one atom asks that atom alone
--   Single E         == a conjunction lies below E where one of its conjuncts does: E is an atom
--   single_name, single_some, single_atom == names, restrictions and atoms are
--   left_below       == the left conjunction of a line lies below an atom where one of its entries does
--   atom_declared    == the fillers of a declared table's rows are declared
--   Answers fb σ     == fb answers for the fillers of rows as the order does under σ
--   atom_agrees      == the test of two atoms answers the order between them
--   Says S D         == the set S and the description D say the same, as left and as right side
--   says_top, says_atom, says_set == the empty set says top, a set of one atom that atom, and each set its conjunction
--   says_filler, says_entry == a filler's, an entry's set says what it says with the substitution carried out
--   sets_agree       == the left set lies below each atom of the right one: the order between what the two say
--   rule             == the two questions answer the order between two fillers with the assignment carried out
--   set_or           == a union lies below an atom where one of the two sets does
--   left_union       == the left entries lie below an atom where the union of their sets does
--   set_itself       == a set lies below each of its atoms
--   line_rule        == the line test answers whether the induced substitution makes the line true
use Rattle.std.specs.Prelude.{◌≡◌, Bool, T, length, get_or}
use Rattle.std.proofs.Math.Path.{refl, sym, ap, ap₂, subst}
use Rattle.std.proofs.Common.{◌∙◌, arith, eqb→eq, ltb→lt}
use Rattle.std.proofs.Math.Bool.{true, false, ◌&&◌, ◌||◌, not}
use mathlib.Core.List.{List, [], ◌∷◌}
use Prim.Native.Nat.{ℕ, zero, suc, ◌+◌, ◌-◌, ◌^◌, ◌≤◌, ◌<◌}
use Rattle.std.proofs.Math.Dec.{eqb, ltb, eqb_refl}
use Rattle.std.specs.Int.Bits.{bit_or}
use borrow.Author.Tests.{ne_eqb, ltb-true, ltb-false}
use Rattle.el.specs.Test.{any_below, all_below, any_of, every_of, bit}
use Rattle.el.specs.TestLaws.{is_true, same_test, true_is, and_make, and_left, and_right, any_below_hit, any_below_found, any_below_none, any_below_same, any_below_true_at, any_of_places, all_below_at, all_below_all, all_below_same, all_below_every, bit_none}
use Rattle.el.specs.Description.{Description, top, name, meet, some, below}
use Rattle.el.proofs.OrderLaws.{below_refl}
use Rattle.el.specs.Table.{Filler, top_f, constant_f, variable_f, Entry, constant, restriction, variable, Row, Line, Table, row_at, atoms, filler_declared, entry_declared, line_declared, declared}
use Rattle.el.specs.Meaning.{Substitution, filler_under, row_under, entry_under, left_under, holds}
use Rattle.el.specs.Assignment.{Assignment, set_of, acyclic, atom_under, conjoin, set_under, induced_to, induced}
use Rattle.el.specs.TableLaws.{row_declared_lem}
use Rattle.el.proofs.InducedLaws.{conjoin_below, conjoin_name, conjoin_some, atom_under_constant, atom_under_row, induced_at}
use Rattle.el.specs.BitLaws.{bit_power, bit_of_or}
use Rattle.order.specs.Rule.{filler_set, entry_set, union_to, left_set, atom_row, flat_test, atom_test, set_test, filler_test, entry_test, left_test, line_test}

----------------------------------------------------------------------------------------------------
-- Sets of one atom and of none

module _ (p q : ℕ → Bool) where
  pub any_no : (n : ℕ) → ((i : ℕ) → p i ≡ false) → any_below n (λ i. p i && q i) ≡ false
  any_no n f = any_below_none n (λ i. p i && q i) (λ i h. ap (λ b. b && q i) (f i))

  pub all_no : (n : ℕ) → ((i : ℕ) → p i ≡ false) → all_below n (λ i. not (p i) || q i) ≡ true
  all_no n f = all_below_every n (λ i. not (p i) || q i) (λ i h. ap (λ b. not b || q i) (f i))

  module _ (n k : ℕ) (h : k < n) (one : (i : ℕ) → p i ≡ eqb i k) where
    only : (i : ℕ) → T (p i) → i ≡ k
    only i u = eqb→eq i k (subst T (one i) u)

    here : T (p k)
    here = subst T (sym (one k)) (eqb_refl k)

    pub any_one : any_below n (λ i. p i && q i) ≡ q k
    any_one = same_test (any_below n (λ i. p i && q i)) (q k) there back
      where
        there : T (any_below n (λ i. p i && q i)) → T (q k)
        there u =
            let r = any_below_found n (λ i. p i && q i) u in
            subst (λ (i : ℕ). T (q i)) (only r.0 (and_left (p r.0) (q r.0) r.2)) (and_right (p r.0) (q r.0) r.2)

        back : T (q k) → T (any_below n (λ i. p i && q i))
        back u = any_below_hit n k (λ i. p i && q i) h (and_make (p k) (q k) here u)

    pub all_one : all_below n (λ i. not (p i) || q i) ≡ q k
    all_one = same_test (all_below n (λ i. not (p i) || q i)) (q k) there back
      where
        there : T (all_below n (λ i. not (p i) || q i)) → T (q k)
        there u = subst (λ b. T (not b || q k)) (is_true (p k) here) (all_below_at n k (λ i. not (p i) || q i) u h)

        each : T (q k) → (i : ℕ) (b : Bool) → p i ≡ b → T (not b || q i)
        each u i true e = subst (λ (m : ℕ). T (q m)) (sym (only i (true_is (p i) e))) u
        each u i false e = tt

        back : T (q k) → T (all_below n (λ i. not (p i) || q i))
        back u = all_below_all n (λ i. not (p i) || q i) (λ i l. each u i (p i) refl)

----------------------------------------------------------------------------------------------------
-- A conjunction on the left

module _ (under : ℕ → ℕ → Bool) where
  -- E is an atom: a conjunction lies below it where one of its conjuncts does
  pub record Single (E : Description) : Type 0 where
    pub top_not : below under top E ≡ false
    pub one_does : (C D : Description) → below under (meet C D) E ≡ below under C E || below under D E

  pub single_name : (k : ℕ) → Single (name k)
  single_name k = record { top_not = refl; one_does = λ C D. refl }

  pub single_some : (r : ℕ) (F : Description) → Single (some r F)
  single_some r F = record { top_not = refl; one_does = λ C D. refl }

  pub single_atom : (t : Table) (σ : Substitution) (j : ℕ) → Single (atom_under t σ j)
  unfolding atom_under
  single_atom t σ j = go (ltb j t.constants)
    where
      go : (b : Bool) → Single (elim b [ true ↦ name j | false ↦ row_under σ (row_at t.rows (j - t.constants)) ])
      go true = single_name j
      go false = single_some (row_at t.rows (j - t.constants)).role (filler_under σ (row_at t.rows (j - t.constants)).filler)

  conjoin_atom : (t : Table) (σ : Substitution) (j n : ℕ) (p : ℕ → Bool) (d : ℕ → Description) → below under (conjoin n p d) (atom_under t σ j) ≡ any_below n (λ i. p i && below under (d i) (atom_under t σ j))
  unfolding atom_under
  conjoin_atom t σ j n p d = go (ltb j t.constants)
    where
      row : Row
      row = row_at t.rows (j - t.constants)

      go : (b : Bool) → below under (conjoin n p d) (elim b [ true ↦ name j | false ↦ row_under σ row ]) ≡ any_below n (λ i. p i && below under (d i) (elim b [ true ↦ name j | false ↦ row_under σ row ]))
      go true = conjoin_name under j n p d
      go false = conjoin_some under row.role (λ E. below under E (filler_under σ row.filler)) n p d

  pub left_below : (E : Description) → Single E → (rows : List Row) (σ : Substitution) (l : List Entry) → below under (left_under rows σ l) E ≡ any_of (λ x. below under (entry_under rows σ x) E) l
  unfolding any_of
  left_below E s rows σ [] = s.top_not
  left_below E s rows σ (x ∷ l) = s.one_does (entry_under rows σ x) (left_under rows σ l) ∙ ap (λ b. below under (entry_under rows σ x) E || b) (left_below E s rows σ l)

----------------------------------------------------------------------------------------------------
-- What a table declares

pub atom_declared : (t : Table) → T (declared t) → (i : ℕ) → T (filler_declared t (atom_row t i).filler)
unfolding atom_row
atom_declared t u i = row_declared_lem t u (i - t.constants)

----------------------------------------------------------------------------------------------------
-- The rule

module _ (under : ℕ → ℕ → Bool) (t : Table) where
  -- fb answers for the fillers of rows as the order does under σ
  pub Answers : (Filler → Filler → Bool) → Substitution → Type 0
  Answers fb σ = (i j : ℕ) → fb (atom_row t i).filler (atom_row t j).filler ≡ below under (filler_under σ (atom_row t i).filler) (filler_under σ (atom_row t j).filler)

  module _ (fb : Filler → Filler → Bool) (σ : Substitution) (agree : Answers fb σ) where
    pub atom_agrees : (i j : ℕ) → atom_test under t fb i j ≡ below under (atom_under t σ i) (atom_under t σ j)
    unfolding atom_test atom_under atom_row Answers
    atom_agrees i j = go (ltb i t.constants) (ltb j t.constants) refl refl
      where
        go : (b d : Bool) → ltb i t.constants ≡ b → ltb j t.constants ≡ d
            → elim d [ true ↦ eqb i j | false ↦ not b && (under (atom_row t i).role (atom_row t j).role && fb (atom_row t i).filler (atom_row t j).filler) ]
            ≡ below under (elim b [ true ↦ name i | false ↦ row_under σ (atom_row t i) ]) (elim d [ true ↦ name j | false ↦ row_under σ (atom_row t j) ])
        go true true e f = refl
        go true false e f = refl
        go false true e f = ne_eqb i j (λ q. let h : t.constants ≤ i = ltb-false i t.constants e in let l : j < t.constants = ltb-true j t.constants f in omega arith)
        go false false e f = ap (λ b. under (atom_row t i).role (atom_row t j).role && b) (agree i j)

    -- the set S and the description D say the same
    pub record Says (S : ℕ) (D : Description) : Type 0 where
      pub as_left : (j : ℕ) → set_test under t fb S j ≡ below under D (atom_under t σ j)
      pub as_right : (C : Description) → below under C D ≡ all_below (atoms t) (λ j. not (bit j S) || below under C (atom_under t σ j))

    pub says_top : Says 0 top
    unfolding set_test
    says_top =
        record {
          as_left = λ j. any_no (λ i. bit i 0) (λ i. atom_test under t fb i j) (atoms t) bit_none ∙ sym (single_atom under t σ j).top_not;
          as_right = λ C. sym (all_no (λ i. bit i 0) (λ j. below under C (atom_under t σ j)) (atoms t) bit_none);
        }

    pub says_atom : (k : ℕ) → k < atoms t → Says (2 ^ k) (atom_under t σ k)
    unfolding set_test
    says_atom k h =
        record {
          as_left = λ j. any_one (λ i. bit i (2 ^ k)) (λ i. atom_test under t fb i j) (atoms t) k h (λ i. bit_power i k) ∙ atom_agrees k j;
          as_right = λ C. sym (all_one (λ i. bit i (2 ^ k)) (λ j. below under C (atom_under t σ j)) (atoms t) k h (λ i. bit_power i k));
        }

    pub says_set : (S : ℕ) → Says S (set_under t σ S)
    unfolding set_test set_under
    says_set S =
        record {
          as_left = λ j. any_below_same (atoms t) (λ i. bit i S && atom_test under t fb i j) (λ i. bit i S && below under (atom_under t σ i) (atom_under t σ j)) (λ i h. ap (λ b. bit i S && b) (atom_agrees i j)) ∙ sym (conjoin_atom under t σ j (atoms t) (λ i. bit i S) (atom_under t σ));
          as_right = λ C. conjoin_below under C (atoms t) (λ i. bit i S) (atom_under t σ);
        }

    pub sets_agree : (S R : ℕ) (D E : Description) → Says S D → Says R E → all_below (atoms t) (λ j. not (bit j R) || set_test under t fb S j) ≡ below under D E
    sets_agree S R D E s r =
        all_below_same (atoms t) (λ j. not (bit j R) || set_test under t fb S j) (λ j. not (bit j R) || below under D (atom_under t σ j)) (λ j h. ap (λ b. not (bit j R) || b) (s.as_left j)) ∙ sym (r.as_right D)

----------------------------------------------------------------------------------------------------
-- Unions

spread : (x y a b q : Bool) → (x || y) || ((a || b) && q) ≡ (x || (a && q)) || (y || (b && q))
spread true y a b q = refl
spread false true true b true = refl
spread false true true b false = refl
spread false true false b q = refl
spread false false true b true = refl
spread false false true true false = refl
spread false false true false false = refl
spread false false false b q = refl

any_or : (n A B : ℕ) (q : ℕ → Bool) → any_below n (λ i. bit i (bit_or A B) && q i) ≡ any_below n (λ i. bit i A && q i) || any_below n (λ i. bit i B && q i)
unfolding any_below
any_or zero A B q = refl
any_or (suc n) A B q =
    ap₂ (λ x y. x || (y && q n)) (any_or n A B q) (bit_of_or n A B)
    ∙ spread (any_below n (λ i. bit i A && q i)) (any_below n (λ i. bit i B && q i)) (bit n A) (bit n B) (q n)

module _ (under : ℕ → ℕ → Bool) (t : Table) where
  pub set_or : (fb : Filler → Filler → Bool) (A B j : ℕ) → set_test under t fb (bit_or A B) j ≡ set_test under t fb A j || set_test under t fb B j
  unfolding set_test
  set_or fb A B j = any_or (atoms t) A B (λ i. atom_test under t fb i j)

  module _ (a : Assignment) (l : List Entry) (j : ℕ) where
    union_asks : (fb : Filler → Filler → Bool) (i : ℕ) → set_test under t fb (union_to t a l i) j ≡ any_below i (λ k. set_test under t fb (entry_set t a (get_or l k (constant 0))) j)
    unfolding union_to any_below
    union_asks fb zero = none
      where
        none : set_test under t fb 0 j ≡ false
        none = unfold set_test in any_no (λ i. bit i 0) (λ i. atom_test under t fb i j) (atoms t) bit_none
    union_asks fb (suc i) =
        set_or fb (union_to t a l i) (entry_set t a (get_or l i (constant 0))) j
        ∙ ap (λ b. b || set_test under t fb (entry_set t a (get_or l i (constant 0))) j) (union_asks fb i)

    pub left_union : left_test under t a l j ≡ set_test under t (filler_test under t a t.variables) (left_set t a l) j
    unfolding left_test entry_test left_set
    left_union =
        any_of_places (λ x. set_test under t (filler_test under t a t.variables) (entry_set t a x) j) l (constant 0)
        ∙ sym (union_asks (filler_test under t a t.variables) (length l))

-- constant k is atom k, restriction k is atom c + k
constant_in : (t : Table) (k : ℕ) → T (ltb k t.constants) → k < atoms t
unfolding atoms
constant_in t k u = let h : k < t.constants = ltb→lt k t.constants u in omega arith

restriction_in : (t : Table) (k : ℕ) → T (ltb k (length t.rows)) → t.constants + k < atoms t
unfolding atoms
restriction_in t k u = let h : k < length t.rows = ltb→lt k (length t.rows) u in omega arith

module _ (under : ℕ → ℕ → Bool) (t : Table) (fb : Filler → Filler → Bool) (σ : Substitution) (agree : Answers under t fb σ) where
  says_constant : (k : ℕ) → T (ltb k t.constants) → Says under t fb σ agree (2 ^ k) (name k)
  says_constant k u = subst (Says under t fb σ agree (2 ^ k)) (atom_under_constant t σ k (ltb→lt k t.constants u)) (says_atom under t fb σ agree k (constant_in t k u))

  -- τ is σ carried out once more
  module _ (a : Assignment) (τ : Substitution) (once : (x : ℕ) → x < t.variables → τ x ≡ set_under t σ (set_of a x)) where
    says_variable : (x : ℕ) → T (ltb x t.variables) → Says under t fb σ agree (set_of a x) (τ x)
    says_variable x u = subst (Says under t fb σ agree (set_of a x)) (sym (once x (ltb→lt x t.variables u))) (says_set under t fb σ agree (set_of a x))

    pub says_filler : (f : Filler) → T (filler_declared t f) → Says under t fb σ agree (filler_set a f) (filler_under τ f)
    unfolding filler_set
    says_filler top_f u = says_top under t fb σ agree
    says_filler (constant_f k) u = says_constant k u
    says_filler (variable_f x) u = says_variable x u

  module _ (a : Assignment) (once : (x : ℕ) → x < t.variables → σ x ≡ set_under t σ (set_of a x)) where
    pub says_entry : (x : Entry) → T (entry_declared t x) → Says under t fb σ agree (entry_set t a x) (entry_under t.rows σ x)
    unfolding entry_set
    says_entry (constant k) u = says_constant k u
    says_entry (restriction k) u = subst (Says under t fb σ agree (2 ^ (t.constants + k))) (atom_under_row t σ k) (says_atom under t fb σ agree (t.constants + k) (restriction_in t k u))
    says_entry (variable x) u = says_variable a σ once x u

module _ (under : ℕ → ℕ → Bool) (t : Table) (fine : T (declared t)) (a : Assignment) where
  -- THE RULE
  pub rule : (k : ℕ) (f g : Filler) → T (filler_declared t f) → T (filler_declared t g) → filler_test under t a k f g ≡ below under (filler_under (induced_to t a k) f) (filler_under (induced_to t a k) g)
  unfolding filler_test induced_to Answers
  rule zero f g u v = flat f g
    where
      flat : (f g : Filler) → flat_test f g ≡ below under (filler_under (λ (x : ℕ). top) f) (filler_under (λ (x : ℕ). top) g)
      flat f top_f = refl
      flat top_f (constant_f k) = refl
      flat (constant_f i) (constant_f k) = refl
      flat (variable_f x) (constant_f k) = refl
      flat f (variable_f y) = refl
  rule (suc k) f g u v = go (λ i j. rule k (atom_row t i).filler (atom_row t j).filler (atom_declared t fine i) (atom_declared t fine j))
    where
      go : Answers under t (filler_test under t a k) (induced_to t a k) → all_below (atoms t) (λ j. not (bit j (filler_set a g)) || set_test under t (filler_test under t a k) (filler_set a f) j) ≡ below under (filler_under (induced_to t a (suc k)) f) (filler_under (induced_to t a (suc k)) g)
      go agree =
          sets_agree under t (filler_test under t a k) (induced_to t a k) agree (filler_set a f) (filler_set a g) (filler_under (induced_to t a (suc k)) f) (filler_under (induced_to t a (suc k)) g)
          (says_filler under t (filler_test under t a k) (induced_to t a k) agree a (induced_to t a (suc k)) (λ x h. refl) f u)
          (says_filler under t (filler_test under t a k) (induced_to t a k) agree a (induced_to t a (suc k)) (λ x h. refl) g v)

  -- where each role lies below itself, so does each atom
  module _ (under_refl : (r : ℕ) → T (under r r)) where
    atom_itself : (k j : ℕ) → atom_test under t (filler_test under t a k) j j ≡ true
    unfolding Answers
    atom_itself k j =
        atom_agrees under t (filler_test under t a k) (induced_to t a k) (λ i m. rule k (atom_row t i).filler (atom_row t m).filler (atom_declared t fine i) (atom_declared t fine m)) j j
        ∙ is_true (below under (atom_under t (induced_to t a k) j) (atom_under t (induced_to t a k) j)) (below_refl under under_refl (atom_under t (induced_to t a k) j))

    pub set_itself : (k S j : ℕ) → j < atoms t → bit j S ≡ true → set_test under t (filler_test under t a k) S j ≡ true
    unfolding set_test
    set_itself k S j h e = any_below_true_at (atoms t) j (λ i. bit i S && atom_test under t (filler_test under t a k) i j) h (ap₂ ◌&&◌ e (atom_itself k j))

  rows_answer : Answers under t (filler_test under t a t.variables) (induced t a)
  unfolding Answers induced
  rows_answer i j = rule t.variables (atom_row t i).filler (atom_row t j).filler (atom_declared t fine i) (atom_declared t fine j)

  module _ (calm : T (acyclic t a)) where
    entry_says : (x : Entry) → T (entry_declared t x) → Says under t (filler_test under t a t.variables) (induced t a) rows_answer (entry_set t a x) (entry_under t.rows (induced t a) x)
    entry_says = says_entry under t (filler_test under t a t.variables) (induced t a) rows_answer a (induced_at t fine a calm)

    left_agrees : (l : List Entry) → T (every_of (entry_declared t) l) → (j : ℕ) → left_test under t a l j ≡ any_of (λ x. below under (entry_under t.rows (induced t a) x) (atom_under t (induced t a) j)) l
    unfolding left_test entry_test any_of every_of
    left_agrees [] u j = refl
    left_agrees (x ∷ l) u j =
        ap₂ ◌||◌ ((entry_says x (and_left (entry_declared t x) (every_of (entry_declared t) l) u)).as_left j)
        (left_agrees l (and_right (entry_declared t x) (every_of (entry_declared t) l) u) j)

    -- the left conjunction lies below each atom of the right entry
    pub line_rule : (l : Line) → T (line_declared t l) → line_test under t a l ≡ holds under t.rows (induced t a) l
    unfolding line_test holds
    line_rule l u =
        all_below_same (atoms t) (λ j. not (bit j (entry_set t a l.right)) || left_test under t a l.left j) (λ j. not (bit j (entry_set t a l.right)) || below under left (atom_under t (induced t a) j)) (λ j h. ap (λ b. not (bit j (entry_set t a l.right)) || b) (each j))
        ∙ sym ((entry_says l.right (and_right (every_of (entry_declared t) l.left) (entry_declared t l.right) u)).as_right left)
      where
        left : Description
        left = left_under t.rows (induced t a) l.left

        each : (j : ℕ) → left_test under t a l.left j ≡ below under left (atom_under t (induced t a) j)
        each j =
            left_agrees l.left (and_left (every_of (entry_declared t) l.left) (entry_declared t l.right) u) j
            ∙ sym (left_below under (atom_under t (induced t a) j) (single_atom under t (induced t a) j) t.rows (induced t a) l.left)
