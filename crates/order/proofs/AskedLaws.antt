-- The questions as they are asked, and that over a table's rows they are the rule.
--
--   constants_missing           == a missing constant decides
--   none_found, constant_found, others_found == none is missing; a missing constant decides; else each that is missing is asked
--   constant_at, rows_at        == a conjunction below a constant, and below a restriction, as it is asked
--   each_holds, each_fails, each_none == a conjunction below every atom of a set, as it is asked
--   filler_flat, filler_sets    == a filler below a filler, as it is asked
--   set_asked_lem, each_asked_lem, filler_asked_lem == over the rows of a table the three questions answer the rule
use mathlib.Core.Path.{◌≡◌, refl, sym, ap, ap₂, subst, ◌∙◌}
use mathlib.Core.Bool.{Bool, true, false, ◌&&◌, ◌||◌, not, and_assoc, and_comm, and-false}
use mathlib.Core.List.{List}
use Prim.Native.Nat.{ℕ, zero, suc, ◌+◌, ◌-◌, ◌/◌, ◌^◌, ◌≤◌, ◌<◌}
use native.Mathlib.Omega.{arith}
use native.Mathlib.Decide.{dec_lt}
use lib.Dec.{T, eqb, ltb}
use lib.ListN.{get_or}
use lib.Bits.{bit_and}
use borrow.Author.Tests.{eq-eqb, lt-ltb, le-ltb}
use Rattle.el.proofs.RoleLaws.{role_order_refl}
use Rattle.bounds.specs.Bounds.{set_numbers}
use Rattle.el.specs.Test.{any_below, all_below, bit}
use Rattle.el.specs.TestLaws.{is_true, true_is, same_test, false_not, any_below_hit, any_below_found, any_below_same, any_below_true_at, all_below_same}
use Rattle.el.specs.Table.{Filler, Table, row_at, atoms, role_order}
use Rattle.el.specs.Assignment.{Assignment}
use Rattle.table.specs.Reading.{table_of, header_of, reading, is_readable}
use Rattle.table.specs.Layout.{IsRowFiller}
use Rattle.table.specs.LayoutLaws.{layout}
use Rattle.el.specs.BitLaws.{bit_more, bit_of_and, bit_missing}
use Rattle.order.specs.Rule.{filler_set, atom_row, flat_test, atom_test, set_test, filler_test}
use Rattle.order.specs.RuleLaws.{any_one, set_itself}
use Rattle.order.specs.declared.Rows.{Rows}
use Rattle.order.specs.Given.{filler_from, RowsGiven}
use Rattle.order.specs.Asked.{any_in, missing, set_ask, each_ask, filler_asked}
use Rattle.order.proofs.LowestLaws.{in_none, missing_found}
use Rattle.order.proofs.CodeLaws.{filler_read}

----------------------------------------------------------------------------------------------------
-- The questions as they are asked

module _ (p : Rows) (a : Assignment) where
  module _ (fb : ℕ → ℕ → Bool) (S j : ℕ) where
    pub constant_at : j < p.c → set_ask p a fb S j ≡ bit j S
    unfolding set_ask
    constant_at h = rw (lt-ltb j p.c h, set_ask)

    pub rows_at : p.c ≤ j → set_ask p a fb S j ≡ any_in (bit_and (S / 2 ^ p.c) (get_or p.over (j - p.c) 0)) p.e (λ k. fb (get_or p.inner k 0) (get_or p.inner (j - p.c) 0))
    unfolding set_ask
    rows_at h = rw (le-ltb j p.c h, set_ask)

  -- a constant is asked by its bit alone: one that is missing decides
  pub constants_missing : (fb : ℕ → ℕ → Bool) (L R : ℕ) → any_below p.c (λ j. bit j (missing L R)) ≡ true → each_ask p a fb L (missing L R) ≡ false
  unfolding each_ask any_in
  constants_missing fb L R t =
      let r = any_below_found p.c (λ j. bit j (missing L R)) (true_is (any_below p.c (λ j. bit j (missing L R))) t) in
      let h : r.0 < p.c = r.1 in
      let b : bit r.0 (missing L R) ≡ true = is_true (bit r.0 (missing L R)) r.2 in
      ap not (any_below_true_at (p.c + p.e) r.0 (λ j. bit j (missing L R) && not (set_ask p a fb L j)) (omega arith)
      (ap₂ ◌&&◌ b (ap not (constant_at fb L r.0 h ∙ lacks (bit r.0 R) (bit r.0 L) (sym (bit_missing r.0 L R) ∙ b)))))
    where
      lacks : (x y : Bool) → x && not y ≡ true → y ≡ false
      lacks x false h = refl
      lacks x true h = sym h ∙ and-false x

  -- no atom fails, and one does
  module _ (fb : ℕ → ℕ → Bool) (L M : ℕ) where
    pub each_holds : any_in M (p.c + p.e) (λ j. not (set_ask p a fb L j)) ≡ false → true ≡ each_ask p a fb L M
    unfolding each_ask
    each_holds h = sym (ap not h)

    pub each_fails : any_in M (p.c + p.e) (λ j. not (set_ask p a fb L j)) ≡ true → false ≡ each_ask p a fb L M
    unfolding each_ask
    each_fails h = sym (ap not h)

    pub each_none : M ≡ 0 → true ≡ each_ask p a fb L M
    each_none z = each_holds (in_none M (p.c + p.e) (λ j. not (set_ask p a fb L j)) z)

  -- what the missing atoms decide, as the machine finds them: none is missing, a constant is, or each is asked
  module _ (fb : ℕ → ℕ → Bool) (L R : ℕ) (l : L < set_numbers) (r : R < set_numbers) where
    abbrev found : ℕ
    found = bit_and R (set_numbers - 1 - L)

    pub none_found : found ≡ 0 → eqb found 0 ≡ each_ask p a fb L (missing L R)
    none_found z = eq-eqb found 0 z ∙ each_none fb L (missing L R) (sym (missing_found L R l r) ∙ z)

    pub constant_found : (lacks : Bool) → lacks ≡ any_below p.c (λ j. bit j found) → lacks ≡ true → not lacks ≡ each_ask p a fb L (missing L R)
    constant_found lacks e t = ap not t ∙ sym (constants_missing fb L R (ap (λ (m : ℕ). any_below p.c (λ j. bit j m)) (sym (missing_found L R l r)) ∙ sym e ∙ t))

    pub others_found : each_ask p a fb L found ≡ each_ask p a fb L (missing L R)
    others_found = ap (each_ask p a fb L) (missing_found L R l r)

  pub filler_flat : (d f g : ℕ) → d ≡ 0 → flat_test (filler_from f) (filler_from g) ≡ filler_asked p a d f g
  unfolding filler_asked
  filler_flat d f g z = rw z

  pub filler_sets : (d f g L R : ℕ) → (d ≡ 0 → ⊥) → L ≡ filler_set a (filler_from f) → R ≡ filler_set a (filler_from g)
      → each_ask p a (filler_asked p a (d - 1)) L (missing L R) ≡ filler_asked p a d f g
  unfolding filler_asked
  filler_sets zero f g L R n l r = absurd (n refl)
  filler_sets (suc d) f g L R n l r =
      ap₂ (λ (x y : ℕ). each_ask p a (filler_asked p a (suc d - 1)) x (missing x y)) l r
      ∙ ap (λ (k : ℕ). each_ask p a (filler_asked p a k) (filler_set a (filler_from f)) (missing (filler_set a (filler_from f)) (filler_set a (filler_from g)))) (let z : suc d - 1 ≡ d = omega arith in z)

----------------------------------------------------------------------------------------------------
-- The rule

-- an atom i below a constant j, and below a restriction j
atom_constant : (under : ℕ → ℕ → Bool) (t : Table) (fb : Filler → Filler → Bool) (i j : ℕ) → j < t.constants → atom_test under t fb i j ≡ eqb i j
unfolding atom_test
atom_constant under t fb i j h = rw (lt-ltb j t.constants h, atom_test)

atom_restriction : (under : ℕ → ℕ → Bool) (t : Table) (fb : Filler → Filler → Bool) (i j : ℕ) → t.constants ≤ j
    → atom_test under t fb i j ≡ not (ltb i t.constants) && (under (atom_row t i).role (atom_row t j).role && fb (atom_row t i).filler (atom_row t j).filler)
unfolding atom_test
atom_restriction under t fb i j h = rw (le-ltb j t.constants h, atom_test)

-- the first c numbers do not pass
any_from : (c e : ℕ) (p : ℕ → Bool) → ((i : ℕ) → i < c → p i ≡ false) → any_below (c + e) p ≡ any_below e (λ k. p (c + k))
any_from c e p low = same_test (any_below (c + e) p) (any_below e (λ k. p (c + k))) there back
  where
    split : (i : ℕ) → i < c + e → T (p i) → Dec (i < c) → T (any_below e (λ k. p (c + k)))
    split i h u (yes l) = absurd (false_not (p i) (low i l) u)
    split i h u (no l) =
        let q : i ≡ c + (i - c) = omega arith in
        any_below_hit e (i - c) (λ k. p (c + k)) (omega arith) (subst (λ (m : ℕ). T (p m)) q u)

    there : T (any_below (c + e) p) → T (any_below e (λ k. p (c + k)))
    there u = let r = any_below_found (c + e) p u in split r.0 r.1 r.2 (dec_lt r.0 c)

    back : T (any_below e (λ k. p (c + k))) → T (any_below (c + e) p)
    back u = let r = any_below_found e (λ k. p (c + k)) u in let h : r.0 < e = r.1 in any_below_hit (c + e) (c + r.0) p (omega arith) r.2

-- no number is in and fails: each that is in passes
none_fails_all : (n : ℕ) (x y : ℕ → Bool) → not (any_below n (λ j. x j && not (y j))) ≡ all_below n (λ j. not (x j) || y j)
unfolding any_below all_below
none_fails_all zero x y = refl
none_fails_all (suc n) x y = split (any_below n (λ j. x j && not (y j))) (x n) (y n) ∙ ap (λ b. b && (not (x n) || y n)) (none_fails_all n x y)
  where
    split : (r p q : Bool) → not (r || (p && not q)) ≡ not r && (not p || q)
    split true p q = refl
    split false true true = refl
    split false true false = refl
    split false false q = refl

-- an atom that both sets have is below by itself: the missing ones are asked alone
asked_alone : (x y z : Bool) → (y ≡ true → z ≡ true) → not x || z ≡ not (x && not y) || z
asked_alone true true z f = f refl
asked_alone true false z f = refl
asked_alone false y z f = refl

module _ (s : List ℕ) (ok : T (is_readable (reading s))) (p : Rows) (g : RowsGiven s p) (a : Assignment) where
  abbrev under : ℕ → ℕ → Bool
  under = role_order (table_of s)

  abbrev rule : ℕ → Filler → Filler → Bool
  rule = filler_test under (table_of s) a

  pub constant_count : (table_of s).constants ≡ p.c
  constant_count = (layout s ok).constants ∙ sym g.constants

  pub atom_count : atoms (table_of s) ≡ p.c + p.e
  unfolding atoms
  atom_count = ap₂ ◌+◌ constant_count ((layout s ok).rows ∙ sym g.restrictions)

  row_in : (k : ℕ) → k < p.e → k < (header_of s).e
  row_in k h = subst (λ (n : ℕ). k < n) g.restrictions h

  -- the row of atom i, which is restriction i - p.c
  atom_role : (i j : ℕ) → p.c ≤ i → i < p.c + p.e → p.c ≤ j → j < p.c + p.e → under (atom_row (table_of s) i).role (atom_row (table_of s) j).role ≡ bit (i - p.c) (get_or p.over (j - p.c) 0)
  unfolding atom_row
  atom_role i j h l m n =
      ap (λ (k : ℕ). under (row_at (table_of s).rows (i - k)).role (row_at (table_of s).rows (j - k)).role) constant_count
      ∙ sym (g.over_is (j - p.c) (i - p.c) (row_in (j - p.c) (omega arith)) (row_in (i - p.c) (omega arith)))

  atom_filler : (i : ℕ) → p.c ≤ i → i < p.c + p.e → (atom_row (table_of s) i).filler ≡ filler_from (get_or p.inner (i - p.c) 0)
  unfolding atom_row
  atom_filler i h l =
      ap (λ (n : ℕ). (row_at (table_of s).rows (i - n)).filler) constant_count
      ∙ sym (filler_read (header_of s).c (header_of s).v (get_or p.inner (i - p.c) 0) (row_at (table_of s).rows (i - p.c)).filler (unfold IsRowFiller in g.inner_is (i - p.c) (row_in (i - p.c) (omega arith))))

  -- below a constant
  set_constant : (d S j : ℕ) → j < p.c → set_test under (table_of s) (rule d) S j ≡ bit j S
  unfolding set_test
  set_constant d S j h =
      ap (λ (n : ℕ). any_below n (λ i. bit i S && atom_test under (table_of s) (rule d) i j)) atom_count
      ∙ any_below_same (p.c + p.e) (λ i. bit i S && atom_test under (table_of s) (rule d) i j) (λ i. eqb i j && bit i S)
      (λ i l. ap (λ b. bit i S && b) (atom_constant under (table_of s) (rule d) i j (subst (λ (n : ℕ). j < n) (sym constant_count) h)) ∙ and_comm (bit i S) (eqb i j))
      ∙ any_one (λ i. eqb i j) (λ i. bit i S) (p.c + p.e) j (omega arith) (λ i. refl)

  module _ (d : ℕ) (asked : (f h : ℕ) → filler_asked p a d f h ≡ rule d (filler_from f) (filler_from h)) where
    -- below a restriction: some row of the set has a role under its own, and a filler below its own
    set_rows : (S j : ℕ) → p.c ≤ j → j < p.c + p.e → any_in (bit_and (S / 2 ^ p.c) (get_or p.over (j - p.c) 0)) p.e (λ k. filler_asked p a d (get_or p.inner k 0) (get_or p.inner (j - p.c) 0)) ≡ set_test under (table_of s) (rule d) S j
    unfolding set_test any_in
    set_rows S j h l = sym (ap (λ (n : ℕ). any_below n ask) atom_count ∙ any_from p.c p.e ask low ∙ any_below_same p.e (λ k. ask (p.c + k)) (λ k. bit k (bit_and (S / 2 ^ p.c) (get_or p.over (j - p.c) 0)) && filler_asked p a d (get_or p.inner k 0) (get_or p.inner (j - p.c) 0)) same)
      where
        ask : ℕ → Bool
        ask i = bit i S && atom_test under (table_of s) (rule d) i j

        opened : (i : ℕ) → ask i ≡ bit i S && (not (ltb i (table_of s).constants) && (under (atom_row (table_of s) i).role (atom_row (table_of s) j).role && rule d (atom_row (table_of s) i).filler (atom_row (table_of s) j).filler))
        opened i = ap (λ b. bit i S && b) (atom_restriction under (table_of s) (rule d) i j (subst (λ (n : ℕ). n ≤ j) (sym constant_count) h))

        low : (i : ℕ) → i < p.c → ask i ≡ false
        low i k = opened i ∙ rw (lt-ltb i (table_of s).constants (subst (λ (n : ℕ). i < n) (sym constant_count) k)) (and-false (bit i S))

        back : (k : ℕ) → p.c + k - p.c ≡ k
        back k = omega arith

        same : (k : ℕ) → k < p.e → ask (p.c + k) ≡ bit k (bit_and (S / 2 ^ p.c) (get_or p.over (j - p.c) 0)) && filler_asked p a d (get_or p.inner k 0) (get_or p.inner (j - p.c) 0)
        same k m =
            opened (p.c + k)
            ∙ ap (λ b. bit (p.c + k) S && (not b && (under (atom_row (table_of s) (p.c + k)).role (atom_row (table_of s) j).role && rule d (atom_row (table_of s) (p.c + k)).filler (atom_row (table_of s) j).filler)))
            (le-ltb (p.c + k) (table_of s).constants (subst (λ (n : ℕ). n ≤ p.c + k) (sym constant_count) (omega arith)))
            ∙ ap₂ (λ x y. bit (p.c + k) S && (x && y))
            (atom_role (p.c + k) j (omega arith) (omega arith) h l ∙ ap (λ (n : ℕ). bit n (get_or p.over (j - p.c) 0)) (back k))
            (ap₂ (rule d) (atom_filler (p.c + k) (omega arith) (omega arith) ∙ ap (λ (n : ℕ). filler_from (get_or p.inner n 0)) (back k)) (atom_filler j h l) ∙ sym (asked (get_or p.inner k 0) (get_or p.inner (j - p.c) 0)))
            ∙ sym (and_assoc (bit (p.c + k) S) (bit k (get_or p.over (j - p.c) 0)) (filler_asked p a d (get_or p.inner k 0) (get_or p.inner (j - p.c) 0)))
            ∙ ap (λ b. b && filler_asked p a d (get_or p.inner k 0) (get_or p.inner (j - p.c) 0))
            (ap (λ b. b && bit k (get_or p.over (j - p.c) 0)) (sym (bit_more p.c k S)) ∙ sym (bit_of_and k (S / 2 ^ p.c) (get_or p.over (j - p.c) 0)))

    pub set_asked_lem : (S j : ℕ) → j < p.c + p.e → set_ask p a (filler_asked p a d) S j ≡ set_test under (table_of s) (rule d) S j
    set_asked_lem S j h = go (dec_lt j p.c)
      where
        go : Dec (j < p.c) → set_ask p a (filler_asked p a d) S j ≡ set_test under (table_of s) (rule d) S j
        go (yes l) = constant_at p a (filler_asked p a d) S j l ∙ sym (set_constant d S j l)
        go (no l) = rows_at p a (filler_asked p a d) S j (omega arith) ∙ set_rows S j (omega arith) h

    pub each_asked_lem : (L R : ℕ) → each_ask p a (filler_asked p a d) L (missing L R) ≡ all_below (atoms (table_of s)) (λ j. not (bit j R) || set_test under (table_of s) (rule d) L j)
    unfolding each_ask any_in
    each_asked_lem L R =
        none_fails_all (p.c + p.e) (λ j. bit j (missing L R)) (set_ask p a (filler_asked p a d) L)
        ∙ all_below_same (p.c + p.e) (λ j. not (bit j (missing L R)) || set_ask p a (filler_asked p a d) L j) (λ j. not (bit j R) || set_test under (table_of s) (rule d) L j)
        (λ j h. ap₂ (λ x y. not x || y) (bit_missing j L R) (set_asked_lem L j h) ∙ sym (asked_alone (bit j R) (bit j L) (set_test under (table_of s) (rule d) L j) (itself j h)))
        ∙ ap (λ (n : ℕ). all_below n (λ j. not (bit j R) || set_test under (table_of s) (rule d) L j)) (sym atom_count)
      where
        itself : (j : ℕ) → j < p.c + p.e → bit j L ≡ true → set_test under (table_of s) (rule d) L j ≡ true
        itself j h b = set_itself under (table_of s) (layout s ok).all_declared a (role_order_refl (table_of s)) d L j (subst (λ (n : ℕ). j < n) (sym atom_count) h) b

  pub filler_asked_lem : (d f h : ℕ) → filler_asked p a d f h ≡ rule d (filler_from f) (filler_from h)
  unfolding filler_asked filler_test
  filler_asked_lem zero f h = refl
  filler_asked_lem (suc d) f h = each_asked_lem d (filler_asked_lem d) (filler_set a (filler_from f)) (filler_set a (filler_from h))
