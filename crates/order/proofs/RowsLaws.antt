-- The loops that prepare the rows.
--
--   role_low, lies_by == the role of a row has a mask, and what it says
--   over_start, over_hit, over_miss, over_whole == the rows whose roles lie under row j's, one more at a time
--   rows_start, rows_step, rows_whole           == row by row
use mathlib.Core.Path.{◌≡◌, sym, ap, ap₂, subst, ◌∙◌}
use mathlib.Core.Bool.{Bool, true, false, ◌&&◌, ◌||◌, and-true, and-false, or-false}
use mathlib.Core.List.{List}
use Prim.Native.Nat.{ℕ, ◌+◌, ◌*◌, ◌%◌, ◌^◌, ◌≤◌, ◌<◌}
use native.Mathlib.Omega.{arith}
use native.Mathlib.Decide.{ℕ_discrete, dec_lt}
use lib.Dec.{T, eqb, ltb, ltb→lt}
use lib.ListN.{length, get_or, set, replicate, length-set, length-replicate}
use lib.Seq.{get_or-set_same, get_or-set_other}
use lib.Bits.{bit_or}
use borrow.Author.Tests.{eq-eqb, ne_eqb, lt-ltb, le-ltb}
use Rattle.bounds.specs.Bounds.{max_restrictions, max_roles, set_bits, set_numbers}
use Rattle.el.specs.Test.{bit}
use Rattle.el.specs.TestLaws.{bit_none, and_left, every_of_at}
use Rattle.el.specs.Table.{top_f, row_at, role_order, filler_declared, row_declared}
use Rattle.el.specs.TableLaws.{rows_declared}
use Rattle.table.specs.Reading.{table_of, header_of, reading, is_readable}
use Rattle.table.specs.LayoutLaws.{layout}
use Rattle.roles.specs.Under.{RolesUnder}
use Rattle.roles.specs.UnderLaws.{under_bit}
use Rattle.table.specs.Layout.{IsRowFiller}
use Rattle.bounds.specs.WidthLaws.{power_fits}
use Rattle.el.specs.BitLaws.{bit_power, bit_of_or}
use Rattle.order.specs.declared.Rows.{Rows}
use Rattle.order.specs.Given.{Over, RowsTo, RowsGiven}

-- one number more among those below n
next_below : (k n : ℕ) (u : Bool) → (k ≡ n → ⊥) → ltb k n && u ≡ ltb k (n + 1) && u
next_below k n u f = go (dec_lt k n)
  where
    go : Dec (k < n) → ltb k n && u ≡ ltb k (n + 1) && u
    go (yes h) = ap (λ b. b && u) (lt-ltb k n h ∙ sym (lt-ltb k (n + 1) (omega arith)))
    go (no h) = ap (λ b. b && u) (le-ltb k n (omega arith) ∙ sym (le-ltb k (n + 1) (omega arith)))

module _ (s : List ℕ) (j : ℕ) where
  abbrev role : ℕ → ℕ
  role k = (row_at (table_of s).rows k).role

  pub over_start : Over s j 0 0
  unfolding Over
  over_start k = bit_none k ∙ sym (ap (λ b. b && role_order (table_of s) (role k) (role j)) (le-ltb k 0 (omega arith)))

  -- the next row is in the mask exactly if its role lies under row j's
  over_next : (n m x : ℕ) (b : Bool) → role_order (table_of s) (role n) (role j) ≡ b → ((k : ℕ) → bit k x ≡ bit k m || (eqb k n && b)) → Over s j n m → Over s j (n + 1) x
  unfolding Over
  over_next n m x b e more f k = more k ∙ ap (λ u. u || (eqb k n && b)) (f k) ∙ go (ℕ_discrete k n)
    where
      lies : Bool
      lies = role_order (table_of s) (role k) (role j)

      go : Dec (k ≡ n) → (ltb k n && lies) || (eqb k n && b) ≡ ltb k (n + 1) && lies
      go (yes z) =
          ap₂ (λ u v. (u && lies) || (v && b)) (le-ltb k n (omega arith)) (eq-eqb k n z)
          ∙ sym (ap (λ u. u && lies) (lt-ltb k (n + 1) (omega arith)) ∙ ap (λ (i : ℕ). role_order (table_of s) (role i) (role j)) z ∙ e)
      go (no z) = ap (λ v. (ltb k n && lies) || (v && b)) (ne_eqb k n z) ∙ or-false (ltb k n && lies) ∙ next_below k n lies z

  pub over_hit : (n m : ℕ) → n < set_bits → role_order (table_of s) (role n) (role j) ≡ true → Over s j n m → Over s j (n + 1) (bit_or m (1 * 2 ^ n % set_numbers))
  over_hit n m h e =
      over_next n m (bit_or m (1 * 2 ^ n % set_numbers)) true e
      (λ k. bit_of_or k m (1 * 2 ^ n % set_numbers) ∙ ap (λ u. bit k m || u) (ap (bit k) (power_fits n h) ∙ bit_power k n ∙ sym (and-true (eqb k n))))

  pub over_miss : (n m : ℕ) → role_order (table_of s) (role n) (role j) ≡ false → Over s j n m → Over s j (n + 1) m
  over_miss n m e = over_next n m m false e (λ k. sym (ap (λ u. bit k m || u) (and-false (eqb k n)) ∙ or-false (bit k m)))

  pub over_whole : (e n m : ℕ) → e ≤ n → n ≤ e → Over s j n m → Over s j e m
  over_whole e n m h l f = subst (λ (i : ℕ). Over s j i m) (let q : n ≡ e = omega arith in q) f

over_at : (s : List ℕ) (j n m : ℕ) → Over s j n m → (k : ℕ) → k < n → bit k m ≡ role_order (table_of s) (row_at (table_of s).rows k).role (row_at (table_of s).rows j).role
unfolding Over
over_at s j n m f k q = f k ∙ ap (λ b. b && role_order (table_of s) (row_at (table_of s).rows k).role (row_at (table_of s).rows j).role) (lt-ltb k n q)

-- the roles of two rows have masks, and what these say
module _ (s : List ℕ) (ok : T (is_readable (reading s))) (under : List ℕ) (is : RolesUnder (table_of s) under) where
  pub role_low : (k : ℕ) → k < (header_of s).e → (row_at (table_of s).rows k).role < max_roles
  unfolding row_at
  role_low k h =
      let l = layout s ok in
      let row = row_at (table_of s).rows k in
      let d = every_of_at (row_declared (table_of s)) (table_of s).rows k (record { role = 0; filler = top_f }) (rows_declared (table_of s) l.all_declared) (let e = l.rows in omega arith) in
      let roles : (table_of s).roles ≡ (header_of s).r = l.roles in
      let few : (header_of s).r ≤ max_roles = l.few_roles in
      let n : row.role < (table_of s).roles = ltb→lt row.role (table_of s).roles (and_left (ltb row.role (table_of s).roles) (filler_declared (table_of s) row.filler) d) in
      omega arith

  pub lies_by : (j k a b near : ℕ) (t : Bool) → j < (header_of s).e → k < (header_of s).e → a ≡ (row_at (table_of s).rows j).role → b ≡ (row_at (table_of s).rows k).role
      → near ≡ get_or under a 0 → bit b near ≡ t → role_order (table_of s) (row_at (table_of s).rows k).role (row_at (table_of s).rows j).role ≡ t
  lies_by j k a b near t hj hk p q e u =
      sym (under_bit (table_of s) under is (row_at (table_of s).rows k).role (row_at (table_of s).rows j).role (role_low k hk) (role_low j hj))
      ∙ ap₂ (λ (x y : ℕ). bit x (get_or under y 0)) (sym q) (sym p) ∙ ap (bit b) (sym e) ∙ u

pub rows_start : (s : List ℕ) → RowsTo s 0 (replicate max_restrictions 0) (replicate max_restrictions 0)
rows_start s =
    record {
      over_many = length-replicate {A = ℕ} max_restrictions 0;
      inner_many = length-replicate {A = ℕ} max_restrictions 0;
      over_each = λ j h. absurd (let z : ⊥ = omega arith in z);
      inner_each = λ k h. absurd (let z : ⊥ = omega arith in z);
    }

pub rows_step : (s over inner : List ℕ) (n m b e : ℕ) → n < max_restrictions → e ≡ (header_of s).e → RowsTo s n over inner → Over s n e m → IsRowFiller s n b → RowsTo s (n + 1) (set over n m) (set inner n b)
rows_step s over inner n m b e few same r o f =
    record {
      over_many = length-set over n m ∙ r.over_many;
      inner_many = length-set inner n b ∙ r.inner_many;
      over_each = λ j h. over_here j h (ℕ_discrete j n);
      inner_each = λ k h. inner_at k h (ℕ_discrete k n);
    }
  where
    over_here : (j : ℕ) → j < n + 1 → Dec (j ≡ n) → Over s j (header_of s).e (get_or (set over n m) j 0)
    over_here j h (yes z) =
        let many : length over ≡ max_restrictions = r.over_many in
        subst (λ (i : ℕ). Over s i (header_of s).e (get_or (set over n m) i 0)) (sym z)
        (subst (Over s n (header_of s).e) (sym (get_or-set_same over n m 0 (omega arith))) (subst (λ (i : ℕ). Over s n i m) same o))
    over_here j h (no z) = subst (Over s j (header_of s).e) (sym (get_or-set_other over n j m 0 z)) (r.over_each j (omega arith))

    inner_at : (k : ℕ) → k < n + 1 → Dec (k ≡ n) → IsRowFiller s k (get_or (set inner n b) k 0)
    inner_at k h (yes z) =
        let many : length inner ≡ max_restrictions = r.inner_many in
        subst (λ (i : ℕ). IsRowFiller s i (get_or (set inner n b) i 0)) (sym z)
        (subst (IsRowFiller s n) (sym (get_or-set_same inner n b 0 (omega arith))) f)
    inner_at k h (no z) = subst (IsRowFiller s k) (sym (get_or-set_other inner n k b 0 z)) (r.inner_each k (omega arith))

pub rows_whole : (s : List ℕ) (p : Rows) (n : ℕ) → p.c ≡ (header_of s).c → p.e ≡ (header_of s).e → p.v ≡ (header_of s).v → p.e ≤ n → n ≤ p.e → RowsTo s n p.over p.inner → RowsGiven s p
rows_whole s p n constants restrictions variables h l r =
    record {
      constants = constants;
      restrictions = restrictions;
      variables = variables;
      over_many = r.over_many;
      inner_many = r.inner_many;
      over_is = λ j k a b. over_at s j (header_of s).e (get_or p.over j 0) (r.over_each j (omega arith)) k b;
      inner_is = λ k a. r.inner_each k (omega arith);
    }
