-- The masks, one role after the other, and one role row after the other.
--
--   alone_start, alone_next, alone_whole == each role under itself alone, one more at a time
--   widened_start, widened_hit, widened_miss, widened_whole == one role row more, role by role
--   widened_here, widened_stays          == the same in place
--   under_start, under_next, under_turn, under_whole == from the last role row to the first
--   under_many, under_bit                == how many masks there are, and a bit of them, by the roles
--   row_low                              == the roles of a readable table's role rows have a mask
use Rattle.std.specs.Prelude.{◌≡◌, refl, Bool, true, false, ◌&&◌, ◌||◌, ℕ, suc, ◌+◌, ◌-◌, ◌*◌, ◌%◌, ◌^◌, ◌≤◌, ◌<◌, T, ltb, length, get_or, set, drop, replicate}
use Rattle.std.proofs.Common.{sym, ap₂, ◌∙◌, add-one, ltb→lt, length-set, drop_of_length-le, get_or-set_same, get_or-set_other, drop-cons}
use Rattle.std.proofs.Math.Path.{ap, subst}
use Rattle.std.proofs.Math.Bool.{and-true, and-false, or-false}
use mathlib.Core.List.{List}
use native.Mathlib.Omega.{arith}
use Rattle.std.proofs.Math.Decide.{ℕ_discrete}
use Rattle.std.proofs.lemmas.List.{length-replicate}
use Rattle.std.specs.Int.Bits.{bit_or}
use Rattle.bounds.specs.Bounds.{max_roles, role_bits}
use Rattle.bounds.specs.WidthLaws.{power_in}
use Rattle.el.specs.Test.{bit}
use Rattle.el.specs.TestLaws.{and_left, and_right, every_of_at}
use Rattle.el.specs.BitLaws.{bit_power, bit_of_or}
use Rattle.el.specs.Description.{same_role}
use Rattle.el.specs.Roles.{RoleRow, reaches_role}
use Rattle.el.specs.Table.{Table, role_order, role_row_declared}
use Rattle.el.specs.TableLaws.{role_rows_declared}
use Rattle.table.specs.Reading.{header_of, table_of, reading, is_readable}
use Rattle.table.specs.Layout.{role_row_at}
use Rattle.table.specs.LayoutLaws.{layout}
use Rattle.roles.specs.Under.{Says, SaysTo, Alone, more, Widened, WidenedTo, UnderFrom, RolesUnder}

----------------------------------------------------------------------------------------------------
-- Role by role

module _ (p : ℕ → ℕ → Bool) where
  pub says_whole : (n : ℕ) (masks : List ℕ) → max_roles ≤ n → SaysTo p n masks → Says p masks
  says_whole n masks h f = record { many = f.many; bits = λ r s a b. f.bits r s a (omega arith) }

  -- the mask of one role more is set
  says_set : (n : ℕ) (masks : List ℕ) (x : ℕ) → n < max_roles → SaysTo p n masks → ((r : ℕ) → r < max_roles → bit r x ≡ p r n) → SaysTo p (n + 1) (set masks n x)
  says_set n masks x h f g = record { many = length-set masks n x ∙ f.many; bits = λ r s a b. go r s a b (ℕ_discrete s n) }
    where
      go : (r s : ℕ) → r < max_roles → s < n + 1 → Dec (s ≡ n) → bit r (get_or (set masks n x) s 0) ≡ p r s
      go r s a b (yes e) =
          ap (λ (k : ℕ). bit r (get_or (set masks n x) k 0)) e ∙ ap (bit r) (get_or-set_same masks n x 0 (subst (λ (k : ℕ). n < k) (sym f.many) h)) ∙ g r a ∙ ap (p r) (sym e)
      go r s a b (no e) = ap (bit r) (get_or-set_other masks n s x 0 e) ∙ f.bits r s a (omega arith)

  -- or it stays, where it says p already
  says_kept : (n : ℕ) (masks : List ℕ) → SaysTo p n masks → ((r : ℕ) → r < max_roles → bit r (get_or masks n 0) ≡ p r n) → SaysTo p (n + 1) masks
  says_kept n masks f g = record { many = f.many; bits = λ r s a b. go r s a b (ℕ_discrete s n) }
    where
      go : (r s : ℕ) → r < max_roles → s < n + 1 → Dec (s ≡ n) → bit r (get_or masks s 0) ≡ p r s
      go r s a b (yes e) = ap (λ (k : ℕ). bit r (get_or masks k 0)) e ∙ g r a ∙ ap (p r) (sym e)
      go r s a b (no e) = f.bits r s a (omega arith)

----------------------------------------------------------------------------------------------------
-- Each role under itself alone

pub alone_start : SaysTo same_role 0 (replicate max_roles 0)
alone_start = record { many = length-replicate {A = ℕ} max_roles 0; bits = λ r s a b. absurd (let z : ⊥ = omega arith in z) }

pub alone_next : (n : ℕ) (masks : List ℕ) → n < max_roles → SaysTo same_role n masks → SaysTo same_role (n + 1) (set masks n (1 * 2 ^ n % 2 ^ role_bits))
unfolding same_role
alone_next n masks h f = says_set same_role n masks _ h f (λ r a. ap (bit r) (power_in role_bits n (omega arith)) ∙ bit_power r n)

pub alone_whole : (n : ℕ) (masks : List ℕ) → max_roles ≤ n → SaysTo same_role n masks → Alone masks
unfolding Alone
alone_whole = says_whole same_role

----------------------------------------------------------------------------------------------------
-- One role row more

module _ (under : List ℕ) (n w : ℕ) where
  pub widened_start : length under ≡ max_roles → WidenedTo under n w 0 under
  widened_start many = record { says = record { many = many; bits = λ r s a b. absurd (let z : ⊥ = omega arith in z) }; rest = λ s a. refl }

  pub widened_hit : (i : ℕ) (masks : List ℕ) → i < max_roles → bit w (get_or under i 0) ≡ true → WidenedTo under n w i masks → WidenedTo under n w (i + 1) (set masks i (bit_or (get_or under i 0) (get_or under n 0)))
  widened_hit i masks h e f = record {
    says = says_set (more under n w) i masks _ h f.says (λ r a. bit_of_or r (get_or under i 0) (get_or under n 0) ∙ sym (ap (λ (b : Bool). bit r (get_or under i 0) || b) (ap (λ (b : Bool). bit r (get_or under n 0) && b) e ∙ and-true (bit r (get_or under n 0)))));
    rest = λ s a. get_or-set_other masks i s _ 0 (λ z. let y : ⊥ = omega arith in y) ∙ f.rest s (omega arith);
  }

  pub widened_miss : (i : ℕ) (masks : List ℕ) → bit w (get_or under i 0) ≡ false → WidenedTo under n w i masks → WidenedTo under n w (i + 1) masks
  widened_miss i masks e f = record {
    says = says_kept (more under n w) i masks f.says (λ r a. ap (bit r) (f.rest i (omega arith)) ∙ sym (ap (λ (b : Bool). bit r (get_or under i 0) || b) (ap (λ (b : Bool). bit r (get_or under n 0) && b) e ∙ and-false (bit r (get_or under n 0))) ∙ or-false (bit r (get_or under i 0))));
    rest = λ s a. f.rest s (omega arith);
  }

  -- the same where the masks are changed in their place: the mask at hand is still as it was
  pub widened_here : (i : ℕ) (masks : List ℕ) → i < max_roles → bit w (get_or masks i 0) ≡ true → WidenedTo under n w i masks → WidenedTo under n w (i + 1) (set masks i (bit_or (get_or masks i 0) (get_or under n 0)))
  widened_here i masks h e f = rw (f.rest i (omega arith)) (widened_hit i masks h (sym (ap (bit w) (f.rest i (omega arith))) ∙ e) f)

  pub widened_stays : (i : ℕ) (masks : List ℕ) → bit w (get_or masks i 0) ≡ false → WidenedTo under n w i masks → WidenedTo under n w (i + 1) masks
  widened_stays i masks e f = widened_miss i masks (sym (ap (bit w) (f.rest i (omega arith))) ∙ e) f

  pub widened_whole : (i : ℕ) (masks : List ℕ) → max_roles ≤ i → WidenedTo under n w i masks → Widened under n w masks
  unfolding Widened
  widened_whole i masks h f = says_whole (more under n w) i masks h f.says

----------------------------------------------------------------------------------------------------
-- Role row by role row

module _ (t : Table) where
  pub under_start : (q : ℕ) (masks : List ℕ) → length t.role_rows ≤ q → Alone masks → UnderFrom t q masks
  unfolding Alone UnderFrom reaches_role
  under_start q masks h f = record { many = f.many; bits = λ r s a b. f.bits r s a b ∙ ap (λ (l : List RoleRow). reaches_role l r s) (sym (drop_of_length-le t.role_rows h)) }

  pub under_next : (k : ℕ) (masks next : List ℕ) (n w : ℕ) → k < length t.role_rows → n ≡ (role_row_at t.role_rows k).narrower → w ≡ (role_row_at t.role_rows k).wider → n < max_roles → w < max_roles
      → UnderFrom t (k + 1) masks → Widened masks n w next → UnderFrom t k next
  unfolding UnderFrom Widened reaches_role role_row_at
  under_next k masks next n w h p q ln lw f g = record { many = g.many; bits = said }
    where
      row : RoleRow
      row = role_row_at t.role_rows k

      rows : List RoleRow
      rows = drop (suc k) t.role_rows

      was : (r s : ℕ) → r < max_roles → s < max_roles → bit r (get_or masks s 0) ≡ reaches_role rows r s
      was r s a b = f.bits r s a b ∙ ap (λ (i : ℕ). reaches_role (drop i t.role_rows) r s) (add-one k)

      said : (r s : ℕ) → r < max_roles → s < max_roles → bit r (get_or next s 0) ≡ reaches_role (drop k t.role_rows) r s
      said r s a b =
          g.bits r s a b
          ∙ ap₂ ◌||◌ (was r s a b) (ap₂ ◌&&◌ (was r n a ln ∙ ap (reaches_role rows r) p) (was w s lw b ∙ ap (λ (i : ℕ). reaches_role rows i s) q))
          ∙ ap (λ (l : List RoleRow). reaches_role l r s) (sym (drop-cons t.role_rows k (record { narrower = 0; wider = 0 }) h))

  pub under_whole : (k : ℕ) (masks : List ℕ) → k ≤ 0 → UnderFrom t k masks → RolesUnder t masks
  unfolding UnderFrom RolesUnder role_order
  under_whole k masks h f = subst (λ (i : ℕ). Says (reaches_role (drop i t.role_rows)) masks) (let e : k ≡ 0 = omega arith in e) f

  pub under_many : (masks : List ℕ) → RolesUnder t masks → length masks ≡ max_roles
  unfolding RolesUnder
  under_many masks f = f.many

  pub under_bit : (masks : List ℕ) → RolesUnder t masks → (r s : ℕ) → r < max_roles → s < max_roles → bit r (get_or masks s 0) ≡ role_order t r s
  unfolding RolesUnder
  under_bit masks f = f.bits

-- the roles of a readable table's role rows
pub row_low : (s : List ℕ) → T (is_readable (reading s)) → (k : ℕ) → k < (header_of s).q
    → ((role_row_at (table_of s).role_rows k).narrower < max_roles) × ((role_row_at (table_of s).role_rows k).wider < max_roles)
unfolding role_row_at
row_low s ok k h =
    let l = layout s ok in
    let row = role_row_at (table_of s).role_rows k in
    let d = every_of_at (role_row_declared (table_of s)) (table_of s).role_rows k (record { narrower = 0; wider = 0 }) (role_rows_declared (table_of s) l.all_declared) (let e = l.role_rows_are in omega arith) in
    let roles : (table_of s).roles ≡ (header_of s).r = l.roles in
    let few : (header_of s).r ≤ max_roles = l.few_roles in
    let n : row.narrower < (table_of s).roles = ltb→lt row.narrower (table_of s).roles (and_left (ltb row.narrower (table_of s).roles) (ltb row.wider (table_of s).roles) d) in
    let w : row.wider < (table_of s).roles = ltb→lt row.wider (table_of s).roles (and_right (ltb row.narrower (table_of s).roles) (ltb row.wider (table_of s).roles) d) in
    (omega arith, omega arith)

-- a turn from the role rows from row k on to those from the row before it on
pub under_turn : (s : List ℕ) → T (is_readable (reading s)) → (k : ℕ) → 0 < k → k ≤ (header_of s).q → (masks next : List ℕ) (n w : ℕ)
    → n ≡ (role_row_at (table_of s).role_rows (k - 1)).narrower → w ≡ (role_row_at (table_of s).role_rows (k - 1)).wider
    → UnderFrom (table_of s) k masks → Widened masks n w next → UnderFrom (table_of s) (k - 1) next
under_turn s ok k pos few masks next n w p q f g =
    let low = row_low s ok (k - 1) (omega arith) in
    under_next (table_of s) (k - 1) masks next n w (let e = (layout s ok).role_rows_are in omega arith) p q
    (subst (λ (i : ℕ). i < max_roles) (sym p) low.0) (subst (λ (i : ℕ). i < max_roles) (sym q) low.1)
    (subst (λ (i : ℕ). UnderFrom (table_of s) i masks) (let e : k ≡ k - 1 + 1 = omega arith in e) f) g
