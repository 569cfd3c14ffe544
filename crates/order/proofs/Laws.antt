-- What the bytes of a line say, and that it holds.
--
--   few_atoms, asking, entry_fits       == what the questions are given
--   left_start, left_step, left_whole   == the loop that joins the left entries' sets
--   line_asked                          == the line holds
use mathlib.Core.Path.{◌≡◌, refl, sym, ap, ap₂, subst, ◌∙◌}
use mathlib.Core.Bool.{◌||◌, not}
use mathlib.Core.List.{List}
use Prim.Native.Nat.{ℕ, suc, ◌+◌, ◌≤◌, ◌<◌}
use native.Mathlib.Omega.{arith}
use lib.Dec.{T}
use lib.ListN.{length, get_or}
use lib.Bits.{bit_or}
use Rattle.bounds.specs.Bounds.{max_atoms}
use Rattle.el.specs.Test.{all_below, bit}
use Rattle.el.specs.TestLaws.{all_below_same}
use Rattle.el.specs.Table.{Entry, constant, Line, Table, row_at, atoms, line_declared, role_order}
use Rattle.el.specs.TableLaws.{line_declared_lem}
use Rattle.el.specs.Meaning.{holds}
use Rattle.el.specs.Assignment.{Assignment, induced}
use Rattle.table.specs.Reading.{reading, is_readable, table_of, header_of}
use Rattle.table.specs.Layout.{line_at, IsRowFiller, IsEntryCode, AtLine, Layout}
use Rattle.table.specs.LayoutLaws.{layout}
use Rattle.order.specs.Rule.{entry_set, union_to, left_set, set_test, filler_test, left_test, line_test}
use Rattle.order.specs.RuleLaws.{left_union, line_rule}
use Rattle.order.specs.declared.Rows.{Rows}
use Rattle.order.specs.Given.{entry_from, EntryFits, Asking, LineGiven}
use Rattle.order.specs.Asked.{missing, each_ask, filler_asked}
use Rattle.order.proofs.CodeLaws.{fits_fills, filler_more, entry_more, entry_read}
use Rattle.order.proofs.AskedLaws.{filler_asked_lem, each_asked_lem}

pub few_atoms : (s : List ℕ) (c e : ℕ) → T (is_readable (reading s)) → c ≡ (header_of s).c → e ≡ (header_of s).e → c + e ≤ max_atoms
few_atoms s c e ok p q = let h : (header_of s).c + (header_of s).e ≤ max_atoms = (layout s ok).few_atoms in omega arith

pub asking : (s : List ℕ) → T (is_readable (reading s)) → (p : Rows) (a : Assignment) (at : ℕ) → LineGiven s p a at → Asking p a
asking s ok p a at g =
    record {
      few_atoms = few_atoms s p.c p.e ok g.rows.constants g.rows.restrictions;
      few_rows = (let h = g.rows.restrictions in let l = (layout s ok).few_restrictions in omega arith);
      over_many = g.rows.over_many;
      inner_many = g.rows.inner_many;
      sets = g.sets;
      fits = λ k h. fits_fills (get_or p.inner k 0)
          (filler_more (header_of s).c (header_of s).v (layout s ok).few_constants (layout s ok).few_variables (get_or p.inner k 0) (row_at (table_of s).rows k).filler
          (unfold IsRowFiller in g.rows.inner_is k (subst (λ (n : ℕ). k < n) g.rows.restrictions h)));
    }

-- the entries of the line that begins at the byte `at`, one of which the code b writes
module _ (s : List ℕ) (ok : T (is_readable (reading s))) where
  pub entry_fits : (c : ℕ) → c ≡ (header_of s).c → (b : ℕ) (x : Entry) → IsEntryCode s x b → EntryFits c b
  unfolding IsEntryCode
  entry_fits c same b x q = rw same (entry_more (header_of s).c (header_of s).e (header_of s).v (layout s ok).few_atoms (layout s ok).few_variables b x q)

  entry_is : (b : ℕ) (x : Entry) → IsEntryCode s x b → entry_from b ≡ x
  unfolding IsEntryCode
  entry_is b x q = entry_read (header_of s).c (header_of s).e (header_of s).v b x q

  -- the union of the first i left entries' sets
  module _ (a : Assignment) (l : List Entry) where
    pub left_step : (i b L S : ℕ) → IsEntryCode s (get_or l i (constant 0)) b → L ≡ union_to (table_of s) a l i → S ≡ entry_set (table_of s) a (entry_from b) → bit_or L S ≡ union_to (table_of s) a l (i + 1)
    unfolding union_to
    left_step i b L S q e f = ap₂ bit_or e (f ∙ ap (entry_set (table_of s) a) (entry_is b (get_or l i (constant 0)) q)) ∙ ap (union_to (table_of s) a l) (next i)
      where
        next : (k : ℕ) → suc k ≡ k + 1
        next k = omega arith

pub left_start : (t : Table) (a : Assignment) (l : List Entry) → 0 ≡ union_to t a l 0
unfolding union_to
left_start t a l = refl

pub left_whole : (t : Table) (a : Assignment) (l : List Entry) (p i L : ℕ) → p ≡ length l → p ≤ i → i ≤ p → L ≡ union_to t a l i → L ≡ left_set t a l
unfolding left_set
left_whole t a l p i L many h k e = e ∙ ap (union_to t a l) (let q : i ≡ p = omega arith in q ∙ many)

pub line_asked : (s : List ℕ) (ok : T (is_readable (reading s))) (p : Rows) (a : Assignment) (at : ℕ) → LineGiven s p a at → (L R b : ℕ)
    → AtLine s at (λ l. L ≡ left_set (table_of s) a l.left) → AtLine s at (λ l. IsEntryCode s l.right b) → ((t : Table) → p.c ≡ t.constants → R ≡ entry_set t a (entry_from b))
    → AtLine s at (λ l. each_ask p a (filler_asked p a p.v) L (missing L R) ≡ holds (role_order (table_of s)) (table_of s).rows (induced (table_of s) a) l)
line_asked s ok p a at g L R b union writes set n few begins =
    each_asked_lem s ok p g.rows a p.v (filler_asked_lem s ok p g.rows a p.v) L R
    ∙ all_below_same (atoms (table_of s)) (λ j. not (bit j R) || set_test (role_order (table_of s)) (table_of s) (filler_test (role_order (table_of s)) (table_of s) a p.v) L j) (λ j. not (bit j R) || left_test (role_order (table_of s)) (table_of s) a line.left j) (λ j h. ap (λ b. not (bit j R) || b) (sym (left j)))
    ∙ ap (λ (S : ℕ). all_below (atoms (table_of s)) (λ j. not (bit j S) || left_test (role_order (table_of s)) (table_of s) a line.left j)) right
    ∙ opened line
    ∙ line_rule (role_order (table_of s)) (table_of s) l.all_declared a g.acyclic line here
  where
    l : Layout s (table_of s)
    l = layout s ok

    line : Line
    line = line_at (table_of s).lines n

    here : T (line_declared (table_of s) (line_at (table_of s).lines n))
    here = unfold line_at in line_declared_lem (table_of s) l.all_declared n _ (subst (λ (k : ℕ). n < k) (sym l.lines) few)

    opened : (x : Line) → all_below (atoms (table_of s)) (λ j. not (bit j (entry_set (table_of s) a x.right)) || left_test (role_order (table_of s)) (table_of s) a x.left j) ≡ line_test (role_order (table_of s)) (table_of s) a x
    opened x = unfold line_test in refl

    left : (j : ℕ) → left_test (role_order (table_of s)) (table_of s) a (line_at (table_of s).lines n).left j ≡ set_test (role_order (table_of s)) (table_of s) (filler_test (role_order (table_of s)) (table_of s) a p.v) L j
    left j =
        left_union (role_order (table_of s)) (table_of s) a (line_at (table_of s).lines n).left j
        ∙ ap₂ (λ (k S : ℕ). set_test (role_order (table_of s)) (table_of s) (filler_test (role_order (table_of s)) (table_of s) a k) S j) (l.variables ∙ sym g.rows.variables) (sym (union n few begins))

    right : R ≡ entry_set (table_of s) a (line_at (table_of s).lines n).right
    right = set (table_of s) (g.rows.constants ∙ sym l.constants) ∙ ap (entry_set (table_of s) a) (entry_is s ok b (line_at (table_of s).lines n).right (writes n few begins))
