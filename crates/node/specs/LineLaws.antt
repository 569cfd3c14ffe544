-- The mask of a line's variables.
--
--   line_fits           == the codes of its entries fit into masks
--   line_next           == where the next line begins
--   left_start, left_more, line_whole == the variables of a line, entry by entry
use Rattle.std.specs.Prelude.{◌≡◌, refl, ◌||◌, ℕ, ◌+◌, ◌≤◌, ◌<◌, T, length, take}
use Rattle.std.proofs.Math.Path.{sym, ap}
use Rattle.std.proofs.Common.{subst, ◌∙◌, arith, add-one, take-suc, take_all}
use mathlib.Core.List.{List, [], ◌∷◌, ◌++◌, append_assoc, append-nil}
use Rattle.std.proofs.Math.Dec.{eqb}
use Rattle.std.proofs.Math.ListN.{get_or}
use Rattle.std.specs.Int.Bits.{bit_or}
use Rattle.el.specs.Test.{any_of}
use Rattle.el.specs.TestLaws.{any_of_append}
use Rattle.el.specs.Table.{Entry, constant, Row, Line}
use Rattle.el.specs.Walk.{entry_variables, entries_variables, line_variables}
use Rattle.bounds.specs.Bounds.{max_restrictions, max_variables}
use Rattle.table.specs.Reading.{reading, is_readable, header_of}
use Rattle.table.specs.Layout.{line_start, IsEntryCode, AtLine}
use Rattle.table.specs.LayoutLaws.{layout, start_next, line_inside, left_many}
use Rattle.node.specs.Mask.{Masks, is_among, MaskFits, left_to}
use Rattle.node.specs.MaskLaws.{masks_none, masks_or}
use Rattle.node.specs.CodeLaws.{entry_fits}

pub line_fits : (s : List ℕ) → T (is_readable (reading s)) → (fill : List ℕ) (b : ℕ) (x : Entry) → length fill ≡ max_restrictions → IsEntryCode s x b → MaskFits fill b
unfolding IsEntryCode
line_fits s ok fill b x room is =
    let v : (header_of s).v ≤ max_variables = (layout s ok).few_variables in let a : (header_of s).e ≤ max_restrictions = (layout s ok).few_restrictions in
    entry_fits (header_of s).c (header_of s).e (header_of s).v b x is fill (omega arith) (omega arith)

pub line_next : (s : List ℕ) → T (is_readable (reading s)) → (n at p : ℕ) → n < (header_of s).m → at ≡ line_start s n → AtLine s at (λ l. p ≡ length l.left)
    → (at + p + 2 ≡ line_start s (n + 1)) × (at + p + 2 ≤ length s)
line_next s ok n at p h e count =
    let q = count n h e ∙ sym (left_many s ok at n h e) in
    (start_next s n at p e q, subst (λ (k : ℕ). at + k + 2 ≤ length s) (sym q) (line_inside s ok n at h e))

----------------------------------------------------------------------------------------------------
-- The variables of a line, entry by entry

module _ (rows : List Row) (l : Line) where
  entries_append : (es fs : List Entry) → entries_variables rows (es ++ fs) ≡ entries_variables rows es ++ entries_variables rows fs
  entries_append [] fs = refl
  entries_append (e ∷ es) fs =
      ap (λ (l : List ℕ). entry_variables rows e ++ l) (entries_append es fs) ∙ sym (append_assoc (entry_variables rows e) (entries_variables rows es) (entries_variables rows fs))

  among_append : (l m : List ℕ) (y : ℕ) → is_among (l ++ m) y ≡ is_among l y || is_among m y
  unfolding is_among
  among_append l m y = any_of_append (λ x. eqb x y) l m

  pub left_start : Masks (left_to rows l 0) 0
  unfolding left_to is_among any_of
  left_start = masks_none

  module _ (p : ℕ) (count : p ≡ length l.left) (i m a : ℕ) (f : Masks (left_to rows l i) m) where
    pub left_more : i < p → Masks (is_among (entry_variables rows (get_or l.left i (constant 0)))) a → Masks (left_to rows l (i + 1)) (bit_or m a)
    unfolding left_to
    left_more h g y =
        let x = get_or l.left i (constant 0) in
        masks_or (left_to rows l i) (is_among (entry_variables rows x)) m a f g y
        ∙ sym (ap (λ (k : ℕ). is_among (entries_variables rows (take k l.left)) y) (add-one i)
        ∙ ap (λ (es : List Entry). is_among (entries_variables rows es) y) (take-suc l.left i (constant 0) (omega arith))
        ∙ ap (λ (r : List ℕ). is_among r y) (entries_append (take i l.left) (x ∷ []))
        ∙ among_append (entries_variables rows (take i l.left)) (entry_variables rows x ++ []) y
        ∙ ap (λ (r : List ℕ). left_to rows l i y || is_among r y) (append-nil (entry_variables rows x)))

    pub line_whole : i ≤ p → p ≤ i → Masks (is_among (entry_variables rows l.right)) a → Masks (is_among (line_variables rows l)) (bit_or m a)
    unfolding left_to line_variables
    line_whole h k g y =
        masks_or (left_to rows l i) (is_among (entry_variables rows l.right)) m a f g y
        ∙ sym (among_append (entries_variables rows l.left) (entry_variables rows l.right) y
        ∙ ap (λ (es : List Entry). is_among (entries_variables rows es) y || is_among (entry_variables rows l.right) y)
        (sym (take_all i l.left (omega arith))))
