-- Laws of the lines of two sides.
--
--   PuttingLines, lines_start, lines_turn, lines_end == their bytes, line by line
--   few_first    == the first of some few lines are few
--   group_over, group_none, group_long, group_many, group_put == the lines of two sides besides those that were passed
use mathlib.Core.Path.{◌≡◌, refl, sym, ap, ap₂, subst, ◌∙◌}
use mathlib.Core.Bool.{Bool, ◌&&◌}
use mathlib.Core.List.{List, [], ◌∷◌, ◌++◌, append-nil, flat_map}
use Prim.Native.Nat.{ℕ, zero, suc, ◌+◌, ◌≤◌, ◌<◌}
use native.Mathlib.Omega.{arith}
use lib.Dec.{T, leb, leb→le}
use lib.ListN.{length, get_or, take, length-append}
use lib.Seq.{take_all}
use borrow.Author.Tests.{le-leb}
use Rattle.std.specs.Prelude.{Some, None}
use Rattle.el.specs.Test.{every_of}
use Rattle.el.specs.TestLaws.{and_make, and_left, and_right, true_is, every_of_at, every_of_append}
use Rattle.el.specs.Table.{Entry, Line}
use Rattle.bounds.specs.Bounds.{max_lines, max_left}
use Rattle.table.specs.Bytes.{entry_code, written_entry, written_line}
use Rattle.text.specs.Append.{Appended}
use Rattle.text.specs.AppendLaws.{appended_none, appended_then, appended_as}
use Rattle.owl.specs.Flattening.{lines_of}
use Rattle.owl_line.specs.declared.parts.Side.{Side}
use Rattle.owl_line.specs.declared.parts.Passed.{Passed}
use Rattle.owl_line.specs.Sides.{SideHas, none, small, small_line, CountIs, CodeIs, PutEntries, PutLines, Few, Done, Grouped}
use Rattle.owl_line.proofs.SideLaws.{flat_more, flat_turn}

abbrev line_of : List Entry → Entry → Line
line_of ls e = record { left = ls; right = e }

lines_length : (ls rs : List Entry) → length (lines_of ls rs) ≡ length rs
lines_length ls [] = refl
lines_length ls (e ∷ rs) = ap suc (lines_length ls rs)

lines_at : (ls rs : List Entry) (j : ℕ) → j < length rs → get_or (lines_of ls rs) j (line_of ls none) ≡ line_of ls (get_or rs j none)
lines_at ls [] j h = absurd (let z : ⊥ = omega arith in z)
lines_at ls (e ∷ rs) zero h = refl
lines_at ls (e ∷ rs) (suc j) h = lines_at ls rs j (omega arith)

-- the bytes of the first j lines are written
unfoldable pub PuttingLines : List ℕ → ℕ → Side → Side → ℕ → ℕ → List ℕ → ℕ → List ℕ → ℕ → ℕ → Type 0
PuttingLines s opens left right p q b from a end j =
    (ls rs : List Entry) → SideHas s opens left ls → SideHas s opens right rs → p ≡ length ls → q ≡ length rs → T (every_of small_line (lines_of ls rs)) →
    Appended b from (flat_map written_line (take j (lines_of ls rs))) a end

module _ (s : List ℕ) (opens : ℕ) (left right : Side) (p q : ℕ) (b : List ℕ) (from : ℕ) where
  pub lines_start : PuttingLines s opens left right p q b from b from 0
  unfolding PuttingLines flat_map
  lines_start ls rs h k e d t = appended_none b from

  -- the count, the left entries and the right one
  pub lines_turn : (a : List ℕ) (end j r : ℕ) (a₁ : List ℕ) (end₁ : ℕ) (a₂ : List ℕ) (end₂ : ℕ) (a₃ : List ℕ) (end₃ : ℕ) → PuttingLines s opens left right p q b from a end j → j < q → Appended a end (p ∷ []) a₁ end₁ → PutEntries s opens left p a₁ end₁ a₂ end₂ →
      CodeIs s opens right j r → Appended a₂ end₂ (r ∷ []) a₃ end₃ → PuttingLines s opens left right p q b from a₃ end₃ (j + 1)
  unfolding PuttingLines PutEntries CodeIs written_line written_entry
  lines_turn a end j r a₁ end₁ a₂ end₂ a₃ end₃ c l x y z w ls rs h k e d t =
      let m : j < length rs = omega arith in
      let n : length (lines_of ls rs) ≡ length rs = lines_length ls rs in
      let i : j < length (lines_of ls rs) = omega arith in
      let this : get_or (lines_of ls rs) j (line_of ls none) ≡ line_of ls (get_or rs j none) = lines_at ls rs j m in
      let both : T (every_of small ls && small (get_or rs j none)) = subst (λ (v : Line). T (small_line v)) this (every_of_at small_line (lines_of ls rs) j (line_of ls none) t i) in
      let code : r ≡ entry_code (get_or rs j none) = z rs k m (and_right (every_of small ls) (small (get_or rs j none)) both) in
      appended_as
      (appended_then (c ls rs h k e d t) (appended_then x (appended_then (y ls h e (and_left (every_of small ls) (small (get_or rs j none)) both)) w)))
      (ap₂ (λ (u v : ℕ). flat_map written_line (take j (lines_of ls rs)) ++ (u ∷ (flat_map written_entry ls ++ (v ∷ [])))) e code
      ∙ ap (λ (v : Line). flat_map written_line (take j (lines_of ls rs)) ++ written_line v) (sym this)
      ∙ flat_turn written_line (lines_of ls rs) j (line_of ls none) i)

  pub lines_end : (a : List ℕ) (end j : ℕ) → PuttingLines s opens left right p q b from a end j → q ≤ j → PutLines s opens left right p q b from a end
  unfolding PuttingLines PutLines
  lines_end a end j c l ls rs h k e d t =
      let n : length (lines_of ls rs) ≡ length rs = lines_length ls rs in
      appended_as (c ls rs h k e d t) (ap (flat_map written_line) (take_all j (lines_of ls rs) (let z : length (lines_of ls rs) ≤ j = omega arith in z)))

----------------------------------------------------------------------------------------------------
-- Besides those that were passed

abbrev short : Line → Bool
short l = leb (length l.left) max_left

pub few_first : (l m : List Line) → Few (l ++ m) → Few l
few_first l m x = record {
  few = (let a : length (l ++ m) ≤ max_lines = x.few in let e : length (l ++ m) ≡ length l + length m = length-append l m in omega arith);
  short = and_left (every_of short l) (every_of short m) (subst T (every_of_append short l m) x.short);
}

few_second : (l m : List Line) → Few (l ++ m) → T (every_of short m)
few_second l m x = and_right (every_of short l) (every_of short m) (subst T (every_of_append short l m) x.short)

lines_short : (ls rs : List Entry) → length ls ≤ max_left → T (every_of short (lines_of ls rs))
unfolding every_of
lines_short ls [] h = tt
lines_short ls (e ∷ rs) h = and_make (leb (length ls) max_left) (every_of short (lines_of ls rs)) (true_is (leb (length ls) max_left) (le-leb (length ls) max_left h)) (lines_short ls rs h)

-- a bound was passed before
pub group_over : (s : List ℕ) (opens : ℕ) (left right : Side) (a : List ℕ) → Grouped s opens left right None a None a
unfolding Grouped
group_over s opens left right a b lines ls rs h k c w = c (few_first lines (lines_of ls rs) w)

module _ (s : List ℕ) (opens : ℕ) (left right : Side) (x : Passed) (a : List ℕ) where
  pub group_none : (q : ℕ) → CountIs s right q → q ≡ 0 → Grouped s opens left right (Some x) a (Some x) a
  unfolding Grouped CountIs
  group_none q d z b lines ls rs h k c =
      let e : q ≡ length rs = d opens rs k in
      subst (Done b (Some x) a) (sym (ap (λ (l : List Line). lines ++ l) (go rs (omega arith)) ∙ append-nil lines)) c
    where
      go : (rs : List Entry) → length rs ≡ 0 → lines_of ls rs ≡ []
      go [] x = refl
      go (e ∷ rs) x = absurd (let y : ⊥ = omega arith in y)

  -- a left side that is too long
  pub group_long : (p q : ℕ) → CountIs s left p → CountIs s right q → (q ≡ 0 → ⊥) → max_left < p → Grouped s opens left right (Some x) a None a
  unfolding Grouped CountIs every_of
  group_long p q y z l far b lines ls rs h k d w = go rs (λ v. l (z opens rs k ∙ v)) (few_second lines (lines_of ls rs) w)
    where
      go : (rs : List Entry) → (length rs ≡ 0 → ⊥) → T (every_of short (lines_of ls rs)) → ⊥
      go [] u t = u refl
      go (i ∷ rs) u t = let m : p ≡ length ls = y opens ls h in let v : length ls ≤ max_left = leb→le (length ls) max_left (and_left (leb (length ls) max_left) (every_of short (lines_of ls rs)) t) in omega arith

  -- too many
  pub group_many : (q : ℕ) → CountIs s right q → max_lines < x.lines + q → Grouped s opens left right (Some x) a None a
  unfolding Grouped CountIs
  group_many q y l b lines ls rs h k d w =
      let n : q ≡ length rs = y opens rs k in
      let m : x.lines ≡ length lines = d.1 in
      let i : length (lines_of ls rs) ≡ length rs = lines_length ls rs in
      let j : length (lines ++ lines_of ls rs) ≡ length lines + length (lines_of ls rs) = length-append lines (lines_of ls rs) in
      let f : length (lines ++ lines_of ls rs) ≤ max_lines = w.few in
      omega arith

  pub group_put : (p q : ℕ) (v : Passed) (a' : List ℕ) → CountIs s left p → CountIs s right q → p ≤ max_left → x.lines + q ≤ max_lines → PutLines s opens left right p q a x.end a' v.end → v.lines ≡ x.lines + q →
      Grouped s opens left right (Some x) a (Some v) a'
  unfolding Grouped CountIs PutLines
  group_put p q v a' y z l u put g b lines ls rs h k d =
      let m : p ≡ length ls = y opens ls h in
      let n : q ≡ length rs = z opens rs k in
      let f : x.lines ≡ length lines = d.1 in
      let i : length (lines_of ls rs) ≡ length rs = lines_length ls rs in
      let j : length (lines ++ lines_of ls rs) ≡ length lines + length (lines_of ls rs) = length-append lines (lines_of ls rs) in
      let shorts : T (every_of short lines && every_of short (lines_of ls rs)) = and_make (every_of short lines) (every_of short (lines_of ls rs)) d.0.short (lines_short ls rs (omega arith)) in (
        record { few = omega arith; short = subst T (sym (every_of_append short lines (lines_of ls rs))) shorts },
        omega arith,
        (λ t. let ts : T (every_of small_line lines && every_of small_line (lines_of ls rs)) = subst T (every_of_append small_line lines (lines_of ls rs)) t in
            appended_as
            (appended_then (d.2 (and_left (every_of small_line lines) (every_of small_line (lines_of ls rs)) ts)) (put ls rs h k m n (and_right (every_of small_line lines) (every_of small_line (lines_of ls rs)) ts)))
            (sym (flat_more written_line lines (lines_of ls rs)))),
      )
