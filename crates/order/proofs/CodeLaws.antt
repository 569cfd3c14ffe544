-- What the codes of fillers and entries say to the line test, with plain arguments.
--
--   filler_read, entry_read             == what a declared code says
--   fits_fills, fills_fits              == what is declared within the bounds, and the test of it
--   filler_more, entry_more             == what is declared where there are fewer is declared where there are more
--   filler_.., entry_.., .._fits        == the number that a code holds is in range
--   set_.., entry_..                    == the set of a filler's, an entry's code, by its kind
--   constant_kind, flat_kind            == the flat test, by the kinds of the codes
use mathlib.Core.Path.{◌≡◌, refl, sym, ap, ap₂, ◌∙◌}
use mathlib.Core.Option.{Option, none, some}
use mathlib.Core.Bool.{true, false}
use Prim.Native.Nat.{ℕ, ◌+◌, ◌*◌, ◌%◌, ◌^◌, ◌≤◌, ◌<◌}
use native.Mathlib.Omega.{arith}
use lib.Dec.{T, lt→ltb}
use lib.ListN.{length, get_or}
use Rattle.bounds.specs.Bounds.{max_constants, max_atoms, max_variables, set_bits, set_numbers}
use Rattle.el.specs.Table.{Filler, top_f, constant_f, variable_f, Entry, constant, restriction, variable, Table}
use Rattle.el.specs.Assignment.{Assignment, set_of}
use Rattle.table.specs.declared.Kind.{Kind}
use Rattle.table.specs.declared.Kind.TheVariants.{Constant, Restriction, Variable}
use Rattle.table.specs.Code.{kind_of, filler_of, filler_of_kind, entry_of, entry_of_kind, WritesFiller, fills_top, fills_constant, fills_variable, WritesEntry, enters_constant, enters_restriction, enters_variable}
use Rattle.table.specs.CodeLaws.{within_some, within_is, filler_writes, entry_writes}
use Rattle.bounds.specs.WidthLaws.{power_fits}
use Rattle.order.specs.Rule.{filler_set, entry_set, is_constant, flat_test}
use Rattle.order.specs.Given.{filler_from_kind, filler_from, entry_from_kind, entry_from, FillerFits, fills, EntryFits, SetsGiven}

----------------------------------------------------------------------------------------------------
-- What a code says, and that it is declared

pub filler_read : (c v b : ℕ) (f : Filler) → filler_of c v b ≡ some f → filler_from b ≡ f
unfolding filler_from
filler_read c v b f q = go (filler_writes c v b f q)
  where
    go : {f : Filler} → WritesFiller c v b f → filler_from_kind (kind_of b) ≡ f
    go (fills_top i) = ap filler_from_kind i
    go (fills_constant k i l) = ap filler_from_kind i
    go (fills_variable k i l) = ap filler_from_kind i

pub entry_read : (c e v b : ℕ) (x : Entry) → entry_of c e v b ≡ some x → entry_from b ≡ x
unfolding entry_from
entry_read c e v b x q = go (entry_writes c e v b x q)
  where
    go : {x : Entry} → WritesEntry c e v b x → entry_from_kind (kind_of b) ≡ x
    go (enters_constant k i l) = ap entry_from_kind i
    go (enters_restriction k i l) = ap entry_from_kind i
    go (enters_variable k i l) = ap entry_from_kind i

pub filler_more : (c v : ℕ) → c ≤ max_constants → v ≤ max_variables → (b : ℕ) (f : Filler) → filler_of c v b ≡ some f → FillerFits b
unfolding FillerFits filler_of filler_of_kind
filler_more c v h m b f q = go (filler_writes c v b f q) ∙ ap some (sym (filler_read c v b f q))
  where
    go : {f : Filler} → WritesFiller c v b f → filler_of max_constants max_variables b ≡ some f
    go (fills_top i) = ap (filler_of_kind max_constants max_variables) i
    go (fills_constant k i l) = ap (filler_of_kind max_constants max_variables) i ∙ within_is k max_constants (constant_f k) (lt→ltb k max_constants (omega arith))
    go (fills_variable k i l) = ap (filler_of_kind max_constants max_variables) i ∙ within_is k max_variables (variable_f k) (lt→ltb k max_variables (omega arith))

-- the test of a filler
pub fits_fills : (b : ℕ) → FillerFits b → T (fills b)
unfolding FillerFits fills
fits_fills b q = rw (q, T) tt

pub fills_fits : (b : ℕ) → T (fills b) → FillerFits b
unfolding FillerFits fills
fills_fits b u = go (filler_of max_constants max_variables b) refl u
  where
    go : (o : Option Filler) → filler_of max_constants max_variables b ≡ o → T (elim o [ none ↦ false | some f ↦ true ]) → filler_of max_constants max_variables b ≡ some (filler_from b)
    go none e v = absurd v
    go (some f) e v = e ∙ ap some (sym (filler_read max_constants max_variables b f e))

pub entry_more : (c e v : ℕ) → c + e ≤ max_atoms → v ≤ max_variables → (b : ℕ) (x : Entry) → entry_of c e v b ≡ some x → EntryFits c b
unfolding EntryFits entry_of entry_of_kind
entry_more c e v h m b x q = (e, h, go (entry_writes c e v b x q) ∙ ap some (sym (entry_read c e v b x q)))
  where
    go : {x : Entry} → WritesEntry c e v b x → entry_of c e max_variables b ≡ some x
    go (enters_constant k i l) = ap (entry_of_kind c e max_variables) i ∙ within_is k c (constant k) (lt→ltb k c l)
    go (enters_restriction k i l) = ap (entry_of_kind c e max_variables) i ∙ within_is k e (restriction k) (lt→ltb k e l)
    go (enters_variable k i l) = ap (entry_of_kind c e max_variables) i ∙ within_is k max_variables (variable k) (lt→ltb k max_variables (omega arith))

-- the number w that a code's kind holds fits a shift, or is a place among the sets
module _ (b k w : ℕ) (same : w ≡ k) where
  pub filler_constant_fits : FillerFits b → kind_of b ≡ Constant k → w < set_bits
  unfolding FillerFits filler_of filler_of_kind filler_from
  filler_constant_fits q e = let h : k < max_constants = (within_some k max_constants (constant_f k) (filler_from_kind (kind_of b)) (ap (filler_of_kind max_constants max_variables) (sym e) ∙ q)).0 in omega arith

  pub filler_variable_fits : (a : Assignment) → SetsGiven a → FillerFits b → kind_of b ≡ Variable k → w < length a
  unfolding FillerFits filler_of filler_of_kind filler_from
  filler_variable_fits a g q e = let l : length a ≡ max_variables = g.many in let h : k < max_variables = (within_some k max_variables (variable_f k) (filler_from_kind (kind_of b)) (ap (filler_of_kind max_constants max_variables) (sym e) ∙ q)).0 in omega arith

  module _ (c : ℕ) (q : EntryFits c b) where
    pub entry_constant_fits : kind_of b ≡ Constant k → w < set_bits
    unfolding EntryFits entry_of entry_of_kind entry_from
    entry_constant_fits p = let l : c + q.0 ≤ max_atoms = q.1 in let h : k < c = (within_some k c (constant k) (entry_from_kind (kind_of b)) (ap (entry_of_kind c q.0 max_variables) (sym p) ∙ q.2)).0 in omega arith

    pub entry_restriction_fits : kind_of b ≡ Restriction k → c + w < set_bits
    unfolding EntryFits entry_of entry_of_kind entry_from
    entry_restriction_fits p = let l : c + q.0 ≤ max_atoms = q.1 in let h : k < q.0 = (within_some k q.0 (restriction k) (entry_from_kind (kind_of b)) (ap (entry_of_kind c q.0 max_variables) (sym p) ∙ q.2)).0 in omega arith

    pub entry_variable_fits : (a : Assignment) → SetsGiven a → kind_of b ≡ Variable k → w < length a
    unfolding EntryFits entry_of entry_of_kind entry_from
    entry_variable_fits a g p = let l : length a ≡ max_variables = g.many in let h : k < max_variables = (within_some k max_variables (variable k) (entry_from_kind (kind_of b)) (ap (entry_of_kind c q.0 max_variables) (sym p) ∙ q.2)).0 in omega arith

----------------------------------------------------------------------------------------------------
-- The sets and tests of codes, by their kinds

-- the set of a filler's code, by its kind
module _ (a : Assignment) (b : ℕ) where
  pub set_none : (k : Kind) → kind_of b ≡ k → filler_from_kind k ≡ top_f → 0 ≡ filler_set a (filler_from b)
  unfolding filler_from filler_set
  set_none k e q = ap (filler_set a) (sym q ∙ ap filler_from_kind (sym e))

  pub set_one : (k w : ℕ) → w ≡ k → w < set_bits → kind_of b ≡ Constant k → 1 * 2 ^ w % set_numbers ≡ filler_set a (filler_from b)
  unfolding filler_from filler_set
  set_one k w q h e = power_fits w h ∙ ap (λ (n : ℕ). 2 ^ n) q ∙ ap (λ x. filler_set a (filler_from_kind x)) (sym e)

  pub set_given : (k w : ℕ) → w ≡ k → kind_of b ≡ Variable k → get_or a w 0 ≡ filler_set a (filler_from b)
  unfolding filler_from filler_set set_of
  set_given k w q e = ap (λ (n : ℕ). get_or a n 0) q ∙ ap (λ x. filler_set a (filler_from_kind x)) (sym e)

-- the set of an entry's code, by its kind
module _ (t : Table) (a : Assignment) (b : ℕ) where
  pub entry_none : (k : Kind) → kind_of b ≡ k → entry_from_kind k ≡ constant 0 → 1 ≡ entry_set t a (entry_from b)
  unfolding entry_from entry_set
  entry_none k e q = ap (entry_set t a) (sym q ∙ ap entry_from_kind (sym e))

  pub entry_one : (k w : ℕ) → w ≡ k → w < set_bits → kind_of b ≡ Constant k → 1 * 2 ^ w % set_numbers ≡ entry_set t a (entry_from b)
  unfolding entry_from entry_set
  entry_one k w q h e = power_fits w h ∙ ap (λ (n : ℕ). 2 ^ n) q ∙ ap (λ x. entry_set t a (entry_from_kind x)) (sym e)

  pub entry_row : (c k w : ℕ) → c ≡ t.constants → w ≡ k → c + w < set_bits → kind_of b ≡ Restriction k → 1 * 2 ^ (c + w) % set_numbers ≡ entry_set t a (entry_from b)
  unfolding entry_from entry_set
  entry_row c k w r q h e = power_fits (c + w) h ∙ ap₂ (λ (m n : ℕ). 2 ^ (m + n)) r q ∙ ap (λ x. entry_set t a (entry_from_kind x)) (sym e)

  pub entry_given : (k w : ℕ) → w ≡ k → kind_of b ≡ Variable k → get_or a w 0 ≡ entry_set t a (entry_from b)
  unfolding entry_from entry_set set_of
  entry_given k w q e = ap (λ (n : ℕ). get_or a n 0) q ∙ ap (λ x. entry_set t a (entry_from_kind x)) (sym e)

-- the flat test by the kinds of the codes
pub constant_kind : (b k : ℕ) (x : Kind) → kind_of b ≡ x → is_constant k (filler_from_kind x) ≡ is_constant k (filler_from b)
unfolding filler_from
constant_kind b k x e = ap (λ y. is_constant k (filler_from_kind y)) (sym e)

pub flat_kind : (f g : ℕ) (x : Kind) → kind_of g ≡ x → flat_test (filler_from f) (filler_from_kind x) ≡ flat_test (filler_from f) (filler_from g)
unfolding filler_from
flat_kind f g x e = ap (λ y. flat_test (filler_from_kind (kind_of f)) (filler_from_kind y)) (sym e)
