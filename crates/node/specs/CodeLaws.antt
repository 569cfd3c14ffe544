-- What the codes of a readable table say of variables.
--
--   named_none, named_other, named_one == the mask of the variable that a code names, by its kind
--   filler_says, filler_names == so of the code of a filler: it is the filler's variable, and has a bit
--   entry_says, entry_row == the variables of an entry: those that its code names, or of the restriction that it names
--   entry_fits         == they have bits, and the restriction has a place
use Rattle.std.specs.Prelude.{◌≡◌, refl, false, List, [], ◌∷◌, ℕ, ◌*◌, ◌%◌, ◌^◌, ◌≤◌, ◌<◌, eqb, length}
use Rattle.std.proofs.Math.Path.{sym, ap}
use Rattle.std.proofs.Common.{◌∙◌}
use Rattle.std.proofs.Math.Bool.{or-false}
use Rattle.std.proofs.Math.Option.{some}
use native.Mathlib.Omega.{arith}
use Rattle.el.specs.Test.{any_of}
use Rattle.el.specs.TestLaws.{bit_none}
use Rattle.el.specs.Table.{Filler, top_f, constant_f, variable_f, Entry, restriction, variable, Row, row_at}
use Rattle.el.specs.Assignment.{is_variable}
use Rattle.el.specs.Walk.{filler_variables, entry_variables}
use Rattle.bounds.specs.Bounds.{mask_bits, masks}
use Rattle.table.specs.declared.Kind.{Kind}
use Rattle.table.specs.declared.Kind.TheVariants.{Top, Constant, Restriction, Variable, Other}
use Rattle.table.specs.Code.{kind_of, filler_of_kind, filler_of, entry_of_kind, entry_of, WritesFiller, fills_top, fills_constant, fills_variable, WritesEntry, enters_constant, enters_restriction, enters_variable}
use Rattle.table.specs.CodeLaws.{within_some, filler_writes, entry_writes}
use Rattle.node.specs.Mask.{Masks, is_among, is_named, Names, MaskFits, FillMask}
use Rattle.node.specs.MaskLaws.{mask_one}

module _ (b : ℕ) where
  pub named_none : (k : Kind) → kind_of b ≡ k → ((y : ℕ) → is_named k y ≡ false) → Masks (is_named (kind_of b)) 0
  named_none k e f y = bit_none y ∙ sym (ap (λ (z : Kind). is_named z y) e ∙ f y)

  pub named_other : ((k : ℕ) → kind_of b ≡ Variable k → ⊥) → Masks (is_named (kind_of b)) 0
  named_other f = go (kind_of b) refl
    where
      go : (k : Kind) → kind_of b ≡ k → Masks (is_named (kind_of b)) 0
      go Top e = named_none Top e (λ y. refl)
      go (Constant k) e = named_none (Constant k) e (λ y. refl)
      go (Restriction k) e = named_none (Restriction k) e (λ y. refl)
      go (Variable k) e = absurd (f k e)
      go Other e = named_none Other e (λ y. refl)

  pub named_one : (k w : ℕ) → kind_of b ≡ Variable k → w ≡ k → w < mask_bits → Masks (is_named (kind_of b)) (1 * 2 ^ w % masks)
  named_one k w e q h y = mask_one mask_bits w h y ∙ ap (λ (i : ℕ). eqb i y) q ∙ ap (λ (z : Kind). is_named z y) (sym e)

module _ (c v b : ℕ) (f : Filler) (is : filler_of c v b ≡ some f) where
  pub filler_says : (y : ℕ) → is_named (kind_of b) y ≡ is_variable y f
  filler_says y = go (filler_writes c v b f is)
    where
      go : {g : Filler} → WritesFiller c v b g → is_named (kind_of b) y ≡ is_variable y g
      go (fills_top i) = ap (λ (z : Kind). is_named z y) i
      go (fills_constant k i h) = ap (λ (z : Kind). is_named z y) i
      go (fills_variable k i h) = ap (λ (z : Kind). is_named z y) i

  pub filler_names : v ≤ mask_bits → Names b
  unfolding filler_of filler_of_kind Names
  filler_names h k e = let l : k < v = (within_some k v (variable_f k) f (ap (filler_of_kind c v) (sym e) ∙ is)).0 in omega arith

-- what stands alone in a list
alone : (x y : ℕ) → is_among (x ∷ []) y ≡ eqb x y
unfolding is_among any_of
alone x y = or-false (eqb x y)

among_filler : (f : Filler) (y : ℕ) → is_variable y f ≡ is_among (filler_variables f) y
unfolding is_among any_of
among_filler top_f y = refl
among_filler (constant_f k) y = refl
among_filler (variable_f x) y = sym (alone x y)

module _ (c e v b : ℕ) (x : Entry) (is : entry_of c e v b ≡ some x) where
  entry_kind : (k : Kind) → kind_of b ≡ k → entry_of_kind c e v k ≡ some x
  unfolding entry_of
  entry_kind k q = ap (entry_of_kind c e v) (sym q) ∙ is

  pub entry_fits : (fill : List ℕ) → v ≤ mask_bits → e ≤ length fill → MaskFits fill b
  unfolding entry_of_kind Names
  entry_fits fill h l = record {
    names = λ k q. let i : k < v = (within_some k v (variable k) x (entry_kind (Variable k) q)).0 in omega arith;
    row = λ k q. let i : k < e = (within_some k e (restriction k) x (entry_kind (Restriction k) q)).0 in omega arith;
  }

  module _ (rows : List Row) where
    pub entry_row : (k w m : ℕ) → kind_of b ≡ Restriction k → w ≡ k → (w < e → FillMask rows w m) → Masks (is_among (entry_variables rows x)) m
    unfolding entry_of_kind
    entry_row k w m q at f y =
        let r = within_some k e (restriction k) x (entry_kind (Restriction k) q) in let l : k < e = r.0 in
        f (omega arith) y ∙ ap (λ (i : ℕ). is_variable y (row_at rows i).filler) at ∙ among_filler (row_at rows k).filler y ∙ ap (λ (z : Entry). is_among (entry_variables rows z) y) r.1

    pub entry_says : ((k : ℕ) → kind_of b ≡ Restriction k → ⊥) → (y : ℕ) → is_named (kind_of b) y ≡ is_among (entry_variables rows x) y
    unfolding is_among any_of
    entry_says other y = go (entry_writes c e v b x is)
      where
        go : {z : Entry} → WritesEntry c e v b z → is_named (kind_of b) y ≡ is_among (entry_variables rows z) y
        go (enters_constant k i h) = ap (λ (z : Kind). is_named z y) i
        go (enters_restriction k i h) = absurd (other k i)
        go (enters_variable k i h) = ap (λ (z : Kind). is_named z y) i ∙ sym (alone k y)
