-- `table::has_mark` meets its contract: byte by byte, which `starts_with` compares the other way round.
use Rattle.std.specs.Prelude.{◌≡◌, Bool, true, false, ◌&&◌, List, [], ◌∷◌, ℕ, eqb}
use Rattle.std.proofs.Common.{refl, ap₂, ◌∙◌, arith}
use Rattle.std.specs.List.{starts_with}
use Rattle.table.specs.Reading.{marked}
use Rattle.table.proofs.has_mark.Goals as goal

eqb_sym : (a b : ℕ) → eqb a b ≡ eqb b a
eqb_sym a b = grind arith

and_true : (a : Bool) → (a && true) ≡ a
and_true true = refl
and_true false = refl

begins_is : (s : List ℕ) → starts_with eqb s (0x56 ∷ 0x4F ∷ 0x43 ∷ []) ≡ marked s
unfolding marked
begins_is [] = refl
begins_is (x ∷ []) = ap₂ ◌&&◌ (eqb_sym 0x56 x) refl
begins_is (x ∷ y ∷ []) = ap₂ ◌&&◌ (eqb_sym 0x56 x) (ap₂ ◌&&◌ (eqb_sym 0x4F y) refl)
begins_is (x ∷ y ∷ z ∷ s) = ap₂ ◌&&◌ (eqb_sym 0x56 x) (ap₂ ◌&&◌ (eqb_sym 0x4F y) (and_true (eqb 0x43 z) ∙ eqb_sym 0x43 z))

pub returns : goal.returns
returns c = c.starts_with.ensures.value ∙ begins_is c.args.table.now
