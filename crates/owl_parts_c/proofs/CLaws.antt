-- A name by its first byte.
--
--   full_by, short_by == it is a full one, or a short one
use Rattle.std.specs.Prelude.{◌≡◌, Bool, true, false, ◌&&◌, List, [], ◌∷◌, ℕ, eqb, get_or}
use Rattle.std.proofs.Common.{refl, sym, ap, ◌∙◌, arith}
use Rattle.std.specs.List.{starts_with}
use Rattle.owl.specs.Tree.{short, full}
use Rattle.owl.specs.Mention.{name_by}
use Rattle.owl_parts_c.specs.C.{kind_by}

first_is : (w : List ℕ) → starts_with eqb w (60 ∷ []) ≡ eqb (get_or w 0 0) 60
first_is [] = refl
first_is (b ∷ w) = both (eqb 60 b) ∙ turned 60 b
  where
    both : (x : Bool) → (x && true) ≡ x
    both true = refl
    both false = refl

    turned : (a b : ℕ) → eqb a b ≡ eqb b a
    turned a b = grind arith

pub full_by : (w : List ℕ) → starts_with eqb w (60 ∷ []) ≡ true → full w ≡ name_by (kind_by w) w
unfolding kind_by name_by
full_by w e = sym (ap (λ (b : Bool). name_by (elim b [ true ↦ 14 | false ↦ 13 ]) w) (sym (first_is w) ∙ e))

pub short_by : (w : List ℕ) → starts_with eqb w (60 ∷ []) ≡ false → short w ≡ name_by (kind_by w) w
unfolding kind_by name_by
short_by w e = sym (ap (λ (b : Bool). name_by (elim b [ true ↦ 14 | false ↦ 13 ]) w) (sym (first_is w) ∙ e))
