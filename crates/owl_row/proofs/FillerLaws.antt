-- The filler of a restriction.
--
--   filler_fresh                                == a filler that is no name has a fresh variable
--   filler_thing, filler_open, filler_constant  == a name is top, an open name or a constant
use mathlib.Core.Path.{◌≡◌, sym, ap, ap₂, subst, ◌∙◌}
use mathlib.Core.Bool.{Bool, true, false}
use mathlib.Core.List.{List}
use Prim.Native.Nat.{ℕ, ◌+◌}
use lib.ListN.{length}
use Rattle.el.specs.Table.{top_f, constant_f, variable_f}
use Rattle.owl.specs.Tree.{Name}
use Rattle.owl.specs.Naming.{is_thing, is_open, Names, constant_number, open_number}
use Rattle.owl.specs.Token.{place_at, kind_at, end_at}
use Rattle.owl.specs.Grammar.{is_name}
use Rattle.owl.specs.Mention.{name_at, names_in}
use Rattle.owl.specs.Restriction.{by_name, by_number, part_at, Standing, standing_at, standing, restrictions_of, owns_of, name_filler, filler_for}
use Rattle.owl_name.specs.Ordered.{before, Rising}
use Rattle.owl_name.specs.Declarations.{class_number}
use Rattle.owl_name.proofs.OrderedLaws.{before_own}
use Rattle.owl_row.specs.Rows.{place_in, fresh_before, filler_by, IsFiller}
use Rattle.owl_row.proofs.StandLaws.{all_rising, fresh_number}

pub filler_fresh : (s : List ℕ) (at p e i : ℕ) → p ≡ place_at s at → e ≡ end_at s at → is_name (kind_at s e) ≡ false → i ≡ fresh_before s p → IsFiller s at 3 i
unfolding IsFiller filler_by part_at fresh_before
filler_fresh s at p e i t f c d v n pre post h =
    let own : is_name (kind_at s (end_at s at)) ≡ false = ap (λ (z : ℕ). is_name (kind_at s z)) (sym f) ∙ c in
    let part : (standing_at s at n).restriction.part ≡ by_number n = ap (λ (b : Bool). elim b [ true ↦ by_name (name_at s (end_at s at)) | false ↦ by_number n ]) own in
    let pres : before place_in (place_at s at) (standing s) ≡ pre =
    ap (before place_in (place_at s at)) h ∙ before_own place_in 0 (length s) pre post (standing_at s at n) (subst (Rising place_in 0 (length s)) h (all_rising s))
    in ap (λ (m : ℕ). variable_f (v + m))
    (d ∙ ap (λ (z : ℕ). owns_of (restrictions_of (before place_in z (standing s)))) t ∙ ap (λ (l : List Standing). owns_of (restrictions_of l)) pres ∙ sym (fresh_number s n pre post (standing_at s at n) h part))
    ∙ ap (filler_for (names_in s) v) (sym part)

module _ (s : List ℕ) (at e : ℕ) (m : Name) (t : e ≡ end_at s at) (c : (is_name (kind_at s e) ≡ true) × (m ≡ name_at s e)) where
  abbrev d : Names
  d = names_in s

  -- a filler that is a name
  named : (v n : ℕ) → name_filler d m ≡ filler_for d v (standing_at s at n).restriction.part
  unfolding part_at
  named v n =
      let own : is_name (kind_at s (end_at s at)) ≡ true = ap (λ (z : ℕ). is_name (kind_at s z)) (sym t) ∙ c.0 in
      ap (name_filler d) (c.1 ∙ ap (name_at s) t) ∙ sym (ap (λ (b : Bool). filler_for d v (elim b [ true ↦ by_name (name_at s (end_at s at)) | false ↦ by_number n ])) own)

  pub filler_thing : is_thing m ≡ true → IsFiller s at 0 0
  unfolding IsFiller filler_by name_filler
  filler_thing x v n pre post h =
      sym (ap (λ (b : Bool). elim b [ true ↦ top_f | false ↦ elim (is_open m) [ true ↦ variable_f (open_number d m) | false ↦ constant_f (constant_number d m) ] ]) x) ∙ named v n

  pub filler_open : (i : ℕ) → is_thing m ≡ false → is_open m ≡ true → i ≡ class_number d m → IsFiller s at 2 i
  unfolding IsFiller filler_by name_filler class_number
  filler_open i x o f v n pre post h =
      ap variable_f (f ∙ ap (λ (b : Bool). elim b [ true ↦ open_number d m | false ↦ constant_number d m ]) o)
      ∙ sym (ap₂ (λ (a b : Bool). elim a [ true ↦ top_f | false ↦ elim b [ true ↦ variable_f (open_number d m) | false ↦ constant_f (constant_number d m) ] ]) x o) ∙ named v n

  pub filler_constant : (i : ℕ) → is_thing m ≡ false → is_open m ≡ false → i ≡ class_number d m → IsFiller s at 1 i
  unfolding IsFiller filler_by name_filler class_number
  filler_constant i x o f v n pre post h =
      ap constant_f (f ∙ ap (λ (b : Bool). elim b [ true ↦ open_number d m | false ↦ constant_number d m ]) o)
      ∙ sym (ap₂ (λ (a b : Bool). elim a [ true ↦ top_f | false ↦ elim b [ true ↦ variable_f (open_number d m) | false ↦ constant_f (constant_number d m) ] ]) x o) ∙ named v n
