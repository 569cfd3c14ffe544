-- The entry of a conjunct.
--
--   none_there, entry_none, told, within, entry_row, entry_open, entry_constant == by what the conjunct is
use Rattle.std.specs.Prelude.{◌≡◌, Bool, true, false, List, ℕ, ◌≤◌, length, Some}
use Rattle.std.proofs.Common.{refl, sym, ap, subst, ◌∙◌, arith}
use Rattle.el.specs.Table.{constant, restriction, variable}
use Rattle.owl.specs.Tree.{Name}
use Rattle.owl.specs.Naming.{is_open, is_thing, constant_number, open_number}
use Rattle.owl.specs.Mention.{name_at, names_in}
use Rattle.owl.specs.Conjunct.{name_entry}
use Rattle.owl_name.specs.Declarations.{class_number}
use Rattle.owl_row.specs.Rows.{IsNumber}
use Rattle.owl_class.specs.declared.spread.Conjunct as code
use Rattle.owl_class.specs.Conjuncts.{conjuncts_at, conjunct_at, found_kind, found_byte, NameAt, RoleAt, ConjunctIs, entry_of, entry_by, EntryIs}

pub told : (s : List ℕ) (from i : ℕ) (x y : code.Conjunct) → x ≡ y → ConjunctIs s from i (found_kind (Some x)) (found_byte (Some x)) → ConjunctIs s from i (found_kind (Some y)) (found_byte (Some y))
told s from i x y e c = subst (λ (z : code.Conjunct). ConjunctIs s from i (found_kind (Some z)) (found_byte (Some z))) e c

module _ (s : List ℕ) (from i at : ℕ) where
  pub none_there : ConjunctIs s from i 0 at → (n : ℕ) → length (conjuncts_at s from n) ≤ i
  unfolding ConjunctIs
  none_there c n = c.2 refl n

  pub entry_none : ConjunctIs s from i 0 at → EntryIs s from i 0 0
  unfolding EntryIs
  entry_none c n r l = absurd (let z : length (conjuncts_at s from n) ≤ i = none_there c n in let y : ⊥ = omega arith in y)

  pub entry_row : (number : ℕ) → ConjunctIs s from i 2 at → IsNumber s at number → EntryIs s from i 3 number
  unfolding ConjunctIs RoleAt EntryIs entry_by IsNumber
  entry_row number c f n r l = let there = c.1 refl n r in ap restriction (f there.0 there.1 there.2 there.3) ∙ sym (ap (entry_of s) there.4)

  pub within : (kind : ℕ) → ConjunctIs s from i kind at → at ≤ length s
  unfolding ConjunctIs
  within kind c = c.3

  -- a conjunct that is a name
  module _ (c : ConjunctIs s from i 1 at) (m : Name) (t : m ≡ name_at s at) where
    named : NameAt s from i at
    unfolding ConjunctIs
    named = c.0 refl

    pub name_plain : is_thing m ≡ false
    unfolding NameAt
    name_plain = ap is_thing t ∙ named.0

    is_entry : (n : ℕ) → name_entry (names_in s) m ≡ entry_of s (conjunct_at s from n i)
    unfolding NameAt
    is_entry n = ap (name_entry (names_in s)) t ∙ sym (ap (entry_of s) (named.1 n))

    pub entry_open : (number : ℕ) → is_open m ≡ true → number ≡ class_number (names_in s) m → EntryIs s from i 2 number
    unfolding EntryIs entry_by name_entry class_number
    entry_open number o f n r l =
        ap variable (f ∙ ap (λ (b : Bool). elim b [ true ↦ open_number (names_in s) m | false ↦ constant_number (names_in s) m ]) o)
        ∙ sym (ap (λ (b : Bool). elim b [ true ↦ variable (open_number (names_in s) m) | false ↦ constant (constant_number (names_in s) m) ]) o)
        ∙ is_entry n

    pub entry_constant : (number : ℕ) → is_open m ≡ false → number ≡ class_number (names_in s) m → EntryIs s from i 1 number
    unfolding EntryIs entry_by name_entry class_number
    entry_constant number o f n r l =
        ap constant (f ∙ ap (λ (b : Bool). elim b [ true ↦ open_number (names_in s) m | false ↦ constant_number (names_in s) m ]) o)
        ∙ sym (ap (λ (b : Bool). elim b [ true ↦ variable (open_number (names_in s) m) | false ↦ constant (constant_number (names_in s) m) ]) o)
        ∙ is_entry n
