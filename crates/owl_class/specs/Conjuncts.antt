-- One conjunct of a class expression of a text.
--
--   conjuncts_at s from n   == the conjuncts of the class expression that begins with the next token after byte `from`, where n is the number of
--                             the next filler that is no name
--   conjunct_at s from n i  == the one with the number i
--   Reached s at q n       == the restrictions of s from byte `at` on are the last ones of s
--   NameAt s from i at     == conjunct i is the name that is the next token after byte `at`, and not owl:Thing
--   RoleAt s from i at     == conjunct i is the restriction whose role is the next token after byte `at`, and it is one of those of s
--   found_kind o, found_byte o == what may be a conjunct of the code as numbers
--   IsNamed s o             == the next token after the byte of a name is one
--   entry_of s c            == the entry of a conjunct: names have their numbers in the text s, restrictions their places among the different ones
--   entry_by kind number    == an entry as the code tells it: 1 a constant, 2 an open name, 3 a row
--   EntryIs s from i kind number == it is that of conjunct i
--   entry_kind o, entry_index o == what may be an entry of the code as numbers
--   NoneFrom s from i o     == there is an entry, or no conjunct i
--   ConjunctIs s from i kind at == kind 1: a name; 2: a restriction; 0: there is no conjunct i
use Rattle.std.specs.Prelude.{◌≡◌, true, false, List, [], ◌∷◌, ◌++◌, ℕ, ◌≤◌, ◌<◌, eqb, length, get_or, Option, Some, None}
use Rattle.el.specs.Table.{Entry, constant, restriction, variable}
use Rattle.owl.specs.Once.{place, once}
use Rattle.owl.specs.Naming.{is_thing}
use Rattle.owl.specs.Tree.{short}
use Rattle.owl.specs.Token.{kind_at}
use Rattle.owl.specs.Grammar.{is_name}
use Rattle.owl.specs.Mention.{name_at, names_in}
use Rattle.owl.specs.Restriction.{Standing, standing_at, standing, restrictions_of, same_restriction}
use Rattle.owl.specs.Conjunct.{Conjunct, a_class, a_restriction, conjuncts_in, name_entry}
use Rattle.owl_row.specs.Rows.{rest_of}
use Rattle.owl_class.specs.declared.spread.Conjunct as code
use Rattle.owl_class.specs.declared.spread.Conjunct.TheVariants as found
use Rattle.owl_class.specs.declared.Entry as told
use Rattle.owl_class.specs.declared.Entry.TheVariants.{Constant, Open, Row}
use Rattle.owl_class.specs.Ends.{rest_tokens}

abbrev pub conjuncts_at : List ℕ → ℕ → ℕ → List Conjunct
conjuncts_at s from n = conjuncts_in n (rest_tokens s from)

abbrev pub conjunct_at : List ℕ → ℕ → ℕ → ℕ → Conjunct
conjunct_at s from n i = get_or (conjuncts_at s from n) i (a_class (short []))

unfoldable pub Reached : List ℕ → ℕ → ℕ → ℕ → Type 0
Reached s at q n = (pre : List Standing) × (standing s ≡ pre ++ rest_of s at q n)

unfoldable pub NameAt : List ℕ → ℕ → ℕ → ℕ → Type 0
NameAt s from i at = (is_thing (name_at s at) ≡ false) × ((n : ℕ) → conjunct_at s from n i ≡ a_class (name_at s at))

unfoldable pub RoleAt : List ℕ → ℕ → ℕ → ℕ → Type 0
RoleAt s from i at =
    (n : ℕ) → Reached s from 3 n →
    (m : ℕ) × (pre : List Standing) × (post : List Standing) × (standing s ≡ pre ++ (standing_at s at m ∷ post)) × (conjunct_at s from n i ≡ a_restriction (standing_at s at m).restriction)

unfoldable pub ConjunctIs : List ℕ → ℕ → ℕ → ℕ → ℕ → Type 0
ConjunctIs s from i kind at =
    (kind ≡ 1 → NameAt s from i at) × (kind ≡ 2 → RoleAt s from i at) × (kind ≡ 0 → (n : ℕ) → length (conjuncts_at s from n) ≤ i) × (at ≤ length s) × (kind < 3)

-- 0 none, 1 a name, 2 a restriction
abbrev pub found_kind : Option code.Conjunct → ℕ
found_kind None = 0
found_kind (Some (found.Name at)) = 1
found_kind (Some (found.Restriction at)) = 2

abbrev pub found_byte : Option code.Conjunct → ℕ
found_byte None = 0
found_byte (Some (found.Name at)) = at
found_byte (Some (found.Restriction at)) = at

abbrev pub IsNamed : List ℕ → Option code.Conjunct → Type 0
IsNamed s None = Unit
IsNamed s (Some (found.Name at)) = is_name (kind_at s at) ≡ true
IsNamed s (Some (found.Restriction at)) = Unit

abbrev pub entry_of : List ℕ → Conjunct → Entry
entry_of s (a_class m) = name_entry (names_in s) m
entry_of s (a_restriction r) = restriction (place same_restriction r (once same_restriction [] (restrictions_of (standing s))))

unfoldable pub entry_by : ℕ → ℕ → Entry
entry_by kind number = elim (eqb kind 1) [ true ↦ constant number | false ↦ elim (eqb kind 2) [ true ↦ variable number | false ↦ restriction number ] ]

unfoldable pub EntryIs : List ℕ → ℕ → ℕ → ℕ → ℕ → Type 0
EntryIs s from i kind number = (n : ℕ) → Reached s from 3 n → i < length (conjuncts_at s from n) → entry_by kind number ≡ entry_of s (conjunct_at s from n i)

-- 0 none, 1 a constant, 2 an open name, 3 a row
abbrev pub entry_kind : Option told.Entry → ℕ
entry_kind None = 0
entry_kind (Some (Constant i)) = 1
entry_kind (Some (Open i)) = 2
entry_kind (Some (Row i)) = 3

abbrev pub entry_index : Option told.Entry → ℕ
entry_index None = 0
entry_index (Some (Constant i)) = i
entry_index (Some (Open i)) = i
entry_index (Some (Row i)) = i

abbrev pub NoneFrom : List ℕ → ℕ → ℕ → Option told.Entry → Type 0
NoneFrom s from i None = (n : ℕ) → length (conjuncts_at s from n) ≤ i
NoneFrom s from i (Some e) = Unit
