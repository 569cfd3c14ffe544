-- The restrictions of a text, with their roles and fillers as written, in the order of the text.
--
--   Part             == a filler: a name; or an intersection or restriction, by its number among the fillers that are none
--   Restriction      == the name of a role, and a filler
--   part_at s at n    == the filler that begins with the next token after byte `at`, where n is its number if it is no name
--   own_at s at       == 1 if it is no name, else 0
--   Standing         == a restriction and the byte where the name of its role begins
--   standing_from s f at q n == the restrictions of the text s from byte `at` on; q is what the next name does, n the number of the next
--                       filler that is no name; f tokens at most
--   standing s       == all of them
--   restrictions_of l == those of l without their bytes
--   owns_of l         == how many of their fillers are no names
--   same_part, same_restriction == tests on them: names are compared as written
--   filler_for d v p  == the filler p of a table: names have their numbers by d, a filler that is no name has the fresh variable v + its number
--   row_for d v r     == the row of the restriction r
--   rows_for d v l    == the rows of l
--   is_known_in d r    == the names of the restriction r are declared
--   rows_of_file f     == the rows of the table of the file f
use Rattle.std.specs.Prelude.{Bool, true, false, ◌&&◌, List, [], ◌∷◌, map, ℕ, zero, suc, ◌+◌, eqb, length}
use Rattle.el.specs.Table.{Filler, top_f, constant_f, variable_f, Row}
use Rattle.owl.specs.Tree.{Name, File, axioms_of}
use Rattle.owl.specs.Naming.{same_name, is_thing, is_open, Names, names_of, constant_number, open_number, role_number, class_known, role_known}
use Rattle.owl.specs.Token.{place_at, kind_at, end_at}
use Rattle.owl.specs.Grammar.{is_name}
use Rattle.owl.specs.Mention.{sort_after, name_at}
use Rattle.owl.specs.Flattening.{statements_of, rows_all}

pub data Part : Type 0 where
  by_name : Name → Part
  by_number : ℕ → Part

pub record Restriction : Type 0 where
  pub role : Name
  pub part : Part

abbrev pub restricted : Name → Part → Restriction
restricted r p = record { role = r; part = p }

unfoldable pub part_at : List ℕ → ℕ → ℕ → Part
part_at s at n = elim (is_name (kind_at s at)) [ true ↦ by_name (name_at s at) | false ↦ by_number n ]

unfoldable pub own_at : List ℕ → ℕ → ℕ
own_at s at = elim (is_name (kind_at s at)) [ true ↦ 0 | false ↦ 1 ]

pub record Standing : Type 0 where
  pub restriction : Restriction
  pub place : ℕ

abbrev pub standing_at : List ℕ → ℕ → ℕ → Standing
standing_at s at n = record { restriction = restricted (name_at s at) (part_at s (end_at s at) n); place = place_at s at }

-- where a name uses an object property, its restriction's filler begins behind it
unfoldable pub standing_from : List ℕ → ℕ → ℕ → ℕ → ℕ → List Standing
standing_from s zero at q n = []
standing_from s (suc f) at q n =
    elim (eqb (kind_at s at) 0) [
      | true ↦ []
      | false ↦ elim (is_name (kind_at s at) && eqb q 4) [
        | true ↦ standing_at s at n ∷ standing_from s f (end_at s at) (sort_after q (kind_at s at)) (n + own_at s (end_at s at))
        | false ↦ standing_from s f (end_at s at) (sort_after q (kind_at s at)) n
      ]
    ]

unfoldable pub standing : List ℕ → List Standing
standing s = standing_from s (suc (length s)) 0 0 0

abbrev pub restrictions_of : List Standing → List Restriction
restrictions_of l = map (λ x. x.restriction) l

-- how many fillers are no names
abbrev pub own_one : Part → ℕ
own_one (by_name n) = 0
own_one (by_number k) = 1

unfoldable pub owns_of : List Restriction → ℕ
owns_of [] = 0
owns_of (r ∷ l) = own_one r.part + owns_of l

abbrev pub same_part : Part → Part → Bool
same_part (by_name n) (by_name m) = same_name n m
same_part (by_name n) (by_number j) = false
same_part (by_number k) (by_name m) = false
same_part (by_number k) (by_number j) = eqb k j

unfoldable pub same_restriction : Restriction → Restriction → Bool
same_restriction a b = same_name a.role b.role && same_part a.part b.part

----------------------------------------------------------------------------------------------------
-- Rows

unfoldable pub name_filler : Names → Name → Filler
name_filler d n = elim (is_thing n) [ true ↦ top_f | false ↦ elim (is_open n) [ true ↦ variable_f (open_number d n) | false ↦ constant_f (constant_number d n) ] ]

abbrev pub filler_for : Names → ℕ → Part → Filler
filler_for d v (by_name n) = name_filler d n
filler_for d v (by_number k) = variable_f (v + k)

unfoldable pub row_for : Names → ℕ → Restriction → Row
row_for d v r = record { role = role_number d r.role; filler = filler_for d v r.part }

abbrev pub rows_for : Names → ℕ → List Restriction → List Row
rows_for d v l = map (row_for d v) l

abbrev pub part_known : Names → Part → Bool
part_known d (by_name n) = class_known d n
part_known d (by_number k) = true

abbrev pub is_known_in : Names → Restriction → Bool
is_known_in d r = role_known d r.role && part_known d r.part

abbrev pub rows_of_file : File → List Row
rows_of_file f = rows_all (length (names_of f.items).opens) (statements_of (names_of f.items) (axioms_of f.items))
