-- Which names are open, how names are numbered, and which are declared.
--
--   same_bytes, begins_with     == tests on lists of bytes
--   same_name                  == two names are written alike
--   is_thing n                 == n is written `owl:Thing`
--   is_open n                  == n begins with `:open-`
--   Names                     == the declared constants, open names and roles, each once, in order of first declaration
--   names_of items             == those of a file
--   constant_number, open_number, role_number == a name's number among them
--   class_known, role_known     == a name is declared as a class (or is owl:Thing), as a role
--   axiom_known                == each name of an axiom is
--   all_known f                == each name of the file's axioms is
use Rattle.std.specs.Prelude.{Bool, true, false, ◌&&◌, ◌||◌, not, List, [], ◌∷◌, ℕ, eqb}
use Rattle.el.specs.Test.{every_of}
use Rattle.owl.specs.Once.{is_among, place, once}
use Rattle.owl.specs.Tree.{Name, short, full, Class, named, intersection_of, some_values_from, Classes, last, more, Axiom, sub_class_of, equivalent_classes, Item, File, axioms_of, classes_of, properties_of}

unfoldable pub same_bytes : List ℕ → List ℕ → Bool
same_bytes [] [] = true
same_bytes [] (b ∷ bs) = false
same_bytes (c ∷ cs) [] = false
same_bytes (c ∷ cs) (b ∷ bs) = eqb c b && same_bytes cs bs

unfoldable pub begins_with : List ℕ → List ℕ → Bool
begins_with [] bs = true
begins_with (c ∷ cs) [] = false
begins_with (c ∷ cs) (b ∷ bs) = eqb c b && begins_with cs bs

-- "compared as written": no prefix is ever resolved
abbrev pub same_name : Name → Name → Bool
same_name (short w) (short u) = same_bytes w u
same_name (short w) (full u) = false
same_name (full w) (short u) = false
same_name (full w) (full u) = same_bytes w u

-- `owl:Thing`
unfoldable pub thing_bytes : List ℕ
thing_bytes = 111 ∷ 119 ∷ 108 ∷ 58 ∷ 84 ∷ 104 ∷ 105 ∷ 110 ∷ 103 ∷ []

-- `:open-`
unfoldable pub open_bytes : List ℕ
open_bytes = 58 ∷ 111 ∷ 112 ∷ 101 ∷ 110 ∷ 45 ∷ []

abbrev pub is_thing : Name → Bool
is_thing (short w) = same_bytes w thing_bytes
is_thing (full w) = false

-- "Class names that begin with `:open-` are variables."
abbrev pub is_open : Name → Bool
is_open (short w) = begins_with open_bytes w
is_open (full w) = false

-- the names of l that pass p, in order
unfoldable pub keep : (Name → Bool) → List Name → List Name
keep p [] = []
keep p (n ∷ l) = elim (p n) [ true ↦ n ∷ keep p l | false ↦ keep p l ]

pub record Names : Type 0 where
  pub constants : List Name
  pub opens : List Name
  pub roles : List Name

-- "Names are numbered by first declaration": owl:Thing has no number, and a name may be a class and a role
unfoldable pub names_of : List Item → Names
names_of items = record {
  constants = once same_name [] (keep (λ n. not (is_thing n || is_open n)) (classes_of items));
  opens = once same_name [] (keep is_open (classes_of items));
  roles = once same_name [] (properties_of items);
}

unfoldable pub constant_number : Names → Name → ℕ
constant_number d n = place same_name n d.constants

unfoldable pub open_number : Names → Name → ℕ
open_number d n = place same_name n d.opens

unfoldable pub role_number : Names → Name → ℕ
role_number d n = place same_name n d.roles

-- "a name not declared"; owl:Thing needs no declaration
unfoldable pub class_known : Names → Name → Bool
class_known d n = is_thing n || elim (is_open n) [ true ↦ is_among same_name n d.opens | false ↦ is_among same_name n d.constants ]

unfoldable pub role_known : Names → Name → Bool
role_known d n = is_among same_name n d.roles

abbrev mutual
  pub all_in : Names → Class → Bool
  all_in d (named n) = class_known d n
  all_in d (intersection_of C Cs) = all_in d C && all_of d Cs
  all_in d (some_values_from r C) = role_known d r && all_in d C

  pub all_of : Names → Classes → Bool
  all_of d (last C) = all_in d C
  all_of d (more C Cs) = all_in d C && all_of d Cs

abbrev pub axiom_known : Names → Axiom → Bool
axiom_known d (sub_class_of C D) = all_in d C && all_in d D
axiom_known d (equivalent_classes C D) = all_in d C && all_in d D

unfoldable pub all_known : File → Bool
all_known f = every_of (axiom_known (names_of f.items)) (axioms_of f.items)
