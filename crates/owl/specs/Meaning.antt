-- What a file says under a substitution of its open names, by the order between descriptions.
--
--   class_under d σ C       == the class expression C with σ carried out; an intersection is a conjunction, owl:Thing is top
--   classes_under d σ Cs    == the conjunction of several
--   axiom_holds under d σ A == σ makes the axiom A hold
--   file_holds under f σ    == σ makes all axioms of the file f hold
--   Joinable under f       == some substitution does
use Rattle.std.specs.Prelude.{Bool, true, false, ◌&&◌, ℕ, T}
use Rattle.el.specs.Test.{every_of}
use Rattle.el.specs.Description.{Description, top, name, meet, some, below}
use Rattle.el.specs.Meaning.{Substitution}
use Rattle.owl.specs.Tree.{Name, Class, named, intersection_of, some_values_from, Classes, last, more, Axiom, sub_class_of, equivalent_classes, File, axioms_of}
use Rattle.owl.specs.Naming.{is_thing, is_open, Names, names_of, constant_number, open_number, role_number}

-- "Class names that begin with `:open-` are variables."
unfoldable pub name_under : Names → Substitution → Name → Description
name_under d σ n = elim (is_thing n) [ true ↦ top | false ↦ elim (is_open n) [ true ↦ σ (open_number d n) | false ↦ name (constant_number d n) ] ]

abbrev mutual
  pub class_under : Names → Substitution → Class → Description
  class_under d σ (named n) = name_under d σ n
  class_under d σ (intersection_of C Cs) = meet (class_under d σ C) (classes_under d σ Cs)
  class_under d σ (some_values_from r C) = some (role_number d r) (class_under d σ C)

  pub classes_under : Names → Substitution → Classes → Description
  classes_under d σ (last C) = class_under d σ C
  classes_under d σ (more C Cs) = meet (class_under d σ C) (classes_under d σ Cs)

-- "by 01's order": a subclass lies below, equivalent classes lie below each other
abbrev pub axiom_holds : (ℕ → ℕ → Bool) → Names → Substitution → Axiom → Bool
axiom_holds under d σ (sub_class_of C D) = below under (class_under d σ C) (class_under d σ D)
axiom_holds under d σ (equivalent_classes C D) = below under (class_under d σ C) (class_under d σ D) && below under (class_under d σ D) (class_under d σ C)

-- "makes all the file's axioms hold"
unfoldable pub file_holds : (ℕ → ℕ → Bool) → File → Substitution → Bool
file_holds under f σ = every_of (axiom_holds under (names_of f.items) σ) (axioms_of f.items)

-- "some substitution makes all the file's axioms hold by 01's order"
unfoldable pub Joinable : (ℕ → ℕ → Bool) → File → Type 0
Joinable under f = (σ : Substitution) × T (file_holds under f σ)
