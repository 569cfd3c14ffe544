-- The tree of an OWL file, in the words of OWL 2's functional-style syntax.
--
--   Name              == a name as it is written: short (`:A`) or full (`<urn:A>`), with its bytes
--   Class, Classes    == a class expression; one of them or more
--   Axiom             == SubClassOf or EquivalentClasses, of two class expressions
--   Entity            == what a Declaration declares: a class or an object property
--   Item              == what stands in the Ontology: a declaration or an axiom
--   Head              == the names after `Ontology(`: none, one (its IRI) or two (its version too)
--   PrefixLine        == the two sides of `Prefix(:=<urn:>)`
--   File              == Prefix lines, then one Ontology: its head and its items
--   axioms_of items    == the axioms among them, in order
--   classes_of items   == the names declared as classes, in order
--   properties_of items == the names declared as object properties, in order
use Rattle.std.specs.Prelude.{List, [], ◌∷◌, ℕ}

-- the bytes of a full name include its `<` and `>`
pub data Name : Type 0 where
  short full : List ℕ → Name

-- "ObjectIntersectionOf, ObjectSomeValuesFrom and owl:Thing"; an intersection has a first operand and one or more besides
mutual
  pub data Class : Type 0 where
    named : Name → Class
    intersection_of : Class → Classes → Class
    some_values_from : Name → Class → Class

  pub data Classes : Type 0 where
    last : Class → Classes
    more : Class → Classes → Classes

-- "SubClassOf, EquivalentClasses of two"
pub data Axiom : Type 0 where
  sub_class_of equivalent_classes : Class → Class → Axiom

-- "Declaration of classes and object properties"
pub data Entity : Type 0 where
  class object_property : Name → Entity

-- "declarations anywhere in it"
pub data Item : Type 0 where
  declaration : Entity → Item
  stated : Axiom → Item

-- the Ontology's own names are not names of classes
pub data Head : Type 0 where
  no_name : Head
  one_name : Name → Head
  two_names : Name → Name → Head

pub record PrefixLine : Type 0 where
  pub label : List ℕ
  pub target : List ℕ

-- "The axioms stand in one Ontology after any Prefix lines"
pub record File : Type 0 where
  pub prefixes : List PrefixLine
  pub head : Head
  pub items : List Item

unfoldable pub axioms_of : List Item → List Axiom
axioms_of [] = []
axioms_of (declaration e ∷ items) = axioms_of items
axioms_of (stated A ∷ items) = A ∷ axioms_of items

unfoldable pub classes_of : List Item → List Name
classes_of [] = []
classes_of (declaration (class n) ∷ items) = n ∷ classes_of items
classes_of (declaration (object_property n) ∷ items) = classes_of items
classes_of (stated A ∷ items) = classes_of items

unfoldable pub properties_of : List Item → List Name
properties_of [] = []
properties_of (declaration (class n) ∷ items) = properties_of items
properties_of (declaration (object_property n) ∷ items) = n ∷ properties_of items
properties_of (stated A ∷ items) = properties_of items
