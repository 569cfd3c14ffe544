-- The mentions of a tree, in the order of its written form.
--
--   uses_in C ms, uses_of Cs ms == the uses of a class expression, of several, before the mentions ms
--   mentions_in i ms           == the mentions of an item, before ms
--   mentions_all items         == those of all items
use Rattle.std.specs.Prelude.{List, [], ◌∷◌}
use Rattle.owl.specs.Tree.{Class, named, intersection_of, some_values_from, Classes, last, more, sub_class_of, equivalent_classes, class, object_property, Item, declaration, stated}
use Rattle.owl.specs.Mention.{Mention, mentioned}

abbrev mutual
  pub uses_in : Class → List Mention → List Mention
  uses_in (named n) ms = mentioned 3 n ∷ ms
  uses_in (intersection_of C Cs) ms = uses_in C (uses_of Cs ms)
  uses_in (some_values_from r C) ms = mentioned 4 r ∷ uses_in C ms

  pub uses_of : Classes → List Mention → List Mention
  uses_of (last C) ms = uses_in C ms
  uses_of (more C Cs) ms = uses_in C (uses_of Cs ms)

abbrev pub mentions_in : Item → List Mention → List Mention
mentions_in (declaration (class n)) ms = mentioned 1 n ∷ ms
mentions_in (declaration (object_property n)) ms = mentioned 2 n ∷ ms
mentions_in (stated (sub_class_of C D)) ms = uses_in C (uses_in D ms)
mentions_in (stated (equivalent_classes C D)) ms = uses_in C (uses_in D ms)

abbrev pub mentions_all : List Item → List Mention
mentions_all [] = []
mentions_all (i ∷ items) = mentions_in i (mentions_all items)
