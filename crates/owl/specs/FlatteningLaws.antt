-- A file and its table say the same.
--
--   class_numbered   == a class expression is worth what its numbered form is worth
--   flat_declared    == the table of a file whose names are declared is declared
--   flattening_to    == what makes every line of the table true makes all axioms of the file hold
--   flattening_from  == what makes all axioms hold extends to what makes every line true
--   flattening       == some substitution makes all axioms hold exactly if some substitution makes every line true
--   file_solvable    == and so exactly if some acyclic assignment solves the table
--   flattening_keeps == the extension says of the open names what it said before
use Rattle.std.specs.Prelude.{◌≡◌, Bool, ◌↔◌, ℕ, ◌<◌}
use Rattle.std.proofs.Math.Path.{refl, ap₂, subst}
use Rattle.std.proofs.Common.{sym, ap}
use Rattle.std.proofs.Math.Bool.{true, false, ◌&&◌}
use mathlib.Core.List.{List, [], ◌∷◌}
use Rattle.std.proofs.Math.Dec.{T}
use Rattle.std.proofs.Math.ListN.{length}
use Rattle.el.specs.Test.{every_of}
use Rattle.el.specs.Description.{Description, top, name, meet, some, below}
use Rattle.el.specs.Table.{Row, declared}
use Rattle.el.specs.Meaning.{Substitution, holds, makes}
use Rattle.el.specs.Locality.{Unifiable, Solvable}
use Rattle.el.proofs.LocalityLaws.{local_iff}
use Rattle.owl.specs.OnceLaws.{every_join}
use Rattle.owl.specs.Tree.{Name, Class, named, intersection_of, some_values_from, Classes, last, more, Axiom, sub_class_of, equivalent_classes, File, axioms_of}
use Rattle.owl.specs.Naming.{is_thing, is_open, Names, names_of, constant_number, open_number, role_number, all_known}
use Rattle.owl.specs.Meaning.{name_under, class_under, classes_under, axiom_holds, file_holds, Joinable}
use Rattle.owl.specs.Flattening.{top_c, variable_c, constant_c, name_of, concept_of, concepts_of, Statement, statement_of, statements_of, rows_all, lines_all, lines_in, equations_in, each_of, table_of, flat_table}
use Rattle.owl.specs.FlatLaws.{concept_under, statement_holds, all_equations, all_from, flat_to}
use Rattle.owl.specs.ExtensionLaws.{WithinAll, fillers_all, extended, extended_named, good_all, statements_named}
use Rattle.owl.specs.FlatDeclared.{statements_within, rows_among, table_declared}

----------------------------------------------------------------------------------------------------
-- Numbers for names

module _ (d : Names) (σ : Substitution) where
  name_numbered : (n : Name) → name_under d σ n ≡ concept_under σ (name_of d n)
  unfolding name_under name_of
  name_numbered n = go (is_thing n) (is_open n)
    where
      go : (t o : Bool) → elim t [ true ↦ top | false ↦ elim o [ true ↦ σ (open_number d n) | false ↦ name (constant_number d n) ] ]
          ≡ concept_under σ (elim t [ true ↦ top_c | false ↦ elim o [ true ↦ variable_c (open_number d n) | false ↦ constant_c (constant_number d n) ] ])
      go true o = refl
      go false true = refl
      go false false = refl

  mutual
    pub class_numbered : (C : Class) → class_under d σ C ≡ concept_under σ (concept_of d C)
    class_numbered (named n) = name_numbered n
    class_numbered (intersection_of C Cs) = ap₂ meet (class_numbered C) (classes_numbered Cs)
    class_numbered (some_values_from r C) = ap (some (role_number d r)) (class_numbered C)

    classes_numbered : (Cs : Classes) → classes_under d σ Cs ≡ concept_under σ (concepts_of d Cs)
    classes_numbered (last C) = class_numbered C
    classes_numbered (more C Cs) = ap₂ meet (class_numbered C) (classes_numbered Cs)

  module _ (under : ℕ → ℕ → Bool) where
    axiom_numbered : (A : Axiom) → axiom_holds under d σ A ≡ statement_holds under σ (statement_of d A)
    unfolding statement_holds
    axiom_numbered (sub_class_of C D) = ap₂ (below under) (class_numbered C) (class_numbered D)
    axiom_numbered (equivalent_classes C D) = ap₂ (λ (X Y : Description). below under X Y && below under Y X) (class_numbered C) (class_numbered D)

    axioms_numbered : (As : List Axiom) → every_of (axiom_holds under d σ) As ≡ every_of (statement_holds under σ) (statements_of d As)
    unfolding every_of statements_of
    axioms_numbered [] = refl
    axioms_numbered (A ∷ As) = ap₂ ◌&&◌ (axiom_numbered A) (axioms_numbered As)

----------------------------------------------------------------------------------------------------
-- The theorems

module _ (under : ℕ → ℕ → Bool) (under_refl : (r : ℕ) → T (under r r)) (under_trans : (r s u : ℕ) → T (under r s) → T (under s u) → T (under r u)) (f : File) where
  abbrev statements : List Statement
  statements = statements_of (names_of f.items) (axioms_of f.items)

  abbrev v : ℕ
  v = length (names_of f.items).opens

  abbrev rows : List Row
  rows = rows_all v statements

  pub flattening_to : (δ : Substitution) → T (makes under (flat_table f) δ) → T (file_holds under f δ)
  unfolding makes flat_table table_of file_holds
  flattening_to δ m =
      subst T (sym (axioms_numbered (names_of f.items) δ under (axioms_of f.items)))
      (flat_to under under_refl under_trans rows δ v statements (rows_among v statements) m)

  module _ (known : T (all_known f)) where
    within : WithinAll (length (names_of f.items).constants) (length (names_of f.items).roles) v statements
    unfolding all_known
    within = statements_within (names_of f.items) (axioms_of f.items) known

    pub flat_declared : T (declared (flat_table f))
    unfolding flat_table
    flat_declared = table_declared (names_of f.items) statements within

    pub flattening_from : (γ : Substitution) → T (file_holds under f γ) → T (makes under (flat_table f) (extended γ v (fillers_all statements)))
    unfolding makes flat_table table_of lines_all file_holds
    flattening_from γ h =
        let δ = extended γ v (fillers_all statements) in
        let c = length (names_of f.items).constants in
        let r = length (names_of f.items).roles in
        let good = good_all γ v under under_refl under_trans rows c r statements within in
        let among = rows_among v statements in
        let hold = subst T (axioms_numbered (names_of f.items) γ under (axioms_of f.items)) h in
        every_join (holds under rows δ) (each_of (lines_in rows) v statements) (each_of (equations_in rows) v statements)
        (all_from under under_refl under_trans rows δ v statements among good (statements_named γ v (fillers_all statements) under under_refl under_trans rows c r statements within hold))
        (all_equations under under_refl under_trans rows δ v statements among good)

    -- the open names mean what they meant
    pub flattening_keeps : (γ : Substitution) (x : ℕ) → x < v → extended γ v (fillers_all statements) x ≡ γ x
    flattening_keeps γ x h = extended_named γ v (fillers_all statements) x h

    pub flattening : Joinable under f ↔ Unifiable under (flat_table f)
    unfolding Joinable Unifiable
    flattening = ((λ j. (extended j.0 v (fillers_all statements), flattening_from j.0 j.1)), λ u. (u.0, flattening_to u.0 u.1))

    pub file_solvable : Joinable under f ↔ Solvable under (flat_table f)
    file_solvable =
        let table = local_iff under under_refl under_trans (flat_table f) flat_declared in
        ((λ j. table.0 (flattening.0 j)), λ s. flattening.1 (table.1 s))
