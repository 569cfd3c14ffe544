-- Flattening at concrete files: the tables are computed, and the theorems' hypotheses are met.
--
--   two_rows          == SubClassOf(:open-X some :r some :s (:A and :B)) SubClassOf(:open-X some :s :A)
--   two_rows_table    == its rows and fresh variables stand in the order of writing, an outer filler before an inner one
--   two_rows_joined   == it can be joined, by theorem from an assignment that solves
--   round            == EquivalentClasses(:open-X some :r some :r :open-X)
--   round_not_joined == it cannot: no substitution makes it hold
--   odd_table        == a collapsing filler keeps its variable, a line that vanishes keeps its row, owl:Thing has no number
use Rattle.std.specs.Prelude.{◌≡◌, refl, true, not, List, [], ◌∷◌, ℕ, suc, T, ltb, length}
use Rattle.std.proofs.Common.{arith, ltb→lt, T_not}
use Rattle.el.specs.Test.{any_of, any_below, all_below, every_of, bit}
use Rattle.el.specs.TestLaws.{and_left, and_right, all_below_at}
use Rattle.el.specs.Description.{same_role}
use Rattle.el.proofs.OrderLaws.{same_role_refl, same_role_trans}
use Rattle.el.specs.Table.{Filler, constant_f, variable_f, Entry, constant, restriction, variable, Row, Line, Table, row_at, atoms}
use Rattle.el.specs.Meaning.{holds, makes}
use Rattle.el.specs.Assignment.{Assignment, set_of, IsAssignment, depends, path, reaches, acyclic, atom_under, conjoin, set_under, induced_to, induced, solves}
use Rattle.el.specs.Locality.{Solvable}
use Rattle.el.proofs.LocalityLaws.{solves_means}
use Rattle.owl.specs.Once.{is_among, place, once}
use Rattle.owl.specs.Tree.{Name, short, named, intersection_of, some_values_from, last, sub_class_of, equivalent_classes, class, object_property, declaration, stated, no_name, File, axioms_of, classes_of, properties_of}
use Rattle.owl.specs.Naming.{same_bytes, begins_with, thing_bytes, open_bytes, keep, names_of, constant_number, open_number, role_number, class_known, role_known, all_known}
use Rattle.owl.specs.Meaning.{Joinable}
use Rattle.owl.specs.Flattening.{name_of, statements_of, same_row, rows_all, lines_all, table_of, flat_table}
use Rattle.owl.specs.FlatteningLaws.{flat_declared, file_solvable}

-- `:A`, `:B`, `:r`, `:s`, `:open-X`, `owl:Thing`
abbrev A : Name
A = short (58 ∷ 65 ∷ [])

abbrev B : Name
B = short (58 ∷ 66 ∷ [])

abbrev r : Name
r = short (58 ∷ 114 ∷ [])

abbrev s : Name
s = short (58 ∷ 115 ∷ [])

abbrev X : Name
X = short (58 ∷ 111 ∷ 112 ∷ 101 ∷ 110 ∷ 45 ∷ 88 ∷ [])

abbrev thing : Name
thing = short (111 ∷ 119 ∷ 108 ∷ 58 ∷ 84 ∷ 104 ∷ 105 ∷ 110 ∷ 103 ∷ [])

abbrev row : ℕ → Filler → Row
row r f = record { role = r; filler = f }

abbrev line : List Entry → Entry → Line
line es e = record { left = es; right = e }

----------------------------------------------------------------------------------------------------
-- Rows and fresh variables by first writing

abbrev two_rows : File
two_rows =
    record {
      prefixes = [];
      head = no_name;
      items =
          declaration (class A)
          ∷ declaration (class B)
          ∷ declaration (class X)
          ∷ declaration (object_property r)
          ∷ declaration (object_property s)
          ∷ stated (sub_class_of (named X) (some_values_from r (some_values_from s (intersection_of (named A) (last (named B))))))
          ∷ stated (sub_class_of (named X) (some_values_from s (named A)))
          ∷ [];
    }

pub two_rows_table :
    flat_table two_rows ≡ record {
      constants = 2;
      roles = 2;
      variables = 3;
      role_rows = [];
      rows = row 0 (variable_f 1) ∷ row 1 (variable_f 2) ∷ row 1 (constant_f 0) ∷ [];
      lines =
          line (variable 0 ∷ []) (restriction 0)
          ∷ line (variable 0 ∷ []) (restriction 2)
          ∷ line (variable 1 ∷ []) (restriction 1)
          ∷ line (restriction 1 ∷ []) (variable 1)
          ∷ line (variable 2 ∷ []) (constant 0)
          ∷ line (variable 2 ∷ []) (constant 1)
          ∷ line (constant 0 ∷ constant 1 ∷ []) (variable 2)
          ∷ [];
    }
unfolding flat_table table_of rows_all lines_all statements_of name_of constant_number open_number role_number names_of keep same_bytes begins_with thing_bytes open_bytes axioms_of classes_of properties_of once is_among place any_of same_row
two_rows_table = refl

two_rows_known : T (all_known two_rows)
unfolding all_known every_of class_known role_known names_of keep same_bytes begins_with thing_bytes open_bytes axioms_of classes_of properties_of once is_among any_of
two_rows_known = tt

-- X = some r Y and some s A, Y = some s Z, Z = A and B
two_rows_solves : T (solves same_role (flat_table two_rows) (20 ∷ 8 ∷ 3 ∷ []))
unfolding solves acyclic reaches path depends all_below any_below every_of bit set_of row_at atoms atom_under conjoin set_under induced_to induced holds makes same_role flat_table table_of rows_all lines_all statements_of name_of constant_number open_number role_number names_of keep same_bytes begins_with thing_bytes open_bytes axioms_of classes_of properties_of once is_among place any_of same_row
two_rows_solves = tt

two_rows_sets : IsAssignment (flat_table two_rows) (20 ∷ 8 ∷ 3 ∷ [])
unfolding IsAssignment every_of atoms flat_table table_of rows_all lines_all statements_of name_of constant_number open_number role_number names_of keep same_bytes begins_with thing_bytes open_bytes axioms_of classes_of properties_of once is_among place any_of same_row
two_rows_sets = (refl, tt)

pub two_rows_joined : Joinable same_role two_rows
unfolding Solvable
two_rows_joined =
    let sets : Assignment = 20 ∷ 8 ∷ 3 ∷ [] in
    let known = flat_declared same_role same_role_refl same_role_trans two_rows two_rows_known in
    (file_solvable same_role same_role_refl same_role_trans two_rows two_rows_known).1 (sets, two_rows_sets, (solves_means same_role (flat_table two_rows) known sets).0 two_rows_solves)

----------------------------------------------------------------------------------------------------
-- A variable that would depend on itself through its fresh one

abbrev round : File
round =
    record {
      prefixes = [];
      head = no_name;
      items =
          stated (equivalent_classes (named X) (some_values_from r (some_values_from r (named X))))
          ∷ declaration (object_property r)
          ∷ declaration (class X)
          ∷ [];
    }

abbrev round_table : Table
round_table =
    record {
      constants = 0;
      roles = 1;
      variables = 2;
      role_rows = [];
      rows = row 0 (variable_f 1) ∷ row 0 (variable_f 0) ∷ [];
      lines =
          line (variable 0 ∷ []) (restriction 0)
          ∷ line (restriction 0 ∷ []) (variable 0)
          ∷ line (variable 1 ∷ []) (restriction 1)
          ∷ line (restriction 1 ∷ []) (variable 1)
          ∷ [];
    }

pub round_table_lem : flat_table round ≡ round_table
unfolding flat_table table_of rows_all lines_all statements_of name_of constant_number open_number role_number names_of keep same_bytes begins_with thing_bytes open_bytes axioms_of classes_of properties_of once is_among place any_of same_row
round_table_lem = refl

round_known : T (all_known round)
unfolding all_known every_of class_known role_known names_of keep same_bytes begins_with thing_bytes open_bytes axioms_of classes_of properties_of once is_among any_of
round_known = tt

round_tried : T (all_below 4 (λ x. all_below 4 (λ y. not (solves same_role (flat_table round) (x ∷ y ∷ [])))))
unfolding all_below any_below every_of bit same_role row_at atoms set_of depends path reaches acyclic atom_under conjoin set_under induced_to induced holds makes solves flat_table table_of rows_all lines_all statements_of name_of constant_number open_number role_number names_of keep same_bytes begins_with thing_bytes open_bytes axioms_of classes_of properties_of once is_among place any_of same_row
round_tried = tt

round_unsolved : Solvable same_role (flat_table round) → ⊥
unfolding Solvable IsAssignment every_of atoms flat_table table_of rows_all lines_all statements_of name_of constant_number open_number role_number names_of keep same_bytes begins_with thing_bytes open_bytes axioms_of classes_of properties_of once is_among place any_of same_row
round_unsolved u =
    go u.0 u.1.0 u.1.1
    ((solves_means same_role (flat_table round) (flat_declared same_role same_role_refl same_role_trans round round_known) u.0).1 u.2)
  where
    go : (a : Assignment) → length a ≡ 2 → T (every_of (λ s. ltb s 4) a) → T (solves same_role (flat_table round) a) → ⊥
    go [] n is t = let e : length {A = ℕ} [] ≡ 2 = n in omega arith
    go (x ∷ []) n is t = let e : suc (length {A = ℕ} []) ≡ 2 = n in omega arith
    go (x ∷ y ∷ []) n is t =
        let small = ltb→lt x 4 (and_left (ltb x 4) (every_of (λ s. ltb s 4) (y ∷ [])) is) in
        let small' = ltb→lt y 4 (and_left (ltb y 4) true (and_right (ltb x 4) (every_of (λ s. ltb s 4) (y ∷ [])) is)) in
        T_not (solves same_role (flat_table round) (x ∷ y ∷ []))
        (all_below_at 4 y (λ y. not (solves same_role (flat_table round) (x ∷ y ∷ [])))
        (all_below_at 4 x (λ x. all_below 4 (λ y. not (solves same_role (flat_table round) (x ∷ y ∷ [])))) round_tried small) small') t
    go (x ∷ y ∷ z ∷ a) n is t = let e : suc (suc (suc (length a))) ≡ 2 = n in omega arith

pub round_not_joined : Joinable same_role round → ⊥
round_not_joined j = round_unsolved ((file_solvable same_role same_role_refl same_role_trans round round_known).0 j)

----------------------------------------------------------------------------------------------------
-- Odd corners: some r (Thing and Thing) below Thing; Thing below A and Thing; owl:Thing declared

abbrev odd : File
odd =
    record {
      prefixes = [];
      head = no_name;
      items =
          declaration (class thing)
          ∷ declaration (class A)
          ∷ declaration (class A)
          ∷ declaration (object_property r)
          ∷ stated (sub_class_of (some_values_from r (intersection_of (named thing) (last (named thing)))) (named thing))
          ∷ stated (sub_class_of (named thing) (intersection_of (named A) (last (named thing))))
          ∷ [];
    }

pub odd_table :
    flat_table odd ≡ record {
      constants = 1;
      roles = 1;
      variables = 1;
      role_rows = [];
      rows = row 0 (variable_f 0) ∷ [];
      lines = line [] (constant 0) ∷ line [] (variable 0) ∷ [];
    }
unfolding flat_table table_of rows_all lines_all statements_of name_of constant_number open_number role_number names_of keep same_bytes begins_with thing_bytes open_bytes axioms_of classes_of properties_of once is_among place any_of same_row
odd_table = refl
