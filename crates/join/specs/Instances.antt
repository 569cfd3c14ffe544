-- The text at a concrete file: the hypotheses of its theorems are met, and the bytes are computed.
--
--   text        == SubClassOf(:open-X some :r (:A and :B)), with declarations
--   text_says   == it says that file
--   first_found == the first assignment that solves its table: X has the restriction, and the fresh variable A and B
--   first_text, line_text == two lines
--   text_joined == THEY ARE WHAT IS WRITTEN FOR IT
use Rattle.std.specs.Prelude.{◌≡◌, refl, List, [], ◌∷◌, ◌++◌, ℕ, T, length}
use Rattle.std.proofs.Common.{ap, ap₂, subst, ◌∙◌, arith}
use Rattle.el.specs.Test.{any_below, all_below, any_of, every_of, bit}
use Rattle.el.specs.Description.{same_role}
use Rattle.el.specs.Roles.{reaches_role}
use Rattle.el.specs.Table.{Table, row_at, atoms, declared, role_order}
use Rattle.el.proofs.RoleLaws.{role_order_refl, role_order_trans}
use Rattle.el.specs.Meaning.{holds}
use Rattle.el.specs.Assignment.{Assignment, set_of, depends, path, reaches, acyclic, atom_under, conjoin, set_under, induced_to, induced, Solves, solves}
use Rattle.el.specs.Walk.{chosen, line_variables, settled, ready, fails, dead, full, ends, in_turn, tree_of, nodes, up_to_first, first_of, examined, count, solved, outcome}
use Rattle.el.proofs.OutcomeLaws.{outcome_says}
use Rattle.el.specs.First.{OutcomeSays}
use Rattle.el.proofs.LocalityLaws.{solves_means}
use Rattle.table.specs.Bytes.{counts_of}
use Rattle.text.specs.Text.{decimal_to, decimal, behind, joined, numbers_text}
use Rattle.text.specs.Listing.{atoms_in}
use Rattle.text.specs.Batch.{read_text}
use Rattle.makrothel.specs.Numbers.{FirstSolving, N}
use Rattle.owl.specs.Once.{is_among, place, once}
use Rattle.owl.specs.Tree.{Name, short, named, intersection_of, some_values_from, last, sub_class_of, class, object_property, declaration, stated, no_name, File, axioms_of, classes_of, properties_of}
use Rattle.owl.specs.Naming.{same_bytes, begins_with, thing_bytes, open_bytes, keep, names_of, constant_number, open_number, role_number, class_known, role_known, all_known}
use Rattle.owl.specs.Token.{is_plain, byte_class, betweens, between, blank, run_length, shapes, shaped, shape, prefix_word, ontology_word, declaration_word, class_word, property_word, sub_class_word, equivalent_word, intersection_word, some_values_word, keywords, word_kind, run_kind, up_to_close, opens_after, full_kind, full_size, mark_kinds, kind_of, size_of, place_at, kind_at, end_at}
use Rattle.owl.specs.Written.{token_of, token_at, tokens_from, tokens, Says}
use Rattle.owl.specs.Mention.{undeclared}
use Rattle.owl.specs.UndeclaredLaws.{undeclared_means}
use Rattle.owl.specs.Flattening.{name_of, statements_of, same_row, rows_all, lines_all, table_of, flat_table}
use Rattle.owl.specs.FlatteningLaws.{flat_declared}
use Rattle.owl_answer.specs.Owl.{InBounds}
use Rattle.spell.specs.Spelling as spelling
use Rattle.join.specs.Join.{join_text}
use Rattle.join.specs.Theorem.{join_found}

-- `Ontology(Declaration(Class(:A))Declaration(Class(:B))Declaration(Class(:open-X))Declaration(ObjectProperty(:r))SubClassOf(:open-X ObjectSomeValuesFrom(:r ObjectIntersectionOf(:A :B))))`
abbrev pub text : List ℕ
text =
    79 ∷ 110 ∷ 116 ∷ 111 ∷ 108 ∷ 111 ∷ 103 ∷ 121 ∷ 40 ∷ 68 ∷ 101 ∷ 99 ∷ 108 ∷ 97 ∷ 114 ∷ 97 ∷ 116 ∷ 105 ∷ 111 ∷ 110 ∷ 40 ∷ 67 ∷ 108 ∷ 97
    ∷ 115 ∷ 115 ∷ 40 ∷ 58 ∷ 65 ∷ 41 ∷ 41 ∷ 68 ∷ 101 ∷ 99 ∷ 108 ∷ 97 ∷ 114 ∷ 97 ∷ 116 ∷ 105 ∷ 111 ∷ 110 ∷ 40 ∷ 67 ∷ 108 ∷ 97 ∷ 115 ∷ 115
    ∷ 40 ∷ 58 ∷ 66 ∷ 41 ∷ 41 ∷ 68 ∷ 101 ∷ 99 ∷ 108 ∷ 97 ∷ 114 ∷ 97 ∷ 116 ∷ 105 ∷ 111 ∷ 110 ∷ 40 ∷ 67 ∷ 108 ∷ 97 ∷ 115 ∷ 115 ∷ 40 ∷ 58
    ∷ 111 ∷ 112 ∷ 101 ∷ 110 ∷ 45 ∷ 88 ∷ 41 ∷ 41 ∷ 68 ∷ 101 ∷ 99 ∷ 108 ∷ 97 ∷ 114 ∷ 97 ∷ 116 ∷ 105 ∷ 111 ∷ 110 ∷ 40 ∷ 79 ∷ 98 ∷ 106 ∷ 101
    ∷ 99 ∷ 116 ∷ 80 ∷ 114 ∷ 111 ∷ 112 ∷ 101 ∷ 114 ∷ 116 ∷ 121 ∷ 40 ∷ 58 ∷ 114 ∷ 41 ∷ 41 ∷ 83 ∷ 117 ∷ 98 ∷ 67 ∷ 108 ∷ 97 ∷ 115 ∷ 115 ∷ 79
    ∷ 102 ∷ 40 ∷ 58 ∷ 111 ∷ 112 ∷ 101 ∷ 110 ∷ 45 ∷ 88 ∷ 32 ∷ 79 ∷ 98 ∷ 106 ∷ 101 ∷ 99 ∷ 116 ∷ 83 ∷ 111 ∷ 109 ∷ 101 ∷ 86 ∷ 97 ∷ 108 ∷ 117
    ∷ 101 ∷ 115 ∷ 70 ∷ 114 ∷ 111 ∷ 109 ∷ 40 ∷ 58 ∷ 114 ∷ 32 ∷ 79 ∷ 98 ∷ 106 ∷ 101 ∷ 99 ∷ 116 ∷ 73 ∷ 110 ∷ 116 ∷ 101 ∷ 114 ∷ 115 ∷ 101 ∷ 99
    ∷ 116 ∷ 105 ∷ 111 ∷ 110 ∷ 79 ∷ 102 ∷ 40 ∷ 58 ∷ 65 ∷ 32 ∷ 58 ∷ 66 ∷ 41 ∷ 41 ∷ 41 ∷ 41 ∷ []

abbrev pub A : Name
A = short (58 ∷ 65 ∷ [])

abbrev pub B : Name
B = short (58 ∷ 66 ∷ [])

abbrev pub r : Name
r = short (58 ∷ 114 ∷ [])

abbrev pub X : Name
X = short (58 ∷ 111 ∷ 112 ∷ 101 ∷ 110 ∷ 45 ∷ 88 ∷ [])

abbrev pub file : File
file =
    record {
      prefixes = [];
      head = no_name;
      items =
          declaration (class A)
          ∷ declaration (class B)
          ∷ declaration (class X)
          ∷ declaration (object_property r)
          ∷ stated (sub_class_of (named X) (some_values_from r (intersection_of (named A) (last (named B)))))
          ∷ [];
    }

pub text_says : Says text file
unfolding Says tokens tokens_from token_at token_of any_of is_among place same_bytes is_plain byte_class betweens between blank run_length shapes shaped shape prefix_word ontology_word declaration_word class_word property_word sub_class_word equivalent_word intersection_word some_values_word keywords word_kind run_kind up_to_close opens_after full_kind full_size mark_kinds kind_of size_of place_at kind_at end_at
text_says = refl

file_known : T (all_known file)
unfolding all_known every_of class_known role_known names_of keep same_bytes begins_with thing_bytes open_bytes axioms_of classes_of properties_of once is_among any_of
file_known = tt

text_declared : undeclared text ≡ length text
text_declared = (undeclared_means text file text_says).1 file_known

abbrev t : Table
t = flat_table file

within : InBounds t
unfolding flat_table table_of rows_all lines_all statements_of name_of constant_number open_number role_number names_of keep same_bytes begins_with thing_bytes open_bytes axioms_of classes_of properties_of once is_among place any_of same_row counts_of every_of
within = record { counts = record { few_roles = omega arith; few_variables = omega arith; few_constants = omega arith; few_restrictions = omega arith; few_atoms = omega arith; few_lines = omega arith; few_role_rows = omega arith }; left = tt }

all_declared : T (declared t)
all_declared = flat_declared (role_order t) (role_order_refl t) (role_order_trans t) file file_known

-- X is variable 0, and the fresh variable is 1; A and B are atoms 0 and 1, and the restriction is atom 2
abbrev pub found : Assignment
found = 4 ∷ 3 ∷ []

outcome_is : (N t ≡ 42) × (outcome (role_order t) t 42 ≡ solved 42 found)
unfolding outcome count examined first_of up_to_first nodes tree_of in_turn ends full dead fails ready settled line_variables chosen induced induced_to set_under conjoin atom_under acyclic reaches path depends set_of holds row_at atoms any_below all_below any_of every_of bit role_order reaches_role same_role flat_table table_of rows_all lines_all statements_of name_of constant_number open_number role_number names_of keep same_bytes begins_with thing_bytes open_bytes axioms_of classes_of properties_of once is_among place same_row
outcome_is = (refl, refl)

pub first_found : FirstSolving t found
unfolding FirstSolving
first_found =
    let w : OutcomeSays (role_order t) t 42 (solved 42 found) = subst (OutcomeSays (role_order t) t 42) outcome_is.1 (outcome_says (role_order t) t all_declared 42) in
    let bool : (m : Assignment) → Solves (role_order t) t m → T (solves (role_order t) t m) = λ m. (solves_means (role_order t) t all_declared m).1 in
    (w.2.0, (solves_means (role_order t) t all_declared found).0 w.2.1, λ m i g l. w.2.2 m i (bool m g) l)

-- `0 42 0`
abbrev first_text : List ℕ
first_text = 48 ∷ 32 ∷ 52 ∷ 50 ∷ 32 ∷ 48 ∷ 10 ∷ []

-- `:open-X: ObjectSomeValuesFrom(:r (:A & :B))`
abbrev line_text : List ℕ
line_text =
    58 ∷ 111 ∷ 112 ∷ 101 ∷ 110 ∷ 45 ∷ 88 ∷ 58 ∷ 32 ∷ 79 ∷ 98 ∷ 106 ∷ 101 ∷ 99 ∷ 116 ∷ 83 ∷ 111 ∷ 109 ∷ 101 ∷ 86 ∷ 97 ∷ 108 ∷ 117 ∷ 101
    ∷ 115 ∷ 70 ∷ 114 ∷ 111 ∷ 109 ∷ 40 ∷ 58 ∷ 114 ∷ 32 ∷ 40 ∷ 58 ∷ 65 ∷ 32 ∷ 38 ∷ 32 ∷ 58 ∷ 66 ∷ 41 ∷ 41 ∷ 10 ∷ []

first_is : read_text (0 ∷ 42 ∷ 0 ∷ []) ≡ first_text
unfolding read_text numbers_text decimal decimal_to joined behind
first_is = refl

lines_are : spelling.named_lines (names_of file.items) t (set_of found) ≡ line_text
unfolding joined behind atoms_in bit row_at atoms spelling.variable_lines spelling.variable_line spelling.set_text spelling.spelt_to spelling.atom_text spelling.row_text spelling.filler_text spelling.variable_text spelling.enclosed spelling.joined_text spelling.some_text spelling.name_of spelling.name_text some_values_word set_of flat_table table_of rows_all lines_all statements_of name_of constant_number open_number role_number names_of keep same_bytes begins_with thing_bytes open_bytes axioms_of classes_of properties_of once is_among any_of place same_row
lines_are = refl

pub text_joined : join_text text ≡ first_text ++ line_text
text_joined =
    join_found text file (omega arith) text_says text_declared within (let e : N t ≡ 42 = outcome_is.0 in omega arith) found first_found
    ∙ ap₂ (λ (n : ℕ) (l : List ℕ). read_text (0 ∷ n ∷ 0 ∷ []) ++ l) outcome_is.0 lines_are
    ∙ ap (λ (l : List ℕ). l ++ line_text) first_is
