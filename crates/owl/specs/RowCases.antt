-- The laws of names and rows at a concrete text: the hypotheses are met, and the rows are computed.
--
--   text          == SubClassOf(:open-X some :r some :s (:A and :B)) SubClassOf(:open-X some :s :A) SubClassOf(some :s :A owl:Thing), with declarations
--   text_says     == it says that file
--   text_declared == every name is declared, by theorem
--   text_rows     == the outer row stands before the inner one, and the row that is written twice stands once
use Rattle.std.specs.Prelude.{◌≡◌, refl, List, [], ◌∷◌, ℕ, T, length}
use Rattle.std.proofs.Common.{◌∙◌}
use Rattle.el.specs.Test.{any_of, every_of}
use Rattle.el.specs.Table.{Filler, constant_f, variable_f, Row}
use Rattle.owl.specs.Once.{is_among, place, once}
use Rattle.owl.specs.Tree.{Name, short, named, intersection_of, some_values_from, last, sub_class_of, class, object_property, declaration, stated, no_name, File, axioms_of, classes_of, properties_of}
use Rattle.owl.specs.Naming.{same_bytes, begins_with, thing_bytes, open_bytes, keep, names_of, constant_number, open_number, role_number, class_known, role_known, all_known}
use Rattle.owl.specs.Token.{is_plain, byte_class, betweens, between, blank, run_length, shapes, shaped, shape, prefix_word, ontology_word, declaration_word, class_word, property_word, sub_class_word, equivalent_word, intersection_word, some_values_word, keywords, word_kind, run_kind, up_to_close, opens_after, full_kind, full_size, mark_kinds, kind_of, size_of, place_at, kind_at, end_at}
use Rattle.owl.specs.Written.{token_of, token_at, tokens_from, tokens, Says}
use Rattle.owl.specs.Grammar.{is_name}
use Rattle.owl.specs.Mention.{word_sorts, sort_after, name_by, bytes_at, undeclared}
use Rattle.owl.specs.UndeclaredLaws.{undeclared_means}
use Rattle.owl.specs.Restriction.{part_at, own_at, standing_from, standing, same_restriction, name_filler, row_for, rows_of_file}
use Rattle.owl.specs.RowLaws.{rows_once}

abbrev pub text : List ℕ
text =
    79 ∷ 110 ∷ 116 ∷ 111 ∷ 108 ∷ 111 ∷ 103 ∷ 121 ∷ 40 ∷ 68 ∷ 101 ∷ 99 ∷ 108 ∷ 97 ∷ 114 ∷ 97 ∷ 116 ∷ 105 ∷ 111 ∷ 110 ∷ 40 ∷ 67 ∷ 108 ∷ 97 ∷ 115 ∷ 115 ∷ 40 ∷ 58 ∷ 65 ∷ 41 ∷ 41 ∷ 68 ∷ 101 ∷ 99 ∷ 108 ∷ 97 ∷ 114 ∷ 97 ∷ 116 ∷ 105 ∷ 111 ∷ 110 ∷ 40 ∷ 67 ∷ 108 ∷ 97 ∷ 115 ∷ 115 ∷ 40 ∷ 58 ∷ 66 ∷ 41 ∷ 41 ∷ 68 ∷ 101 ∷ 99 ∷ 108 ∷ 97 ∷ 114 ∷ 97 ∷ 116 ∷ 105 ∷ 111 ∷ 110 ∷ 40 ∷ 67 ∷ 108 ∷ 97 ∷ 115 ∷ 115 ∷ 40 ∷ 58 ∷ 111 ∷ 112 ∷ 101 ∷ 110 ∷ 45 ∷ 88 ∷ 41 ∷ 41 ∷ 68 ∷ 101 ∷ 99 ∷ 108 ∷ 97 ∷ 114 ∷ 97 ∷ 116 ∷ 105 ∷ 111 ∷ 110 ∷ 40 ∷ 79 ∷ 98 ∷ 106 ∷ 101 ∷ 99 ∷ 116 ∷ 80 ∷ 114 ∷ 111 ∷ 112 ∷ 101 ∷ 114 ∷ 116 ∷ 121 ∷ 40 ∷ 58 ∷ 114 ∷ 41 ∷ 41 ∷ 68 ∷ 101 ∷ 99 ∷ 108 ∷ 97 ∷ 114 ∷ 97 ∷ 116 ∷ 105 ∷ 111 ∷ 110 ∷ 40 ∷ 79 ∷ 98 ∷ 106 ∷ 101 ∷ 99 ∷ 116 ∷ 80 ∷ 114 ∷ 111 ∷ 112 ∷ 101 ∷ 114 ∷ 116 ∷ 121 ∷ 40 ∷ 58 ∷ 115 ∷ 41 ∷ 41 ∷ 83 ∷ 117 ∷ 98 ∷ 67 ∷ 108 ∷ 97 ∷ 115 ∷ 115 ∷ 79 ∷ 102 ∷ 40 ∷ 58 ∷ 111 ∷ 112 ∷ 101 ∷ 110 ∷ 45 ∷ 88 ∷ 32 ∷ 79 ∷ 98 ∷ 106 ∷ 101 ∷ 99 ∷ 116 ∷ 83 ∷ 111 ∷ 109 ∷ 101 ∷ 86 ∷ 97 ∷ 108 ∷ 117 ∷ 101 ∷ 115 ∷ 70 ∷ 114 ∷ 111 ∷ 109 ∷ 40 ∷ 58 ∷ 114 ∷ 32 ∷ 79 ∷ 98 ∷ 106 ∷ 101 ∷ 99 ∷ 116 ∷ 83 ∷ 111 ∷ 109 ∷ 101 ∷ 86 ∷ 97 ∷ 108 ∷ 117 ∷ 101 ∷ 115 ∷ 70 ∷ 114 ∷ 111 ∷ 109 ∷ 40 ∷ 58 ∷ 115 ∷ 32 ∷ 79 ∷ 98 ∷ 106 ∷ 101 ∷ 99 ∷ 116 ∷ 73 ∷ 110 ∷ 116 ∷ 101 ∷ 114 ∷ 115 ∷ 101 ∷ 99 ∷ 116 ∷ 105 ∷ 111 ∷ 110 ∷ 79 ∷ 102 ∷ 40 ∷ 58 ∷ 65 ∷ 32 ∷ 58 ∷ 66 ∷ 41 ∷ 41 ∷ 41 ∷ 41 ∷ 83 ∷ 117 ∷ 98 ∷ 67 ∷ 108 ∷ 97 ∷ 115 ∷ 115 ∷ 79 ∷ 102 ∷ 40 ∷ 58 ∷ 111 ∷ 112 ∷ 101 ∷ 110 ∷ 45 ∷ 88 ∷ 32 ∷ 79 ∷ 98 ∷ 106 ∷ 101 ∷ 99 ∷ 116 ∷ 83 ∷ 111 ∷ 109 ∷ 101 ∷ 86 ∷ 97 ∷ 108 ∷ 117 ∷ 101 ∷ 115 ∷ 70 ∷ 114 ∷ 111 ∷ 109 ∷ 40 ∷ 58 ∷ 115 ∷ 32 ∷ 58 ∷ 65 ∷ 41 ∷ 41 ∷ 83 ∷ 117 ∷ 98 ∷ 67 ∷ 108 ∷ 97 ∷ 115 ∷ 115 ∷ 79 ∷ 102 ∷ 40 ∷ 79 ∷ 98 ∷ 106 ∷ 101 ∷ 99 ∷ 116 ∷ 83 ∷ 111 ∷ 109 ∷ 101 ∷ 86 ∷ 97 ∷ 108 ∷ 117 ∷ 101 ∷ 115 ∷ 70 ∷ 114 ∷ 111 ∷ 109 ∷ 40 ∷ 58 ∷ 115 ∷ 32 ∷ 58 ∷ 65 ∷ 41 ∷ 32 ∷ 111 ∷ 119 ∷ 108 ∷ 58 ∷ 84 ∷ 104 ∷ 105 ∷ 110 ∷ 103 ∷ 41 ∷ 41 ∷ []

abbrev pub A : Name
A = short (58 ∷ 65 ∷ [])

abbrev pub B : Name
B = short (58 ∷ 66 ∷ [])

abbrev pub r : Name
r = short (58 ∷ 114 ∷ [])

abbrev pub s : Name
s = short (58 ∷ 115 ∷ [])

abbrev pub X : Name
X = short (58 ∷ 111 ∷ 112 ∷ 101 ∷ 110 ∷ 45 ∷ 88 ∷ [])

abbrev pub thing : Name
thing = short (111 ∷ 119 ∷ 108 ∷ 58 ∷ 84 ∷ 104 ∷ 105 ∷ 110 ∷ 103 ∷ [])

abbrev pub file : File
file =
    record {
      prefixes = [];
      head = no_name;
      items =
          declaration (class A)
          ∷ declaration (class B)
          ∷ declaration (class X)
          ∷ declaration (object_property r)
          ∷ declaration (object_property s)
          ∷ stated (sub_class_of (named X) (some_values_from r (some_values_from s (intersection_of (named A) (last (named B))))))
          ∷ stated (sub_class_of (named X) (some_values_from s (named A)))
          ∷ stated (sub_class_of (some_values_from s (named A)) (named thing))
          ∷ [];
    }

pub text_says : Says text file
unfolding Says tokens tokens_from token_at token_of any_of is_among place same_bytes is_plain byte_class betweens between blank run_length shapes shaped shape prefix_word ontology_word declaration_word class_word property_word sub_class_word equivalent_word intersection_word some_values_word keywords word_kind run_kind up_to_close opens_after full_kind full_size mark_kinds kind_of size_of place_at kind_at end_at
text_says = refl

file_known : T (all_known file)
unfolding all_known every_of class_known role_known names_of keep same_bytes begins_with thing_bytes open_bytes axioms_of classes_of properties_of once is_among any_of
file_known = tt

pub text_declared : undeclared text ≡ length text
text_declared = (undeclared_means text file text_says).1 file_known

abbrev row : ℕ → Filler → Row
row k f = record { role = k; filler = f }

pub text_rows : rows_of_file file ≡ row 0 (variable_f 1) ∷ row 1 (variable_f 2) ∷ row 1 (constant_f 0) ∷ []
unfolding standing standing_from part_at own_at same_restriction name_filler row_for constant_number open_number role_number names_of keep begins_with thing_bytes open_bytes classes_of properties_of once is_name word_sorts sort_after name_by bytes_at any_of is_among place same_bytes is_plain byte_class betweens between blank run_length shapes shaped shape prefix_word ontology_word declaration_word class_word property_word sub_class_word equivalent_word intersection_word some_values_word keywords word_kind run_kind up_to_close opens_after full_kind full_size mark_kinds kind_of size_of place_at kind_at end_at
text_rows = rows_once text file text_says file_known ∙ refl
