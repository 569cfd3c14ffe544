-- Texts that are accepted, with the byte of the first name that is not declared, under one statement: the definitions are computed.
--
--   Case       == a text, and the byte; its length where every name is declared
--   cases      == the texts
--   cases_hold == the byte of each is the one beside it
use Rattle.std.specs.Prelude.{Bool, ◌&&◌, List, [], ◌∷◌, ℕ, T, eqb}
use Rattle.el.specs.Test.{any_of, every_of}
use Rattle.owl.specs.Once.{is_among, place, once}
use Rattle.owl.specs.Tree.{classes_of, properties_of}
use Rattle.owl.specs.Naming.{same_bytes, begins_with, thing_bytes, open_bytes, keep, names_of, class_known, role_known}
use Rattle.owl.specs.Token.{is_plain, byte_class, betweens, between, blank, run_length, shapes, shaped, shape, prefix_word, ontology_word, declaration_word, class_word, property_word, sub_class_word, equivalent_word, intersection_word, some_values_word, keywords, word_kind, run_kind, up_to_close, opens_after, full_kind, full_size, mark_kinds, kind_of, size_of, place_at, kind_at, end_at}
use Rattle.owl.specs.Grammar.{insides, inside, is_name, begins_class, begins_item, unlisted, takes, takes_or, takes_more, expect, may_end, check, checked}
use Rattle.owl.specs.Mention.{word_sorts, sort_after, name_by, bytes_at, placed_from, placed, mentions_of, declarations, names_in, is_known, first_place, undeclared}

record Case : Type 0 where
  text : List ℕ
  place : ℕ

abbrev case : List ℕ → ℕ → Case
case s p = record { text = s; place = p }

abbrev cases : List Case
cases =
    case (79 ∷ 110 ∷ 116 ∷ 111 ∷ 108 ∷ 111 ∷ 103 ∷ 121 ∷ 40 ∷ 83 ∷ 117 ∷ 98 ∷ 67 ∷ 108 ∷ 97 ∷ 115 ∷ 115 ∷ 79 ∷ 102 ∷ 40 ∷ 58 ∷ 65 ∷ 32 ∷ 58 ∷ 66 ∷ 41 ∷ 68 ∷ 101 ∷ 99 ∷ 108 ∷ 97 ∷ 114 ∷ 97 ∷ 116 ∷ 105 ∷ 111 ∷ 110 ∷ 40 ∷ 67 ∷ 108 ∷ 97 ∷ 115 ∷ 115 ∷ 40 ∷ 58 ∷ 66 ∷ 41 ∷ 41 ∷ 68 ∷ 101 ∷ 99 ∷ 108 ∷ 97 ∷ 114 ∷ 97 ∷ 116 ∷ 105 ∷ 111 ∷ 110 ∷ 40 ∷ 67 ∷ 108 ∷ 97 ∷ 115 ∷ 115 ∷ 40 ∷ 58 ∷ 65 ∷ 41 ∷ 41 ∷ 41 ∷ []) 71  -- declarations behind their use: Ontology(SubClassOf(:A :B)Declaration(Class(:B))Declaration(Class(:A)))
    ∷ case (79 ∷ 110 ∷ 116 ∷ 111 ∷ 108 ∷ 111 ∷ 103 ∷ 121 ∷ 40 ∷ 83 ∷ 117 ∷ 98 ∷ 67 ∷ 108 ∷ 97 ∷ 115 ∷ 115 ∷ 79 ∷ 102 ∷ 40 ∷ 58 ∷ 65 ∷ 32 ∷ 58 ∷ 66 ∷ 41 ∷ 68 ∷ 101 ∷ 99 ∷ 108 ∷ 97 ∷ 114 ∷ 97 ∷ 116 ∷ 105 ∷ 111 ∷ 110 ∷ 40 ∷ 67 ∷ 108 ∷ 97 ∷ 115 ∷ 115 ∷ 40 ∷ 58 ∷ 67 ∷ 41 ∷ 41 ∷ 41 ∷ []) 20  -- the first of two: Ontology(SubClassOf(:A :B)Declaration(Class(:C)))
    ∷ case (79 ∷ 110 ∷ 116 ∷ 111 ∷ 108 ∷ 111 ∷ 103 ∷ 121 ∷ 40 ∷ 68 ∷ 101 ∷ 99 ∷ 108 ∷ 97 ∷ 114 ∷ 97 ∷ 116 ∷ 105 ∷ 111 ∷ 110 ∷ 40 ∷ 79 ∷ 98 ∷ 106 ∷ 101 ∷ 99 ∷ 116 ∷ 80 ∷ 114 ∷ 111 ∷ 112 ∷ 101 ∷ 114 ∷ 116 ∷ 121 ∷ 40 ∷ 58 ∷ 65 ∷ 41 ∷ 41 ∷ 83 ∷ 117 ∷ 98 ∷ 67 ∷ 108 ∷ 97 ∷ 115 ∷ 115 ∷ 79 ∷ 102 ∷ 40 ∷ 111 ∷ 119 ∷ 108 ∷ 58 ∷ 84 ∷ 104 ∷ 105 ∷ 110 ∷ 103 ∷ 32 ∷ 58 ∷ 65 ∷ 41 ∷ 41 ∷ []) 61  -- a class declared as an object property: Ontology(Declaration(ObjectProperty(:A))SubClassOf(owl:Thing :A))
    ∷ case (79 ∷ 110 ∷ 116 ∷ 111 ∷ 108 ∷ 111 ∷ 103 ∷ 121 ∷ 40 ∷ 68 ∷ 101 ∷ 99 ∷ 108 ∷ 97 ∷ 114 ∷ 97 ∷ 116 ∷ 105 ∷ 111 ∷ 110 ∷ 40 ∷ 67 ∷ 108 ∷ 97 ∷ 115 ∷ 115 ∷ 40 ∷ 58 ∷ 114 ∷ 41 ∷ 41 ∷ 83 ∷ 117 ∷ 98 ∷ 67 ∷ 108 ∷ 97 ∷ 115 ∷ 115 ∷ 79 ∷ 102 ∷ 40 ∷ 111 ∷ 119 ∷ 108 ∷ 58 ∷ 84 ∷ 104 ∷ 105 ∷ 110 ∷ 103 ∷ 32 ∷ 79 ∷ 98 ∷ 106 ∷ 101 ∷ 99 ∷ 116 ∷ 83 ∷ 111 ∷ 109 ∷ 101 ∷ 86 ∷ 97 ∷ 108 ∷ 117 ∷ 101 ∷ 115 ∷ 70 ∷ 114 ∷ 111 ∷ 109 ∷ 40 ∷ 58 ∷ 114 ∷ 32 ∷ 58 ∷ 114 ∷ 41 ∷ 41 ∷ 41 ∷ []) 73  -- an object property declared as a class: Ontology(Declaration(Class(:r))SubClassOf(owl:Thing ObjectSomeValuesFrom(:r :r)))
    ∷ case (79 ∷ 110 ∷ 116 ∷ 111 ∷ 108 ∷ 111 ∷ 103 ∷ 121 ∷ 40 ∷ 68 ∷ 101 ∷ 99 ∷ 108 ∷ 97 ∷ 114 ∷ 97 ∷ 116 ∷ 105 ∷ 111 ∷ 110 ∷ 40 ∷ 67 ∷ 108 ∷ 97 ∷ 115 ∷ 115 ∷ 40 ∷ 58 ∷ 114 ∷ 41 ∷ 41 ∷ 68 ∷ 101 ∷ 99 ∷ 108 ∷ 97 ∷ 114 ∷ 97 ∷ 116 ∷ 105 ∷ 111 ∷ 110 ∷ 40 ∷ 79 ∷ 98 ∷ 106 ∷ 101 ∷ 99 ∷ 116 ∷ 80 ∷ 114 ∷ 111 ∷ 112 ∷ 101 ∷ 114 ∷ 116 ∷ 121 ∷ 40 ∷ 58 ∷ 114 ∷ 41 ∷ 41 ∷ 83 ∷ 117 ∷ 98 ∷ 67 ∷ 108 ∷ 97 ∷ 115 ∷ 115 ∷ 79 ∷ 102 ∷ 40 ∷ 111 ∷ 119 ∷ 108 ∷ 58 ∷ 84 ∷ 104 ∷ 105 ∷ 110 ∷ 103 ∷ 32 ∷ 79 ∷ 98 ∷ 106 ∷ 101 ∷ 99 ∷ 116 ∷ 83 ∷ 111 ∷ 109 ∷ 101 ∷ 86 ∷ 97 ∷ 108 ∷ 117 ∷ 101 ∷ 115 ∷ 70 ∷ 114 ∷ 111 ∷ 109 ∷ 40 ∷ 58 ∷ 114 ∷ 32 ∷ 58 ∷ 114 ∷ 41 ∷ 41 ∷ 41 ∷ []) 112  -- a name that is both: Ontology(Declaration(Class(:r))Declaration(ObjectProperty(:r))SubClassOf(owl:Thing ObjectSomeValuesFrom(:r :r)))
    ∷ case (79 ∷ 110 ∷ 116 ∷ 111 ∷ 108 ∷ 111 ∷ 103 ∷ 121 ∷ 40 ∷ 83 ∷ 117 ∷ 98 ∷ 67 ∷ 108 ∷ 97 ∷ 115 ∷ 115 ∷ 79 ∷ 102 ∷ 40 ∷ 111 ∷ 119 ∷ 108 ∷ 58 ∷ 84 ∷ 104 ∷ 105 ∷ 110 ∷ 103 ∷ 32 ∷ 79 ∷ 98 ∷ 106 ∷ 101 ∷ 99 ∷ 116 ∷ 83 ∷ 111 ∷ 109 ∷ 101 ∷ 86 ∷ 97 ∷ 108 ∷ 117 ∷ 101 ∷ 115 ∷ 70 ∷ 114 ∷ 111 ∷ 109 ∷ 40 ∷ 58 ∷ 114 ∷ 32 ∷ 58 ∷ 65 ∷ 41 ∷ 41 ∷ 41 ∷ []) 51  -- an object property before a class: Ontology(SubClassOf(owl:Thing ObjectSomeValuesFrom(:r :A)))
    ∷ case (79 ∷ 110 ∷ 116 ∷ 111 ∷ 108 ∷ 111 ∷ 103 ∷ 121 ∷ 40 ∷ 68 ∷ 101 ∷ 99 ∷ 108 ∷ 97 ∷ 114 ∷ 97 ∷ 116 ∷ 105 ∷ 111 ∷ 110 ∷ 40 ∷ 79 ∷ 98 ∷ 106 ∷ 101 ∷ 99 ∷ 116 ∷ 80 ∷ 114 ∷ 111 ∷ 112 ∷ 101 ∷ 114 ∷ 116 ∷ 121 ∷ 40 ∷ 58 ∷ 114 ∷ 41 ∷ 41 ∷ 68 ∷ 101 ∷ 99 ∷ 108 ∷ 97 ∷ 114 ∷ 97 ∷ 116 ∷ 105 ∷ 111 ∷ 110 ∷ 40 ∷ 67 ∷ 108 ∷ 97 ∷ 115 ∷ 115 ∷ 40 ∷ 58 ∷ 65 ∷ 41 ∷ 41 ∷ 83 ∷ 117 ∷ 98 ∷ 67 ∷ 108 ∷ 97 ∷ 115 ∷ 115 ∷ 79 ∷ 102 ∷ 40 ∷ 79 ∷ 98 ∷ 106 ∷ 101 ∷ 99 ∷ 116 ∷ 73 ∷ 110 ∷ 116 ∷ 101 ∷ 114 ∷ 115 ∷ 101 ∷ 99 ∷ 116 ∷ 105 ∷ 111 ∷ 110 ∷ 79 ∷ 102 ∷ 40 ∷ 79 ∷ 98 ∷ 106 ∷ 101 ∷ 99 ∷ 116 ∷ 83 ∷ 111 ∷ 109 ∷ 101 ∷ 86 ∷ 97 ∷ 108 ∷ 117 ∷ 101 ∷ 115 ∷ 70 ∷ 114 ∷ 111 ∷ 109 ∷ 40 ∷ 58 ∷ 114 ∷ 32 ∷ 58 ∷ 65 ∷ 41 ∷ 32 ∷ 58 ∷ 66 ∷ 41 ∷ 32 ∷ 58 ∷ 65 ∷ 41 ∷ 41 ∷ []) 122  -- a class behind an object property, and one behind a filler: Ontology(Declaration(ObjectProperty(:r))Declaration(Class(:A))SubClassOf(ObjectIntersectionOf(ObjectSomeValuesFrom(:r :A) :B) :A))
    ∷ case (79 ∷ 110 ∷ 116 ∷ 111 ∷ 108 ∷ 111 ∷ 103 ∷ 121 ∷ 40 ∷ 83 ∷ 117 ∷ 98 ∷ 67 ∷ 108 ∷ 97 ∷ 115 ∷ 115 ∷ 79 ∷ 102 ∷ 40 ∷ 111 ∷ 119 ∷ 108 ∷ 58 ∷ 84 ∷ 104 ∷ 105 ∷ 110 ∷ 103 ∷ 32 ∷ 111 ∷ 119 ∷ 108 ∷ 58 ∷ 84 ∷ 104 ∷ 105 ∷ 110 ∷ 103 ∷ 41 ∷ 41 ∷ []) 41  -- owl:Thing needs no declaration as a class: Ontology(SubClassOf(owl:Thing owl:Thing))
    ∷ case (79 ∷ 110 ∷ 116 ∷ 111 ∷ 108 ∷ 111 ∷ 103 ∷ 121 ∷ 40 ∷ 83 ∷ 117 ∷ 98 ∷ 67 ∷ 108 ∷ 97 ∷ 115 ∷ 115 ∷ 79 ∷ 102 ∷ 40 ∷ 111 ∷ 119 ∷ 108 ∷ 58 ∷ 84 ∷ 104 ∷ 105 ∷ 110 ∷ 103 ∷ 32 ∷ 79 ∷ 98 ∷ 106 ∷ 101 ∷ 99 ∷ 116 ∷ 83 ∷ 111 ∷ 109 ∷ 101 ∷ 86 ∷ 97 ∷ 108 ∷ 117 ∷ 101 ∷ 115 ∷ 70 ∷ 114 ∷ 111 ∷ 109 ∷ 40 ∷ 111 ∷ 119 ∷ 108 ∷ 58 ∷ 84 ∷ 104 ∷ 105 ∷ 110 ∷ 103 ∷ 32 ∷ 111 ∷ 119 ∷ 108 ∷ 58 ∷ 84 ∷ 104 ∷ 105 ∷ 110 ∷ 103 ∷ 41 ∷ 41 ∷ 41 ∷ []) 51  -- owl:Thing as an object property: Ontology(SubClassOf(owl:Thing ObjectSomeValuesFrom(owl:Thing owl:Thing)))
    ∷ case (80 ∷ 114 ∷ 101 ∷ 102 ∷ 105 ∷ 120 ∷ 40 ∷ 58 ∷ 61 ∷ 60 ∷ 117 ∷ 62 ∷ 41 ∷ 79 ∷ 110 ∷ 116 ∷ 111 ∷ 108 ∷ 111 ∷ 103 ∷ 121 ∷ 40 ∷ 60 ∷ 97 ∷ 62 ∷ 32 ∷ 58 ∷ 98 ∷ 41 ∷ []) 29  -- the names of the Prefix lines and of the Ontology: Prefix(:=<u>)Ontology(<a> :b)
    ∷ case (79 ∷ 110 ∷ 116 ∷ 111 ∷ 108 ∷ 111 ∷ 103 ∷ 121 ∷ 40 ∷ 68 ∷ 101 ∷ 99 ∷ 108 ∷ 97 ∷ 114 ∷ 97 ∷ 116 ∷ 105 ∷ 111 ∷ 110 ∷ 40 ∷ 67 ∷ 108 ∷ 97 ∷ 115 ∷ 115 ∷ 40 ∷ 58 ∷ 65 ∷ 41 ∷ 41 ∷ 83 ∷ 117 ∷ 98 ∷ 67 ∷ 108 ∷ 97 ∷ 115 ∷ 115 ∷ 79 ∷ 102 ∷ 40 ∷ 60 ∷ 58 ∷ 65 ∷ 62 ∷ 32 ∷ 58 ∷ 65 ∷ 41 ∷ 41 ∷ []) 42  -- two ways to write a name: Ontology(Declaration(Class(:A))SubClassOf(<:A> :A))
    ∷ case (79 ∷ 110 ∷ 116 ∷ 111 ∷ 108 ∷ 111 ∷ 103 ∷ 121 ∷ 40 ∷ 83 ∷ 117 ∷ 98 ∷ 67 ∷ 108 ∷ 97 ∷ 115 ∷ 115 ∷ 79 ∷ 102 ∷ 40 ∷ 58 ∷ 111 ∷ 112 ∷ 101 ∷ 110 ∷ 45 ∷ 88 ∷ 32 ∷ 111 ∷ 119 ∷ 108 ∷ 58 ∷ 84 ∷ 104 ∷ 105 ∷ 110 ∷ 103 ∷ 41 ∷ 68 ∷ 101 ∷ 99 ∷ 108 ∷ 97 ∷ 114 ∷ 97 ∷ 116 ∷ 105 ∷ 111 ∷ 110 ∷ 40 ∷ 67 ∷ 108 ∷ 97 ∷ 115 ∷ 115 ∷ 40 ∷ 58 ∷ 111 ∷ 112 ∷ 101 ∷ 110 ∷ 45 ∷ 89 ∷ 41 ∷ 41 ∷ 41 ∷ []) 20  -- an open name is declared like any other: Ontology(SubClassOf(:open-X owl:Thing)Declaration(Class(:open-Y)))
    ∷ []

abbrev passes : Case → Bool
passes c = eqb (checked c.text).number 0 && eqb (undeclared c.text) c.place

pub cases_hold : T (every_of passes cases)
unfolding every_of any_of is_among place once classes_of properties_of same_bytes begins_with thing_bytes open_bytes keep names_of class_known role_known is_plain byte_class betweens between blank run_length shapes shaped shape prefix_word ontology_word declaration_word class_word property_word sub_class_word equivalent_word intersection_word some_values_word keywords word_kind run_kind up_to_close opens_after full_kind full_size mark_kinds kind_of size_of place_at kind_at end_at insides inside is_name begins_class begins_item unlisted takes takes_or takes_more expect may_end check checked word_sorts sort_after name_by bytes_at placed_from placed mentions_of declarations names_in is_known first_place undeclared
cases_hold = tt
