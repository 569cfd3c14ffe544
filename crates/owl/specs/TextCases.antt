-- Texts with known verdicts, under one statement: the definitions are computed.
--
--   Case       == a text and its verdict
--   cases      == the texts
--   cases_hold == the verdict on each is the one beside it
use Rattle.std.specs.Prelude.{Bool, ◌&&◌, List, [], ◌∷◌, ℕ, T, eqb}
use Rattle.el.specs.Test.{any_of, every_of}
use Rattle.owl.specs.Once.{is_among, place}
use Rattle.owl.specs.Naming.{same_bytes}
use Rattle.owl.specs.Token.{is_plain, byte_class, betweens, between, blank, run_length, shapes, shaped, shape, prefix_word, ontology_word, declaration_word, class_word, property_word, sub_class_word, equivalent_word, intersection_word, some_values_word, keywords, word_kind, run_kind, up_to_close, opens_after, full_kind, full_size, mark_kinds, kind_of, size_of, place_at, kind_at, end_at}
use Rattle.owl.specs.Grammar.{insides, inside, is_name, begins_class, begins_item, unlisted, takes, takes_or, takes_more, expect, may_end, check, checked}

record Case : Type 0 where
  text : List ℕ
  number : ℕ
  place : ℕ

abbrev case : List ℕ → ℕ → ℕ → Case
case s n p = record { text = s; number = n; place = p }

abbrev cases : List Case
cases =
    case [] 10 0  -- no token at all:
    ∷ case (35 ∷ 32 ∷ 40 ∷ 111 ∷ 110 ∷ 108 ∷ 121 ∷ 32 ∷ 34 ∷ 97 ∷ 32 ∷ 60 ∷ 99 ∷ 111 ∷ 109 ∷ 109 ∷ 101 ∷ 110 ∷ 116 ∷ []) 10 19  -- a comment alone: # (only "a <comment
    ∷ case (79 ∷ 110 ∷ 116 ∷ 111 ∷ 108 ∷ 111 ∷ 103 ∷ 121 ∷ 40 ∷ 41 ∷ []) 0 0  -- an empty ontology: Ontology()
    ∷ case (80 ∷ 114 ∷ 101 ∷ 102 ∷ 105 ∷ 120 ∷ 32 ∷ 40 ∷ 32 ∷ 58 ∷ 32 ∷ 61 ∷ 32 ∷ 60 ∷ 117 ∷ 35 ∷ 40 ∷ 62 ∷ 32 ∷ 41 ∷ 32 ∷ 35 ∷ 32 ∷ 40 ∷ 34 ∷ 60 ∷ 13 ∷ 79 ∷ 110 ∷ 116 ∷ 111 ∷ 108 ∷ 111 ∷ 103 ∷ 121 ∷ 32 ∷ 40 ∷ 32 ∷ 41 ∷ []) 0 0  -- blanks between all tokens, `#` and `(` in a name, a comment that a carriage return ends: Prefix ( : = <u#(> ) # ("<\rOntology ( )
    ∷ case (79 ∷ 110 ∷ 116 ∷ 111 ∷ 108 ∷ 111 ∷ 103 ∷ 121 ∷ 40 ∷ 60 ∷ 97 ∷ 62 ∷ 32 ∷ 60 ∷ 98 ∷ 62 ∷ 41 ∷ []) 0 0  -- two names of the ontology: Ontology(<a> <b>)
    ∷ case (79 ∷ 110 ∷ 116 ∷ 111 ∷ 108 ∷ 111 ∷ 103 ∷ 121 ∷ 40 ∷ 60 ∷ 97 ∷ 62 ∷ 32 ∷ 60 ∷ 98 ∷ 62 ∷ 32 ∷ 60 ∷ 99 ∷ 62 ∷ 41 ∷ []) 10 17  -- three names of the ontology: Ontology(<a> <b> <c>)
    ∷ case (80 ∷ 114 ∷ 101 ∷ 102 ∷ 105 ∷ 120 ∷ 40 ∷ 58 ∷ 61 ∷ 60 ∷ 117 ∷ 62 ∷ 41 ∷ []) 10 13  -- Prefix lines alone: Prefix(:=<u>)
    ∷ case (79 ∷ 110 ∷ 116 ∷ 111 ∷ 108 ∷ 111 ∷ 103 ∷ 121 ∷ 40 ∷ 83 ∷ 117 ∷ 98 ∷ 67 ∷ 108 ∷ 97 ∷ 115 ∷ 115 ∷ 79 ∷ 102 ∷ 40 ∷ 65 ∷ 32 ∷ 66 ∷ 41 ∷ 41 ∷ []) 10 20  -- a word that is no name: Ontology(SubClassOf(A B))
    ∷ case (79 ∷ 110 ∷ 116 ∷ 111 ∷ 108 ∷ 111 ∷ 103 ∷ 121 ∷ 40 ∷ 83 ∷ 117 ∷ 98 ∷ 67 ∷ 108 ∷ 97 ∷ 115 ∷ 115 ∷ 79 ∷ 102 ∷ 40 ∷ 58 ∷ 65 ∷ 32 ∷ 79 ∷ 98 ∷ 106 ∷ 101 ∷ 99 ∷ 116 ∷ 85 ∷ 110 ∷ 105 ∷ 111 ∷ 110 ∷ 79 ∷ 102 ∷ 40 ∷ 58 ∷ 66 ∷ 32 ∷ 58 ∷ 67 ∷ 41 ∷ 41 ∷ 41 ∷ []) 11 23  -- a constructor not listed: Ontology(SubClassOf(:A ObjectUnionOf(:B :C)))
    ∷ case (79 ∷ 110 ∷ 116 ∷ 111 ∷ 108 ∷ 111 ∷ 103 ∷ 121 ∷ 40 ∷ 68 ∷ 105 ∷ 115 ∷ 106 ∷ 111 ∷ 105 ∷ 110 ∷ 116 ∷ 67 ∷ 108 ∷ 97 ∷ 115 ∷ 115 ∷ 101 ∷ 115 ∷ 40 ∷ 58 ∷ 65 ∷ 32 ∷ 58 ∷ 66 ∷ 41 ∷ 41 ∷ []) 11 9  -- an axiom not listed: Ontology(DisjointClasses(:A :B))
    ∷ case (79 ∷ 110 ∷ 116 ∷ 111 ∷ 108 ∷ 111 ∷ 103 ∷ 121 ∷ 40 ∷ 115 ∷ 117 ∷ 98 ∷ 99 ∷ 108 ∷ 97 ∷ 115 ∷ 115 ∷ 111 ∷ 102 ∷ 40 ∷ 58 ∷ 65 ∷ 32 ∷ 58 ∷ 66 ∷ 41 ∷ 41 ∷ []) 11 9  -- another case of a listed word: Ontology(subclassof(:A :B))
    ∷ case (79 ∷ 110 ∷ 116 ∷ 111 ∷ 108 ∷ 111 ∷ 103 ∷ 121 ∷ 40 ∷ 73 ∷ 109 ∷ 112 ∷ 111 ∷ 114 ∷ 116 ∷ 40 ∷ 60 ∷ 120 ∷ 62 ∷ 41 ∷ 41 ∷ []) 11 9  -- an import: Ontology(Import(<x>))
    ∷ case (79 ∷ 110 ∷ 116 ∷ 111 ∷ 108 ∷ 111 ∷ 103 ∷ 121 ∷ 40 ∷ 83 ∷ 117 ∷ 98 ∷ 67 ∷ 108 ∷ 97 ∷ 115 ∷ 115 ∷ 79 ∷ 102 ∷ 40 ∷ 65 ∷ 110 ∷ 110 ∷ 111 ∷ 116 ∷ 97 ∷ 116 ∷ 105 ∷ 111 ∷ 110 ∷ 40 ∷ 58 ∷ 97 ∷ 32 ∷ 34 ∷ 120 ∷ 34 ∷ 41 ∷ 32 ∷ 58 ∷ 65 ∷ 32 ∷ 58 ∷ 66 ∷ 41 ∷ 41 ∷ []) 11 20  -- an annotation: Ontology(SubClassOf(Annotation(:a "x") :A :B))
    ∷ case (79 ∷ 110 ∷ 116 ∷ 111 ∷ 108 ∷ 111 ∷ 103 ∷ 121 ∷ 40 ∷ 83 ∷ 117 ∷ 98 ∷ 67 ∷ 108 ∷ 97 ∷ 115 ∷ 115 ∷ 79 ∷ 102 ∷ 40 ∷ 79 ∷ 98 ∷ 106 ∷ 101 ∷ 99 ∷ 116 ∷ 83 ∷ 111 ∷ 109 ∷ 101 ∷ 86 ∷ 97 ∷ 108 ∷ 117 ∷ 101 ∷ 115 ∷ 70 ∷ 114 ∷ 111 ∷ 109 ∷ 40 ∷ 79 ∷ 98 ∷ 106 ∷ 101 ∷ 99 ∷ 116 ∷ 73 ∷ 110 ∷ 118 ∷ 101 ∷ 114 ∷ 115 ∷ 101 ∷ 79 ∷ 102 ∷ 40 ∷ 58 ∷ 114 ∷ 41 ∷ 32 ∷ 58 ∷ 65 ∷ 41 ∷ 32 ∷ 58 ∷ 66 ∷ 41 ∷ 41 ∷ []) 11 41  -- a property expression not listed: Ontology(SubClassOf(ObjectSomeValuesFrom(ObjectInverseOf(:r) :A) :B))
    ∷ case (79 ∷ 110 ∷ 116 ∷ 111 ∷ 108 ∷ 111 ∷ 103 ∷ 121 ∷ 40 ∷ 69 ∷ 113 ∷ 117 ∷ 105 ∷ 118 ∷ 97 ∷ 108 ∷ 101 ∷ 110 ∷ 116 ∷ 67 ∷ 108 ∷ 97 ∷ 115 ∷ 115 ∷ 101 ∷ 115 ∷ 40 ∷ 58 ∷ 65 ∷ 32 ∷ 58 ∷ 66 ∷ 32 ∷ 58 ∷ 67 ∷ 41 ∷ 41 ∷ []) 11 33  -- a third operand: Ontology(EquivalentClasses(:A :B :C))
    ∷ case (79 ∷ 110 ∷ 116 ∷ 111 ∷ 108 ∷ 111 ∷ 103 ∷ 121 ∷ 40 ∷ 69 ∷ 113 ∷ 117 ∷ 105 ∷ 118 ∷ 97 ∷ 108 ∷ 101 ∷ 110 ∷ 116 ∷ 67 ∷ 108 ∷ 97 ∷ 115 ∷ 115 ∷ 101 ∷ 115 ∷ 40 ∷ 58 ∷ 65 ∷ 41 ∷ 41 ∷ []) 10 29  -- a second operand is missing: Ontology(EquivalentClasses(:A))
    ∷ case (79 ∷ 110 ∷ 116 ∷ 111 ∷ 108 ∷ 111 ∷ 103 ∷ 121 ∷ 40 ∷ 83 ∷ 117 ∷ 98 ∷ 67 ∷ 108 ∷ 97 ∷ 115 ∷ 115 ∷ 79 ∷ 102 ∷ 40 ∷ 58 ∷ 65 ∷ 32 ∷ 79 ∷ 98 ∷ 106 ∷ 101 ∷ 99 ∷ 116 ∷ 73 ∷ 110 ∷ 116 ∷ 101 ∷ 114 ∷ 115 ∷ 101 ∷ 99 ∷ 116 ∷ 105 ∷ 111 ∷ 110 ∷ 79 ∷ 102 ∷ 40 ∷ 58 ∷ 66 ∷ 41 ∷ 41 ∷ 41 ∷ []) 10 46  -- an intersection of one operand: Ontology(SubClassOf(:A ObjectIntersectionOf(:B)))
    ∷ case (79 ∷ 110 ∷ 116 ∷ 111 ∷ 108 ∷ 111 ∷ 103 ∷ 121 ∷ 40 ∷ 68 ∷ 101 ∷ 99 ∷ 108 ∷ 97 ∷ 114 ∷ 97 ∷ 116 ∷ 105 ∷ 111 ∷ 110 ∷ 40 ∷ 78 ∷ 97 ∷ 109 ∷ 101 ∷ 100 ∷ 73 ∷ 110 ∷ 100 ∷ 105 ∷ 118 ∷ 105 ∷ 100 ∷ 117 ∷ 97 ∷ 108 ∷ 40 ∷ 58 ∷ 105 ∷ 41 ∷ 41 ∷ 41 ∷ []) 11 21  -- a declaration of another thing: Ontology(Declaration(NamedIndividual(:i)))
    ∷ case (79 ∷ 110 ∷ 116 ∷ 111 ∷ 108 ∷ 111 ∷ 103 ∷ 121 ∷ 40 ∷ 79 ∷ 98 ∷ 106 ∷ 101 ∷ 99 ∷ 116 ∷ 73 ∷ 110 ∷ 116 ∷ 101 ∷ 114 ∷ 115 ∷ 101 ∷ 99 ∷ 116 ∷ 105 ∷ 111 ∷ 110 ∷ 79 ∷ 102 ∷ 40 ∷ 58 ∷ 65 ∷ 32 ∷ 58 ∷ 66 ∷ 41 ∷ 41 ∷ []) 10 9  -- a listed word in a wrong place: Ontology(ObjectIntersectionOf(:A :B))
    ∷ case (79 ∷ 110 ∷ 116 ∷ 111 ∷ 108 ∷ 111 ∷ 103 ∷ 121 ∷ 40 ∷ 83 ∷ 117 ∷ 98 ∷ 67 ∷ 108 ∷ 97 ∷ 115 ∷ 115 ∷ 79 ∷ 102 ∷ 40 ∷ 58 ∷ 65 ∷ 32 ∷ 58 ∷ 66 ∷ 41 ∷ []) 10 26  -- the last `)` is missing: Ontology(SubClassOf(:A :B)
    ∷ case (79 ∷ 110 ∷ 116 ∷ 111 ∷ 108 ∷ 111 ∷ 103 ∷ 121 ∷ 40 ∷ 41 ∷ 32 ∷ 79 ∷ 110 ∷ 116 ∷ 111 ∷ 108 ∷ 111 ∷ 103 ∷ 121 ∷ 40 ∷ 41 ∷ []) 10 11  -- a second ontology: Ontology() Ontology()
    ∷ case (79 ∷ 110 ∷ 116 ∷ 111 ∷ 108 ∷ 111 ∷ 103 ∷ 121 ∷ 40 ∷ 41 ∷ 41 ∷ []) 10 10  -- one `)` too many: Ontology())
    ∷ case (79 ∷ 110 ∷ 116 ∷ 111 ∷ 108 ∷ 111 ∷ 103 ∷ 121 ∷ 40 ∷ 83 ∷ 117 ∷ 98 ∷ 67 ∷ 108 ∷ 97 ∷ 115 ∷ 115 ∷ 79 ∷ 102 ∷ 40 ∷ 58 ∷ 65 ∷ 32 ∷ 95 ∷ 58 ∷ 120 ∷ 41 ∷ 41 ∷ []) 10 23  -- a blank node: Ontology(SubClassOf(:A _:x))
    ∷ case (79 ∷ 110 ∷ 116 ∷ 111 ∷ 108 ∷ 111 ∷ 103 ∷ 121 ∷ 40 ∷ 83 ∷ 117 ∷ 98 ∷ 67 ∷ 108 ∷ 97 ∷ 115 ∷ 115 ∷ 79 ∷ 102 ∷ 40 ∷ 58 ∷ 65 ∷ 32 ∷ 58 ∷ 45 ∷ 98 ∷ 41 ∷ 41 ∷ []) 10 23  -- a local part that begins with `-`: Ontology(SubClassOf(:A :-b))
    ∷ case (79 ∷ 110 ∷ 116 ∷ 111 ∷ 108 ∷ 111 ∷ 103 ∷ 121 ∷ 40 ∷ 83 ∷ 117 ∷ 98 ∷ 67 ∷ 108 ∷ 97 ∷ 115 ∷ 115 ∷ 79 ∷ 102 ∷ 40 ∷ 58 ∷ 65 ∷ 32 ∷ 111 ∷ 119 ∷ 108 ∷ 58 ∷ 41 ∷ 41 ∷ []) 10 23  -- a prefix name for a name: Ontology(SubClassOf(:A owl:))
    ∷ case (79 ∷ 110 ∷ 116 ∷ 111 ∷ 108 ∷ 111 ∷ 103 ∷ 121 ∷ 40 ∷ 83 ∷ 117 ∷ 98 ∷ 67 ∷ 108 ∷ 97 ∷ 115 ∷ 115 ∷ 79 ∷ 102 ∷ 40 ∷ 58 ∷ 66 ∷ 35 ∷ 120 ∷ 10 ∷ 32 ∷ 58 ∷ 97 ∷ 58 ∷ 98 ∷ 46 ∷ 41 ∷ 41 ∷ []) 0 0  -- a comment behind a name: Ontology(SubClassOf(:B#x\n :a:b.))
    ∷ case (79 ∷ 110 ∷ 116 ∷ 111 ∷ 108 ∷ 111 ∷ 103 ∷ 121 ∷ 40 ∷ 83 ∷ 117 ∷ 98 ∷ 67 ∷ 108 ∷ 97 ∷ 115 ∷ 115 ∷ 79 ∷ 102 ∷ 40 ∷ 60 ∷ 117 ∷ 35 ∷ 65 ∷ 62 ∷ 58 ∷ 101 ∷ 110 ∷ 100 ∷ 115 ∷ 46 ∷ 41 ∷ 68 ∷ 101 ∷ 99 ∷ 108 ∷ 97 ∷ 114 ∷ 97 ∷ 116 ∷ 105 ∷ 111 ∷ 110 ∷ 40 ∷ 67 ∷ 108 ∷ 97 ∷ 115 ∷ 115 ∷ 40 ∷ 58 ∷ 101 ∷ 110 ∷ 100 ∷ 115 ∷ 46 ∷ 41 ∷ 41 ∷ 41 ∷ []) 0 0  -- delimiters without blanks, declarations behind their use: Ontology(SubClassOf(<u#A>:ends.)Declaration(Class(:ends.)))
    ∷ case (79 ∷ 110 ∷ 116 ∷ 111 ∷ 108 ∷ 111 ∷ 103 ∷ 121 ∷ 40 ∷ 83 ∷ 117 ∷ 98 ∷ 67 ∷ 108 ∷ 97 ∷ 115 ∷ 115 ∷ 79 ∷ 102 ∷ 40 ∷ 58 ∷ 65 ∷ 32 ∷ 60 ∷ 111 ∷ 112 ∷ 101 ∷ 110 ∷ []) 10 23  -- an unclosed `<`: Ontology(SubClassOf(:A <open
    ∷ case (79 ∷ 110 ∷ 116 ∷ 111 ∷ 108 ∷ 111 ∷ 103 ∷ 121 ∷ 40 ∷ 83 ∷ 117 ∷ 98 ∷ 67 ∷ 108 ∷ 97 ∷ 115 ∷ 115 ∷ 79 ∷ 102 ∷ 40 ∷ 58 ∷ 65 ∷ 32 ∷ 34 ∷ 66 ∷ 34 ∷ 41 ∷ 41 ∷ []) 10 23  -- a quotation mark: Ontology(SubClassOf(:A "B"))
    ∷ case (239 ∷ 187 ∷ 191 ∷ 79 ∷ 110 ∷ 116 ∷ 111 ∷ 108 ∷ 111 ∷ 103 ∷ 121 ∷ 40 ∷ 41 ∷ []) 10 0  -- a byte order mark: (BOM)Ontology()
    ∷ case (12 ∷ 79 ∷ 110 ∷ 116 ∷ 111 ∷ 108 ∷ 111 ∷ 103 ∷ 121 ∷ 40 ∷ 41 ∷ []) 10 0  -- a form feed is no blank: \fOntology()
    ∷ case (79 ∷ 110 ∷ 116 ∷ 111 ∷ 108 ∷ 111 ∷ 103 ∷ 121 ∷ 40 ∷ 69 ∷ 113 ∷ 117 ∷ 105 ∷ 118 ∷ 97 ∷ 108 ∷ 101 ∷ 110 ∷ 116 ∷ 67 ∷ 108 ∷ 97 ∷ 115 ∷ 115 ∷ 101 ∷ 115 ∷ 40 ∷ 58 ∷ 111 ∷ 112 ∷ 101 ∷ 110 ∷ 45 ∷ 88 ∷ 32 ∷ 79 ∷ 98 ∷ 106 ∷ 101 ∷ 99 ∷ 116 ∷ 83 ∷ 111 ∷ 109 ∷ 101 ∷ 86 ∷ 97 ∷ 108 ∷ 117 ∷ 101 ∷ 115 ∷ 70 ∷ 114 ∷ 111 ∷ 109 ∷ 40 ∷ 58 ∷ 114 ∷ 32 ∷ 79 ∷ 98 ∷ 106 ∷ 101 ∷ 99 ∷ 116 ∷ 83 ∷ 111 ∷ 109 ∷ 101 ∷ 86 ∷ 97 ∷ 108 ∷ 117 ∷ 101 ∷ 115 ∷ 70 ∷ 114 ∷ 111 ∷ 109 ∷ 40 ∷ 58 ∷ 114 ∷ 32 ∷ 111 ∷ 119 ∷ 108 ∷ 58 ∷ 84 ∷ 104 ∷ 105 ∷ 110 ∷ 103 ∷ 41 ∷ 41 ∷ 41 ∷ 41 ∷ []) 0 0  -- nested fillers: Ontology(EquivalentClasses(:open-X ObjectSomeValuesFrom(:r ObjectSomeValuesFrom(:r owl:Thing))))
    ∷ []

abbrev passes : Case → Bool
passes c = eqb (checked c.text).number c.number && eqb (checked c.text).place c.place

pub cases_hold : T (every_of passes cases)
unfolding every_of any_of is_among place same_bytes is_plain byte_class betweens between blank run_length shapes shaped shape prefix_word ontology_word declaration_word class_word property_word sub_class_word equivalent_word intersection_word some_values_word keywords word_kind run_kind up_to_close opens_after full_kind full_size mark_kinds kind_of size_of place_at kind_at end_at insides inside is_name begins_class begins_item unlisted takes takes_or takes_more expect may_end check checked
cases_hold = tt
