-- Tokens of a text: functions of its bytes and a position.
--
--   byte_class b     == what sort of byte b is (see the list at its definition)
--   blank c l       == how many bytes of blanks and comments stand at the front of l; c is 1 inside a comment, else 0
--   run_length l     == how many bytes of a run stand at the front of l: neither blank nor `(` `)` `=` `<` `>` `#` `"`
--   shape m w       == what the run w is, from m on: a word, a prefix name, a name or neither
--   keywords        == the listed words
--   opens_after l    == the first token of l is `(`
--   word_kind, run_kind, kind_of, size_of == the kind and length of the token at the front of a list that begins with one
--   place_at s at    == the byte where the next token after byte `at` begins; the length of s if there is none
--   kind_at s at     == its kind
--   end_at s at      == the byte after it
--
-- Kinds: 0 the end; 1 `(`; 2 `)`; 3 `=`; 4 to 12 the listed words, in the order of `keywords`; 13 a short name; 14 a full name, `<` to `>`;
-- 15 a prefix name; 16 a word that is not listed, before `(`; 17 anything else.
use Rattle.std.specs.Prelude.{Bool, true, false, ◌&&◌, ◌||◌, List, [], ◌∷◌, ℕ, suc, ◌+◌, ◌*◌, eqb, leb, ltb, length, get_or, take, drop}
use Rattle.owl.specs.Once.{is_among, place}
use Rattle.owl.specs.Naming.{same_bytes}

-- 0 letters, digits and bytes from 128; 1 `_`; 2 `-` and `.`; 3 `:`; 4 the other bytes of a run;
-- 5 space and tab; 6 line feed and carriage return; 7 `#`; 8 `(`; 9 `)`; 10 `=`; 11 `<`; 12 `>`; 13 `"`
unfoldable pub is_plain : ℕ → Bool
is_plain b = (leb 48 b && leb b 57) || ((leb 65 b && leb b 90) || ((leb 97 b && leb b 122) || leb 128 b))

unfoldable pub byte_class : ℕ → ℕ
byte_class b =
    elim (is_plain b) [
      | true ↦ 0
      | false ↦
          elim (eqb b 95) [
            | true ↦ 1
            | false ↦
                elim (eqb b 45 || eqb b 46) [
                  | true ↦ 2
                  | false ↦
                      elim (eqb b 58) [
                        | true ↦ 3
                        | false ↦
                            elim (eqb b 32 || eqb b 9) [
                              | true ↦ 5
                              | false ↦
                                  elim (eqb b 10 || eqb b 13) [
                                    | true ↦ 6
                                    | false ↦
                                        elim (eqb b 35) [
                                          | true ↦ 7
                                          | false ↦
                                              elim (eqb b 40) [
                                                | true ↦ 8
                                                | false ↦
                                                    elim (eqb b 41) [
                                                      | true ↦ 9
                                                      | false ↦
                                                          elim (eqb b 61) [
                                                            | true ↦ 10
                                                            | false ↦
                                                                elim (eqb b 60) [
                                                                  | true ↦ 11
                                                                  | false ↦
                                                                      elim (eqb b 62) [
                                                                        | true ↦ 12
                                                                        | false ↦
                                                                            elim (eqb b 34) [ true ↦ 13 | false ↦ 4 ]
                                                                      ]
                                                                ]
                                                          ]
                                                    ]
                                              ]
                                        ]
                                  ]
                            ]
                      ]
                ]
          ]
    ]

----------------------------------------------------------------------------------------------------
-- Blanks and comments

-- "`#` outside `<…>` up to LF or CR": 0 after the byte we are between tokens, 1 in a comment, 2 a token begins with it
unfoldable pub betweens : List ℕ
betweens =
    --  0   _   -   :   odd sp  nl  #   (   )   =   <   >   "
    2 ∷ 2 ∷ 2 ∷ 2 ∷ 2 ∷ 0 ∷ 0 ∷ 1 ∷ 2 ∷ 2 ∷ 2 ∷ 2 ∷ 2 ∷ 2 ∷  -- between tokens
    1 ∷ 1 ∷ 1 ∷ 1 ∷ 1 ∷ 1 ∷ 0 ∷ 1 ∷ 1 ∷ 1 ∷ 1 ∷ 1 ∷ 1 ∷ 1 ∷  -- in a comment
    []

unfoldable pub between : ℕ → ℕ → ℕ
between c b = get_or betweens (c * 14 + byte_class b) 0

unfoldable pub blank : ℕ → List ℕ → ℕ
blank c [] = 0
blank c (b ∷ l) = elim (eqb (between c b) 2) [ true ↦ 0 | false ↦ suc (blank (between c b) l) ]

----------------------------------------------------------------------------------------------------
-- Runs

-- "a maximal run of bytes that are neither whitespace nor delimiter nor `#` nor `"`"
unfoldable pub run_length : List ℕ → ℕ
run_length [] = 0
run_length (b ∷ l) = elim (ltb (byte_class b) 5) [ true ↦ suc (run_length l) | false ↦ 0 ]

-- 0 nothing yet; 1 `_` alone; 2 a word; 3 a prefix name, which ends in its first colon; 4 a short name; 5 none of these
unfoldable pub shapes : List ℕ
shapes =
    --  0   _   -.  :   odd
    2 ∷ 1 ∷ 2 ∷ 3 ∷ 5 ∷  -- nothing yet
    2 ∷ 2 ∷ 2 ∷ 5 ∷ 5 ∷  -- `_`
    2 ∷ 2 ∷ 2 ∷ 3 ∷ 5 ∷  -- a word
    4 ∷ 4 ∷ 5 ∷ 4 ∷ 5 ∷  -- a prefix name: the local part begins, and not with `-` or `.`
    4 ∷ 4 ∷ 4 ∷ 4 ∷ 5 ∷  -- a short name
    5 ∷ 5 ∷ 5 ∷ 5 ∷ 5 ∷  -- none of these
    []

unfoldable pub shaped : ℕ → ℕ → ℕ
shaped m b = get_or shapes (m * 5 + byte_class b) 5

unfoldable pub shape : ℕ → List ℕ → ℕ
shape m [] = m
shape m (b ∷ w) = shape (shaped m b) w

-- `Prefix`
unfoldable pub prefix_word : List ℕ
prefix_word = 80 ∷ 114 ∷ 101 ∷ 102 ∷ 105 ∷ 120 ∷ []

-- `Ontology`
unfoldable pub ontology_word : List ℕ
ontology_word = 79 ∷ 110 ∷ 116 ∷ 111 ∷ 108 ∷ 111 ∷ 103 ∷ 121 ∷ []

-- `Declaration`
unfoldable pub declaration_word : List ℕ
declaration_word = 68 ∷ 101 ∷ 99 ∷ 108 ∷ 97 ∷ 114 ∷ 97 ∷ 116 ∷ 105 ∷ 111 ∷ 110 ∷ []

-- `Class`
unfoldable pub class_word : List ℕ
class_word = 67 ∷ 108 ∷ 97 ∷ 115 ∷ 115 ∷ []

-- `ObjectProperty`
unfoldable pub property_word : List ℕ
property_word = 79 ∷ 98 ∷ 106 ∷ 101 ∷ 99 ∷ 116 ∷ 80 ∷ 114 ∷ 111 ∷ 112 ∷ 101 ∷ 114 ∷ 116 ∷ 121 ∷ []

-- `SubClassOf`
unfoldable pub sub_class_word : List ℕ
sub_class_word = 83 ∷ 117 ∷ 98 ∷ 67 ∷ 108 ∷ 97 ∷ 115 ∷ 115 ∷ 79 ∷ 102 ∷ []

-- `EquivalentClasses`
unfoldable pub equivalent_word : List ℕ
equivalent_word = 69 ∷ 113 ∷ 117 ∷ 105 ∷ 118 ∷ 97 ∷ 108 ∷ 101 ∷ 110 ∷ 116 ∷ 67 ∷ 108 ∷ 97 ∷ 115 ∷ 115 ∷ 101 ∷ 115 ∷ []

-- `ObjectIntersectionOf`
unfoldable pub intersection_word : List ℕ
intersection_word = 79 ∷ 98 ∷ 106 ∷ 101 ∷ 99 ∷ 116 ∷ 73 ∷ 110 ∷ 116 ∷ 101 ∷ 114 ∷ 115 ∷ 101 ∷ 99 ∷ 116 ∷ 105 ∷ 111 ∷ 110 ∷ 79 ∷ 102 ∷ []

-- `ObjectSomeValuesFrom`
unfoldable pub some_values_word : List ℕ
some_values_word = 79 ∷ 98 ∷ 106 ∷ 101 ∷ 99 ∷ 116 ∷ 83 ∷ 111 ∷ 109 ∷ 101 ∷ 86 ∷ 97 ∷ 108 ∷ 117 ∷ 101 ∷ 115 ∷ 70 ∷ 114 ∷ 111 ∷ 109 ∷ []

unfoldable pub keywords : List (List ℕ)
keywords = prefix_word ∷ ontology_word ∷ declaration_word ∷ class_word ∷ property_word ∷ sub_class_word ∷ equivalent_word ∷ intersection_word ∷ some_values_word ∷ []

-- a word that is not listed is told by what follows it
unfoldable pub word_kind : List ℕ → Bool → ℕ
word_kind w opened = elim (is_among same_bytes w keywords) [ true ↦ 4 + place same_bytes w keywords | false ↦ elim opened [ true ↦ 16 | false ↦ 17 ] ]

unfoldable pub run_kind : List ℕ → Bool → ℕ
run_kind w opened =
    elim (eqb (shape 0 w) 3) [
      | true ↦ 15
      | false ↦
          elim (eqb (shape 0 w) 4) [
            | true ↦ 13
            | false ↦
                elim (eqb (shape 0 w) 5) [ true ↦ 17 | false ↦ word_kind w opened ]
          ]
    ]

----------------------------------------------------------------------------------------------------
-- One token

-- how many bytes stand before the first `>`
unfoldable pub up_to_close : List ℕ → ℕ
up_to_close [] = 0
up_to_close (b ∷ l) = elim (eqb b 62) [ true ↦ 0 | false ↦ suc (up_to_close l) ]

unfoldable pub opens_after : List ℕ → Bool
opens_after l = eqb (get_or l (blank 0 l) 0) 40

-- an unclosed `<` is a token of its own, of kind 17
unfoldable pub full_kind : List ℕ → ℕ
full_kind l = elim (ltb (up_to_close l) (length l)) [ true ↦ 14 | false ↦ 17 ]

unfoldable pub full_size : List ℕ → ℕ
full_size l = elim (ltb (up_to_close l) (length l)) [ true ↦ up_to_close l + 2 | false ↦ 1 ]

-- the kinds of the tokens of one byte, by class
unfoldable pub mark_kinds : List ℕ
mark_kinds = 17 ∷ 17 ∷ 17 ∷ 17 ∷ 17 ∷ 17 ∷ 17 ∷ 17 ∷ 1 ∷ 2 ∷ 3 ∷ 17 ∷ 17 ∷ 17 ∷ []

unfoldable pub kind_of : List ℕ → ℕ
kind_of [] = 0
kind_of (b ∷ l) =
    elim (ltb (byte_class b) 5) [
      | true ↦ run_kind (take (run_length (b ∷ l)) (b ∷ l)) (opens_after (drop (run_length (b ∷ l)) (b ∷ l)))
      | false ↦ elim (eqb (byte_class b) 11) [ true ↦ full_kind l | false ↦ get_or mark_kinds (byte_class b) 17 ]
    ]

unfoldable pub size_of : List ℕ → ℕ
size_of [] = 0
size_of (b ∷ l) = elim (ltb (byte_class b) 5) [ true ↦ run_length (b ∷ l) | false ↦ elim (eqb (byte_class b) 11) [ true ↦ full_size l | false ↦ 1 ] ]

unfoldable pub place_at : List ℕ → ℕ → ℕ
place_at s at = at + blank 0 (drop at s)

unfoldable pub kind_at : List ℕ → ℕ → ℕ
kind_at s at = kind_of (drop (place_at s at) s)

unfoldable pub end_at : List ℕ → ℕ → ℕ
end_at s at = place_at s at + size_of (drop (place_at s at) s)
