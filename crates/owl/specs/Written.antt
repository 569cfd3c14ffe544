-- The written form of a file, as tokens.
--
--   Token                 == a mark or a listed word, by its kind; or a name or other run, by its kind and its bytes
--   kind t                == its kind
--   token_at s at          == the next token of the text s after byte `at`
--   tokens_from s f at     == the tokens of s from byte `at` on, f of them at most
--   tokens s              == all of them: each token has a byte, so there are no more than s has bytes
--   places_from s f at     == the bytes where they begin
--   token_place s i        == the byte where token i begins, from 0; the length of s if there is none
--   written C rest        == the class expression C, written before the tokens `rest`
--   written_file f         == the file f, written
--   Says s f              == the text s says the file f
--
-- `written C rest` and the others put the tokens of one construct before `rest`: one line for each construct.
use Rattle.std.specs.Prelude.{◌≡◌, true, false, List, [], ◌∷◌, ℕ, zero, suc, eqb, ltb, length, get_or, take, drop}
use Rattle.owl.specs.Tree.{Name, short, full, Class, named, intersection_of, some_values_from, Classes, last, more, Axiom, sub_class_of, equivalent_classes, Entity, class, object_property, Item, declaration, stated, Head, no_name, one_name, two_names, PrefixLine, File}
use Rattle.owl.specs.Token.{size_of, place_at, kind_at, end_at}

pub data Token : Type 0 where
  sign : ℕ → Token
  text : ℕ → List ℕ → Token

-- kinds 1 to 12 are signs, the others are texts
abbrev pub kind : Token → ℕ
kind (sign k) = elim (ltb k 13) [ true ↦ k | false ↦ 17 ]
kind (text k w) = elim (ltb k 13) [ true ↦ 17 | false ↦ k ]

unfoldable pub token_of : ℕ → List ℕ → Token
token_of k w = elim (ltb k 13) [ true ↦ sign k | false ↦ text k w ]

unfoldable pub token_at : List ℕ → ℕ → Token
token_at s at = token_of (kind_at s at) (take (size_of (drop (place_at s at) s)) (drop (place_at s at) s))

unfoldable pub tokens_from : List ℕ → ℕ → ℕ → List Token
tokens_from s zero at = []
tokens_from s (suc f) at = elim (eqb (kind_at s at) 0) [ true ↦ [] | false ↦ token_at s at ∷ tokens_from s f (end_at s at) ]

unfoldable pub tokens : List ℕ → List Token
tokens s = tokens_from s (suc (length s)) 0

unfoldable pub places_from : List ℕ → ℕ → ℕ → List ℕ
places_from s zero at = []
places_from s (suc f) at = elim (eqb (kind_at s at) 0) [ true ↦ [] | false ↦ place_at s at ∷ places_from s f (end_at s at) ]

unfoldable pub token_place : List ℕ → ℕ → ℕ
token_place s i = get_or (places_from s (suc (length s)) 0) i (length s)

----------------------------------------------------------------------------------------------------
-- Signs and names

abbrev pub ‹left› : Token
‹left› = sign 1

abbrev pub ‹right› : Token
‹right› = sign 2

abbrev pub ‹equals› : Token
‹equals› = sign 3

abbrev pub ‹Prefix› : Token
‹Prefix› = sign 4

abbrev pub ‹Ontology› : Token
‹Ontology› = sign 5

abbrev pub ‹Declaration› : Token
‹Declaration› = sign 6

abbrev pub ‹Class› : Token
‹Class› = sign 7

abbrev pub ‹ObjectProperty› : Token
‹ObjectProperty› = sign 8

abbrev pub ‹SubClassOf› : Token
‹SubClassOf› = sign 9

abbrev pub ‹EquivalentClasses› : Token
‹EquivalentClasses› = sign 10

abbrev pub ‹ObjectIntersectionOf› : Token
‹ObjectIntersectionOf› = sign 11

abbrev pub ‹ObjectSomeValuesFrom› : Token
‹ObjectSomeValuesFrom› = sign 12

abbrev pub ‹name› : Name → Token
‹name› (short w) = text 13 w
‹name› (full w) = text 14 w

----------------------------------------------------------------------------------------------------
-- Each construct

abbrev mutual
  pub written : Class → List Token → List Token
  written (named n) rest = ‹name› n ∷ rest
  written (intersection_of C Cs) rest = ‹ObjectIntersectionOf› ∷ ‹left› ∷ written C (writtens Cs (‹right› ∷ rest))
  written (some_values_from r C) rest = ‹ObjectSomeValuesFrom› ∷ ‹left› ∷ ‹name› r ∷ written C (‹right› ∷ rest)

  pub writtens : Classes → List Token → List Token
  writtens (last C) rest = written C rest
  writtens (more C Cs) rest = written C (writtens Cs rest)

abbrev pub written_axiom : Axiom → List Token → List Token
written_axiom (sub_class_of C D) rest = ‹SubClassOf› ∷ ‹left› ∷ written C (written D (‹right› ∷ rest))
written_axiom (equivalent_classes C D) rest = ‹EquivalentClasses› ∷ ‹left› ∷ written C (written D (‹right› ∷ rest))

abbrev pub written_entity : Entity → List Token → List Token
written_entity (class n) rest = ‹Class› ∷ ‹left› ∷ ‹name› n ∷ ‹right› ∷ rest
written_entity (object_property n) rest = ‹ObjectProperty› ∷ ‹left› ∷ ‹name› n ∷ ‹right› ∷ rest

abbrev pub written_item : Item → List Token → List Token
written_item (declaration e) rest = ‹Declaration› ∷ ‹left› ∷ written_entity e (‹right› ∷ rest)
written_item (stated A) rest = written_axiom A rest

abbrev pub written_items : List Item → List Token → List Token
written_items [] rest = rest
written_items (i ∷ items) rest = written_item i (written_items items rest)

abbrev pub written_head : Head → List Token → List Token
written_head no_name rest = rest
written_head (one_name n) rest = ‹name› n ∷ rest
written_head (two_names n m) rest = ‹name› n ∷ ‹name› m ∷ rest

abbrev pub written_prefixes : List PrefixLine → List Token → List Token
written_prefixes [] rest = rest
written_prefixes (p ∷ ps) rest = ‹Prefix› ∷ ‹left› ∷ text 15 p.label ∷ ‹equals› ∷ text 14 p.target ∷ ‹right› ∷ written_prefixes ps rest

-- "The axioms stand in one Ontology after any Prefix lines, declarations anywhere in it."
abbrev pub written_file : File → List Token
written_file f = written_prefixes f.prefixes (‹Ontology› ∷ ‹left› ∷ written_head f.head (written_items f.items (‹right› ∷ [])))

unfoldable pub Says : List ℕ → File → Type 0
Says s f = tokens s ≡ written_file f
