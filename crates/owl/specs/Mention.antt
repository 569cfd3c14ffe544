-- The names of a text: what each of them does, and the first that is used and not declared.
--
--   word_sorts           == what the first name after a listed word does, by the word's kind
--   sort_after q k       == what the next name does after a token of kind k, where q is what it would have done before that token
--   name_by k w          == the name of kind k with the bytes w
--   bytes_at s at        == the bytes of the next token after byte `at`
--   name_at s at         == the name that this token is
--   Mention             == a name and what it does there
--   Placed              == a mention and the byte where its name begins
--   placed_from s f at q == the mentions of the text s from byte `at` on, where q is what the next name does; f tokens at most
--   placed s            == all of them, in the order of the text
--   mentions_of l        == the mentions of l without their bytes
--   declarations l      == the declarations among them
--   names_in s           == the names that the text s declares
--   is_known d m         == m uses no name, or one of the declared names d
--   first_place p end l  == the byte of the first of l whose mention passes p; `end` if there is none
--   undeclared s        == THE BYTE of the first use of a name that is not declared; the length of s if there is none
--
-- What a name does, its sort: 0 nothing; 1 it declares a class; 2 it declares an object property; 3 it uses a class; 4 it uses an object
-- property. Of a text that is refused the sorts say nothing.
use Rattle.std.specs.Prelude.{Bool, true, false, ◌&&◌, not, List, [], ◌∷◌, ℕ, zero, suc, ◌-◌, eqb, ltb, length, get_or, take, drop}
use Rattle.owl.specs.Tree.{Name, short, full, class, object_property, Item, declaration}
use Rattle.owl.specs.Naming.{Names, names_of, class_known, role_known}
use Rattle.owl.specs.Token.{place_at, kind_at, end_at}
use Rattle.owl.specs.Grammar.{is_name}

----------------------------------------------------------------------------------------------------
-- What a name does

-- the names after `Prefix(` and `Ontology(` are those of no class and no property
unfoldable pub word_sorts : List ℕ
word_sorts =
    0 ∷ 0 ∷ 0 ∷ 0  -- the end, `(`, `)`, `=`
    ∷ 0 ∷ 0 ∷ 0  -- Prefix, Ontology, Declaration
    ∷ 1 ∷ 2  -- Class, ObjectProperty
    ∷ 3 ∷ 3 ∷ 3  -- SubClassOf, EquivalentClasses, ObjectIntersectionOf
    ∷ 4  -- ObjectSomeValuesFrom
    ∷ []

-- a listed word says what the next name does; in ObjectSomeValuesFrom the first name is the property, and behind it stands a class
unfoldable pub sort_after : ℕ → ℕ → ℕ
sort_after q k =
    elim (ltb 3 k && ltb k 13) [
      | true ↦ get_or word_sorts k 0
      | false ↦ elim (is_name k && eqb q 4) [ true ↦ 3 | false ↦ q ]
    ]

----------------------------------------------------------------------------------------------------
-- The names of a text

unfoldable pub name_by : ℕ → List ℕ → Name
name_by k w = elim (eqb k 13) [ true ↦ short w | false ↦ full w ]

unfoldable pub bytes_at : List ℕ → ℕ → List ℕ
bytes_at s at = take (end_at s at - place_at s at) (drop (place_at s at) s)

abbrev pub name_at : List ℕ → ℕ → Name
name_at s at = name_by (kind_at s at) (bytes_at s at)

pub record Mention : Type 0 where
  pub sort : ℕ
  pub name : Name

pub record Placed : Type 0 where
  pub mention : Mention
  pub place : ℕ

abbrev pub mentioned : ℕ → Name → Mention
mentioned q n = record { sort = q; name = n }

abbrev pub placed_at : List ℕ → ℕ → ℕ → Placed
placed_at s at q = record { mention = mentioned q (name_at s at); place = place_at s at }

unfoldable pub placed_from : List ℕ → ℕ → ℕ → ℕ → List Placed
placed_from s zero at q = []
placed_from s (suc f) at q =
    elim (eqb (kind_at s at) 0) [
      | true ↦ []
      | false ↦ elim (is_name (kind_at s at) && ltb 0 q) [
        | true ↦ placed_at s at q ∷ placed_from s f (end_at s at) (sort_after q (kind_at s at))
        | false ↦ placed_from s f (end_at s at) (sort_after q (kind_at s at))
      ]
    ]

unfoldable pub placed : List ℕ → List Placed
placed s = placed_from s (suc (length s)) 0 0

unfoldable pub mentions_of : List Placed → List Mention
mentions_of [] = []
mentions_of (p ∷ l) = p.mention ∷ mentions_of l

----------------------------------------------------------------------------------------------------
-- Declared, and used

abbrev pub declared : Mention → List Item → List Item
declared m items =
    elim (eqb m.sort 1) [
      | true ↦ declaration (class m.name) ∷ items
      | false ↦ elim (eqb m.sort 2) [ true ↦ declaration (object_property m.name) ∷ items | false ↦ items ]
    ]

unfoldable pub declarations : List Mention → List Item
declarations [] = []
declarations (m ∷ l) = declared m (declarations l)

-- "Names are numbered by first declaration, compared as written"; "declarations anywhere in it"
unfoldable pub names_in : List ℕ → Names
names_in s = names_of (declarations (mentions_of (placed s)))

-- "a name not declared"; a class and an object property may have one name
unfoldable pub is_known : Names → Mention → Bool
is_known d m = elim (eqb m.sort 3) [ true ↦ class_known d m.name | false ↦ elim (eqb m.sort 4) [ true ↦ role_known d m.name | false ↦ true ] ]

unfoldable pub first_place : (Mention → Bool) → ℕ → List Placed → ℕ
first_place p end [] = end
first_place p end (x ∷ l) = elim (p x.mention) [ true ↦ x.place | false ↦ first_place p end l ]

-- "11 a name not declared (place: the first one's byte)"
unfoldable pub undeclared : List ℕ → ℕ
undeclared s = first_place (λ m. not (is_known (names_in s) m)) (length s) (placed s)
