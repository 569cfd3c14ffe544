-- The machine that reads tokens: what the text still has to bring, and which token spoils it.
--
--   Slot           == what the grammar asks for next: a token, a construct, or a number of constructs
--   inside k       == what follows a token of kind k before what stood behind it: the body of a listed word
--   Move           == on ss, going on with the slots ss; or stop n, refused with the number n
--   expect k ss    == where the slots ss are still to come, a token of kind k does this
--   may_end ss      == the text may end where ss are still to come
--   start          == the slots of a whole file
--   walk ts ss     == the slots still to come after the tokens ts, or the refusal
--   Verdict        == number 0 and place 0; or 10 or 11, and the byte of the token, or the text's length at its end
--   checked s      == the verdict on the text s
--   Begins ts      == some tokens that begin with ts are the written form of a file
use Rattle.std.specs.Prelude.{◌≡◌, Bool, true, false, ◌&&◌, ◌||◌, List, [], ◌∷◌, ◌++◌, ℕ, zero, suc, eqb, length, get_or}
use Rattle.owl.specs.Tree.{File}
use Rattle.owl.specs.Token.{place_at, kind_at, end_at}
use Rattle.owl.specs.Written.{Token, kind, written_file}

pub data Slot : Type 0 where
  left_s right_s equals_s label_s target_s name_s role_s entity_s ontology_s : Slot
  class_s classes_s no_third_s head_s version_s items_s prefixes_s : Slot

unfoldable pub insides : List (List Slot)
insides =
    [] ∷ [] ∷ [] ∷ []  -- the end, `(`, `)`, `=`
    ∷ (left_s ∷ label_s ∷ equals_s ∷ target_s ∷ right_s ∷ [])  -- Prefix
    ∷ (left_s ∷ head_s ∷ items_s ∷ right_s ∷ [])  -- Ontology
    ∷ (left_s ∷ entity_s ∷ right_s ∷ [])  -- Declaration
    ∷ (left_s ∷ name_s ∷ right_s ∷ [])  -- Class
    ∷ (left_s ∷ name_s ∷ right_s ∷ [])  -- ObjectProperty
    ∷ (left_s ∷ class_s ∷ class_s ∷ right_s ∷ [])  -- SubClassOf
    ∷ (left_s ∷ class_s ∷ class_s ∷ no_third_s ∷ right_s ∷ [])  -- EquivalentClasses
    ∷ (left_s ∷ class_s ∷ class_s ∷ classes_s ∷ right_s ∷ [])  -- ObjectIntersectionOf
    ∷ (left_s ∷ role_s ∷ class_s ∷ right_s ∷ [])  -- ObjectSomeValuesFrom
    ∷ []

-- no other kind has a body
unfoldable pub inside : ℕ → List Slot
inside k = get_or insides k []

pub data Move : Type 0 where
  stop : ℕ → Move
  on : List Slot → Move

unfoldable pub is_name : ℕ → Bool
is_name k = eqb k 13 || eqb k 14

unfoldable pub begins_class : ℕ → Bool
begins_class k = is_name k || (eqb k 11 || eqb k 12)

unfoldable pub begins_item : ℕ → Bool
begins_item k = eqb k 6 || (eqb k 9 || eqb k 10)

-- "11 an axiom or constructor not listed": a word before `(` that is not listed, where one may stand
unfoldable pub unlisted : ℕ → ℕ
unlisted k = elim (eqb k 16) [ true ↦ 11 | false ↦ 10 ]

-- one token, else `n`
unfoldable pub takes : Bool → ℕ → List Slot → Move
takes b n ss = elim b [ true ↦ on ss | false ↦ stop n ]

-- one more, else what comes behind
unfoldable pub takes_or : Bool → List Slot → Move → Move
takes_or b ss m = elim b [ true ↦ on ss | false ↦ m ]

-- one more, else 11 for a word that is not listed, else what comes behind
unfoldable pub takes_more : ℕ → Bool → List Slot → Move → Move
takes_more k b ss m = elim b [ true ↦ on ss | false ↦ elim (eqb k 16) [ true ↦ stop 11 | false ↦ m ] ]

unfoldable pub expect : ℕ → List Slot → Move
expect k [] = stop 10
expect k (left_s ∷ ss) = takes (eqb k 1) 10 ss
expect k (right_s ∷ ss) = takes (eqb k 2) 10 ss
expect k (equals_s ∷ ss) = takes (eqb k 3) 10 ss
expect k (label_s ∷ ss) = takes (eqb k 15) 10 ss
expect k (target_s ∷ ss) = takes (eqb k 14) 10 ss
expect k (name_s ∷ ss) = takes (is_name k) 10 ss
expect k (role_s ∷ ss) = takes (is_name k) (unlisted k) ss
expect k (entity_s ∷ ss) = takes (eqb k 7 || eqb k 8) (unlisted k) ss
expect k (ontology_s ∷ ss) = takes (eqb k 5) 10 ss
expect k (class_s ∷ ss) = takes (begins_class k) (unlisted k) ss
expect k (classes_s ∷ ss) = takes_more k (begins_class k) (classes_s ∷ ss) (expect k ss)
expect k (no_third_s ∷ ss) = elim (begins_class k || eqb k 16) [ true ↦ stop 11 | false ↦ expect k ss ]
expect k (head_s ∷ ss) = takes_or (is_name k) (version_s ∷ ss) (expect k ss)
expect k (version_s ∷ ss) = takes_or (is_name k) ss (expect k ss)
expect k (items_s ∷ ss) = takes_more k (begins_item k) (items_s ∷ ss) (expect k ss)
expect k (prefixes_s ∷ ss) = takes_or (eqb k 4) (prefixes_s ∷ ss) (expect k ss)

-- which slots may be left empty
abbrev pub empties : Slot → Bool
empties left_s = false
empties right_s = false
empties equals_s = false
empties label_s = false
empties target_s = false
empties name_s = false
empties role_s = false
empties entity_s = false
empties ontology_s = false
empties class_s = false
empties classes_s = true
empties no_third_s = true
empties head_s = true
empties version_s = true
empties items_s = true
empties prefixes_s = true

unfoldable pub may_end : List Slot → Bool
may_end [] = true
may_end (s ∷ ss) = empties s && may_end ss

abbrev pub start : List Slot
start = prefixes_s ∷ ontology_s ∷ []

----------------------------------------------------------------------------------------------------
-- Over tokens, and over a text

unfoldable pub walk : List Token → List Slot → Move
walk [] ss = on ss
walk (t ∷ ts) ss = elim (expect (kind t) ss) [ stop n ↦ stop n | on us ↦ walk ts (inside (kind t) ++ us) ]

pub record Verdict : Type 0 where
  pub number : ℕ
  pub place : ℕ

abbrev pub verdict : ℕ → ℕ → Verdict
verdict n p = record { number = n; place = p }

-- from byte `at` on; f tokens at most
unfoldable pub check : List ℕ → ℕ → ℕ → List Slot → Verdict
check s zero at ss = verdict 10 at
check s (suc f) at ss =
    elim (eqb (kind_at s at) 0) [
      | true ↦ elim (may_end ss) [ true ↦ verdict 0 0 | false ↦ verdict 10 (length s) ]
      | false ↦ elim (expect (kind_at s at) ss) [ stop n ↦ verdict n (place_at s at) | on us ↦ check s f (end_at s at) (inside (kind_at s at) ++ us) ]
    ]

-- "for every byte string": each token has a byte, so the text's length is enough
unfoldable pub checked : List ℕ → Verdict
checked s = check s (suc (length s)) 0 start

abbrev pub Begins : List Token → Type 0
Begins ts = (us : List Token) × (f : File) × (ts ++ us ≡ written_file f)
