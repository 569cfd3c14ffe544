-- The conjuncts of a class expression, read off its tokens: intersections are spread out, owl:Thing is dropped.
--
--   Conjunct          == a name of a class, or a restriction
--   is_zero, is_one, less == tests and predecessor of a number
--   class_of m         == the conjunct of a name, none for owl:Thing
--   here, ends_here    == the conjunct that a token brings, and whether the class expression ends with it
--   outer_after, inner_after, number_after == `outer`, `inner` and n behind a token
--   conjuncts_by outer inner q n ts == the conjuncts of a class expression whose tokens from here on are ts, where
--                        `outer` brackets of its intersections and `inner` brackets of one of its restrictions are open,
--                        q is what the next name does, and n is the number of the next filler that is no name
--   conjuncts_in n ts  == the conjuncts of the class expression that begins with ts
--   entry_for d v rows c == a conjunct's entry in a line, where names have their numbers by d, and rows their places in `rows`
use Rattle.std.specs.Prelude.{Bool, true, false, ◌&&◌, not, List, [], ◌∷◌, ◌++◌, ℕ, zero, suc, ◌+◌, eqb}
use Rattle.el.specs.Table.{Entry, constant, restriction, variable, Row}
use Rattle.owl.specs.Once.{place}
use Rattle.owl.specs.Tree.{Name}
use Rattle.owl.specs.Naming.{is_thing, is_open, Names, constant_number, open_number}
use Rattle.owl.specs.Written.{Token, kind}
use Rattle.owl.specs.Grammar.{is_name}
use Rattle.owl.specs.Mention.{sort_after, name_by}
use Rattle.owl.specs.Flattening.{same_row}
use Rattle.owl.specs.Restriction.{Restriction, restricted, row_for}
use Rattle.owl.specs.Said.{bytes_of, part_of, own_of}

pub data Conjunct : Type 0 where
  a_class : Name → Conjunct
  a_restriction : Restriction → Conjunct

abbrev pub is_zero : ℕ → Bool
is_zero zero = true
is_zero (suc n) = false

abbrev pub is_one : ℕ → Bool
is_one zero = false
is_one (suc n) = is_zero n

abbrev pub less : ℕ → ℕ
less zero = zero
less (suc n) = n

unfoldable pub class_of : Name → List Conjunct
class_of m = elim (is_thing m) [ true ↦ [] | false ↦ a_class m ∷ [] ]

-- the rest, where the class expression goes on
abbrev pub onwards : Bool → List Conjunct → List Conjunct
onwards ended l = elim ended [ true ↦ [] | false ↦ l ]

-- "Inner intersections are spread out and owl:Thing in them dropped"; a restriction is one conjunct, told by its role, and what its
-- brackets hold besides is its filler
unfoldable pub here : ℕ → ℕ → ℕ → Token → List Token → List Conjunct
here inner q n t ts =
    elim (is_name (kind t)) [
      | true ↦ elim (eqb q 4) [
        | true ↦ elim (is_one inner) [ true ↦ a_restriction (restricted (name_by (kind t) (bytes_of t)) (part_of n ts)) ∷ [] | false ↦ [] ]
        | false ↦ elim (is_zero inner) [ true ↦ class_of (name_by (kind t) (bytes_of t)) | false ↦ [] ]
      ]
      | false ↦ []
    ]

unfoldable pub ends_here : ℕ → ℕ → ℕ → ℕ → Bool
ends_here outer inner q k =
    elim (is_name k) [
      | true ↦ elim (eqb q 4) [ true ↦ false | false ↦ is_zero inner && is_zero outer ]
      | false ↦ eqb k 2 && elim (is_zero inner) [ true ↦ is_zero (less outer) | false ↦ is_zero (less inner) && is_zero outer ]
    ]

-- the first bracket of a restriction stands before its role
unfoldable pub outer_after : ℕ → ℕ → ℕ → ℕ → ℕ
outer_after outer inner q k =
    elim (eqb k 1) [
      | true ↦ elim (is_zero inner && not (eqb q 4)) [ true ↦ suc outer | false ↦ outer ]
      | false ↦ elim (eqb k 2 && is_zero inner) [ true ↦ less outer | false ↦ outer ]
    ]

unfoldable pub inner_after : ℕ → ℕ → ℕ → ℕ
inner_after inner q k =
    elim (eqb k 1) [
      | true ↦ elim (is_zero inner && not (eqb q 4)) [ true ↦ inner | false ↦ suc inner ]
      | false ↦ elim (eqb k 2) [ true ↦ less inner | false ↦ inner ]
    ]

unfoldable pub number_after : ℕ → ℕ → ℕ → List Token → ℕ
number_after q n k ts = elim (is_name k && eqb q 4) [ true ↦ n + own_of ts | false ↦ n ]

unfoldable pub conjuncts_by : ℕ → ℕ → ℕ → ℕ → List Token → List Conjunct
conjuncts_by outer inner q n [] = []
conjuncts_by outer inner q n (t ∷ ts) =
    here inner q n t ts
    ++ onwards (ends_here outer inner q (kind t))
    (conjuncts_by (outer_after outer inner q (kind t)) (inner_after inner q (kind t)) (sort_after q (kind t)) (number_after q n (kind t) ts) ts)

unfoldable pub conjuncts_in : ℕ → List Token → List Conjunct
conjuncts_in n ts = conjuncts_by 0 0 3 n ts

unfoldable pub name_entry : Names → Name → Entry
name_entry d m = elim (is_open m) [ true ↦ variable (open_number d m) | false ↦ constant (constant_number d m) ]

abbrev pub entry_for : Names → ℕ → List Row → Conjunct → Entry
entry_for d v rows (a_class m) = name_entry d m
entry_for d v rows (a_restriction r) = restriction (place same_row (row_for d v r) rows)
