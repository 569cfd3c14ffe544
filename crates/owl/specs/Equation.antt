-- The fillers that are no names, read off tokens in the order of the text: each has its own fresh variable.
--
--   Owned            == the number of such a filler among them, and its conjuncts
--   owned_at q n t ts == that of a role, the token t before the tokens ts, if it has one; q is what a name there does, n the number of the next one
--   owned_by q n ts   == those of the tokens ts
--   equation_of d v rows x == the equivalence of its fresh variable and its conjuncts
--   equations_for d v rows l == those of all of l
use Rattle.std.specs.Prelude.{true, false, ◌&&◌, List, [], ◌∷◌, ◌++◌, map, ℕ, ◌+◌, eqb}
use Rattle.el.specs.Table.{variable, Row, Line}
use Rattle.owl.specs.Naming.{Names}
use Rattle.owl.specs.Written.{Token, kind}
use Rattle.owl.specs.Grammar.{is_name}
use Rattle.owl.specs.Mention.{sort_after}
use Rattle.owl.specs.Flattening.{both_ways}
use Rattle.owl.specs.Said.{own_of}
use Rattle.owl.specs.Conjunct.{Conjunct, is_zero, number_after, conjuncts_in, entry_for}

pub record Owned : Type 0 where
  pub number : ℕ
  pub conjuncts : List Conjunct

abbrev pub owned : ℕ → List Conjunct → Owned
owned n l = record { number = n; conjuncts = l }

-- "A filler that is an intersection or restriction becomes its own fresh variable"; the fillers inside it come behind it
unfoldable pub owned_at : ℕ → ℕ → Token → List Token → List Owned
owned_at q n t ts = elim (is_name (kind t) && eqb q 4) [ true ↦ elim (is_zero (own_of ts)) [ true ↦ [] | false ↦ owned n (conjuncts_in (n + 1) ts) ∷ [] ] | false ↦ [] ]

unfoldable pub owned_by : ℕ → ℕ → List Token → List Owned
owned_by q n [] = []
owned_by q n (t ∷ ts) = owned_at q n t ts ++ owned_by (sort_after q (kind t)) (number_after q n (kind t) ts) ts

-- "an equivalence of variable and filler"; the fresh variables are numbered "after the named ones"
abbrev pub equation_of : Names → ℕ → List Row → Owned → List Line
equation_of d v rows x = both_ways (variable (v + x.number) ∷ []) (map (entry_for d v rows) x.conjuncts)

abbrev pub equations_for : Names → ℕ → List Row → List Owned → List Line
equations_for d v rows [] = []
equations_for d v rows (x ∷ l) = equation_of d v rows x ++ equations_for d v rows l
