-- The table of a file: its rows, its fresh variables and its lines.
--
--   Concept              == a class expression whose names are numbered; an intersection of more than two is one of two, to the right
--   concept_of d C        == the class expression C, numbered by d
--   own C                == 1 if C as a filler becomes a fresh variable, else 0
--   fresh C              == how many fresh variables C makes
--   filler_of n C         == C as a filler, where n is the next fresh variable
--   rows_of n C           == the rows of C in the order of writing
--   conjuncts rows n C   == the entries of C: intersections spread out, owl:Thing dropped
--   lines_of ls rs        == a line for each right entry
--   both_ways ls rs       == the lines of ls below rs, then of rs below ls
--   equations rows n C   == the equivalences of C's fresh variables and their fillers
--   fresh_of, rows_in, lines_in, equations_in == the same for an axiom
--   each_of g n As        == g over the axioms As, n rising by each one's fresh variables
--   flat_table f          == THE TABLE of the file f
--
-- n is the number that the next fresh variable gets: an argument, so that each function goes by the tree alone.
use Rattle.std.specs.Prelude.{Bool, true, false, ◌&&◌, List, [], ◌∷◌, ◌++◌, ℕ, ◌+◌, eqb, length}
use Rattle.el.specs.Table.{Filler, top_f, constant_f, variable_f, Entry, constant, restriction, variable, Row, Line, Table}
use Rattle.owl.specs.Once.{place, once}
use Rattle.owl.specs.Tree.{Name, Class, named, intersection_of, some_values_from, Classes, last, more, Axiom, sub_class_of, equivalent_classes, File, axioms_of}
use Rattle.owl.specs.Naming.{is_thing, is_open, Names, names_of, constant_number, open_number, role_number}

pub data Concept : Type 0 where
  top_c : Concept
  constant_c variable_c : ℕ → Concept
  both_c : Concept → Concept → Concept
  some_c : ℕ → Concept → Concept

unfoldable pub name_of : Names → Name → Concept
name_of d n = elim (is_thing n) [ true ↦ top_c | false ↦ elim (is_open n) [ true ↦ variable_c (open_number d n) | false ↦ constant_c (constant_number d n) ] ]

abbrev mutual
  pub concept_of : Names → Class → Concept
  concept_of d (named n) = name_of d n
  concept_of d (intersection_of C Cs) = both_c (concept_of d C) (concepts_of d Cs)
  concept_of d (some_values_from r C) = some_c (role_number d r) (concept_of d C)

  pub concepts_of : Names → Classes → Concept
  concepts_of d (last C) = concept_of d C
  concepts_of d (more C Cs) = both_c (concept_of d C) (concepts_of d Cs)

-- an axiom, numbered
pub record Statement : Type 0 where
  pub less : Concept
  pub greater : Concept
  pub mutually : Bool

abbrev pub statement_of : Names → Axiom → Statement
statement_of d (sub_class_of C D) = record { less = concept_of d C; greater = concept_of d D; mutually = false }
statement_of d (equivalent_classes C D) = record { less = concept_of d C; greater = concept_of d D; mutually = true }

unfoldable pub statements_of : Names → List Axiom → List Statement
statements_of d [] = []
statements_of d (A ∷ As) = statement_of d A ∷ statements_of d As

----------------------------------------------------------------------------------------------------
-- Fresh variables and rows

-- "A filler that is an intersection or restriction becomes its own fresh variable"
abbrev pub own : Concept → ℕ
own top_c = 0
own (constant_c k) = 0
own (variable_c x) = 0
own (both_c C D) = 1
own (some_c r C) = 1

abbrev pub fresh : Concept → ℕ
fresh top_c = 0
fresh (constant_c k) = 0
fresh (variable_c x) = 0
fresh (both_c C D) = fresh C + fresh D
fresh (some_c r C) = own C + fresh C

abbrev pub filler_of : ℕ → Concept → Filler
filler_of n top_c = top_f
filler_of n (constant_c k) = constant_f k
filler_of n (variable_c x) = variable_f x
filler_of n (both_c C D) = variable_f n
filler_of n (some_c r C) = variable_f n

abbrev pub row_of : ℕ → Filler → Row
row_of r f = record { role = r; filler = f }

-- "numbered in text order": an outer filler before an inner one; "rows by first writing"
abbrev pub rows_of : ℕ → Concept → List Row
rows_of n top_c = []
rows_of n (constant_c k) = []
rows_of n (variable_c x) = []
rows_of n (both_c C D) = rows_of n C ++ rows_of (n + fresh C) D
rows_of n (some_c r C) = row_of r (filler_of n C) ∷ rows_of (n + own C) C

abbrev pub same_filler : Filler → Filler → Bool
same_filler top_f top_f = true
same_filler top_f (constant_f j) = false
same_filler top_f (variable_f j) = false
same_filler (constant_f k) top_f = false
same_filler (constant_f k) (constant_f j) = eqb k j
same_filler (constant_f k) (variable_f j) = false
same_filler (variable_f k) top_f = false
same_filler (variable_f k) (constant_f j) = false
same_filler (variable_f k) (variable_f j) = eqb k j

-- "equal ones once"
unfoldable pub same_row : Row → Row → Bool
same_row a b = eqb a.role b.role && same_filler a.filler b.filler

----------------------------------------------------------------------------------------------------
-- Lines

-- "Inner intersections are spread out and owl:Thing in them dropped"
abbrev pub conjuncts : List Row → ℕ → Concept → List Entry
conjuncts rows n top_c = []
conjuncts rows n (constant_c k) = constant k ∷ []
conjuncts rows n (variable_c x) = variable x ∷ []
conjuncts rows n (both_c C D) = conjuncts rows n C ++ conjuncts rows (n + fresh C) D
conjuncts rows n (some_c r C) = restriction (place same_row (row_of r (filler_of n C)) rows) ∷ []

-- "each right conjunct but owl:Thing makes a line"
abbrev pub lines_of : List Entry → List Entry → List Line
lines_of ls [] = []
lines_of ls (e ∷ es) = record { left = ls; right = e } ∷ lines_of ls es

-- "an equivalence puts its first class below its second, then the reverse"
abbrev pub both_ways : List Entry → List Entry → List Line
both_ways ls rs = lines_of ls rs ++ lines_of rs ls

-- "an equivalence of variable and filler"
abbrev pub equation : List Row → ℕ → Concept → List Line
equation rows n top_c = []
equation rows n (constant_c k) = []
equation rows n (variable_c x) = []
equation rows n (both_c C D) = both_ways (variable n ∷ []) (conjuncts rows (n + 1) (both_c C D))
equation rows n (some_c r C) = both_ways (variable n ∷ []) (conjuncts rows (n + 1) (some_c r C))

abbrev pub equations : List Row → ℕ → Concept → List Line
equations rows n top_c = []
equations rows n (constant_c k) = []
equations rows n (variable_c x) = []
equations rows n (both_c C D) = equations rows n C ++ equations rows (n + fresh C) D
equations rows n (some_c r C) = equation rows n C ++ equations rows (n + own C) C

----------------------------------------------------------------------------------------------------
-- Axioms

abbrev pub fresh_of : Statement → ℕ
fresh_of A = fresh A.less + fresh A.greater

abbrev pub rows_in : ℕ → Statement → List Row
rows_in n A = rows_of n A.less ++ rows_of (n + fresh A.less) A.greater

abbrev pub lines_in : List Row → ℕ → Statement → List Line
lines_in rows n A =
    elim A.mutually [
      | true ↦ both_ways (conjuncts rows n A.less) (conjuncts rows (n + fresh A.less) A.greater)
      | false ↦ lines_of (conjuncts rows n A.less) (conjuncts rows (n + fresh A.less) A.greater)
    ]

abbrev pub equations_in : List Row → ℕ → Statement → List Line
equations_in rows n A = equations rows n A.less ++ equations rows (n + fresh A.less) A.greater

abbrev pub each_of : {B : Type 0} → (ℕ → Statement → List B) → ℕ → List Statement → List B
each_of g n [] = []
each_of g n (A ∷ As) = g n A ++ each_of g (n + fresh_of A) As

abbrev pub fresh_all : List Statement → ℕ
fresh_all [] = 0
fresh_all (A ∷ As) = fresh_of A + fresh_all As

unfoldable pub rows_all : ℕ → List Statement → List Row
rows_all v As = once same_row [] (each_of rows_in v As)

-- "an equivalence of variable and filler follows the axioms"
unfoldable pub lines_all : List Row → ℕ → List Statement → List Line
lines_all rows v As = each_of (lines_in rows) v As ++ each_of (equations_in rows) v As

-- the fresh variables are numbered "after the named ones"
unfoldable pub table_of : Names → List Statement → Table
table_of d As = record {
  constants = length d.constants;
  roles = length d.roles;
  variables = length d.opens + fresh_all As;
  role_rows = [];
  rows = rows_all (length d.opens) As;
  lines = lines_all (rows_all (length d.opens) As) (length d.opens) As;
}

unfoldable pub flat_table : File → Table
flat_table f = table_of (names_of f.items) (statements_of (names_of f.items) (axioms_of f.items))
