-- The table of a file whose names are declared names only what it declares.
--
--   concept_within, statements_within == a declared class's numbers are within the counts
--   table_declared                    == then the table is declared
use Rattle.std.specs.Prelude.{Bool, ◌&&◌, ◌||◌, ℕ, ◌+◌, ◌≤◌, ◌<◌, ltb, length}
use Rattle.std.proofs.Math.Bool.{true, false}
use mathlib.Core.List.{List, [], ◌∷◌}
use Rattle.std.proofs.Common.{arith, lt→ltb}
use Rattle.std.proofs.Math.Dec.{T}
use Rattle.el.specs.Test.{every_of}
use Rattle.el.specs.TestLaws.{and_make, and_left, and_right}
use Rattle.el.specs.Table.{Entry, variable, Row, Table, filler_declared, row_declared, entry_declared, line_declared, declared}
use Rattle.el.specs.TableLaws.{all_declared}
use Rattle.owl.specs.Once.{is_among, place}
use Rattle.owl.specs.OnceLaws.{every_join, every_first, every_second, place_lt, once_all, once_every}
use Rattle.owl.specs.Tree.{Name, Class, named, intersection_of, some_values_from, Classes, last, more, Axiom, sub_class_of, equivalent_classes}
use Rattle.owl.specs.Naming.{same_name, is_thing, is_open, Names, constant_number, open_number, role_number, class_known, role_known, all_in, all_of, axiom_known}
use Rattle.owl.specs.Flattening.{Concept, top_c, constant_c, variable_c, both_c, some_c, name_of, concept_of, concepts_of, Statement, statement_of, statements_of, own, fresh, filler_of, row_of, rows_of, same_row, conjuncts, lines_of, both_ways, equation, equations, fresh_of, rows_in, lines_in, equations_in, each_of, fresh_all, rows_all, lines_all, table_of}
use Rattle.owl.specs.FlatLaws.{same_row_refl}
use Rattle.owl.specs.ExtensionLaws.{Within, WithinAll}

----------------------------------------------------------------------------------------------------
-- Numbers of declared names

module _ (d : Names) where
  abbrev In : Concept → Type 0
  In C = Within (length d.constants) (length d.roles) (length d.opens) C

  name_within : (n : Name) → T (class_known d n) → In (name_of d n)
  unfolding class_known name_of open_number constant_number
  name_within n h = go (is_thing n) (is_open n) h
    where
      go : (t o : Bool) → T (t || elim o [ true ↦ is_among same_name n d.opens | false ↦ is_among same_name n d.constants ]) →
          In (elim t [ true ↦ top_c | false ↦ elim o [ true ↦ variable_c (place same_name n d.opens) | false ↦ constant_c (place same_name n d.constants) ] ])
      go true o h = tt
      go false true h = place_lt same_name n d.opens h
      go false false h = place_lt same_name n d.constants h

  role_within : (n : Name) → T (role_known d n) → role_number d n < length d.roles
  unfolding role_known role_number
  role_within n h = place_lt same_name n d.roles h

  mutual
    concept_within : (C : Class) → T (all_in d C) → In (concept_of d C)
    concept_within (named n) h = name_within n h
    concept_within (intersection_of C Cs) h = (concept_within C (and_left (all_in d C) (all_of d Cs) h), concepts_within Cs (and_right (all_in d C) (all_of d Cs) h))
    concept_within (some_values_from r C) h = (role_within r (and_left (role_known d r) (all_in d C) h), concept_within C (and_right (role_known d r) (all_in d C) h))

    concepts_within : (Cs : Classes) → T (all_of d Cs) → In (concepts_of d Cs)
    concepts_within (last C) h = concept_within C h
    concepts_within (more C Cs) h = (concept_within C (and_left (all_in d C) (all_of d Cs) h), concepts_within Cs (and_right (all_in d C) (all_of d Cs) h))

  statement_within : (A : Axiom) → T (axiom_known d A) → In (both_c (statement_of d A).less (statement_of d A).greater)
  statement_within (sub_class_of C D) h = (concept_within C (and_left (all_in d C) (all_in d D) h), concept_within D (and_right (all_in d C) (all_in d D) h))
  statement_within (equivalent_classes C D) h = (concept_within C (and_left (all_in d C) (all_in d D) h), concept_within D (and_right (all_in d C) (all_in d D) h))

  pub statements_within : (As : List Axiom) → T (every_of (axiom_known d) As) → WithinAll (length d.constants) (length d.roles) (length d.opens) (statements_of d As)
  unfolding every_of statements_of
  statements_within [] h = tt
  statements_within (A ∷ As) h = (
    statement_within A (and_left (axiom_known d A) (every_of (axiom_known d) As) h),
    statements_within As (and_right (axiom_known d A) (every_of (axiom_known d) As) h),
  )

----------------------------------------------------------------------------------------------------
-- Rows and lines of a table t with room for v named variables and the fresh ones

module _ (t : Table) (v : ℕ) (room : v ≤ t.variables) where
  abbrev Inside : Concept → Type 0
  Inside C = Within t.constants t.roles v C

  filler_declared_lem : (n : ℕ) (C : Concept) → Inside C → n + own C ≤ t.variables → T (filler_declared t (filler_of n C))
  filler_declared_lem n top_c h l = tt
  filler_declared_lem n (constant_c k) h l = lt→ltb k t.constants h
  filler_declared_lem n (variable_c x) h l = lt→ltb x t.variables (omega arith)
  filler_declared_lem n (both_c C D) h l = lt→ltb n t.variables (omega arith)
  filler_declared_lem n (some_c r C) h l = lt→ltb n t.variables (omega arith)

  rows_declared : (n : ℕ) (C : Concept) → Inside C → n + fresh C ≤ t.variables → T (every_of (row_declared t) (rows_of n C))
  unfolding every_of
  rows_declared n top_c h l = tt
  rows_declared n (constant_c k) h l = tt
  rows_declared n (variable_c x) h l = tt
  rows_declared n (both_c C D) h l =
      every_join (row_declared t) (rows_of n C) (rows_of (n + fresh C) D) (rows_declared n C h.0 (omega arith)) (rows_declared (n + fresh C) D h.1 (omega arith))
  rows_declared n (some_c r C) h l =
      and_make (row_declared t (row_of r (filler_of n C))) (every_of (row_declared t) (rows_of (n + own C) C))
      (and_make (ltb r t.roles) (filler_declared t (filler_of n C)) (lt→ltb r t.roles h.0) (filler_declared_lem n C h.1 (omega arith)))
      (rows_declared (n + own C) C h.1 (omega arith))

  rows_all_declared : (n : ℕ) (As : List Statement) → WithinAll t.constants t.roles v As → n + fresh_all As ≤ t.variables → T (every_of (row_declared t) (each_of rows_in n As))
  unfolding every_of
  rows_all_declared n [] h l = tt
  rows_all_declared n (A ∷ As) h l =
      every_join (row_declared t) (rows_in n A) (each_of rows_in (n + fresh_of A) As) (rows_declared n (both_c A.less A.greater) h.0 (omega arith))
      (rows_all_declared (n + fresh_of A) As h.1 (omega arith))

  -- the rows of C are among the table's
  abbrev Among : ℕ → Concept → Type 0
  Among n C = T (every_of (λ row. is_among same_row row t.rows) (rows_of n C))

  entries_declared : (n : ℕ) (C : Concept) → Inside C → Among n C → T (every_of (entry_declared t) (conjuncts t.rows n C))
  unfolding every_of
  entries_declared n top_c h a = tt
  entries_declared n (constant_c k) h a = and_make (ltb k t.constants) true (lt→ltb k t.constants h) tt
  entries_declared n (variable_c x) h a = and_make (ltb x t.variables) true (lt→ltb x t.variables (omega arith)) tt
  entries_declared n (both_c C D) h a =
      every_join (entry_declared t) (conjuncts t.rows n C) (conjuncts t.rows (n + fresh C) D)
      (entries_declared n C h.0 (every_first (λ row. is_among same_row row t.rows) (rows_of n C) (rows_of (n + fresh C) D) a))
      (entries_declared (n + fresh C) D h.1 (every_second (λ row. is_among same_row row t.rows) (rows_of n C) (rows_of (n + fresh C) D) a))
  entries_declared n (some_c r C) h a =
      let row : Row = row_of r (filler_of n C) in
      let k = place same_row row t.rows in
      let b = and_left (is_among same_row row t.rows) (every_of (λ row. is_among same_row row t.rows) (rows_of (n + own C) C)) a in
      and_make (ltb k (length t.rows)) true (lt→ltb k (length t.rows) (place_lt same_row row t.rows b)) tt

  lines_declared : (ls rs : List Entry) → T (every_of (entry_declared t) ls) → T (every_of (entry_declared t) rs) → T (every_of (line_declared t) (lines_of ls rs))
  unfolding every_of
  lines_declared ls [] h k = tt
  lines_declared ls (e ∷ rs) h k =
      and_make (every_of (entry_declared t) ls && entry_declared t e) (every_of (line_declared t) (lines_of ls rs))
      (and_make (every_of (entry_declared t) ls) (entry_declared t e) h (and_left (entry_declared t e) (every_of (entry_declared t) rs) k))
      (lines_declared ls rs h (and_right (entry_declared t e) (every_of (entry_declared t) rs) k))

  ways_declared : (ls rs : List Entry) → T (every_of (entry_declared t) ls) → T (every_of (entry_declared t) rs) → T (every_of (line_declared t) (both_ways ls rs))
  ways_declared ls rs h k = every_join (line_declared t) (lines_of ls rs) (lines_of rs ls) (lines_declared ls rs h k) (lines_declared rs ls k h)

  variable_declared : (n : ℕ) → n < t.variables → T (every_of (entry_declared t) (variable n ∷ []))
  unfolding every_of
  variable_declared n h = and_make (ltb n t.variables) true (lt→ltb n t.variables h) tt

  equation_declared : (n : ℕ) (C : Concept) → Inside C → Among (n + own C) C → n + own C ≤ t.variables → T (every_of (line_declared t) (equation t.rows n C))
  unfolding every_of
  equation_declared n top_c h a l = tt
  equation_declared n (constant_c k) h a l = tt
  equation_declared n (variable_c x) h a l = tt
  equation_declared n (both_c C D) h a l =
      ways_declared (variable n ∷ []) (conjuncts t.rows (n + 1) (both_c C D)) (variable_declared n (omega arith)) (entries_declared (n + 1) (both_c C D) h a)
  equation_declared n (some_c r C) h a l =
      ways_declared (variable n ∷ []) (conjuncts t.rows (n + 1) (some_c r C)) (variable_declared n (omega arith)) (entries_declared (n + 1) (some_c r C) h a)

  equations_declared : (n : ℕ) (C : Concept) → Inside C → Among n C → n + fresh C ≤ t.variables → T (every_of (line_declared t) (equations t.rows n C))
  unfolding every_of
  equations_declared n top_c h a l = tt
  equations_declared n (constant_c k) h a l = tt
  equations_declared n (variable_c x) h a l = tt
  equations_declared n (both_c C D) h a l =
      every_join (line_declared t) (equations t.rows n C) (equations t.rows (n + fresh C) D)
      (equations_declared n C h.0 (every_first (λ row. is_among same_row row t.rows) (rows_of n C) (rows_of (n + fresh C) D) a) (omega arith))
      (equations_declared (n + fresh C) D h.1 (every_second (λ row. is_among same_row row t.rows) (rows_of n C) (rows_of (n + fresh C) D) a) (omega arith))
  equations_declared n (some_c r C) h a l =
      let b = and_right (is_among same_row (row_of r (filler_of n C)) t.rows) (every_of (λ row. is_among same_row row t.rows) (rows_of (n + own C) C)) a in
      every_join (line_declared t) (equation t.rows n C) (equations t.rows (n + own C) C) (equation_declared n C h.1 b (omega arith))
      (equations_declared (n + own C) C h.1 b (omega arith))

  statement_declared : (n : ℕ) (A : Statement) → Inside (both_c A.less A.greater) → Among n (both_c A.less A.greater) → T (every_of (line_declared t) (lines_in t.rows n A))
  statement_declared n A h a = go A.mutually
    where
      E : List Entry
      E = conjuncts t.rows n A.less

      F : List Entry
      F = conjuncts t.rows (n + fresh A.less) A.greater

      e : T (every_of (entry_declared t) E)
      e = entries_declared n A.less h.0 (every_first (λ row. is_among same_row row t.rows) (rows_of n A.less) (rows_of (n + fresh A.less) A.greater) a)

      f : T (every_of (entry_declared t) F)
      f = entries_declared (n + fresh A.less) A.greater h.1 (every_second (λ row. is_among same_row row t.rows) (rows_of n A.less) (rows_of (n + fresh A.less) A.greater) a)

      go : (b : Bool) → T (every_of (line_declared t) (elim b [ true ↦ both_ways E F | false ↦ lines_of E F ]))
      go true = ways_declared E F e f
      go false = lines_declared E F e f

  abbrev AmongAll : ℕ → List Statement → Type 0
  AmongAll n As = T (every_of (λ row. is_among same_row row t.rows) (each_of rows_in n As))

  all_lines_declared : (n : ℕ) (As : List Statement) → WithinAll t.constants t.roles v As → AmongAll n As → T (every_of (line_declared t) (each_of (lines_in t.rows) n As))
  unfolding every_of
  all_lines_declared n [] h a = tt
  all_lines_declared n (A ∷ As) h a =
      every_join (line_declared t) (lines_in t.rows n A) (each_of (lines_in t.rows) (n + fresh_of A) As)
      (statement_declared n A h.0 (every_first (λ row. is_among same_row row t.rows) (rows_in n A) (each_of rows_in (n + fresh_of A) As) a))
      (all_lines_declared (n + fresh_of A) As h.1 (every_second (λ row. is_among same_row row t.rows) (rows_in n A) (each_of rows_in (n + fresh_of A) As) a))

  all_equations_declared : (n : ℕ) (As : List Statement) → WithinAll t.constants t.roles v As → AmongAll n As → n + fresh_all As ≤ t.variables →
      T (every_of (line_declared t) (each_of (equations_in t.rows) n As))
  unfolding every_of
  all_equations_declared n [] h a l = tt
  all_equations_declared n (A ∷ As) h a l =
      every_join (line_declared t) (equations_in t.rows n A) (each_of (equations_in t.rows) (n + fresh_of A) As)
      (equations_declared n (both_c A.less A.greater) h.0 (every_first (λ row. is_among same_row row t.rows) (rows_in n A) (each_of rows_in (n + fresh_of A) As) a) (omega arith))
      (all_equations_declared (n + fresh_of A) As h.1 (every_second (λ row. is_among same_row row t.rows) (rows_in n A) (each_of rows_in (n + fresh_of A) As) a) (omega arith))

----------------------------------------------------------------------------------------------------
-- The table

-- each row that is written is among the table's
pub rows_among : (v : ℕ) (As : List Statement) → T (every_of (λ row. is_among same_row row (rows_all v As)) (each_of rows_in v As))
unfolding rows_all
rows_among v As = once_all same_row same_row_refl (each_of rows_in v As) []

pub table_declared : (d : Names) (As : List Statement) → WithinAll (length d.constants) (length d.roles) (length d.opens) As → T (declared (table_of d As))
unfolding table_of rows_all lines_all every_of
table_declared d As h =
    let t : Table = table_of d As in
    let v : ℕ = length d.opens in
    let room : v ≤ t.variables = omega arith in
    let all : v + fresh_all As ≤ t.variables = omega arith in
    let among = rows_among v As in
    all_declared t tt (once_every same_row (row_declared t) (each_of rows_in v As) [] tt (rows_all_declared t v room v As h all))
    (every_join (line_declared t) (each_of (lines_in t.rows) v As) (each_of (equations_in t.rows) v As) (all_lines_declared t v room v As h among) (all_equations_declared t v room v As h among all))
