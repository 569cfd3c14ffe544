-- Lines say what the classes say, wherever each fresh variable is worth its filler.
--
--   concept_under σ C       == the concept C with σ carried out
--   Same C D               == two descriptions lie below each other
--   Good δ n C             == δ gives each fresh variable of C, from n on, what its filler is worth under δ itself
--   worth                  == then the entries of C are worth what C is worth
--   equations_to, equations_from == the equations say just that δ is good
--   statement_holds δ A     == δ makes the numbered axiom A hold
--   all_to, all_from       == for all axioms: their lines hold exactly if they do, where δ is good
--   flat_to                == what makes the lines true makes the axioms hold
use Rattle.std.specs.Prelude.{◌≡◌, refl, Bool, true, false, ◌&&◌, ℕ, ◌+◌, T, eqb}
use Rattle.std.proofs.Common.{sym, ap, subst, eqb→eq}
use mathlib.Core.List.{List, [], ◌∷◌, ◌++◌}
use Rattle.std.proofs.Math.Dec.{eqb_refl}
use Rattle.el.specs.Test.{every_of}
use Rattle.el.specs.TestLaws.{and_make, and_left, and_right}
use Rattle.el.specs.Description.{Description, top, name, meet, some, below}
use Rattle.el.proofs.OrderLaws.{below_left, below_right, below_refl, below_trans}
use Rattle.el.specs.Table.{Filler, top_f, constant_f, variable_f, Entry, variable, Row, Line, row_at}
use Rattle.el.specs.Meaning.{Substitution, filler_under, row_under, entry_under, left_under, holds}
use Rattle.owl.specs.Once.{is_among, place}
use Rattle.owl.specs.OnceLaws.{every_join, every_first, every_second, place_at_lem}
use Rattle.owl.specs.Flattening.{Concept, top_c, constant_c, variable_c, both_c, some_c, Statement, own, fresh, filler_of, row_of, rows_of, same_filler, same_row, conjuncts, lines_of, both_ways, equation, equations, fresh_of, rows_in, lines_in, equations_in, each_of, lines_all}

----------------------------------------------------------------------------------------------------
-- Rows are told apart

pub same_filler_refl : (f : Filler) → T (same_filler f f)
same_filler_refl top_f = tt
same_filler_refl (constant_f k) = eqb_refl k
same_filler_refl (variable_f k) = eqb_refl k

same_filler_means : (f g : Filler) → T (same_filler f g) → f ≡ g
same_filler_means top_f top_f t = refl
same_filler_means top_f (constant_f j) t = absurd t
same_filler_means top_f (variable_f j) t = absurd t
same_filler_means (constant_f k) top_f t = absurd t
same_filler_means (constant_f k) (constant_f j) t = ap constant_f (eqb→eq k j t)
same_filler_means (constant_f k) (variable_f j) t = absurd t
same_filler_means (variable_f k) top_f t = absurd t
same_filler_means (variable_f k) (constant_f j) t = absurd t
same_filler_means (variable_f k) (variable_f j) t = ap variable_f (eqb→eq k j t)

pub same_row_refl : (row : Row) → T (same_row row row)
unfolding same_row
same_row_refl row = and_make (eqb row.role row.role) (same_filler row.filler row.filler) (eqb_refl row.role) (same_filler_refl row.filler)

-- the restriction at a row's place is the row's own
placed : (σ : Substitution) (row : Row) (rows : List Row) → T (is_among same_row row rows) → row_under σ (row_at rows (place same_row row rows)) ≡ row_under σ row
unfolding same_row row_at
placed σ row rows h =
    let found : Row = row_at rows (place same_row row rows) in
    let t = place_at_lem same_row row rows (record { role = 0; filler = top_f }) h in
    let e : row.role ≡ found.role = eqb→eq row.role found.role (and_left (eqb row.role found.role) (same_filler row.filler found.filler) t) in
    let f : row.filler ≡ found.filler = same_filler_means row.filler found.filler (and_right (eqb row.role found.role) (same_filler row.filler found.filler) t) in
    subst (λ (r : ℕ). some found.role (filler_under σ found.filler) ≡ some r (filler_under σ row.filler)) (sym e)
    (subst (λ (g : Filler). some found.role (filler_under σ found.filler) ≡ some found.role (filler_under σ g)) (sym f) refl)

----------------------------------------------------------------------------------------------------
-- What a concept and a numbered axiom say

abbrev pub concept_under : Substitution → Concept → Description
concept_under σ top_c = top
concept_under σ (constant_c k) = name k
concept_under σ (variable_c x) = σ x
concept_under σ (both_c C D) = meet (concept_under σ C) (concept_under σ D)
concept_under σ (some_c r C) = some r (concept_under σ C)

abbrev pub one_way : (ℕ → ℕ → Bool) → Substitution → Concept → Concept → Bool
one_way under σ C D = below under (concept_under σ C) (concept_under σ D)

unfoldable pub statement_holds : (ℕ → ℕ → Bool) → Substitution → Statement → Bool
statement_holds under σ A = elim A.mutually [ true ↦ one_way under σ A.less A.greater && one_way under σ A.greater A.less | false ↦ one_way under σ A.less A.greater ]

module _ (under : ℕ → ℕ → Bool) (under_refl : (r : ℕ) → T (under r r)) (under_trans : (r s u : ℕ) → T (under r s) → T (under s u) → T (under r u)) where
  abbrev pub Same : Description → Description → Type 0
  Same C D = T (below under C D) × T (below under D C)

  refl' : (C : Description) → T (below under C C)
  refl' C = below_refl under under_refl C

  trans' : (C D E : Description) → T (below under C D) → T (below under D E) → T (below under C E)
  trans' C D E h k = below_trans under under_trans C D E h k

  pub same_refl : (C : Description) → Same C C
  same_refl C = (refl' C, refl' C)

  same_sym : (C D : Description) → Same C D → Same D C
  same_sym C D h = (h.1, h.0)

  same_trans : (C D E : Description) → Same C D → Same D E → Same C E
  same_trans C D E h k = (trans' C D E h.0 k.0, trans' E D C k.1 h.1)

  meet_mono : (A B C D : Description) → T (below under A C) → T (below under B D) → T (below under (meet A B) (meet C D))
  meet_mono A B C D h k = and_make (below under (meet A B) C) (below under (meet A B) D) (below_left under A B C h) (below_right under A B D k)

  same_meet : (A B C D : Description) → Same A C → Same B D → Same (meet A B) (meet C D)
  same_meet A B C D h k = (meet_mono A B C D h.0 k.0, meet_mono C D A B h.1 k.1)

  -- a conjunction that ends in top
  same_top : (A B : Description) → Same A B → Same (meet A top) B
  same_top A B h = (below_left under A top B h.0, and_make (below under B A) true h.1 tt)

  same_some : (r : ℕ) (A B : Description) → Same A B → Same (some r A) (some r B)
  same_some r A B h = (and_make (under r r) (below under A B) (under_refl r) h.0, and_make (under r r) (below under B A) (under_refl r) h.1)

  -- what equivalent sides say is alike
  across : (A B C D : Description) → Same A C → Same B D → T (below under A B) → T (below under C D)
  across A B C D h k l = trans' C A D h.1 (trans' A B D l k.0)

  module _ (rows : List Row) (δ : Substitution) where
    abbrev Makes : List Line → Type 0
    Makes ls = T (every_of (holds under rows δ) ls)

    abbrev left : List Entry → Description
    left es = left_under rows δ es

    left_join : (es fs : List Entry) → Same (left (es ++ fs)) (meet (left es) (left fs))
    left_join [] fs = (and_make true (below under (left fs) (left fs)) tt (refl' (left fs)), below_right under top (left fs) (left fs) (refl' (left fs)))
    left_join (e ∷ es) fs =
        let E = entry_under rows δ e in
        let C = left es in
        let F = left fs in
        let A = left (es ++ fs) in
        let w = left_join es fs in
        let both = w.0 in (
          and_make (below under (meet E A) (meet E C)) (below under (meet E A) F)
              (meet_mono E A E C (refl' E) (and_left (below under A C) (below under A F) both))
              (below_right under E A F (and_right (below under A C) (below under A F) both)),
          and_make (below under (meet (meet E C) F) E) (below under (meet (meet E C) F) A)
              (below_left under (meet E C) F E (below_left under E C E (refl' E)))
              (trans' (meet (meet E C) F) (meet C F) A (meet_mono (meet E C) F C F (below_right under E C C (refl' C)) (refl' F)) w.1),
        )

    lines_to : (ls rs : List Entry) → Makes (lines_of ls rs) → T (below under (left ls) (left rs))
    unfolding every_of holds
    lines_to ls [] h = tt
    lines_to ls (e ∷ rs) h =
        let a = below under (left ls) (entry_under rows δ e) in
        let rest = every_of (holds under rows δ) (lines_of ls rs) in
        and_make a (below under (left ls) (left rs)) (and_left a rest h) (lines_to ls rs (and_right a rest h))

    lines_from : (ls rs : List Entry) → T (below under (left ls) (left rs)) → Makes (lines_of ls rs)
    unfolding every_of holds
    lines_from ls [] h = tt
    lines_from ls (e ∷ rs) h =
        let a = below under (left ls) (entry_under rows δ e) in
        let rest = below under (left ls) (left rs) in
        and_make a (every_of (holds under rows δ) (lines_of ls rs)) (and_left a rest h) (lines_from ls rs (and_right a rest h))

    ways_to : (ls rs : List Entry) → Makes (both_ways ls rs) → Same (left ls) (left rs)
    ways_to ls rs h = (lines_to ls rs (every_first (holds under rows δ) (lines_of ls rs) (lines_of rs ls) h), lines_to rs ls (every_second (holds under rows δ) (lines_of ls rs) (lines_of rs ls) h))

    ways_from : (ls rs : List Entry) → Same (left ls) (left rs) → Makes (both_ways ls rs)
    ways_from ls rs h = every_join (holds under rows δ) (lines_of ls rs) (lines_of rs ls) (lines_from ls rs h.0) (lines_from rs ls h.1)

    ------------------------------------------------------------------------------------------------
    -- δ gives every fresh variable what its filler is worth

    abbrev pub OwnGood : ℕ → Concept → Type 0
    OwnGood n top_c = Unit {0}
    OwnGood n (constant_c k) = Unit {0}
    OwnGood n (variable_c x) = Unit {0}
    OwnGood n (both_c C D) = Same (δ n) (concept_under δ (both_c C D))
    OwnGood n (some_c r C) = Same (δ n) (concept_under δ (some_c r C))

    abbrev pub Good : ℕ → Concept → Type 0
    Good n top_c = Unit {0}
    Good n (constant_c k) = Unit {0}
    Good n (variable_c x) = Unit {0}
    Good n (both_c C D) = Good n C × Good (n + fresh C) D
    Good n (some_c r C) = OwnGood n C × Good (n + own C) C

    -- the rows of C are among the table's
    abbrev pub Rows : ℕ → Concept → Type 0
    Rows n C = T (every_of (λ row. is_among same_row row rows) (rows_of n C))

    rows_left : (n : ℕ) (C D : Concept) → Rows n (both_c C D) → Rows n C
    rows_left n C D h = every_first (λ row. is_among same_row row rows) (rows_of n C) (rows_of (n + fresh C) D) h

    rows_right : (n : ℕ) (C D : Concept) → Rows n (both_c C D) → Rows (n + fresh C) D
    rows_right n C D h = every_second (λ row. is_among same_row row rows) (rows_of n C) (rows_of (n + fresh C) D) h

    rows_own : (n r : ℕ) (C : Concept) → Rows n (some_c r C) → T (is_among same_row (row_of r (filler_of n C)) rows)
    unfolding every_of
    rows_own n r C h = and_left (is_among same_row (row_of r (filler_of n C)) rows) (every_of (λ row. is_among same_row row rows) (rows_of (n + own C) C)) h

    rows_in_lem : (n r : ℕ) (C : Concept) → Rows n (some_c r C) → Rows (n + own C) C
    unfolding every_of
    rows_in_lem n r C h = and_right (is_among same_row (row_of r (filler_of n C)) rows) (every_of (λ row. is_among same_row row rows) (rows_of (n + own C) C)) h

    filler_worth : (n : ℕ) (C : Concept) → OwnGood n C → Same (filler_under δ (filler_of n C)) (concept_under δ C)
    filler_worth n top_c g = same_refl top
    filler_worth n (constant_c k) g = same_refl (name k)
    filler_worth n (variable_c x) g = same_refl (δ x)
    filler_worth n (both_c C D) g = g
    filler_worth n (some_c r C) g = g

    pub worth : (n : ℕ) (C : Concept) → Rows n C → Good n C → Same (left (conjuncts rows n C)) (concept_under δ C)
    worth n top_c h g = same_refl top
    worth n (constant_c k) h g = same_top (name k) (name k) (same_refl (name k))
    worth n (variable_c x) h g = same_top (δ x) (δ x) (same_refl (δ x))
    worth n (both_c C D) h g =
        let E = conjuncts rows n C in
        let F = conjuncts rows (n + fresh C) D in
        same_trans (left (E ++ F)) (meet (left E) (left F)) (meet (concept_under δ C) (concept_under δ D)) (left_join E F)
        (same_meet (left E) (left F) (concept_under δ C) (concept_under δ D) (worth n C (rows_left n C D h) g.0) (worth (n + fresh C) D (rows_right n C D h) g.1))
    worth n (some_c r C) h g =
        let row : Row = row_of r (filler_of n C) in
        let e = placed δ row rows (rows_own n r C h) in
        same_top (row_under δ (row_at rows (place same_row row rows))) (some r (concept_under δ C))
        (subst (λ (X : Description). Same X (some r (concept_under δ C))) (sym e) (same_some r (filler_under δ (filler_of n C)) (concept_under δ C) (filler_worth n C g.0)))

    ------------------------------------------------------------------------------------------------
    -- The equations say just that

    variable_worth : (n : ℕ) → Same (left (variable n ∷ [])) (δ n)
    variable_worth n = same_top (δ n) (δ n) (same_refl (δ n))

    own_to : (n : ℕ) (C : Concept) → Rows (n + 1) C → Good (n + 1) C → Makes (both_ways (variable n ∷ []) (conjuncts rows (n + 1) C)) → Same (δ n) (concept_under δ C)
    own_to n C h g m =
        let E = left (conjuncts rows (n + 1) C) in
        let W = left (variable n ∷ []) in
        same_trans (δ n) W (concept_under δ C) (same_sym W (δ n) (variable_worth n))
        (same_trans W E (concept_under δ C) (ways_to (variable n ∷ []) (conjuncts rows (n + 1) C) m) (worth (n + 1) C h g))

    own_from : (n : ℕ) (C : Concept) → Rows (n + 1) C → Good (n + 1) C → Same (δ n) (concept_under δ C) → Makes (both_ways (variable n ∷ []) (conjuncts rows (n + 1) C))
    own_from n C h g s =
        let E = left (conjuncts rows (n + 1) C) in
        let W = left (variable n ∷ []) in
        ways_from (variable n ∷ []) (conjuncts rows (n + 1) C)
        (same_trans W (δ n) E (variable_worth n) (same_trans (δ n) (concept_under δ C) E s (same_sym E (concept_under δ C) (worth (n + 1) C h g))))

    equation_to : (n : ℕ) (C : Concept) → Rows (n + own C) C → Good (n + own C) C → Makes (equation rows n C) → OwnGood n C
    equation_to n top_c h g m = tt
    equation_to n (constant_c k) h g m = tt
    equation_to n (variable_c x) h g m = tt
    equation_to n (both_c C D) h g m = own_to n (both_c C D) h g m
    equation_to n (some_c r C) h g m = own_to n (some_c r C) h g m

    equation_from : (n : ℕ) (C : Concept) → Rows (n + own C) C → Good (n + own C) C → OwnGood n C → Makes (equation rows n C)
    unfolding every_of
    equation_from n top_c h g s = tt
    equation_from n (constant_c k) h g s = tt
    equation_from n (variable_c x) h g s = tt
    equation_from n (both_c C D) h g s = own_from n (both_c C D) h g s
    equation_from n (some_c r C) h g s = own_from n (some_c r C) h g s

    equations_to : (n : ℕ) (C : Concept) → Rows n C → Makes (equations rows n C) → Good n C
    equations_to n top_c h m = tt
    equations_to n (constant_c k) h m = tt
    equations_to n (variable_c x) h m = tt
    equations_to n (both_c C D) h m = (
      equations_to n C (rows_left n C D h) (every_first (holds under rows δ) (equations rows n C) (equations rows (n + fresh C) D) m),
      equations_to (n + fresh C) D (rows_right n C D h) (every_second (holds under rows δ) (equations rows n C) (equations rows (n + fresh C) D) m),
    )
    equations_to n (some_c r C) h m =
        let k = rows_in_lem n r C h in
        let g = equations_to (n + own C) C k (every_second (holds under rows δ) (equation rows n C) (equations rows (n + own C) C) m) in
        (equation_to n C k g (every_first (holds under rows δ) (equation rows n C) (equations rows (n + own C) C) m), g)

    equations_from : (n : ℕ) (C : Concept) → Rows n C → Good n C → Makes (equations rows n C)
    unfolding every_of
    equations_from n top_c h g = tt
    equations_from n (constant_c k) h g = tt
    equations_from n (variable_c x) h g = tt
    equations_from n (both_c C D) h g =
        every_join (holds under rows δ) (equations rows n C) (equations rows (n + fresh C) D)
        (equations_from n C (rows_left n C D h) g.0) (equations_from (n + fresh C) D (rows_right n C D h) g.1)
    equations_from n (some_c r C) h g =
        every_join (holds under rows δ) (equation rows n C) (equations rows (n + own C) C)
        (equation_from n C (rows_in_lem n r C h) g.1 g.0) (equations_from (n + own C) C (rows_in_lem n r C h) g.1)

    ------------------------------------------------------------------------------------------------
    -- One axiom

    abbrev pub pair : Statement → Concept
    pair A = both_c A.less A.greater

    below_to : (n m : ℕ) (C D : Concept) → Rows n C → Rows m D → Good n C → Good m D → Makes (lines_of (conjuncts rows n C) (conjuncts rows m D)) → T (one_way under δ C D)
    below_to n m C D h k g f l =
        across (left (conjuncts rows n C)) (left (conjuncts rows m D)) (concept_under δ C) (concept_under δ D) (worth n C h g) (worth m D k f)
        (lines_to (conjuncts rows n C) (conjuncts rows m D) l)

    below_from : (n m : ℕ) (C D : Concept) → Rows n C → Rows m D → Good n C → Good m D → T (one_way under δ C D) → Makes (lines_of (conjuncts rows n C) (conjuncts rows m D))
    below_from n m C D h k g f l =
        let E = left (conjuncts rows n C) in
        let F = left (conjuncts rows m D) in
        lines_from (conjuncts rows n C) (conjuncts rows m D)
        (across (concept_under δ C) (concept_under δ D) E F (same_sym E (concept_under δ C) (worth n C h g)) (same_sym F (concept_under δ D) (worth m D k f)) l)

    statement_to : (n : ℕ) (A : Statement) → Rows n (pair A) → Good n (pair A) → Makes (lines_in rows n A) → T (statement_holds under δ A)
    unfolding statement_holds
    statement_to n A h g m = go A.mutually m
      where
        C : Concept
        C = A.less

        D : Concept
        D = A.greater

        E : List Entry
        E = conjuncts rows n C

        F : List Entry
        F = conjuncts rows (n + fresh C) D

        go : (b : Bool) → Makes (elim b [ true ↦ both_ways E F | false ↦ lines_of E F ]) → T (elim b [ true ↦ one_way under δ C D && one_way under δ D C | false ↦ one_way under δ C D ])
        go true m =
            and_make (one_way under δ C D) (one_way under δ D C)
            (below_to n (n + fresh C) C D (rows_left n C D h) (rows_right n C D h) g.0 g.1 (every_first (holds under rows δ) (lines_of E F) (lines_of F E) m))
            (below_to (n + fresh C) n D C (rows_right n C D h) (rows_left n C D h) g.1 g.0 (every_second (holds under rows δ) (lines_of E F) (lines_of F E) m))
        go false m = below_to n (n + fresh C) C D (rows_left n C D h) (rows_right n C D h) g.0 g.1 m

    statement_from : (n : ℕ) (A : Statement) → Rows n (pair A) → Good n (pair A) → T (statement_holds under δ A) → Makes (lines_in rows n A)
    unfolding statement_holds
    statement_from n A h g m = go A.mutually m
      where
        C : Concept
        C = A.less

        D : Concept
        D = A.greater

        E : List Entry
        E = conjuncts rows n C

        F : List Entry
        F = conjuncts rows (n + fresh C) D

        go : (b : Bool) → T (elim b [ true ↦ one_way under δ C D && one_way under δ D C | false ↦ one_way under δ C D ]) → Makes (elim b [ true ↦ both_ways E F | false ↦ lines_of E F ])
        go true m =
            every_join (holds under rows δ) (lines_of E F) (lines_of F E)
            (below_from n (n + fresh C) C D (rows_left n C D h) (rows_right n C D h) g.0 g.1 (and_left (one_way under δ C D) (one_way under δ D C) m))
            (below_from (n + fresh C) n D C (rows_right n C D h) (rows_left n C D h) g.1 g.0 (and_right (one_way under δ C D) (one_way under δ D C) m))
        go false m = below_from n (n + fresh C) C D (rows_left n C D h) (rows_right n C D h) g.0 g.1 m

    ------------------------------------------------------------------------------------------------
    -- All axioms

    abbrev pub GoodAll : ℕ → List Statement → Type 0
    GoodAll n [] = Unit {0}
    GoodAll n (A ∷ As) = Good n (pair A) × GoodAll (n + fresh_of A) As

    abbrev pub RowsAll : ℕ → List Statement → Type 0
    RowsAll n As = T (every_of (λ row. is_among same_row row rows) (each_of rows_in n As))

    rows_this : (n : ℕ) (A : Statement) (As : List Statement) → RowsAll n (A ∷ As) → Rows n (pair A)
    rows_this n A As h = every_first (λ row. is_among same_row row rows) (rows_in n A) (each_of rows_in (n + fresh_of A) As) h

    rows_rest : (n : ℕ) (A : Statement) (As : List Statement) → RowsAll n (A ∷ As) → RowsAll (n + fresh_of A) As
    rows_rest n A As h = every_second (λ row. is_among same_row row rows) (rows_in n A) (each_of rows_in (n + fresh_of A) As) h

    all_good : (n : ℕ) (As : List Statement) → RowsAll n As → Makes (each_of (equations_in rows) n As) → GoodAll n As
    all_good n [] h m = tt
    all_good n (A ∷ As) h m = (
      equations_to n (pair A) (rows_this n A As h) (every_first (holds under rows δ) (equations_in rows n A) (each_of (equations_in rows) (n + fresh_of A) As) m),
      all_good (n + fresh_of A) As (rows_rest n A As h) (every_second (holds under rows δ) (equations_in rows n A) (each_of (equations_in rows) (n + fresh_of A) As) m),
    )

    pub all_equations : (n : ℕ) (As : List Statement) → RowsAll n As → GoodAll n As → Makes (each_of (equations_in rows) n As)
    unfolding every_of
    all_equations n [] h g = tt
    all_equations n (A ∷ As) h g =
        every_join (holds under rows δ) (equations_in rows n A) (each_of (equations_in rows) (n + fresh_of A) As)
        (equations_from n (pair A) (rows_this n A As h) g.0) (all_equations (n + fresh_of A) As (rows_rest n A As h) g.1)

    all_to : (n : ℕ) (As : List Statement) → RowsAll n As → GoodAll n As → Makes (each_of (lines_in rows) n As) → T (every_of (statement_holds under δ) As)
    unfolding every_of
    all_to n [] h g m = tt
    all_to n (A ∷ As) h g m =
        and_make (statement_holds under δ A) (every_of (statement_holds under δ) As)
        (statement_to n A (rows_this n A As h) g.0 (every_first (holds under rows δ) (lines_in rows n A) (each_of (lines_in rows) (n + fresh_of A) As) m))
        (all_to (n + fresh_of A) As (rows_rest n A As h) g.1 (every_second (holds under rows δ) (lines_in rows n A) (each_of (lines_in rows) (n + fresh_of A) As) m))

    pub all_from : (n : ℕ) (As : List Statement) → RowsAll n As → GoodAll n As → T (every_of (statement_holds under δ) As) → Makes (each_of (lines_in rows) n As)
    unfolding every_of
    all_from n [] h g m = tt
    all_from n (A ∷ As) h g m =
        every_join (holds under rows δ) (lines_in rows n A) (each_of (lines_in rows) (n + fresh_of A) As)
        (statement_from n A (rows_this n A As h) g.0 (and_left (statement_holds under δ A) (every_of (statement_holds under δ) As) m))
        (all_from (n + fresh_of A) As (rows_rest n A As h) g.1 (and_right (statement_holds under δ A) (every_of (statement_holds under δ) As) m))

    pub flat_to : (v : ℕ) (As : List Statement) → RowsAll v As → Makes (lines_all rows v As) → T (every_of (statement_holds under δ) As)
    unfolding lines_all
    flat_to v As h m =
        let first = every_first (holds under rows δ) (each_of (lines_in rows) v As) (each_of (equations_in rows) v As) m in
        let second = every_second (holds under rows δ) (each_of (lines_in rows) v As) (each_of (equations_in rows) v As) m in
        all_to v As h (all_good v As h second) first
