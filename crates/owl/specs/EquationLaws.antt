-- The equivalences of fresh variables and fillers of a file are those of the fillers that are read off its tokens.
--
--   class_equations, axiom_equations == those of a construct, before those of what stands behind it
--   equations_said  == those of items are those of their axioms
use Rattle.std.specs.Prelude.{◌≡◌, ℕ, ◌+◌}
use Rattle.std.proofs.Math.Path.{refl, sym, ap}
use Rattle.std.proofs.Common.{ap₂, ◌∙◌, arith}
use Rattle.std.proofs.Math.Bool.{Bool, true, false}
use mathlib.Core.List.{List, [], ◌∷◌, ◌++◌, append-nil, append_assoc, map}
use Rattle.el.specs.Table.{variable, Row, Line}
use Rattle.owl.specs.Tree.{Name, short, full, Class, named, intersection_of, some_values_from, Classes, last, more, sub_class_of, equivalent_classes, class, object_property, Item, declaration, stated, axioms_of}
use Rattle.owl.specs.Naming.{is_thing, is_open, Names, constant_number, open_number}
use Rattle.owl.specs.Written.{Token, ‹right›, written, writtens, written_items}
use Rattle.owl.specs.Grammar.{is_name}
use Rattle.owl.specs.Mention.{word_sorts, sort_after}
use Rattle.owl.specs.Flattening.{Concept, top_c, constant_c, variable_c, name_of, concept_of, concepts_of, own, fresh, conjuncts, both_ways, equation, equations, Statement, statements_of, equations_in, each_of}
use Rattle.owl.specs.RestrictionLaws.{plus_none, plus_three, name_flat, part_class}
use Rattle.owl.specs.Said.{own_of}
use Rattle.owl.specs.Conjunct.{is_zero, number_after, conjuncts_in, entry_for}
use Rattle.owl.specs.ConjunctLaws.{conjuncts_said}
use Rattle.owl.specs.Equation.{Owned, owned, owned_at, owned_by, equations_for}

module _ (d : Names) (v : ℕ) (rows : List Row) where
  abbrev lines : List Owned → List Line
  lines l = equations_for d v rows l

  lines_more : (l m : List Owned) → lines (l ++ m) ≡ lines l ++ lines m
  lines_more [] m = refl
  lines_more (x ∷ l) m =
      ap (λ (k : List Line). both_ways (variable (v + x.number) ∷ []) (map (entry_for d v rows) x.conjuncts) ++ k) (lines_more l m)
      ∙ sym (append_assoc (both_ways (variable (v + x.number) ∷ []) (map (entry_for d v rows) x.conjuncts)) (lines l) (lines m))

  -- a name has no equivalence
  name_equations : (m : Name) (n : ℕ) → (equation rows n (name_of d m) ≡ []) × (equations rows n (name_of d m) ≡ [])
  unfolding name_of
  name_equations m n = go (is_thing m) (is_open m)
    where
      C : Bool → Bool → Concept
      C a b = elim a [ true ↦ top_c | false ↦ elim b [ true ↦ variable_c (open_number d m) | false ↦ constant_c (constant_number d m) ] ]

      go : (a b : Bool) → (equation rows n (C a b) ≡ []) × (equations rows n (C a b) ≡ [])
      go true b = (refl, refl)
      go false true = (refl, refl)
      go false false = (refl, refl)

  -- a construct's lines, before those of what stands behind it
  abbrev Equations : Concept → ℕ → List Owned → (ℕ → List Owned) → Type 0
  Equations C n l rest = lines l ≡ equations rows (v + n) C ++ lines (rest (n + fresh C))

  name_lines : (m : Name) (n : ℕ) (rest : ℕ → List Owned) → Equations (name_of d m) n (rest n) rest
  name_lines m n rest =
      ap (λ (k : ℕ). lines (rest k)) (plus_none n (fresh (name_of d m)) (name_flat d 0 m 0).1)
      ∙ ap (λ (k : List Line). k ++ lines (rest (n + fresh (name_of d m)))) (sym (name_equations m (v + n)).1)

  both_lines : (C D : Concept) (n : ℕ) (l : List Owned) (middle rest : ℕ → List Owned) → Equations C n l middle → Equations D (n + fresh C) (middle (n + fresh C)) rest →
      lines l ≡ (equations rows (v + n) C ++ equations rows (v + n + fresh C) D) ++ lines (rest (n + (fresh C + fresh D)))
  both_lines C D n l middle rest a b =
      a
      ∙ ap (λ (k : List Line). equations rows (v + n) C ++ k)
      (b ∙ ap₂ (λ (i j : ℕ). equations rows i D ++ lines (rest j)) (sym (plus_three v n (fresh C))) (plus_three n (fresh C) (fresh D)))
      ∙ sym (append_assoc (equations rows (v + n) C) (equations rows (v + n + fresh C) D) (lines (rest (n + (fresh C + fresh D)))))

  -- a filler that is no name
  word_lines : (C : Class) (n : ℕ) (ts : List Token) → lines (owned n (conjuncts_in (n + 1) (written C ts)) ∷ []) ≡ both_ways (variable (v + n) ∷ []) (conjuncts rows (v + n + 1) (concept_of d C))
  word_lines C n ts =
      append-nil (both_ways (variable (v + n) ∷ []) (map (entry_for d v rows) (conjuncts_in (n + 1) (written C ts))))
      ∙ ap (both_ways (variable (v + n) ∷ [])) (conjuncts_said d v rows C (n + 1) ts ∙ ap (λ (k : ℕ). conjuncts rows k (concept_of d C)) (let z : v + (n + 1) ≡ v + n + 1 = omega arith in z))

  abbrev owned_of : ℕ → List Token → List Owned
  owned_of n ts = elim (is_zero (own_of ts)) [ true ↦ [] | false ↦ owned n (conjuncts_in (n + 1) ts) ∷ [] ]

  filler_lines : (C : Class) (n : ℕ) (ts : List Token) → lines (owned_of n (written C ts)) ≡ equation rows (v + n) (concept_of d C)
  unfolding own_of is_name
  filler_lines (named (short w)) n ts = sym (name_equations (short w) (v + n)).0
  filler_lines (named (full w)) n ts = sym (name_equations (full w) (v + n)).0
  filler_lines (intersection_of C Cs) n ts = word_lines (intersection_of C Cs) n ts
  filler_lines (some_values_from r C) n ts = word_lines (some_values_from r C) n ts

  some_lines : (C : Class) (n : ℕ) (inner : ℕ → List Owned) (ts : List Token) (rest : ℕ → List Owned) → ((m : ℕ) → Equations (concept_of d C) m (inner m) rest) →
      lines (owned_of n (written C ts) ++ inner (n + own_of (written C ts)))
      ≡ (equation rows (v + n) (concept_of d C) ++ equations rows (v + n + own (concept_of d C)) (concept_of d C)) ++ lines (rest (n + (own (concept_of d C) + fresh (concept_of d C))))
  some_lines C n inner ts rest h =
      let K : Concept = concept_of d C in
      let p = part_class d v C n ts in
      lines_more (owned_of n (written C ts)) (inner (n + own_of (written C ts)))
      ∙ ap₂ (λ (l : List Line) (k : ℕ). l ++ lines (inner (n + k))) (filler_lines C n ts) p.1
      ∙ ap (λ (l : List Line). equation rows (v + n) K ++ l)
      (h (n + own K) ∙ ap₂ (λ (a b : ℕ). equations rows a K ++ lines (rest b)) (sym (plus_three v n (own K))) (plus_three n (own K) (fresh K)))
      ∙ sym (append_assoc (equation rows (v + n) K) (equations rows (v + n + own K) K) (lines (rest (n + (own K + fresh K)))))

  mutual
    unfolding owned_by owned_at number_after is_name sort_after word_sorts

    class_equations : (C : Class) (n : ℕ) (rest : List Token) → Equations (concept_of d C) n (owned_by 3 n (written C rest)) (λ m. owned_by 3 m rest)
    class_equations (named (short w)) n rest = name_lines (short w) n (λ m. owned_by 3 m rest)
    class_equations (named (full w)) n rest = name_lines (full w) n (λ m. owned_by 3 m rest)
    class_equations (intersection_of C Cs) n rest =
        both_lines (concept_of d C) (concepts_of d Cs) n (owned_by 3 n (written C (writtens Cs (‹right› ∷ rest)))) (λ m. owned_by 3 m (writtens Cs (‹right› ∷ rest))) (λ m. owned_by 3 m rest)
        (class_equations C n (writtens Cs (‹right› ∷ rest))) (classes_equations Cs (n + fresh (concept_of d C)) (‹right› ∷ rest))
    class_equations (some_values_from (short w) C) n rest =
        some_lines C n (λ m. owned_by 3 m (written C (‹right› ∷ rest))) (‹right› ∷ rest) (λ m. owned_by 3 m rest) (λ m. class_equations C m (‹right› ∷ rest))
    class_equations (some_values_from (full w) C) n rest =
        some_lines C n (λ m. owned_by 3 m (written C (‹right› ∷ rest))) (‹right› ∷ rest) (λ m. owned_by 3 m rest) (λ m. class_equations C m (‹right› ∷ rest))

    classes_equations : (Cs : Classes) (n : ℕ) (rest : List Token) → Equations (concepts_of d Cs) n (owned_by 3 n (writtens Cs rest)) (λ m. owned_by 3 m rest)
    classes_equations (last C) n rest = class_equations C n rest
    classes_equations (more C Cs) n rest =
        both_lines (concept_of d C) (concepts_of d Cs) n (owned_by 3 n (written C (writtens Cs rest))) (λ m. owned_by 3 m (writtens Cs rest)) (λ m. owned_by 3 m rest)
        (class_equations C n (writtens Cs rest)) (classes_equations Cs (n + fresh (concept_of d C)) rest)

  abbrev statements : List Item → List Statement
  statements items = statements_of d (axioms_of items)

  -- the equivalences of an axiom, before those of the items behind it
  axiom_equations : (C D : Class) (mutually : Bool) (n : ℕ) (items : List Item) →
      ((m : ℕ) → lines (owned_by 3 m (written_items items (‹right› ∷ []))) ≡ each_of (equations_in rows) (v + m) (statements items)) →
      lines (owned_by 3 n (written C (written D (‹right› ∷ written_items items (‹right› ∷ [])))))
      ≡ each_of (equations_in rows) (v + n) (record { less = concept_of d C; greater = concept_of d D; mutually = mutually } ∷ statements items)
  unfolding owned_by owned_at number_after is_name sort_after
  axiom_equations C D mutually n items ih =
      let K : Concept = concept_of d C in
      let L : Concept = concept_of d D in
      let tail : List Token = written_items items (‹right› ∷ []) in
      both_lines K L n (owned_by 3 n (written C (written D (‹right› ∷ tail)))) (λ m. owned_by 3 m (written D (‹right› ∷ tail))) (λ m. owned_by 3 m tail)
      (class_equations C n (written D (‹right› ∷ tail))) (class_equations D (n + fresh K) (‹right› ∷ tail))
      ∙ ap (λ (l : List Line). (equations rows (v + n) K ++ equations rows (v + n + fresh K) L) ++ l)
      (ih (n + (fresh K + fresh L)) ∙ ap (λ (k : ℕ). each_of (equations_in rows) k (statements items)) (sym (plus_three v n (fresh K + fresh L))))

  pub equations_said : (items : List Item) (q n : ℕ) → equations_for d v rows (owned_by q n (written_items items (‹right› ∷ []))) ≡ each_of (equations_in rows) (v + n) (statements_of d (axioms_of items))
  unfolding owned_by owned_at number_after is_name sort_after word_sorts statements_of axioms_of
  equations_said [] q n = refl
  equations_said (declaration (class (short w)) ∷ items) q n = equations_said items 1 n
  equations_said (declaration (class (full w)) ∷ items) q n = equations_said items 1 n
  equations_said (declaration (object_property (short w)) ∷ items) q n = equations_said items 2 n
  equations_said (declaration (object_property (full w)) ∷ items) q n = equations_said items 2 n
  equations_said (stated (sub_class_of C D) ∷ items) q n = axiom_equations C D false n items (equations_said items 3)
  equations_said (stated (equivalent_classes C D) ∷ items) q n = axiom_equations C D true n items (equations_said items 3)
