-- The conjuncts that are read off tokens are those of the table.
--
--   inside_class, inside_classes == what stands in a restriction's brackets brings no conjunct
--   class_conjuncts, classes_conjuncts == a class expression's conjuncts, before those of what stands behind it
--   conjuncts_said == the entries of a class expression are those of the conjuncts that are read off its tokens
use Rattle.std.specs.Prelude.{◌≡◌, Bool, ℕ, suc, ◌+◌}
use Rattle.std.proofs.Math.Path.{refl, ap}
use Rattle.std.proofs.Common.{sym, ap₂, ◌∙◌}
use Rattle.std.proofs.Math.Bool.{true, false}
use mathlib.Core.List.{List, [], ◌∷◌, ◌++◌, append-nil, append_assoc, map, map-append}
use Rattle.el.specs.Table.{Entry, constant, variable, restriction, Row, Filler}
use Rattle.owl.specs.Once.{place}
use Rattle.owl.specs.Tree.{Name, short, full, Class, named, intersection_of, some_values_from, Classes, last, more}
use Rattle.owl.specs.Naming.{is_thing, is_open, Names, constant_number, open_number, role_number}
use Rattle.owl.specs.Written.{Token, ‹right›, written, writtens}
use Rattle.owl.specs.Grammar.{is_name}
use Rattle.owl.specs.Mention.{word_sorts, sort_after, name_by}
use Rattle.owl.specs.Flattening.{Concept, top_c, constant_c, variable_c, name_of, concept_of, concepts_of, own, fresh, filler_of, row_of, same_row, conjuncts}
use Rattle.owl.specs.Restriction.{restricted, row_for}
use Rattle.owl.specs.RestrictionLaws.{plus_none, plus_three, name_flat, part_class}
use Rattle.owl.specs.Said.{part_of, own_of}
use Rattle.owl.specs.Conjunct.{Conjunct, a_class, a_restriction, class_of, onwards, is_zero, here, ends_here, outer_after, inner_after, number_after, conjuncts_by, conjuncts_in, name_entry, entry_for}

module _ (d : Names) where
  -- fresh variables of a restriction and of its filler
  inner_fresh : (C : Class) (n : ℕ) (rest : List Token) → n + own_of (written C rest) + fresh (concept_of d C) ≡ n + (own (concept_of d C) + fresh (concept_of d C))
  inner_fresh C n rest = ap (λ (k : ℕ). n + k + fresh (concept_of d C)) (part_class d 0 C n rest).1 ∙ plus_three n (own (concept_of d C)) (fresh (concept_of d C))

  mutual
    unfolding conjuncts_by here ends_here outer_after inner_after number_after is_name sort_after word_sorts name_by

    -- inside a restriction's brackets
    inside_class : (C : Class) (o i n : ℕ) (rest : List Token) → conjuncts_by o (suc i) 3 n (written C rest) ≡ conjuncts_by o (suc i) 3 (n + fresh (concept_of d C)) rest
    inside_class (named (short w)) o i n rest = ap (λ (m : ℕ). conjuncts_by o (suc i) 3 m rest) (plus_none n (fresh (name_of d (short w))) (name_flat d 0 (short w) 0).1)
    inside_class (named (full w)) o i n rest = ap (λ (m : ℕ). conjuncts_by o (suc i) 3 m rest) (plus_none n (fresh (name_of d (full w))) (name_flat d 0 (full w) 0).1)
    inside_class (intersection_of C Cs) o i n rest =
        inside_class C o (suc i) n (writtens Cs (‹right› ∷ rest))
        ∙ inside_classes Cs o (suc i) (n + fresh (concept_of d C)) (‹right› ∷ rest)
        ∙ ap (λ (m : ℕ). conjuncts_by o (suc i) 3 m rest) (plus_three n (fresh (concept_of d C)) (fresh (concepts_of d Cs)))
    inside_class (some_values_from (short w) C) o i n rest =
        inside_class C o (suc i) (n + own_of (written C (‹right› ∷ rest))) (‹right› ∷ rest) ∙ ap (λ (m : ℕ). conjuncts_by o (suc i) 3 m rest) (inner_fresh C n (‹right› ∷ rest))
    inside_class (some_values_from (full w) C) o i n rest =
        inside_class C o (suc i) (n + own_of (written C (‹right› ∷ rest))) (‹right› ∷ rest) ∙ ap (λ (m : ℕ). conjuncts_by o (suc i) 3 m rest) (inner_fresh C n (‹right› ∷ rest))

    inside_classes : (Cs : Classes) (o i n : ℕ) (rest : List Token) → conjuncts_by o (suc i) 3 n (writtens Cs rest) ≡ conjuncts_by o (suc i) 3 (n + fresh (concepts_of d Cs)) rest
    inside_classes (last C) o i n rest = inside_class C o i n rest
    inside_classes (more C Cs) o i n rest =
        inside_class C o i n (writtens Cs rest) ∙ inside_classes Cs o i (n + fresh (concept_of d C)) rest
        ∙ ap (λ (m : ℕ). conjuncts_by o (suc i) 3 m rest) (plus_three n (fresh (concept_of d C)) (fresh (concepts_of d Cs)))

  module _ (v : ℕ) (rows : List Row) where
    abbrev entries : List Conjunct → List Entry
    entries l = map (entry_for d v rows) l

    -- a class expression's entries, before those of what stands behind it
    abbrev Spread : Concept → ℕ → ℕ → List Conjunct → (ℕ → List Conjunct) → Type 0
    Spread C o n l rest = entries l ≡ conjuncts rows (v + n) C ++ entries (onwards (is_zero o) (rest (n + fresh C)))

    name_entries : (m : Name) (n : ℕ) → entries (class_of m) ≡ conjuncts rows n (name_of d m)
    unfolding class_of name_of name_entry
    name_entries m n = go (is_thing m) (is_open m) refl
      where
        go : (a b : Bool) → is_open m ≡ b →
            entries (elim a [ true ↦ [] | false ↦ a_class m ∷ [] ])
            ≡ conjuncts rows n (elim a [ true ↦ top_c | false ↦ elim b [ true ↦ variable_c (open_number d m) | false ↦ constant_c (constant_number d m) ] ])
        go true b e = refl
        go false true e = ap (λ (b : Bool). elim b [ true ↦ variable (open_number d m) | false ↦ constant (constant_number d m) ] ∷ []) e
        go false false e = ap (λ (b : Bool). elim b [ true ↦ variable (open_number d m) | false ↦ constant (constant_number d m) ] ∷ []) e

    name_spread : (m : Name) (o n : ℕ) (rest : ℕ → List Conjunct) → Spread (name_of d m) o n (class_of m ++ onwards (is_zero o) (rest n)) rest
    name_spread m o n rest =
        map-append (entry_for d v rows) (class_of m) (onwards (is_zero o) (rest n))
        ∙ ap₂ (λ (l : List Entry) (k : ℕ). l ++ entries (onwards (is_zero o) (rest k))) (name_entries m (v + n)) (plus_none n (fresh (name_of d m)) (name_flat d 0 m 0).1)

    both_spread : (C D : Concept) (o n : ℕ) (l : List Conjunct) (middle rest : ℕ → List Conjunct) → entries l ≡ conjuncts rows (v + n) C ++ entries (middle (n + fresh C)) →
        entries (middle (n + fresh C)) ≡ conjuncts rows (v + (n + fresh C)) D ++ entries (onwards (is_zero o) (rest (n + fresh C + fresh D))) →
        entries l ≡ (conjuncts rows (v + n) C ++ conjuncts rows (v + n + fresh C) D) ++ entries (onwards (is_zero o) (rest (n + (fresh C + fresh D))))
    both_spread C D o n l middle rest a b =
        a
        ∙ ap (λ (k : List Entry). conjuncts rows (v + n) C ++ k)
        (b ∙ ap₂ (λ (i j : ℕ). conjuncts rows i D ++ entries (onwards (is_zero o) (rest j))) (sym (plus_three v n (fresh C))) (plus_three n (fresh C) (fresh D)))
        ∙ sym (append_assoc (conjuncts rows (v + n) C) (conjuncts rows (v + n + fresh C) D) (entries (onwards (is_zero o) (rest (n + (fresh C + fresh D))))))

    -- a restriction is one entry
    some_entry : (r : Name) (C : Class) (n : ℕ) (ts : List Token) →
        entry_for d v rows (a_restriction (restricted r (part_of n (written C ts)))) ≡ restriction (place same_row (row_of (role_number d r) (filler_of (v + n) (concept_of d C))) rows)
    unfolding row_for
    some_entry r C n ts = ap (λ (f : Filler). restriction (place same_row (row_of (role_number d r) f) rows)) (part_class d v C n ts).0

    mutual
      unfolding conjuncts_by here ends_here outer_after inner_after number_after is_name sort_after word_sorts name_by

      class_conjuncts : (C : Class) (o n : ℕ) (rest : List Token) → Spread (concept_of d C) o n (conjuncts_by o 0 3 n (written C rest)) (λ m. conjuncts_by o 0 3 m rest)
      class_conjuncts (named (short w)) o n rest = name_spread (short w) o n (λ m. conjuncts_by o 0 3 m rest)
      class_conjuncts (named (full w)) o n rest = name_spread (full w) o n (λ m. conjuncts_by o 0 3 m rest)
      class_conjuncts (intersection_of C Cs) o n rest =
          both_spread (concept_of d C) (concepts_of d Cs) o n (conjuncts_by (suc o) 0 3 n (written C (writtens Cs (‹right› ∷ rest)))) (λ m. conjuncts_by (suc o) 0 3 m (writtens Cs (‹right› ∷ rest)))
          (λ m. conjuncts_by o 0 3 m rest) (class_conjuncts C (suc o) n (writtens Cs (‹right› ∷ rest))) (classes_conjuncts Cs o (n + fresh (concept_of d C)) (‹right› ∷ rest))
      class_conjuncts (some_values_from (short w) C) o n rest =
          ap₂ (λ (e : Entry) (l : List Conjunct). e ∷ entries l) (some_entry (short w) C n (‹right› ∷ rest))
          (inside_class C o 0 (n + own_of (written C (‹right› ∷ rest))) (‹right› ∷ rest) ∙ ap (λ (m : ℕ). onwards (is_zero o) (conjuncts_by o 0 3 m rest)) (inner_fresh C n (‹right› ∷ rest)))
      class_conjuncts (some_values_from (full w) C) o n rest =
          ap₂ (λ (e : Entry) (l : List Conjunct). e ∷ entries l) (some_entry (full w) C n (‹right› ∷ rest))
          (inside_class C o 0 (n + own_of (written C (‹right› ∷ rest))) (‹right› ∷ rest) ∙ ap (λ (m : ℕ). onwards (is_zero o) (conjuncts_by o 0 3 m rest)) (inner_fresh C n (‹right› ∷ rest)))

      -- several stand in the brackets of an intersection
      classes_conjuncts : (Cs : Classes) (o n : ℕ) (rest : List Token) → Spread (concepts_of d Cs) (suc o) n (conjuncts_by (suc o) 0 3 n (writtens Cs rest)) (λ m. conjuncts_by (suc o) 0 3 m rest)
      classes_conjuncts (last C) o n rest = class_conjuncts C (suc o) n rest
      classes_conjuncts (more C Cs) o n rest =
          both_spread (concept_of d C) (concepts_of d Cs) (suc o) n (conjuncts_by (suc o) 0 3 n (written C (writtens Cs rest))) (λ m. conjuncts_by (suc o) 0 3 m (writtens Cs rest))
          (λ m. conjuncts_by (suc o) 0 3 m rest) (class_conjuncts C (suc o) n (writtens Cs rest)) (classes_conjuncts Cs o (n + fresh (concept_of d C)) rest)

    pub conjuncts_said : (C : Class) (n : ℕ) (rest : List Token) → map (entry_for d v rows) (conjuncts_in n (written C rest)) ≡ conjuncts rows (v + n) (concept_of d C)
    unfolding conjuncts_in
    conjuncts_said C n rest = class_conjuncts C 0 n rest ∙ append-nil (conjuncts rows (v + n) (concept_of d C))
