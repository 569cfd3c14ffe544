-- The machine accepts exactly the written forms, and stops exactly where no continuation is one.
--
--   sign_of, text_of, name_of == a token is told by its kind
--   Reads ss ts               == the tokens ts are what the slots ss ask for
--   read_on                   == a token that is taken, and what is read behind it, are what was asked for
--   sound                     == what is accepted is a written form
--   complete                  == every written form is accepted
--   extends                   == where the machine has not stopped, some continuation is a written form
--   spoiled                   == where it has, none is
use Rattle.std.specs.Prelude.{◌≡◌, refl, Bool, true, false, ◌||◌, ◌⊎◌, List, [], ◌∷◌, ◌++◌, ℕ, ◌≤◌, ◌<◌, T, eqb, ltb}
use Rattle.std.proofs.Common.{sym, ap, subst, ◌∙◌, inl, inr, arith, eqb→eq, ltb→lt, nltb→le, lit<, lit≤}
use Rattle.el.specs.TestLaws.{is_true, or_cases}
use Rattle.owl.specs.Tree.{Name, short, full, Class, named, intersection_of, some_values_from, Classes, last, more, sub_class_of, equivalent_classes, Entity, class, object_property, Item, declaration, stated, Head, no_name, one_name, two_names, PrefixLine, File}
use Rattle.owl.specs.Written.{Token, sign, text, kind, ‹left›, ‹right›, ‹equals›, ‹Prefix›, ‹Ontology›, ‹Declaration›, ‹Class›, ‹ObjectProperty›, ‹SubClassOf›, ‹EquivalentClasses›, ‹ObjectIntersectionOf›, ‹ObjectSomeValuesFrom›, ‹name›, written, writtens, written_entity, written_item, written_items, written_head, written_prefixes, written_file}
use Rattle.owl.specs.Grammar.{Slot, left_s, right_s, equals_s, label_s, target_s, name_s, role_s, entity_s, ontology_s, class_s, classes_s, no_third_s, head_s, version_s, items_s, prefixes_s, insides, inside, Move, stop, on, is_name, begins_class, begins_item, unlisted, takes, takes_or, takes_more, expect, may_end, start, walk, Begins}
use Rattle.owl.specs.SlotLaws.{stop_on, on_inj, taken, taken_or, taken_more, not_third, fit_walk, ending, can_end}

----------------------------------------------------------------------------------------------------
-- A token is told by its kind

at_least : (j : ℕ) → ltb j 13 ≡ false → 13 ≤ j
at_least j e = nltb→le j 13 (subst (λ (b : Bool). T (elim b [ true ↦ false | false ↦ true ])) (sym e) tt)

sign_of : (t : Token) (k : ℕ) → k < 13 → T (eqb (kind t) k) → t ≡ sign k
sign_of (sign j) k h = go (ltb j 13)
  where
    go : (b : Bool) → T (eqb (elim b [ true ↦ j | false ↦ 17 ]) k) → sign j ≡ sign k
    go true e = ap sign (eqb→eq j k e)
    go false e = absurd (let f : 17 ≡ k = eqb→eq 17 k e in let z : ⊥ = omega arith in z)
sign_of (text j w) k h = go (ltb j 13) refl
  where
    go : (b : Bool) → ltb j 13 ≡ b → T (eqb (elim b [ true ↦ 17 | false ↦ j ]) k) → text j w ≡ sign k
    go true d e = absurd (let f : 17 ≡ k = eqb→eq 17 k e in let z : ⊥ = omega arith in z)
    go false d e = absurd (let f : j ≡ k = eqb→eq j k e in let g : 13 ≤ j = at_least j d in let z : ⊥ = omega arith in z)

text_of : (t : Token) (k : ℕ) → 13 ≤ k → k < 17 → T (eqb (kind t) k) → (w : List ℕ) × (t ≡ text k w)
text_of (sign j) k l h = go (ltb j 13) refl
  where
    go : (b : Bool) → ltb j 13 ≡ b → T (eqb (elim b [ true ↦ j | false ↦ 17 ]) k) → (w : List ℕ) × (sign j ≡ text k w)
    go true d e = absurd (let f : j ≡ k = eqb→eq j k e in let g : j < 13 = ltb→lt j 13 (subst T (sym d) tt) in let z : ⊥ = omega arith in z)
    go false d e = absurd (let f : 17 ≡ k = eqb→eq 17 k e in let z : ⊥ = omega arith in z)
text_of (text j w) k l h = go (ltb j 13)
  where
    go : (b : Bool) → T (eqb (elim b [ true ↦ 17 | false ↦ j ]) k) → (u : List ℕ) × (text j w ≡ text k u)
    go true e = absurd (let f : 17 ≡ k = eqb→eq 17 k e in let z : ⊥ = omega arith in z)
    go false e = (w, ap (λ (i : ℕ). text i w) (eqb→eq j k e))

name_of : (t : Token) → T (is_name (kind t)) → (n : Name) × (t ≡ ‹name› n) × (inside (kind t) ≡ [])
unfolding is_name inside insides
name_of t h =
    elim (or_cases (eqb (kind t) 13) (eqb (kind t) 14) h) [
      | inl e ↦ let w = text_of t 13 (lit≤ tt) (lit< tt) e in (short w.0, w.1, ap inside (eqb→eq (kind t) 13 e))
      | inr e ↦ let w = text_of t 14 (lit≤ tt) (lit< tt) e in (full w.0, w.1, ap inside (eqb→eq (kind t) 14 e))
    ]

----------------------------------------------------------------------------------------------------
-- What slots ask for

abbrev SlotReads : Slot → List Token → List Token → Type 0
SlotReads left_s ts rest = ts ≡ ‹left› ∷ rest
SlotReads right_s ts rest = ts ≡ ‹right› ∷ rest
SlotReads equals_s ts rest = ts ≡ ‹equals› ∷ rest
SlotReads label_s ts rest = (w : List ℕ) × (ts ≡ text 15 w ∷ rest)
SlotReads target_s ts rest = (w : List ℕ) × (ts ≡ text 14 w ∷ rest)
SlotReads name_s ts rest = (n : Name) × (ts ≡ ‹name› n ∷ rest)
SlotReads role_s ts rest = (n : Name) × (ts ≡ ‹name› n ∷ rest)
SlotReads entity_s ts rest = (e : Entity) × (ts ≡ written_entity e rest)
SlotReads ontology_s ts rest = (h : Head) × (items : List Item) × (ts ≡ ‹Ontology› ∷ ‹left› ∷ written_head h (written_items items (‹right› ∷ rest)))
SlotReads class_s ts rest = (C : Class) × (ts ≡ written C rest)
SlotReads classes_s ts rest = (ts ≡ rest) ⊎ ((Cs : Classes) × (ts ≡ writtens Cs rest))
SlotReads no_third_s ts rest = ts ≡ rest
SlotReads head_s ts rest = (h : Head) × (ts ≡ written_head h rest)
SlotReads version_s ts rest = (ts ≡ rest) ⊎ ((n : Name) × (ts ≡ ‹name› n ∷ rest))
SlotReads items_s ts rest = (items : List Item) × (ts ≡ written_items items rest)
SlotReads prefixes_s ts rest = (ps : List PrefixLine) × (ts ≡ written_prefixes ps rest)

abbrev Reads : List Slot → List Token → Type 0
Reads [] ts = ts ≡ []
Reads (s ∷ ss) ts = (rest : List Token) × SlotReads s ts rest × Reads ss rest

-- behind a token without a body stands what is asked for next
plain : (t : Token) (ts : List Token) (ss us : List Slot) → inside (kind t) ≡ [] → ss ≡ us → Reads (inside (kind t) ++ us) ts → Reads ss ts
plain t ts ss us e f r = subst (λ (l : List Slot). Reads l ts) (sym f) (subst (λ (l : List Slot). Reads (l ++ us) ts) e r)

-- behind a listed word stands its body
body : (t : Token) (ts : List Token) (us : List Slot) (k : ℕ) → T (eqb (kind t) k) → Reads (inside (kind t) ++ us) ts → Reads (inside k ++ us) ts
body t ts us k e r = subst (λ (j : ℕ). Reads (inside j ++ us) ts) (eqb→eq (kind t) k e) r

cons : (t u : Token) (ts us : List Token) → t ≡ u → ts ≡ us → t ∷ ts ≡ u ∷ us
cons t u ts us e f = ap (λ (x : Token). x ∷ ts) e ∙ ap (λ (l : List Token). u ∷ l) f

abbrev ClassRead : List Token → List Slot → Type 0
ClassRead ts us = (rest : List Token) × ((C : Class) × (ts ≡ written C rest)) × Reads us rest

intersection_read : (ts : List Token) (us : List Slot) → Reads (left_s ∷ class_s ∷ class_s ∷ classes_s ∷ right_s ∷ us) ts → ClassRead (‹ObjectIntersectionOf› ∷ ts) us
intersection_read ts us (m₁, e₁, (m₂, (C, e₂), (m₃, (D, e₃), (m₄, inl e₄, (m₅, e₅, r))))) = (
  m₅,
  (
    intersection_of C (last D),
    ap (λ (l : List Token). ‹ObjectIntersectionOf› ∷ l) (e₁ ∙ ap (λ (l : List Token). ‹left› ∷ l) (e₂ ∙ ap (written C) (e₃ ∙ ap (written D) (e₄ ∙ e₅)))),
  ),
  r,
)
intersection_read ts us (m₁, e₁, (m₂, (C, e₂), (m₃, (D, e₃), (m₄, inr (Cs, e₄), (m₅, e₅, r))))) = (
  m₅,
  (
    intersection_of C (more D Cs),
    ap (λ (l : List Token). ‹ObjectIntersectionOf› ∷ l) (e₁ ∙ ap (λ (l : List Token). ‹left› ∷ l) (e₂ ∙ ap (written C) (e₃ ∙ ap (written D) (e₄ ∙ ap (writtens Cs) e₅)))),
  ),
  r,
)

some_values_read : (ts : List Token) (us : List Slot) → Reads (left_s ∷ role_s ∷ class_s ∷ right_s ∷ us) ts → ClassRead (‹ObjectSomeValuesFrom› ∷ ts) us
some_values_read ts us (m₁, e₁, (m₂, (n, e₂), (m₃, (C, e₃), (m₄, e₄, r)))) = (
  m₄,
  (
    some_values_from n C,
    ap (λ (l : List Token). ‹ObjectSomeValuesFrom› ∷ l) (e₁ ∙ ap (λ (l : List Token). ‹left› ∷ l) (e₂ ∙ ap (λ (l : List Token). ‹name› n ∷ l) (e₃ ∙ ap (written C) e₄))),
  ),
  r,
)

class_read : (t : Token) (ts : List Token) (us : List Slot) → T (begins_class (kind t)) → Reads (inside (kind t) ++ us) ts → ClassRead (t ∷ ts) us
unfolding begins_class inside insides
class_read t ts us h r =
    elim (or_cases (is_name (kind t)) (eqb (kind t) 11 || eqb (kind t) 12) h) [
      | inl e ↦ let n = name_of t e in (ts, (named n.0, ap (λ (x : Token). x ∷ ts) n.1), plain t ts us us n.2 refl r)
      | inr d ↦ elim (or_cases (eqb (kind t) 11) (eqb (kind t) 12) d) [
        | inl e ↦ subst (λ (x : Token). ClassRead (x ∷ ts) us) (sym (sign_of t 11 (lit< tt) e)) (intersection_read ts us (body t ts us 11 e r))
        | inr e ↦ subst (λ (x : Token). ClassRead (x ∷ ts) us) (sym (sign_of t 12 (lit< tt) e)) (some_values_read ts us (body t ts us 12 e r))
      ]
    ]

abbrev ItemRead : List Token → List Slot → Type 0
ItemRead ts us = (rest : List Token) × ((i : Item) × (ts ≡ written_item i rest)) × Reads us rest

declaration_read : (ts : List Token) (us : List Slot) → Reads (left_s ∷ entity_s ∷ right_s ∷ us) ts → ItemRead (‹Declaration› ∷ ts) us
declaration_read ts us (m₁, e₁, (m₂, (n, e₂), (m₃, e₃, r))) = (
  m₃,
  (declaration n, ap (λ (l : List Token). ‹Declaration› ∷ l) (e₁ ∙ ap (λ (l : List Token). ‹left› ∷ l) (e₂ ∙ ap (written_entity n) e₃))),
  r,
)

sub_class_read : (ts : List Token) (us : List Slot) → Reads (left_s ∷ class_s ∷ class_s ∷ right_s ∷ us) ts → ItemRead (‹SubClassOf› ∷ ts) us
sub_class_read ts us (m₁, e₁, (m₂, (C, e₂), (m₃, (D, e₃), (m₄, e₄, r)))) = (
  m₄,
  (stated (sub_class_of C D), ap (λ (l : List Token). ‹SubClassOf› ∷ l) (e₁ ∙ ap (λ (l : List Token). ‹left› ∷ l) (e₂ ∙ ap (written C) (e₃ ∙ ap (written D) e₄)))),
  r,
)

equivalent_read : (ts : List Token) (us : List Slot) → Reads (left_s ∷ class_s ∷ class_s ∷ no_third_s ∷ right_s ∷ us) ts → ItemRead (‹EquivalentClasses› ∷ ts) us
equivalent_read ts us (m₁, e₁, (m₂, (C, e₂), (m₃, (D, e₃), (m₄, e₄, (m₅, e₅, r))))) = (
  m₅,
  (
    stated (equivalent_classes C D),
    ap (λ (l : List Token). ‹EquivalentClasses› ∷ l) (e₁ ∙ ap (λ (l : List Token). ‹left› ∷ l) (e₂ ∙ ap (written C) (e₃ ∙ ap (written D) (e₄ ∙ e₅)))),
  ),
  r,
)

item_read : (t : Token) (ts : List Token) (us : List Slot) → T (begins_item (kind t)) → Reads (inside (kind t) ++ us) ts → ItemRead (t ∷ ts) us
unfolding begins_item inside insides
item_read t ts us h r =
    elim (or_cases (eqb (kind t) 6) (eqb (kind t) 9 || eqb (kind t) 10) h) [
      | inl e ↦ subst (λ (x : Token). ItemRead (x ∷ ts) us) (sym (sign_of t 6 (lit< tt) e)) (declaration_read ts us (body t ts us 6 e r))
      | inr d ↦ elim (or_cases (eqb (kind t) 9) (eqb (kind t) 10) d) [
        | inl e ↦ subst (λ (x : Token). ItemRead (x ∷ ts) us) (sym (sign_of t 9 (lit< tt) e)) (sub_class_read ts us (body t ts us 9 e r))
        | inr e ↦ subst (λ (x : Token). ItemRead (x ∷ ts) us) (sym (sign_of t 10 (lit< tt) e)) (equivalent_read ts us (body t ts us 10 e r))
      ]
    ]

entity_read : (t : Token) (ts : List Token) (us : List Slot) → T (eqb (kind t) 7 || eqb (kind t) 8) → Reads (inside (kind t) ++ us) ts → Reads (entity_s ∷ us) (t ∷ ts)
unfolding inside insides
entity_read t ts us h r =
    elim (or_cases (eqb (kind t) 7) (eqb (kind t) 8) h) [
      | inl e ↦ subst (λ (x : Token). Reads (entity_s ∷ us) (x ∷ ts)) (sym (sign_of t 7 (lit< tt) e)) (as_class (body t ts us 7 e r))
      | inr e ↦ subst (λ (x : Token). Reads (entity_s ∷ us) (x ∷ ts)) (sym (sign_of t 8 (lit< tt) e)) (as_property (body t ts us 8 e r))
    ]
  where
    as_class : Reads (left_s ∷ name_s ∷ right_s ∷ us) ts → Reads (entity_s ∷ us) (‹Class› ∷ ts)
    as_class (m₁, e₁, (m₂, (n, e₂), (m₃, e₃, r))) = (m₃, (class n, ap (λ (l : List Token). ‹Class› ∷ l) (e₁ ∙ ap (λ (l : List Token). ‹left› ∷ l) (e₂ ∙ ap (λ (l : List Token). ‹name› n ∷ l) e₃))), r)

    as_property : Reads (left_s ∷ name_s ∷ right_s ∷ us) ts → Reads (entity_s ∷ us) (‹ObjectProperty› ∷ ts)
    as_property (m₁, e₁, (m₂, (n, e₂), (m₃, e₃, r))) = (
      m₃,
      (object_property n, ap (λ (l : List Token). ‹ObjectProperty› ∷ l) (e₁ ∙ ap (λ (l : List Token). ‹left› ∷ l) (e₂ ∙ ap (λ (l : List Token). ‹name› n ∷ l) e₃))),
      r,
    )

ontology_read : (ts : List Token) (us : List Slot) → Reads (left_s ∷ head_s ∷ items_s ∷ right_s ∷ us) ts → Reads (ontology_s ∷ us) (‹Ontology› ∷ ts)
ontology_read ts us (m₁, e₁, (m₂, (h, e₂), (m₃, (items, e₃), (m₄, e₄, r)))) = (
  m₄,
  (h, items, ap (λ (l : List Token). ‹Ontology› ∷ l) (e₁ ∙ ap (λ (l : List Token). ‹left› ∷ l) (e₂ ∙ ap (written_head h) (e₃ ∙ ap (written_items items) e₄)))),
  r,
)

prefix_read : (ts : List Token) (ss : List Slot) → Reads (left_s ∷ label_s ∷ equals_s ∷ target_s ∷ right_s ∷ prefixes_s ∷ ss) ts → Reads (prefixes_s ∷ ss) (‹Prefix› ∷ ts)
prefix_read ts ss (m₁, e₁, (m₂, (w, e₂), (m₃, e₃, (m₄, (u, e₄), (m₅, e₅, (m₆, (ps, e₆), r)))))) = (
  m₆,
  (
    record { label = w; target = u } ∷ ps,
    ap (λ (l : List Token). ‹Prefix› ∷ l)
        (e₁ ∙ ap (λ (l : List Token). ‹left› ∷ l)
        (e₂ ∙ ap (λ (l : List Token). text 15 w ∷ l) (e₃ ∙ ap (λ (l : List Token). ‹equals› ∷ l) (e₄ ∙ ap (λ (l : List Token). text 14 u ∷ l) (e₅ ∙ ap (λ (l : List Token). ‹right› ∷ l) e₆))))),
  ),
  r,
)

----------------------------------------------------------------------------------------------------
-- A token that is taken

more_classes : (ts : List Token) (ss : List Slot) → ClassRead ts (classes_s ∷ ss) → Reads (classes_s ∷ ss) ts
more_classes ts ss (m₁, (C, e₁), (m₂, inl e₂, r)) = (m₂, inr (last C, e₁ ∙ ap (written C) e₂), r)
more_classes ts ss (m₁, (C, e₁), (m₂, inr (Cs, e₂), r)) = (m₂, inr (more C Cs, e₁ ∙ ap (written C) e₂), r)

more_items : (ts : List Token) (ss : List Slot) → ItemRead ts (items_s ∷ ss) → Reads (items_s ∷ ss) ts
more_items ts ss (m₁, (i, e₁), (m₂, (items, e₂), r)) = (m₂, (i ∷ items, e₁ ∙ ap (written_item i) e₂), r)

head_read : (n : Name) (ts : List Token) (ss : List Slot) → Reads (version_s ∷ ss) ts → Reads (head_s ∷ ss) (‹name› n ∷ ts)
head_read n ts ss (m, inl e, r) = (m, (one_name n, ap (λ (l : List Token). ‹name› n ∷ l) e), r)
head_read n ts ss (m, inr (u, e), r) = (m, (two_names n u, ap (λ (l : List Token). ‹name› n ∷ l) e), r)

read_on : (t : Token) (ts : List Token) (ss us : List Slot) → expect (kind t) ss ≡ on us → Reads (inside (kind t) ++ us) ts → Reads ss (t ∷ ts)
unfolding expect inside insides
read_on t ts [] us e r = stop_on 10 us e
read_on t ts (left_s ∷ ss) us e r =
    let h = taken (eqb (kind t) 1) 10 ss us e in
    (ts, ap (λ (x : Token). x ∷ ts) (sign_of t 1 (lit< tt) h.0), plain t ts ss us (ap inside (eqb→eq (kind t) 1 h.0)) h.1 r)
read_on t ts (right_s ∷ ss) us e r =
    let h = taken (eqb (kind t) 2) 10 ss us e in
    (ts, ap (λ (x : Token). x ∷ ts) (sign_of t 2 (lit< tt) h.0), plain t ts ss us (ap inside (eqb→eq (kind t) 2 h.0)) h.1 r)
read_on t ts (equals_s ∷ ss) us e r =
    let h = taken (eqb (kind t) 3) 10 ss us e in
    (ts, ap (λ (x : Token). x ∷ ts) (sign_of t 3 (lit< tt) h.0), plain t ts ss us (ap inside (eqb→eq (kind t) 3 h.0)) h.1 r)
read_on t ts (label_s ∷ ss) us e r =
    let h = taken (eqb (kind t) 15) 10 ss us e in
    let w = text_of t 15 (lit≤ tt) (lit< tt) h.0 in
    (ts, (w.0, ap (λ (x : Token). x ∷ ts) w.1), plain t ts ss us (ap inside (eqb→eq (kind t) 15 h.0)) h.1 r)
read_on t ts (target_s ∷ ss) us e r =
    let h = taken (eqb (kind t) 14) 10 ss us e in
    let w = text_of t 14 (lit≤ tt) (lit< tt) h.0 in
    (ts, (w.0, ap (λ (x : Token). x ∷ ts) w.1), plain t ts ss us (ap inside (eqb→eq (kind t) 14 h.0)) h.1 r)
read_on t ts (name_s ∷ ss) us e r =
    let h = taken (is_name (kind t)) 10 ss us e in
    let n = name_of t h.0 in
    (ts, (n.0, ap (λ (x : Token). x ∷ ts) n.1), plain t ts ss us n.2 h.1 r)
read_on t ts (role_s ∷ ss) us e r =
    let h = taken (is_name (kind t)) (unlisted (kind t)) ss us e in
    let n = name_of t h.0 in
    (ts, (n.0, ap (λ (x : Token). x ∷ ts) n.1), plain t ts ss us n.2 h.1 r)
read_on t ts (entity_s ∷ ss) us e r =
    let h = taken (eqb (kind t) 7 || eqb (kind t) 8) (unlisted (kind t)) ss us e in
    subst (λ (l : List Slot). Reads (entity_s ∷ l) (t ∷ ts)) (sym h.1) (entity_read t ts us h.0 r)
read_on t ts (ontology_s ∷ ss) us e r =
    let h = taken (eqb (kind t) 5) 10 ss us e in
    subst (λ (l : List Slot). Reads (ontology_s ∷ l) (t ∷ ts)) (sym h.1)
    (subst (λ (x : Token). Reads (ontology_s ∷ us) (x ∷ ts)) (sym (sign_of t 5 (lit< tt) h.0)) (ontology_read ts us (body t ts us 5 h.0 r)))
read_on t ts (class_s ∷ ss) us e r =
    let h = taken (begins_class (kind t)) (unlisted (kind t)) ss us e in
    subst (λ (l : List Slot). ClassRead (t ∷ ts) l) (sym h.1) (class_read t ts us h.0 r)
read_on t ts (classes_s ∷ ss) us e r =
    elim (taken_more (kind t) (begins_class (kind t)) (classes_s ∷ ss) us (expect (kind t) ss) e) [
      | inl h ↦ more_classes (t ∷ ts) ss (subst (λ (l : List Slot). ClassRead (t ∷ ts) l) (sym h.1) (class_read t ts us h.0 r))
      | inr h ↦ (t ∷ ts, inl refl, read_on t ts ss us h r)
    ]
read_on t ts (no_third_s ∷ ss) us e r = (t ∷ ts, refl, read_on t ts ss us (not_third (begins_class (kind t) || eqb (kind t) 16) us (expect (kind t) ss) e) r)
read_on t ts (head_s ∷ ss) us e r =
    elim (taken_or (is_name (kind t)) (version_s ∷ ss) us (expect (kind t) ss) e) [
      | inl h ↦ let n = name_of t h.0 in
          subst (λ (x : Token). Reads (head_s ∷ ss) (x ∷ ts)) (sym n.1) (head_read n.0 ts ss (plain t ts (version_s ∷ ss) us n.2 h.1 r))
      | inr h ↦ (t ∷ ts, (no_name, refl), read_on t ts ss us h r)
    ]
read_on t ts (version_s ∷ ss) us e r =
    elim (taken_or (is_name (kind t)) ss us (expect (kind t) ss) e) [
      | inl h ↦ let n = name_of t h.0 in (ts, inr (n.0, ap (λ (x : Token). x ∷ ts) n.1), plain t ts ss us n.2 h.1 r)
      | inr h ↦ (t ∷ ts, inl refl, read_on t ts ss us h r)
    ]
read_on t ts (items_s ∷ ss) us e r =
    elim (taken_more (kind t) (begins_item (kind t)) (items_s ∷ ss) us (expect (kind t) ss) e) [
      | inl h ↦ more_items (t ∷ ts) ss (subst (λ (l : List Slot). ItemRead (t ∷ ts) l) (sym h.1) (item_read t ts us h.0 r))
      | inr h ↦ (t ∷ ts, ([], refl), read_on t ts ss us h r)
    ]
read_on t ts (prefixes_s ∷ ss) us e r =
    elim (taken_or (eqb (kind t) 4) (prefixes_s ∷ ss) us (expect (kind t) ss) e) [
      | inl h ↦
          subst (λ (x : Token). Reads (prefixes_s ∷ ss) (x ∷ ts)) (sym (sign_of t 4 (lit< tt) h.0))
          (prefix_read ts ss (subst (λ (l : List Slot). Reads (inside 4 ++ l) ts) (sym h.1) (body t ts us 4 h.0 r)))
      | inr h ↦ (t ∷ ts, ([], refl), read_on t ts ss us h r)
    ]

----------------------------------------------------------------------------------------------------
-- What is accepted is a written form

at_end : (ss : List Slot) → T (may_end ss) → Reads ss []
unfolding may_end
at_end [] h = refl
at_end (left_s ∷ ss) h = absurd h
at_end (right_s ∷ ss) h = absurd h
at_end (equals_s ∷ ss) h = absurd h
at_end (label_s ∷ ss) h = absurd h
at_end (target_s ∷ ss) h = absurd h
at_end (name_s ∷ ss) h = absurd h
at_end (role_s ∷ ss) h = absurd h
at_end (entity_s ∷ ss) h = absurd h
at_end (ontology_s ∷ ss) h = absurd h
at_end (class_s ∷ ss) h = absurd h
at_end (classes_s ∷ ss) h = ([], inl refl, at_end ss h)
at_end (no_third_s ∷ ss) h = ([], refl, at_end ss h)
at_end (head_s ∷ ss) h = ([], (no_name, refl), at_end ss h)
at_end (version_s ∷ ss) h = ([], inl refl, at_end ss h)
at_end (items_s ∷ ss) h = ([], ([], refl), at_end ss h)
at_end (prefixes_s ∷ ss) h = ([], ([], refl), at_end ss h)

accepted_reads : (ts : List Token) (ss us : List Slot) → walk ts ss ≡ on us → T (may_end us) → Reads ss ts
unfolding walk
accepted_reads [] ss us e h = at_end ss (subst (λ (l : List Slot). T (may_end l)) (sym (on_inj ss us e)) h)
accepted_reads (t ∷ ts) ss us e h = go (expect (kind t) ss) refl e (λ vs f. accepted_reads ts (inside (kind t) ++ vs) us f h)
  where
    go : (m : Move) → expect (kind t) ss ≡ m → elim m [ stop n ↦ stop n | on vs ↦ walk ts (inside (kind t) ++ vs) ] ≡ on us →
        ((vs : List Slot) → walk ts (inside (kind t) ++ vs) ≡ on us → Reads (inside (kind t) ++ vs) ts) → Reads ss (t ∷ ts)
    go (stop n) d e f = stop_on n us e
    go (on vs) d e f = read_on t ts ss vs d (f vs e)

pub sound : (ts : List Token) (us : List Slot) → walk ts start ≡ on us → T (may_end us) → (f : File) × (ts ≡ written_file f)
sound ts us e h = go (accepted_reads ts start us e h)
  where
    go : Reads start ts → (f : File) × (ts ≡ written_file f)
    go (m₁, (ps, e₁), (m₂, (top, items, e₂), e₃)) = (
      record { prefixes = ps; head = top; items = items },
      e₁ ∙ ap (written_prefixes ps) (e₂ ∙ ap (λ (l : List Token). ‹Ontology› ∷ ‹left› ∷ written_head top (written_items items (‹right› ∷ l))) e₃),
    )

----------------------------------------------------------------------------------------------------
-- Every written form is accepted

step : (t : Token) (ts : List Token) (ss us : List Slot) → expect (kind t) ss ≡ on us → walk (t ∷ ts) ss ≡ walk ts (inside (kind t) ++ us)
unfolding walk
step t ts ss us e = ap (λ (m : Move). elim m [ stop n ↦ stop n | on vs ↦ walk ts (inside (kind t) ++ vs) ]) e

-- a class expression where s comes next leads to us
abbrev Leads : Slot → List Slot → List Slot → Type 0
Leads s ss us = (k : ℕ) → T (begins_class k) → expect k (s ∷ ss) ≡ on us

leads_class : (ss : List Slot) → Leads class_s ss ss
unfolding expect takes
leads_class ss k h = ap (λ (b : Bool). elim b [ true ↦ on ss | false ↦ stop (unlisted k) ]) (is_true (begins_class k) h)

leads_classes : (ss : List Slot) → Leads classes_s ss (classes_s ∷ ss)
unfolding expect takes_more
leads_classes ss k h = ap (λ (b : Bool). elim b [ true ↦ on (classes_s ∷ ss) | false ↦ elim (eqb k 16) [ true ↦ stop 11 | false ↦ expect k ss ] ]) (is_true (begins_class k) h)

mutual
  unfolding walk expect takes takes_more is_name begins_class inside insides

  reads : (C : Class) (rest : List Token) (s : Slot) (ss us : List Slot) → Leads s ss us → walk (written C rest) (s ∷ ss) ≡ walk rest us
  reads (named (short w)) rest s ss us h = step (text 13 w) rest (s ∷ ss) us (h 13 tt)
  reads (named (full w)) rest s ss us h = step (text 14 w) rest (s ∷ ss) us (h 14 tt)
  reads (intersection_of C Cs) rest s ss us h =
      step ‹ObjectIntersectionOf› (‹left› ∷ written C (writtens Cs (‹right› ∷ rest))) (s ∷ ss) us (h 11 tt)
      ∙ reads C (writtens Cs (‹right› ∷ rest)) class_s (class_s ∷ classes_s ∷ right_s ∷ us) (class_s ∷ classes_s ∷ right_s ∷ us) (leads_class (class_s ∷ classes_s ∷ right_s ∷ us))
      ∙ readss Cs (‹right› ∷ rest) class_s (classes_s ∷ right_s ∷ us) (right_s ∷ us) (leads_class (classes_s ∷ right_s ∷ us))
  reads (some_values_from (short w) C) rest s ss us h =
      step ‹ObjectSomeValuesFrom› (‹left› ∷ text 13 w ∷ written C (‹right› ∷ rest)) (s ∷ ss) us (h 12 tt)
      ∙ reads C (‹right› ∷ rest) class_s (right_s ∷ us) (right_s ∷ us) (leads_class (right_s ∷ us))
  reads (some_values_from (full w) C) rest s ss us h =
      step ‹ObjectSomeValuesFrom› (‹left› ∷ text 14 w ∷ written C (‹right› ∷ rest)) (s ∷ ss) us (h 12 tt)
      ∙ reads C (‹right› ∷ rest) class_s (right_s ∷ us) (right_s ∷ us) (leads_class (right_s ∷ us))

  readss : (Cs : Classes) (rest : List Token) (s : Slot) (ss us : List Slot) → Leads s ss (classes_s ∷ us) → walk (writtens Cs rest) (s ∷ ss) ≡ walk rest (classes_s ∷ us)
  readss (last C) rest s ss us h = reads C rest s ss (classes_s ∷ us) h
  readss (more C Cs) rest s ss us h = reads C (writtens Cs rest) s ss (classes_s ∷ us) h ∙ readss Cs rest classes_s us us (leads_classes us)

two_classes : (C D : Class) (rest : List Token) (us : List Slot) → walk (written C (written D rest)) (class_s ∷ class_s ∷ us) ≡ walk rest us
two_classes C D rest us = reads C (written D rest) class_s (class_s ∷ us) (class_s ∷ us) (leads_class (class_s ∷ us)) ∙ reads D rest class_s us us (leads_class us)

reads_item : (i : Item) (rest : List Token) (ss : List Slot) → walk (written_item i rest) (items_s ∷ ss) ≡ walk rest (items_s ∷ ss)
unfolding walk expect takes takes_more is_name begins_class begins_item inside insides
reads_item (declaration (class (short w))) rest ss = refl
reads_item (declaration (class (full w))) rest ss = refl
reads_item (declaration (object_property (short w))) rest ss = refl
reads_item (declaration (object_property (full w))) rest ss = refl
reads_item (stated (sub_class_of C D)) rest ss = two_classes C D (‹right› ∷ rest) (right_s ∷ items_s ∷ ss)
reads_item (stated (equivalent_classes C D)) rest ss = two_classes C D (‹right› ∷ rest) (no_third_s ∷ right_s ∷ items_s ∷ ss)

reads_items : (items : List Item) (rest : List Token) (ss : List Slot) → walk (written_items items rest) (items_s ∷ ss) ≡ walk rest (items_s ∷ ss)
reads_items [] rest ss = refl
reads_items (i ∷ items) rest ss = reads_item i (written_items items rest) ss ∙ reads_items items rest ss

-- where no name begins, the head is left empty
reads_none : (items : List Item) (u : Slot) → ((k : ℕ) → is_name k ≡ false → expect k (u ∷ items_s ∷ right_s ∷ []) ≡ expect k (items_s ∷ right_s ∷ [])) →
    walk (written_items items (‹right› ∷ [])) (u ∷ items_s ∷ right_s ∷ []) ≡ walk (written_items items (‹right› ∷ [])) (items_s ∷ right_s ∷ [])
unfolding walk is_name
reads_none items u h = go items
  where
    at : (t : Token) (ts : List Token) → is_name (kind t) ≡ false → walk (t ∷ ts) (u ∷ items_s ∷ right_s ∷ []) ≡ walk (t ∷ ts) (items_s ∷ right_s ∷ [])
    at t ts e = ap (λ (m : Move). elim m [ stop n ↦ stop n | on vs ↦ walk ts (inside (kind t) ++ vs) ]) (h (kind t) e)

    go : (items : List Item) → walk (written_items items (‹right› ∷ [])) (u ∷ items_s ∷ right_s ∷ []) ≡ walk (written_items items (‹right› ∷ [])) (items_s ∷ right_s ∷ [])
    go [] = at ‹right› [] refl
    go (declaration e ∷ items) = at ‹Declaration› (‹left› ∷ written_entity e (‹right› ∷ written_items items (‹right› ∷ []))) refl
    go (stated (sub_class_of C D) ∷ items) = at ‹SubClassOf› (‹left› ∷ written C (written D (‹right› ∷ written_items items (‹right› ∷ [])))) refl
    go (stated (equivalent_classes C D) ∷ items) = at ‹EquivalentClasses› (‹left› ∷ written C (written D (‹right› ∷ written_items items (‹right› ∷ [])))) refl

empty_head : (items : List Item) → walk (written_items items (‹right› ∷ [])) (head_s ∷ items_s ∷ right_s ∷ []) ≡ walk (written_items items (‹right› ∷ [])) (items_s ∷ right_s ∷ [])
unfolding expect takes_or
empty_head items = reads_none items head_s (λ k e. ap (λ (b : Bool). elim b [ true ↦ on (version_s ∷ items_s ∷ right_s ∷ []) | false ↦ expect k (items_s ∷ right_s ∷ []) ]) e)

empty_version : (items : List Item) → walk (written_items items (‹right› ∷ [])) (version_s ∷ items_s ∷ right_s ∷ []) ≡ walk (written_items items (‹right› ∷ [])) (items_s ∷ right_s ∷ [])
unfolding expect takes_or
empty_version items = reads_none items version_s (λ k e. ap (λ (b : Bool). elim b [ true ↦ on (items_s ∷ right_s ∷ []) | false ↦ expect k (items_s ∷ right_s ∷ []) ]) e)

reads_head : (h : Head) (items : List Item) → walk (written_head h (written_items items (‹right› ∷ []))) (head_s ∷ items_s ∷ right_s ∷ []) ≡ walk (written_items items (‹right› ∷ [])) (items_s ∷ right_s ∷ [])
unfolding walk expect takes_or is_name inside insides
reads_head no_name items = empty_head items
reads_head (one_name (short w)) items = empty_version items
reads_head (one_name (full w)) items = empty_version items
reads_head (two_names (short w) (short u)) items = refl
reads_head (two_names (short w) (full u)) items = refl
reads_head (two_names (full w) (short u)) items = refl
reads_head (two_names (full w) (full u)) items = refl

reads_prefixes : (ps : List PrefixLine) (rest : List Token) → walk (written_prefixes ps rest) start ≡ walk rest start
unfolding walk expect takes takes_or inside insides
reads_prefixes [] rest = refl
reads_prefixes (p ∷ ps) rest = reads_prefixes ps rest

pub complete : (f : File) → walk (written_file f) start ≡ on []
unfolding walk expect takes takes_or takes_more is_name begins_item inside insides
complete f =
    reads_prefixes f.prefixes (‹Ontology› ∷ ‹left› ∷ written_head f.head (written_items f.items (‹right› ∷ [])))
    ∙ reads_head f.head f.items
    ∙ reads_items f.items (‹right› ∷ []) (right_s ∷ [])

----------------------------------------------------------------------------------------------------
-- The first token that spoils the text

walk_on : (ts vs : List Token) (ss us : List Slot) → walk ts ss ≡ on us → walk (ts ++ vs) ss ≡ walk vs us
unfolding walk
walk_on [] vs ss us e = ap (walk vs) (on_inj ss us e)
walk_on (t ∷ ts) vs ss us e = go (expect (kind t) ss) e (λ xs f. walk_on ts vs (inside (kind t) ++ xs) us f)
  where
    go : (m : Move) → elim m [ stop n ↦ stop n | on xs ↦ walk ts (inside (kind t) ++ xs) ] ≡ on us →
        ((xs : List Slot) → walk ts (inside (kind t) ++ xs) ≡ on us → walk (ts ++ vs) (inside (kind t) ++ xs) ≡ walk vs us) →
        elim m [ stop n ↦ stop n | on xs ↦ walk (ts ++ vs) (inside (kind t) ++ xs) ] ≡ walk vs us
    go (stop n) e f = stop_on n us e
    go (on xs) e f = f xs e

walk_stop : (ts vs : List Token) (ss : List Slot) (n : ℕ) → walk ts ss ≡ stop n → walk (ts ++ vs) ss ≡ stop n
unfolding walk
walk_stop [] vs ss n e = stop_on n ss (sym e)
walk_stop (t ∷ ts) vs ss n e = go (expect (kind t) ss) e (λ xs f. walk_stop ts vs (inside (kind t) ++ xs) n f)
  where
    go : (m : Move) → elim m [ stop j ↦ stop j | on xs ↦ walk ts (inside (kind t) ++ xs) ] ≡ stop n →
        ((xs : List Slot) → walk ts (inside (kind t) ++ xs) ≡ stop n → walk (ts ++ vs) (inside (kind t) ++ xs) ≡ stop n) →
        elim m [ stop j ↦ stop j | on xs ↦ walk (ts ++ vs) (inside (kind t) ++ xs) ] ≡ stop n
    go (stop j) e f = e
    go (on xs) e f = f xs e

pub extends : (ts : List Token) (us : List Slot) → walk ts start ≡ on us → Begins ts
unfolding may_end
extends ts us e =
    let w = sound (ts ++ ending us) [] (walk_on ts (ending us) start us e ∙ can_end us (fit_walk ts start us e tt)) tt in
    (ending us, w.0, w.1)

pub spoiled : (ts : List Token) (n : ℕ) → walk ts start ≡ stop n → Begins ts → ⊥
spoiled ts n e b = stop_on n [] (sym (walk_stop ts b.0 start n e) ∙ ap (λ (l : List Token). walk l start) b.2 ∙ complete b.1)
