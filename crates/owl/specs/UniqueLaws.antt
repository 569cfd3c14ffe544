-- A text says one file at most.
--
--   class_unique, item_unique, .. == what is written alike is alike, and so is what stands behind it
--   file_unique                   == two files that are written alike are equal
--   says_unique                   == two files that a text says are equal
use Rattle.std.specs.Prelude.{◌≡◌, refl, List, [], ◌∷◌, ℕ}
use Rattle.std.proofs.Common.{sym, ap, ap₂, subst, ◌∙◌, arith}
use Rattle.owl.specs.Tree.{Name, short, full, Class, named, intersection_of, some_values_from, Classes, last, more, Axiom, sub_class_of, equivalent_classes, Entity, class, object_property, Item, declaration, stated, Head, no_name, one_name, two_names, PrefixLine, File}
use Rattle.owl.specs.Written.{Token, sign, text, kind, ‹left›, ‹right›, ‹Ontology›, ‹name›, written, writtens, written_axiom, written_entity, written_item, written_items, written_head, written_prefixes, written_file, tokens, Says}

abbrev first : List Token → ℕ
first [] = 0
first (t ∷ ts) = kind t

abbrev behind : List Token → List Token
behind [] = []
behind (t ∷ ts) = ts

abbrev bytes : List Token → List ℕ
bytes [] = []
bytes (sign k ∷ ts) = []
bytes (text k w ∷ ts) = w

-- two kinds at the same place
differ : {A : Type 0} (ts us : List Token) (m n : ℕ) → first ts ≡ m → first us ≡ n → ts ≡ us → (m ≡ n → ⊥) → A
differ ts us m n e f d h = absurd (h (sym e ∙ ap first d ∙ f))

name_unique : (n m : Name) (r s : List Token) → ‹name› n ∷ r ≡ ‹name› m ∷ s → n ≡ m
name_unique (short w) (short u) r s e = ap (λ (l : List Token). short (bytes l)) e
name_unique (short w) (full u) r s e = differ (text 13 w ∷ r) (text 14 u ∷ s) 13 14 refl refl e (λ z. omega arith)
name_unique (full w) (short u) r s e = differ (text 14 w ∷ r) (text 13 u ∷ s) 14 13 refl refl e (λ z. omega arith)
name_unique (full w) (full u) r s e = ap (λ (l : List Token). full (bytes l)) e

name_not_word : {A : Type 0} (n : Name) (k : ℕ) (r ts : List Token) → first ts ≡ k → (k ≡ 13 → ⊥) → (k ≡ 14 → ⊥) → ‹name› n ∷ r ≡ ts → A
name_not_word (short w) k r ts e h l d = differ (text 13 w ∷ r) ts 13 k refl e d (λ z. h (sym z))
name_not_word (full w) k r ts e h l d = differ (text 14 w ∷ r) ts 14 k refl e d (λ z. l (sym z))

-- no class expression begins with `)`
class_not_right : {A : Type 0} (C : Class) (r s : List Token) → ‹right› ∷ r ≡ written C s → A
class_not_right (named n) r s e = name_not_word n 2 s (‹right› ∷ r) refl (λ z. omega arith) (λ z. omega arith) (sym e)
class_not_right (intersection_of C Cs) r s e = differ (‹right› ∷ r) (written (intersection_of C Cs) s) 2 11 refl refl e (λ z. omega arith)
class_not_right (some_values_from n C) r s e = differ (‹right› ∷ r) (written (some_values_from n C) s) 2 12 refl refl e (λ z. omega arith)

classes_not_right : {A : Type 0} (Cs : Classes) (r s : List Token) → ‹right› ∷ r ≡ writtens Cs s → A
classes_not_right (last C) r s e = class_not_right C r s e
classes_not_right (more C Cs) r s e = class_not_right C r (writtens Cs s) e

mutual
  class_unique : (C D : Class) (r s : List Token) → written C r ≡ written D s → (C ≡ D) × (r ≡ s)
  class_unique (named n) (named m) r s e = (ap named (name_unique n m r s e), ap behind e)
  class_unique (named n) (intersection_of D Ds) r s e = name_not_word n 11 r (written (intersection_of D Ds) s) refl (λ z. omega arith) (λ z. omega arith) e
  class_unique (named n) (some_values_from m D) r s e = name_not_word n 12 r (written (some_values_from m D) s) refl (λ z. omega arith) (λ z. omega arith) e
  class_unique (intersection_of C Cs) (named m) r s e = name_not_word m 11 s (written (intersection_of C Cs) r) refl (λ z. omega arith) (λ z. omega arith) (sym e)
  class_unique (intersection_of C Cs) (intersection_of D Ds) r s e =
      let c = class_unique C D (writtens Cs (‹right› ∷ r)) (writtens Ds (‹right› ∷ s)) (ap behind (ap behind e)) in
      let d = classes_unique Cs Ds r s c.1 in
      (ap₂ intersection_of c.0 d.0, d.1)
  class_unique (intersection_of C Cs) (some_values_from m D) r s e = differ (written (intersection_of C Cs) r) (written (some_values_from m D) s) 11 12 refl refl e (λ z. omega arith)
  class_unique (some_values_from n C) (named m) r s e = name_not_word m 12 s (written (some_values_from n C) r) refl (λ z. omega arith) (λ z. omega arith) (sym e)
  class_unique (some_values_from n C) (intersection_of D Ds) r s e = differ (written (some_values_from n C) r) (written (intersection_of D Ds) s) 12 11 refl refl e (λ z. omega arith)
  class_unique (some_values_from n C) (some_values_from m D) r s e =
      let t = ap behind (ap behind e) in
      let c = class_unique C D (‹right› ∷ r) (‹right› ∷ s) (ap behind t) in
      (ap₂ some_values_from (name_unique n m (written C (‹right› ∷ r)) (written D (‹right› ∷ s)) t) c.0, ap behind c.1)

  classes_unique : (Cs Ds : Classes) (r s : List Token) → writtens Cs (‹right› ∷ r) ≡ writtens Ds (‹right› ∷ s) → (Cs ≡ Ds) × (r ≡ s)
  classes_unique (last C) (last D) r s e = let c = class_unique C D (‹right› ∷ r) (‹right› ∷ s) e in (ap last c.0, ap behind c.1)
  classes_unique (last C) (more D Ds) r s e = classes_not_right Ds r (‹right› ∷ s) (class_unique C D (‹right› ∷ r) (writtens Ds (‹right› ∷ s)) e).1
  classes_unique (more C Cs) (last D) r s e = classes_not_right Cs s (‹right› ∷ r) (sym (class_unique C D (writtens Cs (‹right› ∷ r)) (‹right› ∷ s) e).1)
  classes_unique (more C Cs) (more D Ds) r s e =
      let c = class_unique C D (writtens Cs (‹right› ∷ r)) (writtens Ds (‹right› ∷ s)) e in
      let d = classes_unique Cs Ds r s c.1 in
      (ap₂ more c.0 d.0, d.1)

two_unique : (C D C' D' : Class) (r s : List Token) → written C (written D (‹right› ∷ r)) ≡ written C' (written D' (‹right› ∷ s)) → (C ≡ C') × (D ≡ D') × (r ≡ s)
two_unique C D C' D' r s e =
    let c = class_unique C C' (written D (‹right› ∷ r)) (written D' (‹right› ∷ s)) e in
    let d = class_unique D D' (‹right› ∷ r) (‹right› ∷ s) c.1 in
    (c.0, d.0, ap behind d.1)

axiom_unique : (A B : Axiom) (r s : List Token) → written_axiom A r ≡ written_axiom B s → (A ≡ B) × (r ≡ s)
axiom_unique (sub_class_of C D) (sub_class_of C' D') r s e = let t = two_unique C D C' D' r s (ap behind (ap behind e)) in (ap₂ sub_class_of t.0 t.1, t.2)
axiom_unique (sub_class_of C D) (equivalent_classes C' D') r s e = differ (written_axiom (sub_class_of C D) r) (written_axiom (equivalent_classes C' D') s) 9 10 refl refl e (λ z. omega arith)
axiom_unique (equivalent_classes C D) (sub_class_of C' D') r s e = differ (written_axiom (equivalent_classes C D) r) (written_axiom (sub_class_of C' D') s) 10 9 refl refl e (λ z. omega arith)
axiom_unique (equivalent_classes C D) (equivalent_classes C' D') r s e = let t = two_unique C D C' D' r s (ap behind (ap behind e)) in (ap₂ equivalent_classes t.0 t.1, t.2)

entity_unique : (a b : Entity) (r s : List Token) → written_entity a r ≡ written_entity b s → (a ≡ b) × (r ≡ s)
entity_unique (class n) (class m) r s e = let t = ap behind (ap behind e) in (ap class (name_unique n m (‹right› ∷ r) (‹right› ∷ s) t), ap behind (ap behind t))
entity_unique (class n) (object_property m) r s e = differ (written_entity (class n) r) (written_entity (object_property m) s) 7 8 refl refl e (λ z. omega arith)
entity_unique (object_property n) (class m) r s e = differ (written_entity (object_property n) r) (written_entity (class m) s) 8 7 refl refl e (λ z. omega arith)
entity_unique (object_property n) (object_property m) r s e = let t = ap behind (ap behind e) in (ap object_property (name_unique n m (‹right› ∷ r) (‹right› ∷ s) t), ap behind (ap behind t))

-- the kinds that an axiom begins with
axiom_first : (A : Axiom) (r : List Token) (P : ℕ → Type 0) → P 9 → P 10 → P (first (written_axiom A r))
axiom_first (sub_class_of C D) r P h k = h
axiom_first (equivalent_classes C D) r P h k = k

item_unique : (i j : Item) (r s : List Token) → written_item i r ≡ written_item j s → (i ≡ j) × (r ≡ s)
item_unique (declaration a) (declaration b) r s e =
    let t = entity_unique a b (‹right› ∷ r) (‹right› ∷ s) (ap behind (ap behind e)) in
    (ap declaration t.0, ap behind t.1)
item_unique (declaration a) (stated B) r s e = absurd (axiom_first B s (λ k. 6 ≡ k → ⊥) (λ z. omega arith) (λ z. omega arith) (ap first e))
item_unique (stated A) (declaration b) r s e = absurd (axiom_first A r (λ k. 6 ≡ k → ⊥) (λ z. omega arith) (λ z. omega arith) (ap first (sym e)))
item_unique (stated A) (stated B) r s e = let t = axiom_unique A B r s e in (ap stated t.0, t.1)

-- and an item
item_first : (i : Item) (r : List Token) (P : ℕ → Type 0) → P 6 → P 9 → P 10 → P (first (written_item i r))
item_first (declaration e) r P g h k = g
item_first (stated A) r P g h k = axiom_first A r P h k

-- the items of an ontology begin with an item or with its last `)`
items_first : (items : List Item) (r : List Token) (P : ℕ → Type 0) → P 2 → P 6 → P 9 → P 10 → P (first (written_items items (‹right› ∷ r)))
items_first [] r P f g h k = f
items_first (i ∷ items) r P f g h k = item_first i (written_items items (‹right› ∷ r)) P g h k

items_unique : (items jtems : List Item) (r s : List Token) → written_items items (‹right› ∷ r) ≡ written_items jtems (‹right› ∷ s) → (items ≡ jtems) × (r ≡ s)
items_unique [] [] r s e = (refl, ap behind e)
items_unique [] (j ∷ jtems) r s e = absurd (item_first j (written_items jtems (‹right› ∷ s)) (λ k. 2 ≡ k → ⊥) (λ z. omega arith) (λ z. omega arith) (λ z. omega arith) (ap first e))
items_unique (i ∷ items) [] r s e = absurd (item_first i (written_items items (‹right› ∷ r)) (λ k. 2 ≡ k → ⊥) (λ z. omega arith) (λ z. omega arith) (λ z. omega arith) (ap first (sym e)))
items_unique (i ∷ items) (j ∷ jtems) r s e =
    let c = item_unique i j (written_items items (‹right› ∷ r)) (written_items jtems (‹right› ∷ s)) e in
    let d = items_unique items jtems r s c.1 in
    (ap₂ (λ (x : Item) (l : List Item). x ∷ l) c.0 d.0, d.1)

-- no name stands where the items begin
name_not_items : {A : Type 0} (n : Name) (r : List Token) (items : List Item) (s : List Token) → ‹name› n ∷ r ≡ written_items items (‹right› ∷ s) → A
name_not_items n r items s e =
    absurd (items_first items s (λ k. first (written_items items (‹right› ∷ s)) ≡ k → ⊥) (λ z. no 2 z (λ y. omega arith) (λ y. omega arith)) (λ z. no 6 z (λ y. omega arith) (λ y. omega arith))
    (λ z. no 9 z (λ y. omega arith) (λ y. omega arith)) (λ z. no 10 z (λ y. omega arith) (λ y. omega arith)) refl)
  where
    no : (k : ℕ) → first (written_items items (‹right› ∷ s)) ≡ k → (k ≡ 13 → ⊥) → (k ≡ 14 → ⊥) → ⊥
    no k z h l = name_not_word n k r (written_items items (‹right› ∷ s)) z h l e

head_unique : (h k : Head) (items jtems : List Item) → written_head h (written_items items (‹right› ∷ [])) ≡ written_head k (written_items jtems (‹right› ∷ [])) → (h ≡ k) × (items ≡ jtems)
head_unique no_name no_name items jtems e = (refl, (items_unique items jtems [] [] e).0)
head_unique no_name (one_name m) items jtems e = name_not_items m (written_items jtems (‹right› ∷ [])) items [] (sym e)
head_unique no_name (two_names m m') items jtems e = name_not_items m (‹name› m' ∷ written_items jtems (‹right› ∷ [])) items [] (sym e)
head_unique (one_name n) no_name items jtems e = name_not_items n (written_items items (‹right› ∷ [])) jtems [] e
head_unique (one_name n) (one_name m) items jtems e = (ap one_name (name_unique n m (written_items items (‹right› ∷ [])) (written_items jtems (‹right› ∷ [])) e), (items_unique items jtems [] [] (ap behind e)).0)
head_unique (one_name n) (two_names m m') items jtems e = name_not_items m' (written_items jtems (‹right› ∷ [])) items [] (sym (ap behind e))
head_unique (two_names n n') no_name items jtems e = name_not_items n (‹name› n' ∷ written_items items (‹right› ∷ [])) jtems [] e
head_unique (two_names n n') (one_name m) items jtems e = name_not_items n' (written_items items (‹right› ∷ [])) jtems [] (ap behind e)
head_unique (two_names n n') (two_names m m') items jtems e = (
  ap₂ two_names (name_unique n m (‹name› n' ∷ written_items items (‹right› ∷ [])) (‹name› m' ∷ written_items jtems (‹right› ∷ [])) e)
      (name_unique n' m' (written_items items (‹right› ∷ [])) (written_items jtems (‹right› ∷ [])) (ap behind e)),
  (items_unique items jtems [] [] (ap behind (ap behind e))).0,
)

abbrev prefix_line : List ℕ → List ℕ → PrefixLine
prefix_line w u = record { label = w; target = u }

prefixes_unique : (ps qs : List PrefixLine) (r s : List Token) → written_prefixes ps (‹Ontology› ∷ r) ≡ written_prefixes qs (‹Ontology› ∷ s) → (ps ≡ qs) × (r ≡ s)
prefixes_unique [] [] r s e = (refl, ap behind e)
prefixes_unique [] (q ∷ qs) r s e = differ (‹Ontology› ∷ r) (written_prefixes (q ∷ qs) (‹Ontology› ∷ s)) 5 4 refl refl e (λ z. omega arith)
prefixes_unique (p ∷ ps) [] r s e = differ (written_prefixes (p ∷ ps) (‹Ontology› ∷ r)) (‹Ontology› ∷ s) 4 5 refl refl e (λ z. omega arith)
prefixes_unique (p ∷ ps) (q ∷ qs) r s e =
    let t = ap behind (ap behind e) in
    let w : p.label ≡ q.label = ap bytes t in
    let u : p.target ≡ q.target = ap bytes (ap behind (ap behind t)) in
    let d = prefixes_unique ps qs r s (ap behind (ap behind (ap behind (ap behind t)))) in
    (ap₂ (λ (x : PrefixLine) (l : List PrefixLine). x ∷ l) (ap₂ prefix_line w u) d.0, d.1)

pub file_unique : (f g : File) → written_file f ≡ written_file g → f ≡ g
file_unique f g e =
    let p =
    prefixes_unique f.prefixes g.prefixes (‹left› ∷ written_head f.head (written_items f.items (‹right› ∷ []))) (‹left› ∷ written_head g.head (written_items g.items (‹right› ∷ []))) e
    in let h = head_unique f.head g.head f.items g.items (ap behind p.1) in
    ap₂ (λ (l : List PrefixLine) (k : Head). record { prefixes = l; head = k; items = f.items }) p.0 h.0 ∙ ap (λ (l : List Item). record { prefixes = g.prefixes; head = g.head; items = l }) h.1

pub says_unique : (s : List ℕ) (f g : File) → Says s f → Says s g → f ≡ g
unfolding Says
says_unique s f g a b = file_unique f g (sym a ∙ b)
