-- Laws of the axioms of a text.
--
--   stands_kind, stands_on == the first token that is left, and what stands behind it
--   word_sides             == the sides of an axiom
--   Sought                 == the axioms of the items from byte `from` on are those of the items from byte `at` on
--   sought_start, sought_turn, sought_sub, sought_equivalent, sought_none == item by item
--   axiom_is               == an axiom of the code
use mathlib.Core.Path.{◌≡◌, refl, sym, ap, subst, ◌∙◌}
use mathlib.Core.List.{List, [], ◌∷◌}
use Prim.Native.Nat.{ℕ, ◌+◌, ◌≤◌, ◌<◌}
use native.Mathlib.Omega.{arith}
use lib.ListN.{length}
use Rattle.owl.specs.Tree.{short, full, sub_class_of, equivalent_classes, Entity, class, object_property, Item, declaration, stated, axioms_of}
use Rattle.owl.specs.Written.{Token, kind, ‹left›, ‹right›, ‹Declaration›, ‹SubClassOf›, ‹EquivalentClasses›, written, written_entity, written_items}
use Rattle.owl.specs.Grammar.{is_name}
use Rattle.owl.specs.Mention.{word_sorts, sort_after, names_in}
use Rattle.owl.specs.Conjunct.{number_after}
use Rattle.owl_name.proofs.RestLaws.{AtToken}
use Rattle.owl_class.specs.Ends.{rest_tokens, deeper, skip, Jumps, EndsAt}
use Rattle.owl_class.proofs.EndLaws.{first, rest_first}
use Rattle.owl_axiom.specs.Passing.{Passing, passing, step, Stands}
use Rattle.owl_axiom.specs.PassingLaws.{stands_step, stands_jump, class_past}
use Rattle.owl_axiom.specs.declared.Axiom as code
use Rattle.owl_axiom.specs.declared.AxiomKind.{AxiomKind}
use Rattle.owl_axiom.specs.Axioms.{ItemsAt, fresh_in, WordSides, AxiomIs, NextAxiom, axiom_number, IsAxiom}

pub stands_kind : (s : List ℕ) (at q n k p e : ℕ) (t : Token) (ts : List Token) → Stands s at (passing q n (t ∷ ts)) → AtToken s at k p e → kind t ≡ k
stands_kind s at q n k p e t ts c a = sym (ap first c.left) ∙ (rest_first s at k p e a c.within).0

pub stands_on : (s : List ℕ) (at k p e : ℕ) (x : Passing) → Stands s at x → AtToken s at k p e → (k ≡ 0 → ⊥) → Stands s e (step x)
stands_on s at k p e x c a z = subst (λ (b : ℕ). Stands s b (step x)) (sym a.2) (stands_step s at x c (λ y. z (a.0 ∙ y)))

----------------------------------------------------------------------------------------------------
-- The sides of an axiom

pub word_sides : (s : List ℕ) (at k p left right last j o end : ℕ) → AtToken s at k p left → EndsAt s left right → EndsAt s right last → AtToken s last j o end → WordSides s at left right end
unfolding WordSides sort_after number_after is_name
word_sides s at k p left right last j o end a l r b n C D tail c =
    let i : 1 ≡ k = stands_kind s at 3 n k p left ‹left› (written C (written D (‹right› ∷ tail))) c a in
    let x : Stands s left (passing 3 n (written C (written D (‹right› ∷ tail)))) = stands_on s at k p left (passing 3 n (‹left› ∷ written C (written D (‹right› ∷ tail)))) c a (λ z. omega arith) in
    let y : Stands s right (passing 3 (n + fresh_in s C) (written D (‹right› ∷ tail))) = class_past (names_in s) s left right n C (written D (‹right› ∷ tail)) x l in
    let w : Stands s last (passing 3 (n + fresh_in s C + fresh_in s D) (‹right› ∷ tail)) = class_past (names_in s) s right last (n + fresh_in s C) D (‹right› ∷ tail) y r in
    let h : 2 ≡ j = stands_kind s last 3 (n + fresh_in s C + fresh_in s D) j o end ‹right› tail w b in record {
      less = record { behind = written D (‹right› ∷ tail); stands = x };
      greater = record { behind = ‹right› ∷ tail; stands = y };
      rest = stands_on s last j o end (passing 3 (n + fresh_in s C + fresh_in s D) (‹right› ∷ tail)) w b (λ z. omega arith);
    }

----------------------------------------------------------------------------------------------------
-- Item by item

-- a declaration passed
entity_past : (s : List ℕ) (at r n : ℕ) (e : Entity) (tail : List Token) → Stands s at (passing 0 n (‹left› ∷ written_entity e (‹right› ∷ tail))) →
    rest_tokens s r ≡ skip 0 (rest_tokens s at) → Jumps s at r → (q : ℕ) × Stands s r (passing q n tail)
unfolding skip deeper sort_after word_sorts number_after is_name
entity_past s at r n (class (short w)) tail c d j =
    let f : rest_tokens s r ≡ tail = d ∙ ap (skip 0) c.left in
    let g : length (rest_tokens s r) ≡ length tail = ap length f in
    (1, stands_jump s at r 6 (passing 0 n (‹left› ∷ written_entity (class (short w)) (‹right› ∷ tail))) c j (omega arith))
entity_past s at r n (class (full w)) tail c d j =
    let f : rest_tokens s r ≡ tail = d ∙ ap (skip 0) c.left in
    let g : length (rest_tokens s r) ≡ length tail = ap length f in
    (1, stands_jump s at r 6 (passing 0 n (‹left› ∷ written_entity (class (full w)) (‹right› ∷ tail))) c j (omega arith))
entity_past s at r n (object_property (short w)) tail c d j =
    let f : rest_tokens s r ≡ tail = d ∙ ap (skip 0) c.left in
    let g : length (rest_tokens s r) ≡ length tail = ap length f in
    (2, stands_jump s at r 6 (passing 0 n (‹left› ∷ written_entity (object_property (short w)) (‹right› ∷ tail))) c j (omega arith))
entity_past s at r n (object_property (full w)) tail c d j =
    let f : rest_tokens s r ≡ tail = d ∙ ap (skip 0) c.left in
    let g : length (rest_tokens s r) ≡ length tail = ap length f in
    (2, stands_jump s at r 6 (passing 0 n (‹left› ∷ written_entity (object_property (full w)) (‹right› ∷ tail))) c j (omega arith))

-- the kind of the token that begins the items
abbrev pub beginning : List Item → ℕ
beginning [] = 2
beginning (declaration e ∷ items) = 6
beginning (stated (sub_class_of C D) ∷ items) = 9
beginning (stated (equivalent_classes C D) ∷ items) = 10

pub items_kind : (s : List ℕ) (at q n k p e : ℕ) (items : List Item) → ItemsAt s at q n items → AtToken s at k p e → beginning items ≡ k
items_kind s at q n k p e [] c a = stands_kind s at q n k p e ‹right› [] c a
items_kind s at q n k p e (declaration E ∷ items) c a = stands_kind s at q n k p e ‹Declaration› (‹left› ∷ written_entity E (‹right› ∷ written_items items (‹right› ∷ []))) c a
items_kind s at q n k p e (stated (sub_class_of C D) ∷ items) c a = stands_kind s at q n k p e ‹SubClassOf› (‹left› ∷ written C (written D (‹right› ∷ written_items items (‹right› ∷ [])))) c a
items_kind s at q n k p e (stated (equivalent_classes C D) ∷ items) c a = stands_kind s at q n k p e ‹EquivalentClasses› (‹left› ∷ written C (written D (‹right› ∷ written_items items (‹right› ∷ [])))) c a

unfoldable pub Sought : List ℕ → ℕ → ℕ → Type 0
Sought s from at = (q n : ℕ) (items : List Item) → ItemsAt s from q n items → (r : ℕ) × (rest : List Item) × ItemsAt s at r n rest × (axioms_of items ≡ axioms_of rest)

pub sought_start : (s : List ℕ) (at : ℕ) → Sought s at at
unfolding Sought
sought_start s at q n items c = (q, items, c, refl)

-- a declaration
pub sought_turn : (s : List ℕ) (from at k p e r : ℕ) → Sought s from at → AtToken s at k p e → k ≡ 6 → rest_tokens s r ≡ skip 0 (rest_tokens s e) → Jumps s e r → Sought s from r
unfolding Sought axioms_of sort_after word_sorts number_after is_name
sought_turn s from at k p e r c a h d j q n items b = let w = c q n items b in go w.0 w.1 w.2 w.3 (items_kind s at w.0 n k p e w.1 w.2 a)
  where
    go : (q' : ℕ) (rest : List Item) → ItemsAt s at q' n rest → axioms_of items ≡ axioms_of rest → beginning rest ≡ k → (q'' : ℕ) × (more : List Item) × ItemsAt s r q'' n more × (axioms_of items ≡ axioms_of more)
    go q' [] x y i = absurd (let z : ⊥ = omega arith in z)
    go q' (declaration E ∷ rest) x y i =
        let v = entity_past s e r n E (written_items rest (‹right› ∷ [])) (stands_on s at k p e (passing q' n (written_items (declaration E ∷ rest) (‹right› ∷ []))) x a (λ z. omega arith)) d j in
        (v.0, rest, v.1, y)
    go q' (stated (sub_class_of C D) ∷ rest) x y i = absurd (let z : ⊥ = omega arith in z)
    go q' (stated (equivalent_classes C D) ∷ rest) x y i = absurd (let z : ⊥ = omega arith in z)

-- an axiom, or no item
module _ (s : List ℕ) (from at k p e : ℕ) (c : Sought s from at) (a : AtToken s at k p e) where
  pub sought_sub : (left right end : ℕ) → k ≡ 9 → WordSides s e left right end → NextAxiom s from 9 left right end
  unfolding Sought WordSides NextAxiom axioms_of sort_after word_sorts number_after is_name
  sought_sub left right end h f q n items b =
      let w = c q n items b in
      ((λ z. absurd (let x : ⊥ = omega arith in x)), (λ z. go w.0 w.1 w.2 w.3 (items_kind s at w.0 n k p e w.1 w.2 a)), (λ x z. absurd (z refl)))
    where
      go : (q' : ℕ) (rest : List Item) → ItemsAt s at q' n rest → axioms_of items ≡ axioms_of rest → beginning rest ≡ k → AxiomIs s sub_class_of items n left right end
      go q' [] x y i = absurd (let z : ⊥ = omega arith in z)
      go q' (declaration E ∷ rest) x y i = absurd (let z : ⊥ = omega arith in z)
      go q' (stated (sub_class_of C D) ∷ rest) x y i = record {
        less = C;
        greater = D;
        behind = rest;
        axioms = y;
        sides = f n C D (written_items rest (‹right› ∷ [])) (stands_on s at k p e (passing q' n (written_items (stated (sub_class_of C D) ∷ rest) (‹right› ∷ []))) x a (λ z. omega arith));
      }
      go q' (stated (equivalent_classes C D) ∷ rest) x y i = absurd (let z : ⊥ = omega arith in z)

  pub sought_equivalent : (left right end : ℕ) → k ≡ 10 → WordSides s e left right end → NextAxiom s from 10 left right end
  unfolding Sought WordSides NextAxiom axioms_of sort_after word_sorts number_after is_name
  sought_equivalent left right end h f q n items b =
      let w = c q n items b in
      ((λ z. absurd (let x : ⊥ = omega arith in x)), (λ z. absurd (let x : ⊥ = omega arith in x)), (λ x z. go w.0 w.1 w.2 w.3 (items_kind s at w.0 n k p e w.1 w.2 a)))
    where
      go : (q' : ℕ) (rest : List Item) → ItemsAt s at q' n rest → axioms_of items ≡ axioms_of rest → beginning rest ≡ k → AxiomIs s equivalent_classes items n left right end
      go q' [] x y i = absurd (let z : ⊥ = omega arith in z)
      go q' (declaration E ∷ rest) x y i = absurd (let z : ⊥ = omega arith in z)
      go q' (stated (sub_class_of C D) ∷ rest) x y i = absurd (let z : ⊥ = omega arith in z)
      go q' (stated (equivalent_classes C D) ∷ rest) x y i = record {
        less = C;
        greater = D;
        behind = rest;
        axioms = y;
        sides = f n C D (written_items rest (‹right› ∷ [])) (stands_on s at k p e (passing q' n (written_items (stated (equivalent_classes C D) ∷ rest) (‹right› ∷ []))) x a (λ z. omega arith));
      }

  pub sought_none : (left right end : ℕ) → (k ≡ 6 → ⊥) → (k ≡ 9 → ⊥) → (k ≡ 10 → ⊥) → NextAxiom s from 0 left right end
  unfolding Sought NextAxiom axioms_of
  sought_none left right end h l m q n items b =
      let w = c q n items b in
      ((λ z. w.3 ∙ go w.1 (items_kind s at w.0 n k p e w.1 w.2 a)), (λ z. absurd (let y : ⊥ = omega arith in y)), (λ y z. absurd (y refl)))
    where
      go : (rest : List Item) → beginning rest ≡ k → axioms_of rest ≡ []
      go [] i = refl
      go (declaration E ∷ rest) i = absurd (let z : ⊥ = omega arith in z)
      go (stated (sub_class_of C D) ∷ rest) i = absurd (let z : ⊥ = omega arith in z)
      go (stated (equivalent_classes C D) ∷ rest) i = absurd (let z : ⊥ = omega arith in z)

pub axiom_is : (s : List ℕ) (from : ℕ) (a : code.Axiom) (k : AxiomKind) → a.kind ≡ k → NextAxiom s from (axiom_number k) a.left a.right a.end → from < a.end → a.left ≤ length s → a.right ≤ length s → a.end ≤ length s →
    IsAxiom s from a
axiom_is s from a k e h f l r b = record {
  is = subst (λ (k : AxiomKind). NextAxiom s from (axiom_number k) a.left a.right a.end) (sym e) h;
  goes = f;
  left = l;
  right = r;
  end = b;
}
