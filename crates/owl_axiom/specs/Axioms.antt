-- The axioms of a text, in its order, by their bytes.
--
--   ItemsAt s at q n items == the items from byte `at` on; q is what the next name does, n is the number of the next filler that is no name
--   FirstItem s at     == the items of the file that the text s says begin behind byte `at`
--   BehindNames s at e == where a head and items begin behind byte `at`, the items begin behind byte e
--   fresh_in s C        == how many fresh variables a class expression of the text s makes
--   Sides s left right end n C D tail == two class expressions and the bracket that closes their axiom, before the tokens `tail`
--   WordSides s at left right end == where an axiom's brackets begin behind byte `at`, these are its sides
--   AxiomIs s A items n left right end == the first axiom of the items: A of the class expressions at the bytes `left` and `right`; the items behind
--                         it begin behind byte `end`
--   NextAxiom s at kind left right end == what the code tells of the first axiom of the items from byte `at` on. Kind 0: there is none; 9:
--                         SubClassOf; any other: EquivalentClasses
--   axiom_number k     == what an axiom of the code says, as a number
--   IsAxiom s from a   == a is the first axiom of the items from byte `from` on; the items behind it begin behind that byte
--   FindsAxiom s from o == o is that axiom, if there is one
use Rattle.std.specs.Prelude.{◌≡◌, List, [], ◌∷◌, ℕ, ◌+◌, ◌≤◌, ◌<◌, length, Option, Some, None}
use Rattle.owl.specs.Tree.{Class, Axiom, sub_class_of, equivalent_classes, Item, Head, File, axioms_of}
use Rattle.owl.specs.Written.{Token, ‹left›, ‹right›, written, written_items, written_head, Says}
use Rattle.owl.specs.Mention.{names_in}
use Rattle.owl.specs.Flattening.{concept_of, fresh}
use Rattle.owl_axiom.specs.declared.Axiom as code
use Rattle.owl_axiom.specs.declared.AxiomKind.{AxiomKind}
use Rattle.owl_axiom.specs.declared.AxiomKind.TheVariants.{SubClassOf, EquivalentClasses}
use Rattle.owl_axiom.specs.Passing.{passing, Stands, SideAt}

abbrev pub ItemsAt : List ℕ → ℕ → ℕ → ℕ → List Item → Type 0
ItemsAt s at q n items = Stands s at (passing q n (written_items items (‹right› ∷ [])))

unfoldable pub FirstItem : List ℕ → ℕ → Type 0
FirstItem s at = (f : File) → Says s f → ItemsAt s at 0 0 f.items

unfoldable pub BehindNames : List ℕ → ℕ → ℕ → Type 0
BehindNames s at e = (h : Head) (items : List Item) → Stands s at (passing 0 0 (written_head h (written_items items (‹right› ∷ [])))) → ItemsAt s e 0 0 items

abbrev pub fresh_in : List ℕ → Class → ℕ
fresh_in s C = fresh (concept_of (names_in s) C)

pub record Sides (s : List ℕ) (left right end n : ℕ) (C D : Class) (tail : List Token) : Type 0 where
  pub less : SideAt s left C n
  pub greater : SideAt s right D (n + fresh_in s C)
  pub rest : Stands s end (passing 3 (n + fresh_in s C + fresh_in s D) tail)

unfoldable pub WordSides : List ℕ → ℕ → ℕ → ℕ → ℕ → Type 0
WordSides s at left right end = (n : ℕ) (C D : Class) (tail : List Token) → Stands s at (passing 3 n (‹left› ∷ written C (written D (‹right› ∷ tail)))) → Sides s left right end n C D tail

pub record AxiomIs (s : List ℕ) (A : Class → Class → Axiom) (items : List Item) (n left right end : ℕ) : Type 0 where
  pub less : Class
  pub greater : Class
  pub behind : List Item
  pub axioms : axioms_of items ≡ A less greater ∷ axioms_of behind
  pub sides : Sides s left right end n less greater (written_items behind (‹right› ∷ []))

unfoldable pub NextAxiom : List ℕ → ℕ → ℕ → ℕ → ℕ → ℕ → Type 0
NextAxiom s at kind left right end =
    (q n : ℕ) (items : List Item) → ItemsAt s at q n items →
    (kind ≡ 0 → axioms_of items ≡ []) × (kind ≡ 9 → AxiomIs s sub_class_of items n left right end) × ((kind ≡ 0 → ⊥) → (kind ≡ 9 → ⊥) → AxiomIs s equivalent_classes items n left right end)

abbrev pub axiom_number : AxiomKind → ℕ
axiom_number SubClassOf = 9
axiom_number EquivalentClasses = 10

pub record IsAxiom (s : List ℕ) (from : ℕ) (a : code.Axiom) : Type 0 where
  pub is : NextAxiom s from (axiom_number a.kind) a.left a.right a.end
  pub goes : from < a.end
  pub left : a.left ≤ length s
  pub right : a.right ≤ length s
  pub end : a.end ≤ length s

abbrev pub FindsAxiom : List ℕ → ℕ → Option code.Axiom → Type 0
FindsAxiom s from None = NextAxiom s from 0 from from from
FindsAxiom s from (Some a) = IsAxiom s from a
