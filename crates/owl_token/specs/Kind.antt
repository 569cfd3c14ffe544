-- The numbers of the kinds of tokens, as `kind_at` counts them.
--
--   kind_number k == the number of the kind k
--   kinds         == the kinds, in the order of their numbers
--   kind_of_number, kind_number_injective, kind_number_differs, kind_number_below == each kind has its own number, from 0 to 17
use Rattle.std.specs.Prelude.{◌≡◌, refl, List, [], ◌∷◌, ℕ, ◌<◌, get_or}
use Rattle.std.proofs.Common.{sym, ap, ◌∙◌, arith}
use Rattle.owl_token.specs.declared.Kind.{Kind}
use Rattle.owl_token.specs.declared.Kind.TheVariants.{End, Open, Close, Equals, Prefix, Ontology, Declaration, Class, ObjectProperty, SubClassOf, EquivalentClasses, ObjectIntersectionOf, ObjectSomeValuesFrom, Short, Full, PrefixName, Unlisted, Other}

abbrev pub kind_number : Kind → ℕ
kind_number End = 0
kind_number Open = 1
kind_number Close = 2
kind_number Equals = 3
kind_number Prefix = 4
kind_number Ontology = 5
kind_number Declaration = 6
kind_number Class = 7
kind_number ObjectProperty = 8
kind_number SubClassOf = 9
kind_number EquivalentClasses = 10
kind_number ObjectIntersectionOf = 11
kind_number ObjectSomeValuesFrom = 12
kind_number Short = 13
kind_number Full = 14
kind_number PrefixName = 15
kind_number Unlisted = 16
kind_number Other = 17

-- the kinds, in the order of their numbers
unfoldable pub kinds : List Kind
kinds =
    End ∷ Open ∷ Close ∷ Equals
    ∷ Prefix ∷ Ontology ∷ Declaration ∷ Class ∷ ObjectProperty ∷ SubClassOf ∷ EquivalentClasses ∷ ObjectIntersectionOf ∷ ObjectSomeValuesFrom
    ∷ Short ∷ Full ∷ PrefixName ∷ Unlisted ∷ Other ∷ []

pub kind_of_number : (k : Kind) → get_or kinds (kind_number k) Other ≡ k
unfolding kinds
kind_of_number End = refl
kind_of_number Open = refl
kind_of_number Close = refl
kind_of_number Equals = refl
kind_of_number Prefix = refl
kind_of_number Ontology = refl
kind_of_number Declaration = refl
kind_of_number Class = refl
kind_of_number ObjectProperty = refl
kind_of_number SubClassOf = refl
kind_of_number EquivalentClasses = refl
kind_of_number ObjectIntersectionOf = refl
kind_of_number ObjectSomeValuesFrom = refl
kind_of_number Short = refl
kind_of_number Full = refl
kind_of_number PrefixName = refl
kind_of_number Unlisted = refl
kind_of_number Other = refl

pub kind_number_injective : (j k : Kind) → kind_number j ≡ kind_number k → j ≡ k
kind_number_injective j k e = sym (kind_of_number j) ∙ ap (λ (n : ℕ). get_or kinds n Other) e ∙ kind_of_number k

pub kind_number_differs : (j k : Kind) → (j ≡ k → ⊥) → kind_number j ≡ kind_number k → ⊥
kind_number_differs j k h e = h (kind_number_injective j k e)

pub kind_number_below : (k : Kind) → kind_number k < 18
kind_number_below End = omega arith
kind_number_below Open = omega arith
kind_number_below Close = omega arith
kind_number_below Equals = omega arith
kind_number_below Prefix = omega arith
kind_number_below Ontology = omega arith
kind_number_below Declaration = omega arith
kind_number_below Class = omega arith
kind_number_below ObjectProperty = omega arith
kind_number_below SubClassOf = omega arith
kind_number_below EquivalentClasses = omega arith
kind_number_below ObjectIntersectionOf = omega arith
kind_number_below ObjectSomeValuesFrom = omega arith
kind_number_below Short = omega arith
kind_number_below Full = omega arith
kind_number_below PrefixName = omega arith
kind_number_below Unlisted = omega arith
kind_number_below Other = omega arith
