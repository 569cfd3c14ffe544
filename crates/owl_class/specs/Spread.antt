-- The conjuncts of a class expression, as the code goes through them.
--
--   wanted inner m       == a name that a mention m tells is a conjunct, where `inner` brackets of a restriction are open
--   conjunct_by inner x  == the conjunct that the token at a stop is, if it is one
--   left_in o w n        == the conjuncts of the walk w that are left, where it is inside o, or has ended
--   left_of c n          == the conjuncts that are left, where n is the number of the next filler that is no name
--   LastOf c n           == the restrictions that are left are the last ones of the text
--   Starts s from c      == all of the class expression that begins with the next token after byte `from` is left
--   IsFirst s x R y      == x tells the conjunct y: a name, or, where R holds, one of the text's restrictions
--   Brings s c x d n     == x tells the first of the conjuncts that are left, and the others are left as d
--   Gives c o d          == o tells the first, and the others are left as d; there is none exactly where none is left
use Rattle.std.specs.Prelude.{◌≡◌, Bool, true, false, ◌&&◌, not, List, [], ◌∷◌, ◌++◌, ℕ, ◌≤◌, eqb, length, Option, Some, None}
use Rattle.owl.specs.Naming.{is_thing}
use Rattle.owl.specs.Token.{kind_at}
use Rattle.owl.specs.Grammar.{is_name}
use Rattle.owl.specs.Mention.{Mention, name_at}
use Rattle.owl.specs.Restriction.{Standing, standing_at, standing}
use Rattle.owl.specs.Conjunct.{Conjunct, a_class, a_restriction, is_zero, is_one, conjuncts_by}
use Rattle.owl_name.specs.declared.walks.Does.TheVariants.{UsesClass}
use Rattle.owl_name.specs.declared.walks.Stop.{Stop}
use Rattle.owl_name.specs.declared.walks.Walk.{Walk}
use Rattle.owl_name.specs.Walk.{does_number, passes}
use Rattle.owl_class.specs.declared.spread.Conjunct as code
use Rattle.owl_class.specs.declared.spread.Conjunct.TheVariants as found
use Rattle.owl_class.specs.declared.spread.Conjuncts.{Conjuncts}
use Rattle.owl_class.specs.declared.spread.Inside.{Inside}
use Rattle.owl_class.specs.Ends.{rest_tokens}
use Rattle.owl_class.specs.Conjuncts.{Reached}

abbrev pub wanted : ℕ → Mention → Bool
wanted inner m = elim (eqb m.sort 4) [ true ↦ is_one inner | false ↦ is_zero inner && not (is_thing m.name) ]

abbrev pub conjunct_by : ℕ → Stop → Option code.Conjunct
conjunct_by inner x =
    elim (passes (wanted inner) x) [ true ↦ Some (elim (eqb (does_number x.does) 4) [ true ↦ found.Restriction x.at | false ↦ found.Name x.at ]) | false ↦ None ]

abbrev pub left_in : Option Inside → Walk → ℕ → List Conjunct
left_in None w n = []
left_in (Some i) w n = conjuncts_by i.outer i.inner (does_number w.does) n (rest_tokens w.text.now w.at)

abbrev pub left_of : Conjuncts → ℕ → List Conjunct
left_of c n = left_in c.inside c.walk n

abbrev pub LastOf : Conjuncts → ℕ → Type 0
LastOf c n = Reached c.walk.text.now c.walk.at (does_number c.walk.does) n

pub record Starts (s : List ℕ) (from : ℕ) (c : Conjuncts) : Type 0 where
  pub text : c.walk.text.now ≡ s
  pub at : c.walk.at ≡ from
  pub does : c.walk.does ≡ UsesClass
  pub inside : c.inside ≡ Some (record { outer = 0; inner = 0 })

abbrev pub IsFirst : List ℕ → code.Conjunct → Type 0 → Conjunct → Type 0
IsFirst s (found.Name at) R y = (at ≤ length s) × (is_name (kind_at s at) ≡ true) × (is_thing (name_at s at) ≡ false) × (y ≡ a_class (name_at s at))
IsFirst s (found.Restriction at) R y =
    (at ≤ length s) × (R → (m : ℕ) × (pre : List Standing) × (post : List Standing) × (standing s ≡ pre ++ (standing_at s at m ∷ post)) × (y ≡ a_restriction (standing_at s at m).restriction))

pub record Brings (s : List ℕ) (c : Conjuncts) (x : code.Conjunct) (d : Conjuncts) (n : ℕ) : Type 0 where
  pub first : Conjunct
  pub number : ℕ
  pub left : left_of c n ≡ first ∷ left_of d number
  pub is : IsFirst s x (LastOf c n) first
  pub last : LastOf c n → LastOf d number

abbrev pub Gives : Conjuncts → Option code.Conjunct → Conjuncts → Type 0
Gives c None d = (n : ℕ) → left_of c n ≡ []
Gives c (Some x) d = (d.walk.text.now ≡ c.walk.text.now) × ((n : ℕ) → Brings c.walk.text.now c x d n)
