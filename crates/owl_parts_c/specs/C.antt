-- What the calls for C hand back.
--
--   counts_of s      == how many constants, open names and roles the text s declares
--   kind_by w        == the kind of the name with the bytes w: 14, a full one, if it begins with `<`, else 13
--   class_or_none d n == the number of n; 0 for owl:Thing
--   row_counts s     == how many different restrictions the text s has, and how many fillers that are no names
--   FillerIn s at l == the two numbers of l are the filler of the restriction whose role is the next token after byte `at`
--   EntryIn s at i l == the two numbers of l are the entry of conjunct i of the class expression that begins there
use Rattle.std.specs.Prelude.{true, false, List, [], ◌∷◌, ℕ, eqb, length, get_or}
use Rattle.owl.specs.Tree.{Name}
use Rattle.owl.specs.Naming.{Names, is_thing}
use Rattle.owl.specs.Mention.{names_in}
use Rattle.owl.specs.Once.{once}
use Rattle.owl.specs.Restriction.{standing, restrictions_of, owns_of, same_restriction}
use Rattle.owl_name.specs.Declarations.{class_number}
use Rattle.owl_row.specs.Rows.{IsFiller}
use Rattle.owl_class.specs.Conjuncts.{EntryIs}

unfoldable pub counts_of : List ℕ → List ℕ
counts_of s = length (names_in s).constants ∷ length (names_in s).opens ∷ length (names_in s).roles ∷ []

unfoldable pub kind_by : List ℕ → ℕ
kind_by w = elim (eqb (get_or w 0 0) 60) [ true ↦ 14 | false ↦ 13 ]

unfoldable pub class_or_none : Names → Name → ℕ
class_or_none d n = elim (is_thing n) [ true ↦ 0 | false ↦ class_number d n ]

unfoldable pub row_counts : List ℕ → List ℕ
row_counts s = length (once same_restriction [] (restrictions_of (standing s))) ∷ owns_of (restrictions_of (standing s)) ∷ []

unfoldable pub FillerIn : List ℕ → ℕ → List ℕ → Type 0
FillerIn s at l = IsFiller s at (get_or l 0 0) (get_or l 1 0)

unfoldable pub EntryIn : List ℕ → ℕ → ℕ → List ℕ → Type 0
EntryIn s at i l = EntryIs s at i (get_or l 0 0) (get_or l 1 0)
