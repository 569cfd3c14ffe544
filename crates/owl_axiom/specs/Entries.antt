-- The entries of the class expressions of a text.
--
--   entries_at s at n == the entries of the class expression that begins with the next token after byte `at`, where n is the number of the next
--                       filler that is no name
--   conjunct_known d c == the names of a conjunct's restriction are declared
use Rattle.std.specs.Prelude.{Bool, true, List, map, ℕ}
use Rattle.el.specs.Table.{Entry}
use Rattle.owl.specs.Naming.{Names}
use Rattle.owl.specs.Restriction.{is_known_in}
use Rattle.owl.specs.Conjunct.{Conjunct, a_class, a_restriction}
use Rattle.owl_class.specs.Conjuncts.{conjuncts_at, entry_of}

unfoldable pub entries_at : List ℕ → ℕ → ℕ → List Entry
entries_at s at n = map (entry_of s) (conjuncts_at s at n)

abbrev pub conjunct_known : Names → Conjunct → Bool
conjunct_known d (a_class m) = true
conjunct_known d (a_restriction r) = is_known_in d r
