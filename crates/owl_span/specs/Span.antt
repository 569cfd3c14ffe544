-- Where the names of a text stand, group by group: 0 constants, 1 open names, 2 roles.
--
--   SpanAt s l spans k     == the k-th of `spans` says where name k of l begins and ends in the text s
--   SpansDone s g spans r  == the group has r names, and those for which there is room stand so
use Rattle.std.specs.Prelude.{◌≡◌, List, ℕ, ◌-◌, ◌≤◌, ◌<◌, length, take, drop}
use Rattle.owl.specs.Tree.{Name}
use Rattle.owl.specs.Mention.{names_in}
use Rattle.owl_name.specs.Declarations.{group_names}
use Rattle.spell.specs.declared.Span.{Span}
use Rattle.spell.specs.Spelling.{name_of}
use Rattle.spell.specs.Given.{span_at}

pub record SpanAt (s : List ℕ) (l : List Name) (spans : List Span) (k : ℕ) : Type 0 where
  pub order : (span_at spans k).from ≤ (span_at spans k).to
  pub inside : (span_at spans k).to ≤ length s
  pub bytes : take ((span_at spans k).to - (span_at spans k).from) (drop (span_at spans k).from s) ≡ name_of l k

unfoldable pub SpansDone : List ℕ → ℕ → List Span → ℕ → Type 0
SpansDone s g spans r = (r ≡ length (group_names (names_in s) g)) × ((k : ℕ) → k < r → k < length spans → SpanAt s (group_names (names_in s) g) spans k)
