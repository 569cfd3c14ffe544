-- What the promise of a window pins.
--
--   part_unique == two results that meet the promise of `part` are equal: how many bytes there are, and these bytes
use Rattle.std.specs.Prelude.{◌≡◌, List, ℕ, length, take}
use Rattle.std.proofs.Common.{sym, ap, ◌∙◌}
use Rattle.std.specs.Counts.{IsPrefixLen}
use Rattle.spell.specs.Window.{window}
use Rattle.join.specs.Join.{join_text}

pub part_unique : (s : List ℕ) (from room q r : ℕ) (a b : List ℕ) → IsPrefixLen q a → take q a ≡ window from room (join_text s) → IsPrefixLen r b → take r b ≡ window from room (join_text s)
    → (q ≡ r) × (take q a ≡ take r b)
part_unique s from room q r a b h e k d = (h.1 ∙ ap length (e ∙ sym d) ∙ sym k.1, e ∙ sym d)
