-- What the promises of the public calls pin: two results that meet a promise on the same input are equal, the count and the buffer.
--
--   listing_unique, read_line_unique, hex_line_unique, solve_line_unique == of each call
use Rattle.std.specs.Prelude.{◌≡◌, List, ℕ}
use Rattle.answer.specs.declared.Handed.{Handed}
use Rattle.text.specs.Append.{Appended}
use Rattle.text.specs.AppendLaws.{appended_unique}
use Rattle.text.specs.Listing.{listing_text}
use Rattle.text.specs.Batch.{read_text, line_text, solve_text}

module _ (before after later : List ℕ) (q r : ℕ) where
  pub listing_unique : (s : List ℕ) (a : Handed) (out : List ℕ) → Appended before 0 (listing_text s a out) after q
      → Appended before 0 (listing_text s a out) later r → (after ≡ later) × (q ≡ r)
  listing_unique s a out = appended_unique

  pub read_line_unique : (ns : List ℕ) → Appended before 0 (read_text ns) after q → Appended before 0 (read_text ns) later r → (after ≡ later) × (q ≡ r)
  read_line_unique ns = appended_unique

  pub hex_line_unique : (part : List ℕ) → Appended before 0 (line_text part) after q → Appended before 0 (line_text part) later r → (after ≡ later) × (q ≡ r)
  hex_line_unique part = appended_unique

  pub solve_line_unique : (a : Handed) (out : List ℕ) → Appended before 0 (solve_text a out) after q
      → Appended before 0 (solve_text a out) later r → (after ≡ later) × (q ≡ r)
  solve_line_unique a out = appended_unique
