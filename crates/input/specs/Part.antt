-- What a read or a write that fails leaves, where the bytes are known.
--
--   PartOf R old new bs     == of the bytes bs a beginning makes new of old, and not all of them
--   AppendsPart old new bs  == a beginning of bs was appended
--   ConsumesPart old new bs == a beginning of bs was consumed
use Rattle.std.specs.Prelude.{Option, List, ℕ, ◌<◌, length, take}
use Rattle.std.specs.Io.KnownBytes.{Appends, Consumes}

abbrev pub PartOf : (Option (List ℕ) → Option (List ℕ) → List ℕ → Type 0) → Option (List ℕ) → Option (List ℕ) → List ℕ → Type 0
PartOf R old new bs = (k : ℕ) × (k < length bs) × R old new (take k bs)

abbrev pub AppendsPart : Option (List ℕ) → Option (List ℕ) → List ℕ → Type 0
AppendsPart = PartOf Appends

abbrev pub ConsumesPart : Option (List ℕ) → Option (List ℕ) → List ℕ → Type 0
ConsumesPart = PartOf Consumes
