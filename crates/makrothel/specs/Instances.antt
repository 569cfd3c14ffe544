-- A table at which the third demand is applied; the demands at concrete tables stand in proofs/Instances.
--
--   r1_more == R1 with a constant more, a growth of it
use Rattle.std.specs.Prelude.{List, [], ◌∷◌, ℕ}

abbrev pub r1_more : List ℕ
r1_more = 0x56 ∷ 0x4F ∷ 0x43 ∷ 2 ∷ 0 ∷ 2 ∷ 2 ∷ 0 ∷ 2 ∷ 1 ∷ 0 ∷ 0 ∷ 0x20 ∷ 1 ∷ 0x20 ∷ 1 ∷ 0x40 ∷ 0x41 ∷ []
