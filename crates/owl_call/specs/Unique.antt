-- One answer to a text and a buffer.
--
--   call_unique == two results that meet the promise of `owl` are equal
use Rattle.std.specs.Prelude.{◌≡◌, List, ℕ}
use Rattle.std.proofs.Common.{ap}
use Rattle.owl_answer.specs.Owl.{Owl, owl, OwlAt}
use Rattle.owl_answer.specs.OwlLaws.{owl_unique}

pub call_unique : {s out b b' : List ℕ} {n c p n' c' p' : ℕ} → OwlAt s out (owl n c p b) → OwlAt s out (owl n' c' p' b') → (n ≡ n') × (c ≡ c') × (p ≡ p') × (b ≡ b')
call_unique x y =
    let e = owl_unique x y in
    (ap (λ (a : Owl). a.number) e, ap (λ (a : Owl). a.count) e, ap (λ (a : Owl). a.place) e, ap (λ (a : Owl). a.buffer) e)
