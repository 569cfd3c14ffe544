-- What is said of counting order.
--
--   StrictTotal P R == R is a strict total order on what has P
use Rattle.std.specs.Prelude.{◌≡◌, ◌⊎◌}

pub record StrictTotal {A : Type 0} (P : A → Type 0) (R : A → A → Type 0) : Type 0 where
  pub irreflexive : (a : A) → P a → R a a → ⊥
  pub transitive : (a b c : A) → P a → P b → P c → R a b → R b c → R a c
  pub total : (a b : A) → P a → P b → R a b ⊎ (a ≡ b) ⊎ R b a
