-- What it is to be a number's decimal digits.
--
--   value_of n ds == the value of the digits ds behind the digits of n
--   Decimal n ds == ds are decimal digits without leading zeros, and their value is n
use Rattle.std.specs.Prelude.{◌≡◌, ◌&&◌, List, [], ◌∷◌, ℕ, ◌+◌, ◌*◌, ◌-◌, ◌<◌, T, leb, length, get_or}
use Rattle.el.specs.Test.{every_of}

unfoldable pub value_of : ℕ → List ℕ → ℕ
value_of n [] = n
value_of n (d ∷ ds) = value_of (10 * n + (d - 0x30)) ds

pub record Decimal (n : ℕ) (ds : List ℕ) : Type 0 where
  pub some : 0 < length ds
  pub digits : T (every_of (λ d. leb 0x30 d && leb d 0x39) ds)
  pub value : value_of 0 ds ≡ n
  pub no_zero_first : 1 < length ds → 0x30 < get_or ds 0 0
