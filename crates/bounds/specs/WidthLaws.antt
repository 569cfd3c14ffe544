-- What the widths are enough for.
--
--   power_in   == 2 ^ k as the machine shifts it in w bits
--   power_fits == so in a set number
use Rattle.std.specs.Prelude.{◌≡◌, ℕ, ◌*◌, ◌%◌, ◌^◌, ◌<◌}
use Rattle.std.proofs.Common.{◌∙◌, arith, one-mul, shl_exact}
use Rattle.bounds.specs.Bounds.{set_bits, set_numbers}

pub power_in : (w k : ℕ) → k < w → 1 * 2 ^ k % 2 ^ w ≡ 2 ^ k
power_in w k h = shl_exact 1 k w (omega arith) (omega arith) ∙ one-mul (2 ^ k)

pub power_fits : (k : ℕ) → k < set_bits → 1 * 2 ^ k % set_numbers ≡ 2 ^ k
power_fits k h = power_in set_bits k h
