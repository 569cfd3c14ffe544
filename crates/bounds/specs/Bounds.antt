-- The bounds of a table, and the widths that hold what they bound. No other file writes these numbers.
--
--   Bounds, bounds       == the bounds of the reading as one record, and those of today
--   max_constants, max_restrictions, max_atoms, max_roles, max_variables, max_lines, max_left, max_role_rows == each of them
--   set_bits, set_numbers  == how many bits a set number has, and how many set numbers that makes
--   set_bytes             == how many bytes of the output it takes
--   mask_bits, masks      == the same of a mask of variables
--   role_bits             == how many bits a mask of roles has
--   counts               == how many counts and budgets there are
use Rattle.std.specs.Prelude.{ℕ}

pub record Bounds : Type 0 where
  pub constants : ℕ
  pub restrictions : ℕ
  pub atoms : ℕ
  pub roles : ℕ
  pub variables : ℕ
  pub lines : ℕ
  pub left : ℕ
  pub role_rows : ℕ

-- "Constants and restrictions go up to 32 each, 56 together, variables to 24."; "r at most 16", "m at most 64, p at most 8"; "the count q of
-- role rows, at most 32"
abbrev pub bounds : Bounds
bounds = record { constants = 32; restrictions = 32; atoms = 56; roles = 16; variables = 24; lines = 64; left = 8; role_rows = 32 }

abbrev pub max_constants : ℕ
max_constants = bounds.constants

abbrev pub max_restrictions : ℕ
max_restrictions = bounds.restrictions

abbrev pub max_atoms : ℕ
max_atoms = bounds.atoms

abbrev pub max_roles : ℕ
max_roles = bounds.roles

abbrev pub max_variables : ℕ
max_variables = bounds.variables

abbrev pub max_lines : ℕ
max_lines = bounds.lines

abbrev pub max_left : ℕ
max_left = bounds.left

abbrev pub max_role_rows : ℕ
max_role_rows = bounds.role_rows

-- "Sets become 64-bit numbers"
abbrev pub set_bits : ℕ
set_bits = 64

abbrev pub set_numbers : ℕ
set_numbers = 18446744073709551616

-- "and the output eight bytes per variable"
abbrev pub set_bytes : ℕ
set_bytes = 8

abbrev pub mask_bits : ℕ
mask_bits = 32

abbrev pub masks : ℕ
masks = 4294967296

abbrev pub role_bits : ℕ
role_bits = 16

-- "budget b (a 32-bit number)"
abbrev pub counts : ℕ
counts = 4294967296
