-- How many variables a variable reaches: what falls along a dependence of an acyclic assignment.
--
--   count_below n p == how many numbers below n pass p
--   rank t a x     == how many variables of t the variable x reaches
use Rattle.std.specs.Prelude.{Bool, true, false, ℕ, zero, suc, ◌+◌}
use Rattle.el.specs.Table.{Table}
use Rattle.el.specs.Assignment.{Assignment, reaches}

abbrev pub one : Bool → ℕ
one true = 1
one false = 0

unfoldable pub count_below : ℕ → (ℕ → Bool) → ℕ
count_below zero p = 0
count_below (suc n) p = count_below n p + one (p n)

unfoldable pub rank : Table → Assignment → ℕ → ℕ
rank t a x = count_below t.variables (reaches t a x)
