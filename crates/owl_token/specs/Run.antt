-- The numbers of what a run is made of.
--
--   class_number c == the number of the class c, as `byte_class` counts them
--   shape_number m == the number of the shape m, as `shape` counts them
--   class_number_below, shape_number_below == how many there are
use Rattle.std.specs.Prelude.{ℕ, ◌<◌}
use Rattle.std.proofs.Common.{arith}
use Rattle.owl_token.specs.declared.Class.{Class}
use Rattle.owl_token.specs.declared.Class.TheVariants.{Plain, Underscore, Dash, Colon, Odd}
use Rattle.owl_token.specs.declared.Shape.{Shape}
use Rattle.owl_token.specs.declared.Shape.TheVariants.{Empty, Lone, Word, PrefixName, Short, Neither}

abbrev pub class_number : Class → ℕ
class_number Plain = 0
class_number Underscore = 1
class_number Dash = 2
class_number Colon = 3
class_number Odd = 4

pub class_number_below : (c : Class) → class_number c < 5
class_number_below Plain = omega arith
class_number_below Underscore = omega arith
class_number_below Dash = omega arith
class_number_below Colon = omega arith
class_number_below Odd = omega arith

abbrev pub shape_number : Shape → ℕ
shape_number Empty = 0
shape_number Lone = 1
shape_number Word = 2
shape_number PrefixName = 3
shape_number Short = 4
shape_number Neither = 5

pub shape_number_below : (m : Shape) → shape_number m < 6
shape_number_below Empty = omega arith
shape_number_below Lone = omega arith
shape_number_below Word = omega arith
shape_number_below PrefixName = omega arith
shape_number_below Short = omega arith
shape_number_below Neither = omega arith
