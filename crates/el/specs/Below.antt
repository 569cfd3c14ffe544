-- A node below another, and the child of a node: p is the parent, and its child is p with one set more.
--
--   Agrees s n      == the sets chosen at s are those of n: n lies below s, and may be any assignment
--   Adds s n        == the sets of n have every atom that those of s have
--   no_line          == what stands beyond the last line
--   child_of p x     == the node p with one set more, x
--   touches t s y l == the line l has the variable y, or a variable of it reaches y at the node s
--   newly t p x w   == at the child the newest variable leads to w: directly, or over a variable that led to w at the parent
--   freshly t p l   == the line l has or reaches the newest variable, and is ready at every child whose newest variable leads to chosen ones
use Rattle.std.specs.Prelude.{◌≡◌, Bool, ◌&&◌, ◌||◌, not, [], ◌∷◌, ◌++◌, ℕ, ◌<◌, T, eqb, ltb, leb, length}
use Rattle.el.specs.Test.{any_below, all_below, any_of, every_of, bit}
use Rattle.el.specs.Table.{constant, Line, Table}
use Rattle.el.specs.Assignment.{set_of, depends, reaches}
use Rattle.el.specs.Walk.{Node, line_variables}

abbrev pub Agrees : Node → Node → Type 0
Agrees s n = (x : ℕ) → x < length s → set_of s x ≡ set_of n x

abbrev pub Adds : Node → Node → Type 0
Adds s n = (x i : ℕ) → T (bit i (set_of s x)) → T (bit i (set_of n x))

-- what stands for a line where there is none
abbrev pub no_line : Line
no_line = record { left = []; right = constant 0 }

abbrev pub child_of : Node → ℕ → Node
child_of p x = p ++ (x ∷ [])

unfoldable pub touches : Table → Node → ℕ → Line → Bool
touches t s y l = any_of (λ x. eqb x y || reaches t s x y) (line_variables t.rows l)

unfoldable pub newly : Table → Node → ℕ → ℕ → Bool
newly t p x w =
    depends t (child_of p x) (length p) w || any_below t.variables (λ u. depends t (child_of p x) (length p) u && reaches t p u w)

unfoldable pub freshly : Table → Node → Line → Bool
freshly t p l =
    any_of (λ z. eqb z (length p) || reaches t p z (length p)) (line_variables t.rows l)
    && every_of (λ z. eqb z (length p) || (ltb z (length p) && all_below t.variables (λ w. not (reaches t p z w) || leb w (length p)))) (line_variables t.rows l)
