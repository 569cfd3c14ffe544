-- What a line and a table say under a substitution.
--
--   Substitution          == a description without variables for each variable: any function
--   filler_under σ f       == the filler f with σ carried out
--   row_under σ row        == the restriction of a row with σ carried out
--   entry_under rows σ e   == the entry e with σ carried out
--   left_under rows σ es   == the conjunction of the entries es with σ carried out; the empty one is top
--   holds under rows σ l  == σ makes the line l true
--   makes under t σ       == σ makes every line of t true
use Rattle.std.specs.Prelude.{Bool, List, [], ◌∷◌, ℕ}
use Rattle.el.specs.Test.{every_of}
use Rattle.el.specs.Description.{Description, top, name, meet, some, below}
use Rattle.el.specs.Table.{Filler, top_f, constant_f, variable_f, Entry, constant, restriction, variable, Row, Line, Table, row_at}

-- "only such descriptions stand for open names"
abbrev pub Substitution : Type 0
Substitution = ℕ → Description

abbrev pub filler_under : Substitution → Filler → Description
filler_under σ top_f = top
filler_under σ (constant_f k) = name k
filler_under σ (variable_f x) = σ x

abbrev pub row_under : Substitution → Row → Description
row_under σ row = some row.role (filler_under σ row.filler)

abbrev pub entry_under : List Row → Substitution → Entry → Description
entry_under rows σ (constant k) = name k
entry_under rows σ (restriction k) = row_under σ (row_at rows k)
entry_under rows σ (variable x) = σ x

-- "p = 0 is the way to write top on the left"
abbrev pub left_under : List Row → Substitution → List Entry → Description
left_under rows σ [] = top
left_under rows σ (e ∷ es) = meet (entry_under rows σ e) (left_under rows σ es)

-- "the left conjunction lies below the right atom after substitution"
unfoldable pub holds : (ℕ → ℕ → Bool) → List Row → Substitution → Line → Bool
holds under rows σ l = below under (left_under rows σ l.left) (entry_under rows σ l.right)

-- "for every line"
unfoldable pub makes : (ℕ → ℕ → Bool) → Table → Substitution → Bool
makes under t σ = every_of (holds under t.rows σ) t.lines
