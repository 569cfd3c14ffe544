-- What growth keeps.
--
--   holds_grown            == a declared line says the same among more rows
--   order_grown            == the roles of the grown table are ordered as those of the other
--   growth_back            == a substitution for the grown table serves the other
--   growth_same            == where no line is new, a substitution for the table serves the grown one
--   growth_back_solving    == if the grown table has a solving assignment, so has the other
--   growth_same_solving    == where no line is new, if the table has one, so has the grown one
--
-- The atom numbers of restrictions move when constants are added. The proofs go through substitutions, which do not speak of them.
use Rattle.std.specs.Prelude.{◌≡◌, Bool, ℕ, length}
use Rattle.std.proofs.Math.Path.{refl, ap, ap₂, subst}
use Rattle.std.proofs.Common.{sym, ◌∙◌, ltb→lt}
use mathlib.Core.List.{List, [], ◌∷◌, ◌++◌}
use Rattle.std.proofs.Math.Dec.{T}
use Rattle.std.proofs.Math.ListN.{get_or-append}
use Rattle.el.specs.Test.{every_of}
use Rattle.el.specs.TestLaws.{and_left, and_right, every_of_append, every_of_both}
use Rattle.el.specs.Description.{meet, below}
use Rattle.el.specs.Table.{Entry, constant, restriction, variable, Row, Line, Table, row_at, entry_declared, line_declared, declared, role_order}
use Rattle.el.specs.Roles.{reaches_role}
use Rattle.el.specs.TableLaws.{lines_declared}
use Rattle.el.specs.Meaning.{Substitution, row_under, entry_under, left_under, holds, makes}
use Rattle.el.specs.Growth.{Grows}
use Rattle.el.specs.Locality.{Unifiable, Solvable}
use Rattle.el.proofs.LocalityLaws.{local_iff}

pub order_grown : (t u : Table) → Grows t u → role_order u ≡ role_order t
unfolding role_order
order_grown t u g = ap reaches_role g.role_rows

-- "Codes keep their meaning by this"
module _ (t : Table) (more : List Row) (γ : Substitution) where
  entry_grown : (e : Entry) → T (entry_declared t e) → entry_under (t.rows ++ more) γ e ≡ entry_under t.rows γ e
  unfolding row_at
  entry_grown (constant k) ok = refl
  entry_grown (restriction k) ok = ap (row_under γ) (get_or-append t.rows more _ k (ltb→lt k (length t.rows) ok))
  entry_grown (variable x) ok = refl

  left_grown : (es : List Entry) → T (every_of (entry_declared t) es) → left_under (t.rows ++ more) γ es ≡ left_under t.rows γ es
  unfolding every_of
  left_grown [] ok = refl
  left_grown (e ∷ es) ok =
      ap₂ meet (entry_grown e (and_left (entry_declared t e) (every_of (entry_declared t) es) ok)) (left_grown es (and_right (entry_declared t e) (every_of (entry_declared t) es) ok))

  pub holds_grown : (under : ℕ → ℕ → Bool) (l : Line) → T (line_declared t l) → holds under (t.rows ++ more) γ l ≡ holds under t.rows γ l
  unfolding holds
  holds_grown under l ok =
      ap₂ (below under)
      (left_grown l.left (and_left (every_of (entry_declared t) l.left) (entry_declared t l.right) ok))
      (entry_grown l.right (and_right (every_of (entry_declared t) l.left) (entry_declared t l.right) ok))

module _ (under : ℕ → ℕ → Bool) (t u : Table) (known : T (declared t)) (grows : Grows t u) where
  holds_in : (γ : Substitution) (l : Line) → T (line_declared t l) → holds under u.rows γ l ≡ holds under t.rows γ l
  holds_in γ l ok = ap (λ (rows : List Row). holds under rows γ l) grows.rows.1 ∙ holds_grown t grows.rows.0 γ under l ok

  pub growth_back : (γ : Substitution) → T (makes under u γ) → T (makes under t γ)
  unfolding makes
  growth_back γ m =
      every_of_both (line_declared t) (holds under u.rows γ) (holds under t.rows γ) t.lines (λ l ok h. subst T (holds_in γ l ok) h) (lines_declared t known)
      (and_left (every_of (holds under u.rows γ) t.lines) (every_of (holds under u.rows γ) grows.lines.0)
      (subst T (ap (every_of (holds under u.rows γ)) grows.lines.1 ∙ every_of_append (holds under u.rows γ) t.lines grows.lines.0) m))

  pub growth_same : u.lines ≡ t.lines → (γ : Substitution) → T (makes under t γ) → T (makes under u γ)
  unfolding makes
  growth_same e γ m =
      subst (λ (lines : List Line). T (every_of (holds under u.rows γ) lines)) (sym e)
      (every_of_both (line_declared t) (holds under t.rows γ) (holds under u.rows γ) t.lines (λ l ok h. subst T (sym (holds_in γ l ok)) h) (lines_declared t known) m)

  module _ (under_refl : (r : ℕ) → T (under r r)) (under_trans : (r s w : ℕ) → T (under r s) → T (under s w) → T (under r w)) (known_grown : T (declared u)) where
    pub growth_back_solving : Solvable under u → Solvable under t
    unfolding Unifiable
    growth_back_solving s =
        let γ = (local_iff under under_refl under_trans u known_grown).1 s in
        (local_iff under under_refl under_trans t known).0 (γ.0, growth_back γ.0 γ.1)

    pub growth_same_solving : u.lines ≡ t.lines → Solvable under t → Solvable under u
    unfolding Unifiable
    growth_same_solving e s =
        let γ = (local_iff under under_refl under_trans t known).1 s in
        (local_iff under under_refl under_trans u known_grown).0 (γ.0, growth_same e γ.0 γ.1)
