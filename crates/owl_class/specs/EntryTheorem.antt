-- The entries that the code tells are those of the table of the file that a text says.
--
--   class_entry == the entry of a name
--   role_entry  == the entry of a restriction that stands in the text
use Rattle.std.specs.Prelude.{◌≡◌, List, ◌∷◌, ◌++◌, ℕ, T, length}
use Rattle.std.proofs.Common.{sym, ap, subst, ◌∙◌}
use Rattle.std.proofs.lemmas.List.{map-append}
use Rattle.el.specs.Test.{every_of}
use Rattle.el.specs.TestLaws.{and_left}
use Rattle.el.specs.Table.{restriction}
use Rattle.owl.specs.OnceLaws.{every_second}
use Rattle.owl.specs.Tree.{Name, File}
use Rattle.owl.specs.Naming.{Names, names_of, all_known}
use Rattle.owl.specs.Written.{Says}
use Rattle.owl.specs.MentionLaws.{names_said}
use Rattle.owl.specs.Restriction.{Restriction, Standing, standing, restrictions_of, is_known_in, rows_of_file}
use Rattle.owl.specs.RowLaws.{restrictions_known, row_place}
use Rattle.owl.specs.Conjunct.{a_class, a_restriction, name_entry, entry_for}
use Rattle.owl_class.specs.Conjuncts.{entry_of}

pub class_entry : (s : List ℕ) (f : File) → Says s f → (m : Name) → entry_of s (a_class m) ≡ entry_for (names_of f.items) (length (names_of f.items).opens) (rows_of_file f) (a_class m)
class_entry s f e m = ap (λ (d : Names). name_entry d m) (names_said s f e)

pub role_entry : (s : List ℕ) (f : File) → Says s f → T (all_known f) → (pre post : List Standing) (x : Standing) → standing s ≡ pre ++ (x ∷ post) →
    entry_of s (a_restriction x.restriction) ≡ entry_for (names_of f.items) (length (names_of f.items).opens) (rows_of_file f) (a_restriction x.restriction)
unfolding every_of
role_entry s f e h pre post x d =
    let p = is_known_in (names_of f.items) in
    let all : T (every_of p (restrictions_of pre ++ (x.restriction ∷ restrictions_of post))) =
    subst (λ (l : List Restriction). T (every_of p l)) (ap restrictions_of d ∙ map-append (λ (y : Standing). y.restriction) pre (x ∷ post)) (restrictions_known s f e h) in
    let own : T (p x.restriction) = and_left (p x.restriction) (every_of p (restrictions_of post)) (every_second p (restrictions_of pre) (x.restriction ∷ restrictions_of post) all) in
    ap restriction (sym (row_place s f e h x.restriction own))
