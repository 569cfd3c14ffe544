-- What the answer to a text is worth.
--
--   owl_unique  == there is one answer
--   owl_some    == every text and every buffer is answered
--   in_fits     == a table of a file within the bounds is one that can be read
--   flat_order  == its order of roles is equality
--   owl_table_lem   == UNDER 0 the buffer's first bytes are a readable table, the file's, and it has a solving assignment exactly if some substitution makes all axioms hold
--   owl_none    == where the solver answers "none" to it, no descriptions whatever make all axioms hold
--   owl_solved  == where it answers "solved", the substitution that the assignment induces makes all axioms hold
use Rattle.std.specs.Prelude.{◌≡◌, Bool, true, false, ◌&&◌, ◌↔◌, List, [], ◌++◌, ℕ, ◌+◌, ◌*◌, ◌≤◌, ◌<◌, T, leb, length, take, drop}
use Rattle.std.proofs.Math.Path.{refl}
use Rattle.std.proofs.Common.{sym, ap, subst, arith}
use Rattle.std.proofs.Math.Decide.{ℕ_discrete, dec_lt, dec_le}
use Rattle.std.proofs.Math.Seq.{take-append_seam}
use Rattle.bounds.specs.Bounds.{bounds, max_left, set_bytes}
use Rattle.el.specs.Test.{every_of}
use Rattle.el.specs.TestLaws.{and_make, every_of_both}
use Rattle.el.specs.Table.{Line, Table, declared, line_declared, role_order}
use Rattle.el.specs.Description.{same_role}
use Rattle.el.proofs.RoleLaws.{no_role_rows, role_order_refl, role_order_trans}
use Rattle.el.specs.TableLaws.{role_rows_declared, rows_declared, lines_declared}
use Rattle.el.specs.Assignment.{Assignment, Solves, induced}
use Rattle.el.specs.Locality.{Solvable}
use Rattle.el.specs.Meaning.{Substitution}
use Rattle.table.specs.Bytes.{counts_of, bytes_of, version_one, Within, line_right, Fits, IsTable}
use Rattle.answer.specs.declared.Answer.TheVariants.{Solved, Nothing}
use Rattle.output.specs.Written.{written}
use Rattle.makrothel.specs.Numbers.{FirstSolving, NoneSolves, Said}
use Rattle.makrothel.specs.Solve.{Answered, answer}
use Rattle.makrothel.specs.Demand2.{demand_2_solved, demand_2_solved_exactly, demand_2_none_exactly}
use Rattle.owl.specs.Tree.{File}
use Rattle.owl.specs.Naming.{all_known}
use Rattle.owl.specs.Meaning.{file_holds, Joinable}
use Rattle.owl.specs.Flattening.{table_of, flat_table}
use Rattle.owl.specs.FlatteningLaws.{flattening_to, flat_declared, file_solvable}
use Rattle.owl.specs.Written.{Says}
use Rattle.owl.specs.Grammar.{checked}
use Rattle.owl.specs.TextLaws.{accepted_means}
use Rattle.owl.specs.UniqueLaws.{says_unique}
use Rattle.owl.specs.Mention.{undeclared}
use Rattle.owl.specs.UndeclaredLaws.{undeclared_means}
use Rattle.owl_answer.specs.Owl.{Owl, owl, InBounds, TableAt, over, short, made, OwlAt, spoiled, unknown, said, Made}

----------------------------------------------------------------------------------------------------
-- One answer

table_unique : {t : Table} {out : List ℕ} {a b : Owl} → TableAt t out a → TableAt t out b → a ≡ b
table_unique (over x) (over y) = refl
table_unique (over x) (short y k) = absurd (x y)
table_unique (over x) (made y k) = absurd (x y)
table_unique (short x h) (over y) = absurd (y x)
table_unique (short x h) (short y k) = refl
table_unique (short x h) (made y k) = absurd (let z : ⊥ = omega arith in z)
table_unique (made x h) (over y) = absurd (y x)
table_unique (made x h) (short y k) = absurd (let z : ⊥ = omega arith in z)
table_unique (made x h) (made y k) = refl

pub owl_unique : {s out : List ℕ} {a b : Owl} → OwlAt s out a → OwlAt s out b → a ≡ b
owl_unique (spoiled x) (spoiled y) = refl
owl_unique (spoiled x) (unknown e h) = absurd (x e)
owl_unique {s} (spoiled x) (said f h e y) = absurd (x ((accepted_means s).1 (f, h)))
owl_unique (unknown e h) (spoiled y) = absurd (y e)
owl_unique (unknown e h) (unknown d k) = refl
owl_unique (unknown e h) (said f k d y) = absurd (h d)
owl_unique {s} (said f h e x) (spoiled y) = absurd (y ((accepted_means s).1 (f, h)))
owl_unique (said f h e x) (unknown d k) = absurd (k e)
owl_unique {s} {out} {a} {b} (said f h e x) (said g k d y) = table_unique x (subst (λ (u : File). TableAt (flat_table u) out b) (says_unique s g f k h) y)

----------------------------------------------------------------------------------------------------
-- Every text is answered

decide : (b : Bool) → Dec (T b)
decide true = yes tt
decide false = no (λ u. u)

-- the bounds of the counts, one by one
dec_within : (t : Table) → Dec (Within bounds (counts_of 1 t))
dec_within t =
    names (dec_le (counts_of 1 t).c bounds.constants) (dec_le (counts_of 1 t).r bounds.roles) (dec_le (counts_of 1 t).v bounds.variables)
    (rows (dec_le (counts_of 1 t).e bounds.restrictions) (dec_le ((counts_of 1 t).c + (counts_of 1 t).e) bounds.atoms) (dec_le (counts_of 1 t).m bounds.lines) (dec_le (counts_of 1 t).q bounds.role_rows))
  where
    Rows : Type 0
    Rows = ((counts_of 1 t).e ≤ bounds.restrictions) × ((counts_of 1 t).c + (counts_of 1 t).e ≤ bounds.atoms) × ((counts_of 1 t).m ≤ bounds.lines) × ((counts_of 1 t).q ≤ bounds.role_rows)

    rows : Dec ((counts_of 1 t).e ≤ bounds.restrictions) → Dec ((counts_of 1 t).c + (counts_of 1 t).e ≤ bounds.atoms) → Dec ((counts_of 1 t).m ≤ bounds.lines) → Dec ((counts_of 1 t).q ≤ bounds.role_rows) → Dec Rows
    rows (yes a) (yes b) (yes c) (yes d) = yes (a, b, c, d)
    rows (no a) b c d = no (λ w. a w.0)
    rows (yes a) (no b) c d = no (λ w. b w.1)
    rows (yes a) (yes b) (no c) d = no (λ w. c w.2)
    rows (yes a) (yes b) (yes c) (no d) = no (λ w. d w.3)

    names : Dec ((counts_of 1 t).c ≤ bounds.constants) → Dec ((counts_of 1 t).r ≤ bounds.roles) → Dec ((counts_of 1 t).v ≤ bounds.variables) → Dec Rows → Dec (Within bounds (counts_of 1 t))
    names (yes a) (yes b) (yes c) (yes d) =
        yes (record { few_constants = a; few_roles = b; few_variables = c; few_restrictions = d.0; few_atoms = d.1; few_lines = d.2; few_role_rows = d.3 })
    names (no a) b c d = no (λ w. a w.few_constants)
    names (yes a) (no b) c d = no (λ w. b w.few_roles)
    names (yes a) (yes b) (no c) d = no (λ w. c w.few_variables)
    names (yes a) (yes b) (yes c) (no d) = no (λ w. d (w.few_restrictions, w.few_atoms, w.few_lines, w.few_role_rows))

dec_bounds : (t : Table) → Dec (InBounds t)
dec_bounds t = go (dec_within t) (decide (every_of (λ (l : Line). leb (length l.left) max_left) t.lines))
  where
    go : Dec (Within bounds (counts_of 1 t)) → Dec (T (every_of (λ (l : Line). leb (length l.left) max_left) t.lines)) → Dec (InBounds t)
    go (yes a) (yes b) = yes (record { counts = a; left = b })
    go (no a) b = no (λ w. a w.counts)
    go (yes a) (no b) = no (λ w. b w.left)

table_some : (t : Table) (out : List ℕ) → (a : Owl) × TableAt t out a
table_some t out = go (dec_bounds t) (dec_lt (length out) (length (bytes_of 1 t)))
  where
    go : Dec (InBounds t) → Dec (length out < length (bytes_of 1 t)) → (a : Owl) × TableAt t out a
    go (no x) d = (owl 12 0 0 out, over x)
    go (yes x) (yes h) = (owl 17 0 (length (bytes_of 1 t)) out, short x h)
    go (yes x) (no h) = (owl 0 (length (bytes_of 1 t)) 0 (bytes_of 1 t ++ drop (length (bytes_of 1 t)) out), made x (omega arith))

pub owl_some : (s out : List ℕ) → (a : Owl) × OwlAt s out a
owl_some s out = go (ℕ_discrete (checked s).number 0) (ℕ_discrete (undeclared s) (length s))
  where
    said_some : (f : File) → Says s f → undeclared s ≡ length s → (a : Owl) × TableAt (flat_table f) out a → (a : Owl) × OwlAt s out a
    said_some f h e w = (w.0, said f h e w.1)

    go : Dec ((checked s).number ≡ 0) → Dec (undeclared s ≡ length s) → (a : Owl) × OwlAt s out a
    go (no x) d = (owl (checked s).number 0 (checked s).place out, spoiled x)
    go (yes e) (no h) = (owl 11 0 (undeclared s) out, unknown e h)
    go (yes e) (yes h) = let found = (accepted_means s).0 e in said_some found.0 found.1 h (table_some (flat_table found.0) out)

----------------------------------------------------------------------------------------------------
-- What it is worth

pub in_fits : (t : Table) → t.role_rows ≡ [] → T (declared t) → InBounds t → Fits 1 t
unfolding Fits counts_of line_right
in_fits t none known x = record {
  version = version_one refl (ap length none);
  counts = x.counts;
  role_rows_right = role_rows_declared t known;
  rows_right = rows_declared t known;
  lines_right = every_of_both (λ (l : Line). leb (length l.left) max_left) (line_declared t) (λ (l : Line). leb (length l.left) max_left && line_declared t l) t.lines
      (λ l u w. and_make (leb (length l.left) max_left) (line_declared t l) u w) x.left (lines_declared t known);
}

-- the file that a text says, its names declared, and its table
module _ (f : File) (known : T (all_known f)) where
  abbrev table : Table
  table = flat_table f

  abbrev under : ℕ → ℕ → Bool
  under = role_order table

  is_declared : T (declared table)
  is_declared = flat_declared under (role_order_refl table) (role_order_trans table) f known

  none_there : table.role_rows ≡ []
  unfolding flat_table table_of
  none_there = refl

  -- "by 01's order": the table of a file has no role rows, so each role lies under itself alone
  pub flat_order : under ≡ same_role
  flat_order = no_role_rows table none_there

  is_table : InBounds table → IsTable (bytes_of 1 table) table
  unfolding IsTable
  is_table x = (1, refl, in_fits table none_there is_declared x)

  -- "that table has a solving assignment exactly if some substitution makes all the file's axioms hold by 01's order"
  solvable : Joinable under f ↔ Solvable under table
  solvable = file_solvable under (role_order_refl table) (role_order_trans table) f known

  none_joins : NoneSolves table → Joinable under f → ⊥
  unfolding NoneSolves Solvable
  none_joins none j = let a = solvable.0 j in none a.0 a.1 a.2

  first_joins : (a : Assignment) → FirstSolving table a → T (file_holds under f (induced table a))
  unfolding FirstSolving Solves
  first_joins a first = flattening_to under (role_order_refl table) (role_order_trans table) f (induced table a) first.1.1

-- UNDER 0
pub owl_table_lem : {s out : List ℕ} {a : Owl} → OwlAt s out a → a.number ≡ 0 → (f : File) × Made s out a f
owl_table_lem (spoiled x) z = absurd (x z)
owl_table_lem (unknown e h) z = absurd (let w : ⊥ = omega arith in w)
owl_table_lem {s} {out} (said f h e at) z = go at z
  where
    go : {b : Owl} → TableAt (flat_table f) out b → b.number ≡ 0 → (g : File) × Made s out b g
    go (over x) k = absurd (let w : ⊥ = omega arith in w)
    go (short x l) k = absurd (let w : ⊥ = omega arith in w)
    go (made x l) k =
        let known = (undeclared_means s f h).0 e in let b = bytes_of 1 (flat_table f) in (
          f,
          record {
            says = h;
            known = known;
            written = refl;
            table = subst (λ (l : List ℕ). IsTable l (flat_table f)) (sym (take-append_seam b (drop (length b) out))) (is_table f known x);
            worth = solvable f known;
          },
        )

-- what the solver answers to the table that was made
module _ {s out : List ℕ} {a : Owl} {f : File} (is : Made s out a f) (b : ℕ) (room : List ℕ) (enough : set_bytes * (flat_table f).variables ≤ length room) where
  abbrev bytes : List ℕ
  bytes = take a.count a.buffer

  -- "none": no EL descriptions whatever make the file's axioms hold
  pub owl_none : Said Nothing (answer bytes b room).says → (γ : Substitution) → T (file_holds (role_order (flat_table f)) f γ) → ⊥
  unfolding Joinable
  owl_none none γ h = none_joins f is.known ((demand_2_none_exactly bytes (flat_table f) is.table b room enough).0 none).1 (γ, h)

  -- "solved": the substitution that the written assignment induces does
  pub owl_solved : Said Solved (answer bytes b room).says
      → (x : Assignment) × ((answer bytes b room).output ≡ written x room) × T (file_holds (role_order (flat_table f)) f (induced (flat_table f) x))
  owl_solved solved =
      let w = (demand_2_solved_exactly bytes (flat_table f) is.table b room enough).0 solved in let x = w.1.0 in (
        x,
        ap (λ (r : Answered). r.output) (demand_2_solved bytes (flat_table f) is.table b room enough w.0 x w.1.1),
        first_joins f is.known x w.1.1,
      )
