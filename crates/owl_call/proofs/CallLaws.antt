-- Laws of the call.
--
--   names_within == how many names of a group there are
--   over_constants, over_roles, over_opens, over_fresh, over_rows, counted_make == whether the counts are within their bounds
--   table_put == header, rows and lines, one after the other
--   counts_over, lines_over, counts_err, lines_err, too_short, all_made == each answer to a text whose names are declared
--   call_spoiled, call_unknown, call_said == each answer to a text
use Rattle.std.specs.Prelude.{Option, Some, None, Result, Ok, Err}
use Rattle.std.specs.Option.{ok_or}
use mathlib.Core.Path.{◌≡◌, refl, sym, ap, ap₂, subst, ◌∙◌}
use mathlib.Core.List.{List, [], ◌++◌, flat_map}
use Prim.Native.Nat.{ℕ, ◌+◌, ◌-◌, ◌*◌, ◌≤◌, ◌<◌, min}
use native.Mathlib.Omega.{arith}
use lib.Dec.{T, ltb, ltb→lt}
use lib.ListN.{length, take, drop, length-append, take-append-drop}
use borrow.Author.Tests.{lt-ltb}
use Rattle.el.specs.Test.{every_of}
use Rattle.el.specs.TestLaws.{and_make, and_left, and_right, true_is, every_of_both}
use Rattle.el.specs.Table.{Filler, top_f, constant_f, variable_f, Entry, constant, restriction, variable, Row, Line, Table, filler_declared, row_declared, entry_declared, line_declared, declared, role_order}
use Rattle.el.proofs.RoleLaws.{role_order_refl, role_order_trans}
use Rattle.el.specs.TableLaws.{rows_declared, lines_declared}
use Rattle.bounds.specs.Bounds.{max_constants, max_restrictions, max_atoms, max_roles, max_variables, max_lines, max_role_rows}
use Rattle.table.specs.Reading.{has_role_rows}
use Rattle.table.specs.Bytes.{filler_code, entry_code, written_role_count, written_header, written_row, written_line, bytes_with, counts_of, bytes_of, longest_line}
use Rattle.table.specs.LengthLaws.{rows_length as row_bytes_lem, lines_length}
use Rattle.text.specs.Append.{Appended}
use Rattle.text.specs.AppendLaws.{appended_then, appended_as, appended_whole, appended_room}
use Rattle.owl.specs.Once.{once}
use Rattle.owl.specs.Tree.{File}
use Rattle.owl.specs.Naming.{Names, names_of, all_known}
use Rattle.owl.specs.Written.{Says}
use Rattle.owl.specs.Grammar.{Verdict, checked}
use Rattle.owl.specs.TextLaws.{accepted_means}
use Rattle.owl.specs.Mention.{names_in, undeclared}
use Rattle.owl.specs.MentionLaws.{names_said}
use Rattle.owl.specs.UndeclaredLaws.{undeclared_means}
use Rattle.owl.specs.Flattening.{table_of, flat_table}
use Rattle.owl.specs.FlatteningLaws.{flat_declared}
use Rattle.owl.specs.Restriction.{standing, restrictions_of, same_restriction, rows_for}
use Rattle.owl.specs.RestrictionLaws.{fresh_said}
use Rattle.owl.specs.RowLaws.{rows_once, rows_length}
use Rattle.owl_text.specs.declared.Refusal as spelt
use Rattle.owl_text.specs.declared.Reason as reasons
use Rattle.owl_text.specs.declared.Reason.TheVariants as why
use Rattle.owl_text.specs.Verdict.{reason_number, verdict_of}
use Rattle.owl_name.specs.declared.Group.{Group}
use Rattle.owl_name.specs.Declarations.{group_number, group_names, UpTo}
use Rattle.owl_name.proofs.NumberLaws.{group_count}
use Rattle.owl_line.specs.Sides.{small, small_line, Few}
use Rattle.owl_make.specs.Lines.{opens_in, LinesDone}
use Rattle.owl_table.specs.Rows.{small_row, rows_of, PutRows}
use Rattle.owl_answer.specs.Owl.{owl, InBounds, TableAt, over, short, made, OwlAt, spoiled, unknown, said}
use Rattle.owl_line.specs.declared.parts.Passed.{Passed}
use Rattle.owl_call.specs.declared.parts.Totals.{Totals}
use Rattle.owl_call.specs.declared.Refusal.{Refusal}
use Rattle.owl_call.specs.declared.Refusal.TheVariants.{Spoiled, Undeclared, OverBound, Short}
use Rattle.owl_call.specs.Call.{constants_in, roles_in, freshes_in, row_count, Within, WithinCounts, Counted, CountsAre, lines_room, LinesIn, header_bytes, PutTable, answer_of, TableMade}

-- how many names there are
pub names_within : (s : List ℕ) (g : Group) (most r : ℕ) (o : Option ℕ) → UpTo s (group_number g) most r → Within most r o → Within most (length (group_names (names_in s) (group_number g))) o
unfolding UpTo
names_within s g most r None u w = subst (λ (k : ℕ). most < k) (group_count s g) (u.1 w)
names_within s g most r (Some k) u w =
    let e : r ≡ length (group_names (names_in s) (group_number g)) = u.0 w.1 ∙ group_count s g in
    (w.0 ∙ e, subst (λ (k : ℕ). k ≤ most) e w.1)

-- a bound is passed
module _ (s : List ℕ) where
  pub over_constants : max_constants < length (group_names (names_in s) 0) → WithinCounts s → ⊥
  unfolding group_names
  over_constants h w = let few : constants_in s ≤ max_constants = w.few_constants in omega arith

  pub over_roles : max_roles < length (group_names (names_in s) 2) → WithinCounts s → ⊥
  unfolding group_names
  over_roles h w = let few : roles_in s ≤ max_roles = w.few_roles in omega arith

  pub over_opens : max_variables < length (group_names (names_in s) 1) → WithinCounts s → ⊥
  unfolding group_names
  over_opens h w = let few : opens_in s + freshes_in s ≤ max_variables = w.few_variables in omega arith

  pub over_fresh : (o n : ℕ) → o ≡ length (group_names (names_in s) 1) → n ≡ freshes_in s → max_variables - o < n → WithinCounts s → ⊥
  unfolding group_names
  over_fresh o n d e h w = let few : opens_in s + freshes_in s ≤ max_variables = w.few_variables in omega arith

  pub over_rows : (c n m : ℕ) → c ≡ length (group_names (names_in s) 0) → n ≡ row_count s → m ≡ min max_restrictions (max_atoms - c) → m < n → WithinCounts s → ⊥
  unfolding group_names
  over_rows c n m d e g h w = let few : row_count s ≤ max_restrictions = w.few_rows in let both : constants_in s + row_count s ≤ max_atoms = w.few_atoms in omega arith

  pub counted_make : (t : Totals) (n f m : ℕ) → Within max_constants (length (group_names (names_in s) 0)) (Some t.constants) → Within max_roles (length (group_names (names_in s) 2)) (Some t.roles) →
      Within max_variables (length (group_names (names_in s) 1)) (Some t.opens) → n ≡ freshes_in s → Within (max_variables - t.opens) n (Some f) → (e : ℕ) → e ≡ row_count s →
      m ≡ min max_restrictions (max_atoms - t.constants) → Within m e (Some t.rows) → t.variables ≡ t.opens + f → Counted s t
  unfolding group_names
  counted_make t n f m a b d g i e h k j v = record {
    constants = a.0;
    roles = b.0;
    opens = d.0;
    variables = v ∙ ap₂ (λ (i j : ℕ). i + j) d.0 (i.0 ∙ g);
    rows = j.0 ∙ h;
    within =
        let c : t.constants ≡ constants_in s = a.0 in
        let o : t.opens ≡ opens_in s = d.0 in
        let few : constants_in s ≤ max_constants = a.1 in
        let roles : roles_in s ≤ max_roles = b.1 in
        let opens : opens_in s ≤ max_variables = d.1 in
        let fresh : n ≤ max_variables - t.opens = i.1 in
        let rows : e ≤ m = j.1 in
        record { few_constants = omega arith; few_rows = omega arith; few_atoms = omega arith; few_roles = omega arith; few_variables = omega arith };
  }

pub table_put : (s : List ℕ) (opens : ℕ) (t : Totals) (m : ℕ) (lines b b' : List ℕ) (i : ℕ) (b'' : List ℕ) (j : ℕ) (a : List ℕ) (end : ℕ) → Appended b 0 (header_bytes t.constants t.roles t.variables t.rows m) b' i →
    PutRows s opens b' i b'' j → Appended b'' j lines a end → PutTable s opens t m lines b a end
unfolding PutTable PutRows
table_put s opens t m lines b b' i b'' j a end x y w small = appended_then x (appended_then (y small) w)

----------------------------------------------------------------------------------------------------
-- Codes are small where the counts are within their bounds

module _ (t : Table) (few_atoms : t.constants + length t.rows ≤ max_atoms) (few_roles : t.roles ≤ max_roles) (few_variables : t.variables ≤ max_variables) where
  is_small : (n : ℕ) → n < 128 → T (ltb n 128)
  is_small n h = true_is (ltb n 128) (lt-ltb n 128 h)

  entry_small : (e : Entry) → T (entry_declared t e) → T (small e)
  unfolding small entry_code
  entry_small (constant k) h = let l : k < t.constants = ltb→lt k t.constants h in is_small (0x20 + k) (omega arith)
  entry_small (restriction k) h = let l : k < length t.rows = ltb→lt k (length t.rows) h in is_small (0x40 + k) (omega arith)
  entry_small (variable k) h = let l : k < t.variables = ltb→lt k t.variables h in is_small (0x60 + k) (omega arith)

  line_small : (l : Line) → T (line_declared t l) → T (small_line l)
  line_small l h =
      and_make (every_of small l.left) (small l.right)
      (every_of_both (entry_declared t) (entry_declared t) small l.left (λ e x y. entry_small e x) (and_left (every_of (entry_declared t) l.left) (entry_declared t l.right) h)
      (and_left (every_of (entry_declared t) l.left) (entry_declared t l.right) h))
      (entry_small l.right (and_right (every_of (entry_declared t) l.left) (entry_declared t l.right) h))

  filler_small : (x : Filler) → T (filler_declared t x) → filler_code x < 128
  unfolding filler_code
  filler_small top_f h = omega arith
  filler_small (constant_f k) h = let l : k < t.constants = ltb→lt k t.constants h in omega arith
  filler_small (variable_f k) h = let l : k < t.variables = ltb→lt k t.variables h in omega arith

  row_small : (row : Row) → T (row_declared t row) → T (small_row row)
  row_small row h =
      let l : row.role < t.roles = ltb→lt row.role t.roles (and_left (ltb row.role t.roles) (filler_declared t row.filler) h) in
      and_make (ltb row.role 128) (ltb (filler_code row.filler) 128) (is_small row.role (omega arith))
      (is_small (filler_code row.filler) (filler_small row.filler (and_right (ltb row.role t.roles) (filler_declared t row.filler) h)))

  all_small : T (declared t) → T (every_of small_row t.rows) × T (every_of small_line t.lines)
  all_small h =
      let rows = rows_declared t h in
      let lines = lines_declared t h in (
        every_of_both (row_declared t) (row_declared t) small_row t.rows (λ row x y. row_small row x) rows rows,
        every_of_both (line_declared t) (line_declared t) small_line t.lines (λ l x y. line_small l x) lines lines,
      )

----------------------------------------------------------------------------------------------------
-- The table of the file that a text says

module _ (s : List ℕ) (f : File) (e : Says s f) (known : T (all_known f)) where
  abbrev table : Table
  table = flat_table f

  is_constants : table.constants ≡ constants_in s
  unfolding flat_table table_of
  is_constants = ap (λ (d : Names). length d.constants) (sym (names_said s f e))

  is_roles : table.roles ≡ roles_in s
  unfolding flat_table table_of
  is_roles = ap (λ (d : Names). length d.roles) (sym (names_said s f e))

  is_variables : table.variables ≡ opens_in s + freshes_in s
  unfolding flat_table table_of
  is_variables =
      ap₂ (λ (i j : ℕ). i + j) (ap (λ (d : Names). length d.opens) (sym (names_said s f e))) (sym (fresh_said (names_of f.items) 0 s f e))

  is_rows : table.rows ≡ rows_of s (opens_in s)
  unfolding flat_table table_of rows_of
  is_rows = rows_once s f e known ∙ ap (λ (d : Names). rows_for d (length d.opens) (once same_restriction [] (restrictions_of (standing s)))) (sym (names_said s f e))

  is_count : length table.rows ≡ row_count s
  unfolding flat_table table_of
  is_count = sym (rows_length s f e known)

  is_declared : T (declared table)
  is_declared = flat_declared (role_order table) (role_order_refl table) (role_order_trans table) f known

  -- a table within its bounds
  in_within : InBounds table → WithinCounts s
  unfolding counts_of
  in_within x = record {
    few_constants = (let h : table.constants ≤ max_constants = x.counts.few_constants in let a : table.constants ≡ constants_in s = is_constants in omega arith);
    few_rows = (let h : length table.rows ≤ max_restrictions = x.counts.few_restrictions in let b : length table.rows ≡ row_count s = is_count in omega arith);
    few_atoms = (let h : table.constants + length table.rows ≤ max_atoms = x.counts.few_atoms in let a : table.constants ≡ constants_in s = is_constants in let b : length table.rows ≡ row_count s = is_count in omega arith);
    few_roles = (let h : table.roles ≤ max_roles = x.counts.few_roles in let a : table.roles ≡ roles_in s = is_roles in omega arith);
    few_variables = (let h : table.variables ≤ max_variables = x.counts.few_variables in let a : table.variables ≡ opens_in s + freshes_in s = is_variables in omega arith);
  }

  in_few : InBounds table → Few table.lines
  unfolding counts_of
  in_few x = record { few = x.counts.few_lines; short = x.left }

  -- there is no role row
  none_few : length table.role_rows ≤ max_role_rows
  unfolding flat_table table_of
  none_few = omega arith

  within_in : WithinCounts s → Few table.lines → InBounds table
  unfolding counts_of
  within_in w x = record {
    counts = record {
      few_constants = (let h : constants_in s ≤ max_constants = w.few_constants in let a : table.constants ≡ constants_in s = is_constants in omega arith);
      few_restrictions = (let h : row_count s ≤ max_restrictions = w.few_rows in let b : length table.rows ≡ row_count s = is_count in omega arith);
      few_roles = (let h : roles_in s ≤ max_roles = w.few_roles in let a : table.roles ≡ roles_in s = is_roles in omega arith);
      few_variables = (let h : opens_in s + freshes_in s ≤ max_variables = w.few_variables in let a : table.variables ≡ opens_in s + freshes_in s = is_variables in omega arith);
      few_atoms = (let h : constants_in s + row_count s ≤ max_atoms = w.few_atoms in let a : table.constants ≡ constants_in s = is_constants in let b : length table.rows ≡ row_count s = is_count in omega arith);
      few_lines = x.few;
      few_role_rows = none_few;
    };
    left = x.short;
  }

  smalls : WithinCounts s → T (every_of small_row table.rows) × T (every_of small_line table.lines)
  smalls w =
      all_small table
      (let h : constants_in s + row_count s ≤ max_atoms = w.few_atoms in let a : table.constants ≡ constants_in s = is_constants in let b : length table.rows ≡ row_count s = is_count in omega arith)
      (let h : roles_in s ≤ max_roles = w.few_roles in let a : table.roles ≡ roles_in s = is_roles in omega arith)
      (let h : opens_in s + freshes_in s ≤ max_variables = w.few_variables in let a : table.variables ≡ opens_in s + freshes_in s = is_variables in omega arith)
      is_declared

  abbrev line_bytes : List ℕ
  line_bytes = flat_map written_line table.lines

  -- the lines that were passed
  passed : (x : Passed) (lines : List ℕ) → WithinCounts s → LinesIn s x lines →
      Few table.lines × (x.lines ≡ length table.lines) × (x.end ≡ length line_bytes) × (take x.end lines ≡ line_bytes) × (x.end ≤ length lines)
  unfolding LinesIn LinesDone
  passed x lines w h =
      let d = h.3 f e known in
      let put : Appended h.0 0 line_bytes lines x.end = d.2 (smalls w).1 in
      let few : length table.lines ≤ max_lines = d.0.few in
      let long : length line_bytes ≤ longest_line * length table.lines = lines_length table.lines d.0.short in
      let room : length h.0 ≡ lines_room = h.1 in
      let whole = appended_whole put (omega arith) in
      (d.0, d.1, whole.1 ∙ ap length whole.2, whole.2, whole.0)

  -- the bytes of the table
  table_bytes : (t : Totals) (o m : ℕ) → Counted s t → o ≡ opens_in s → m ≡ length table.lines →
      header_bytes t.constants t.roles t.variables t.rows m ++ (flat_map written_row (rows_of s o) ++ line_bytes) ≡ bytes_of 1 table
  unfolding bytes_of bytes_with has_role_rows written_role_count written_header counts_of flat_table table_of flat_map
  table_bytes t o m x opens y =
      let a : t.constants ≡ table.constants = x.constants ∙ sym is_constants in
      let b : t.roles ≡ table.roles = x.roles ∙ sym is_roles in
      let d : t.variables ≡ table.variables = x.variables ∙ sym is_variables in
      let g : t.rows ≡ length table.rows = x.rows ∙ sym is_count in
      let h : rows_of s o ≡ table.rows = ap (rows_of s) opens ∙ sym is_rows in
      ap₂ (λ (i j : ℕ). header_bytes i j t.variables t.rows m ++ (flat_map written_row (rows_of s o) ++ line_bytes)) a b
      ∙ ap₂ (λ (i j : ℕ). header_bytes table.constants table.roles i j m ++ (flat_map written_row (rows_of s o) ++ line_bytes)) d g
      ∙ ap₂ (λ (i : ℕ) (l : List Row). header_bytes table.constants table.roles table.variables (length table.rows) i ++ (flat_map written_row l ++ line_bytes)) y h

  table_length : length (bytes_of 1 table) ≡ 10 + 2 * row_count s + length line_bytes
  unfolding bytes_of bytes_with has_role_rows written_role_count written_header counts_of flat_table table_of flat_map
  table_length =
      let a : length (flat_map written_row table.rows) ≡ 2 * length table.rows = row_bytes_lem table.rows in
      let b : length (flat_map written_row table.rows ++ line_bytes) ≡ length (flat_map written_row table.rows) + length line_bytes = length-append (flat_map written_row table.rows) line_bytes in
      let c : length table.rows ≡ row_count s = is_count in
      omega arith

----------------------------------------------------------------------------------------------------
-- Each answer

module _ (s b : List ℕ) where
  pub counts_over : CountsAre s None → TableMade s b b (Err OverBound)
  unfolding TableMade
  counts_over x f says u = over (λ i. x (in_within s f says ((undeclared_means s f says).0 u) i))

  pub lines_over : (m a : List ℕ) → LinesDone s m None a → TableMade s b b (Err OverBound)
  unfolding LinesDone TableMade
  lines_over m a x f says u =
      let known = (undeclared_means s f says).0 u in
      over (λ i. x f says known (in_few s f says known i))

-- what `ok_or` says of a count or of lines that are not there, and of those that are
none_of : {A : Type 0} (o : Option A) (r : Result A Refusal) (w : Refusal) → r ≡ ok_or o OverBound → r ≡ Err w → (o ≡ None) × (w ≡ OverBound)
none_of None r w p q = (refl, (let k : w ≡ OverBound = cc in k))
none_of (Some x) r w p q = absurd (cc)

some_of : {A : Type 0} (o : Option A) (r : Result A Refusal) (x : A) → r ≡ ok_or o OverBound → r ≡ Ok x → o ≡ Some x
some_of None r x p q = absurd (cc)
some_of (Some y) r x p q = let k : y ≡ x = cc in ap Some k

pub counts_err : (s b : List ℕ) (o : Option Totals) (r : Result Totals Refusal) (w : Refusal) (z : Result ℕ Refusal) → r ≡ ok_or o OverBound → r ≡ Err w → z ≡ Err w → CountsAre s o → TableMade s b b z
counts_err s b o r w z p q e x =
    let n = none_of o r w p q in
    subst (TableMade s b b) (sym (e ∙ ap Err n.1)) (counts_over s b (subst (CountsAre s) n.0 x))

pub lines_err : (s b m a : List ℕ) (o : Option Passed) (r : Result Passed Refusal) (w : Refusal) (z : Result ℕ Refusal) → r ≡ ok_or o OverBound → r ≡ Err w → z ≡ Err w → LinesDone s m o a → TableMade s b b z
lines_err s b m a o r w z p q e x =
    let n = none_of o r w p q in
    subst (TableMade s b b) (sym (e ∙ ap Err n.1)) (lines_over s b m a (subst (λ (o : Option Passed). LinesDone s m o a) n.0 x))

pub lines_in_lem : (s b : List ℕ) (o : Option Passed) (r : Result Passed Refusal) (x : Passed) (lines : List ℕ) → r ≡ ok_or o OverBound → r ≡ Ok x → length b ≡ lines_room → length lines ≡ length b → LinesDone s b o lines → LinesIn s x lines
unfolding LinesIn
lines_in_lem s b o r x lines p q h k d = (b, h, k ∙ h, subst (λ (o : Option Passed). LinesDone s b o lines) (some_of o r x p q) d)

module _ (s b : List ℕ) (t : Totals) (counts : Counted s t) (x : Passed) (lines : List ℕ) (z : LinesIn s x lines) (n : ℕ) (least : n ≡ min x.end (length lines)) where
  pub too_short : (long : ℕ) → long ≡ 10 + 2 * t.rows + n → length b < long → TableMade s b b (Err (Short long))
  unfolding TableMade
  too_short long l h f says u =
      let known = (undeclared_means s f says).0 u in
      let w = passed s f says known x lines counts.within z in
      let fits : x.end ≤ length lines = w.4 in
      let p : n ≡ x.end = omega arith in
      let q : x.end ≡ length (flat_map written_line (flat_table f).lines) = w.2 in
      let i : t.rows ≡ row_count s = counts.rows in
      let t : length (bytes_of 1 (flat_table f)) ≡ 10 + 2 * row_count s + length (flat_map written_line (flat_table f).lines) = table_length s f says known in
      let same : length (bytes_of 1 (flat_table f)) ≡ long = omega arith in
      subst (λ (k : ℕ). TableAt (flat_table f) b (owl 17 0 k b)) same (short (within_in s f says known counts.within w.0) (omega arith))

  pub all_made : (o long : ℕ) (a : List ℕ) (last : ℕ) → o ≡ opens_in s → long ≡ 10 + 2 * t.rows + n → long ≤ length b → PutTable s o t x.lines (take n lines) b a last → TableMade s b a (Ok long)
  unfolding TableMade PutTable
  all_made o long a last opens l h put f says u =
      let known = (undeclared_means s f says).0 u in
      let w = passed s f says known x lines counts.within z in
      let fits : x.end ≤ length lines = w.4 in
      let p : n ≡ x.end = omega arith in
      let q : x.end ≡ length (flat_map written_line (flat_table f).lines) = w.2 in
      let i : t.rows ≡ row_count s = counts.rows in
      let B : List ℕ = bytes_of 1 (flat_table f) in
      let y : length B ≡ 10 + 2 * row_count s + length (flat_map written_line (flat_table f).lines) = table_length s f says known in
      let same : length B ≡ long = omega arith in
      let rows : T (every_of small_row (rows_of s o)) = subst (λ (k : List Row). T (every_of small_row k)) (is_rows s f says known ∙ ap (rows_of s) (sym opens)) (smalls s f says known counts.within).0 in
      let bytes : header_bytes t.constants t.roles t.variables t.rows x.lines ++ (flat_map written_row (rows_of s o) ++ take n lines) ≡ B =
      ap (λ (k : List ℕ). header_bytes t.constants t.roles t.variables t.rows x.lines ++ (flat_map written_row (rows_of s o) ++ k)) (ap (λ (k : ℕ). take k lines) p ∙ w.3)
      ∙ table_bytes s f says known t o x.lines counts opens w.1 in
      let all : Appended b 0 B a last = appended_as (put rows) bytes in
      let room : (last ≡ 0 + length B) × (take last a ≡ B) × (drop last a ≡ drop last b) = appended_room all (omega arith) in
      let k : last ≡ length B = omega (arith, room.0) in
      let is : a ≡ B ++ drop (length B) b =
      sym (take-append-drop last a) ∙ ap₂ (λ (i j : List ℕ). i ++ j) room.1 (room.2 ∙ ap (λ (i : ℕ). drop i b) k) in
      subst (λ (y : List ℕ). TableAt (flat_table f) b (owl 0 long 0 y)) (sym is)
      (subst (λ (y : ℕ). TableAt (flat_table f) b (owl 0 y 0 (B ++ drop (length B) b))) same (made (within_in s f says known counts.within w.0) (omega arith)))

----------------------------------------------------------------------------------------------------
-- The call

module _ (s b : List ℕ) where
  pub call_spoiled : (r : spelt.Refusal) → verdict_of (Err r) ≡ checked s → OwlAt s b (answer_of (Err (Spoiled r)) b)
  call_spoiled r e = subst (λ (v : Verdict). OwlAt s b (owl v.number 0 v.place b)) (sym e) (spoiled (λ y. some_reason r.reason (ap (λ (v : Verdict). v.number) e ∙ y)))
    where
      some_reason : (k : reasons.Reason) → reason_number k ≡ 0 → ⊥
      some_reason why.Syntax e = omega arith
      some_reason why.Unlisted e = omega arith

  pub call_unknown : (place : ℕ) → verdict_of (Ok tt) ≡ checked s → place ≡ undeclared s → (place ≡ length s → ⊥) → OwlAt s b (answer_of (Err (Undeclared place)) b)
  call_unknown place d e l = subst (λ (i : ℕ). OwlAt s b (owl 11 0 i b)) (sym e) (unknown (sym (ap (λ (v : Verdict). v.number) d)) (λ y. l (e ∙ y)))

  pub call_said : (place : ℕ) (a : List ℕ) (r : Result ℕ Refusal) → verdict_of (Ok tt) ≡ checked s → place ≡ undeclared s → place ≡ length s → TableMade s b a r → OwlAt s b (answer_of r a)
  unfolding TableMade
  call_said place a r d e l x = let found = (accepted_means s).0 (sym (ap (λ (v : Verdict). v.number) d)) in let u : undeclared s ≡ length s = sym e ∙ l in said found.0 found.1 u (x found.0 found.1 u)
