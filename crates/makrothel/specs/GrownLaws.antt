-- Growth on bytes gives growth on tables: codes keep their meaning.
--
--   filler_code_lem, entry_code_lem == a code that is allowed under two headers writes the same under both
--   begins       == things whose bytes stand first stand first
--   role_row_told, row_told, line_told == role rows, rows and lines are told from their bytes
--   role_row_bytes_lem, row_bytes_lem, line_bytes_lem == the bytes of a readable table's role rows, rows and lines
--   grown_grows  == the table of the grown bytes grows from the other's
--   grown_lines  == and where no line is new it has the same lines
use Rattle.std.specs.Prelude.{◌≡◌, refl, Bool, ℕ, ◌*◌, ◌≤◌, T, ltb, take}
use Rattle.std.proofs.Math.Path.{sym, ap, ap₂}
use Rattle.std.proofs.Common.{subst, ◌∙◌, arith, drop-drop}
use mathlib.Core.List.{List, [], ◌∷◌, ◌++◌, flat_map, append_assoc, append-nil}
use Rattle.std.proofs.Math.Option.{some, none-ne-some, some-injective}
use Rattle.std.proofs.Math.ListN.{length, drop, drop_of_length-le}
use Rattle.std.proofs.Math.Seq.{take_at, drop_at}
use Rattle.el.specs.Test.{every_of}
use Rattle.el.specs.TestLaws.{and_left, and_right}
use Rattle.el.specs.Roles.{RoleRow}
use Rattle.el.specs.Table.{Filler, constant_f, variable_f, Entry, constant, restriction, variable, Line, Table, role_row_declared, row_declared, entry_declared, line_declared}
use Rattle.el.specs.TableLaws.{role_rows_declared, rows_declared, lines_declared}
use Rattle.el.specs.Growth.{Grows}
use Rattle.table.specs.declared.Kind.{Kind}
use Rattle.table.specs.declared.Kind.TheVariants.{Top, Constant, Restriction, Variable, Other}
use Rattle.table.specs.Code.{kind_of, filler_of_kind, filler_of, entry_of_kind, entry_of}
use Rattle.table.specs.Reading.{header_end, header_of, rows_at, reading, is_readable, table_of}
use Rattle.table.specs.Bytes.{filler_code, entry_code, written_header, written_role_row, written_row, written_entry, written_line, bytes_with}
use Rattle.table.specs.Layout.{Layout}
use Rattle.table.specs.CodeLaws.{within_some, filler_is, entry_is}
use Rattle.table.specs.LayoutLaws.{layout}
use Rattle.table.specs.StandsLaws.{header_length_lem}
use Rattle.table.specs.LengthLaws.{role_rows_length, rows_length}
use Rattle.makrothel.specs.Grown.{role_row_bytes, row_bytes, line_bytes, Grown, SameLines}

----------------------------------------------------------------------------------------------------
-- Codes keep their meaning

pub filler_code_lem : (c v d w b : ℕ) (f g : Filler) → filler_of c v b ≡ some f → filler_of d w b ≡ some g → f ≡ g
unfolding filler_of filler_of_kind
filler_code_lem c v d w b f g = go (kind_of b)
  where
    go : (k : Kind) → filler_of_kind c v k ≡ some f → filler_of_kind d w k ≡ some g → f ≡ g
    go Top p q = some-injective f g (sym p ∙ q)
    go (Constant k) p q = sym (within_some k c (constant_f k) f p).1 ∙ (within_some k d (constant_f k) g q).1
    go (Restriction k) p q = absurd (none-ne-some f p)
    go (Variable k) p q = sym (within_some k v (variable_f k) f p).1 ∙ (within_some k w (variable_f k) g q).1
    go Other p q = absurd (none-ne-some f p)

pub entry_code_lem : (c e v d i w b : ℕ) (f g : Entry) → entry_of c e v b ≡ some f → entry_of d i w b ≡ some g → f ≡ g
unfolding entry_of entry_of_kind
entry_code_lem c e v d i w b f g = go (kind_of b)
  where
    go : (k : Kind) → entry_of_kind c e v k ≡ some f → entry_of_kind d i w k ≡ some g → f ≡ g
    go Top p q = absurd (none-ne-some f p)
    go (Constant k) p q = sym (within_some k c (constant k) f p).1 ∙ (within_some k d (constant k) g q).1
    go (Restriction k) p q = sym (within_some k e (restriction k) f p).1 ∙ (within_some k i (restriction k) g q).1
    go (Variable k) p q = sym (within_some k v (variable k) f p).1 ∙ (within_some k w (variable k) g q).1
    go Other p q = absurd (none-ne-some f p)

----------------------------------------------------------------------------------------------------
-- What is written first among bytes is first among what they write

-- things of a kind, written by w and right by the tests p and q, are told from their bytes, and so is what stands behind
abbrev Told : {A : Type 0} → (A → List ℕ) → (A → Bool) → (A → Bool) → Type 0
Told {A} w p q = (x y : A) → T (p x) → T (q y) → (l m : List ℕ) → w y ++ m ≡ w x ++ l → (y ≡ x) × (m ≡ l)

begins : {A : Type 0} (w : A → List ℕ) (p q : A → Bool) → Told w p q → (xs ys : List A) → T (every_of p xs) → T (every_of q ys) → length xs ≤ length ys
    → (l m : List ℕ) → flat_map w ys ++ m ≡ flat_map w xs ++ l → (ys ≡ xs ++ drop (length xs) ys) × (flat_map w (drop (length xs) ys) ++ m ≡ l)
unfolding every_of flat_map
begins w p q told [] ys a b h l m e = (refl, e)
begins w p q told (x ∷ xs) [] a b h l m e = absurd (let z : ⊥ = omega arith in z)
begins w p q told (x ∷ xs) (y ∷ ys) a b h l m e =
    let t = told x y (and_left (p x) _ a) (and_left (q y) _ b) (flat_map w xs ++ l) (flat_map w ys ++ m) (sym (append_assoc (w y) _ m) ∙ e ∙ append_assoc (w x) _ l) in
    let r = begins w p q told xs ys (and_right (p x) _ a) (and_right (q y) _ b) (omega arith) l m t.1 in
    (ap₂ ◌∷◌ t.0 r.0, r.1)

role_row_told : (p q : RoleRow → Bool) → Told written_role_row p q
unfolding written_role_row
role_row_told p q x y a b l m e =
    let n : y.narrower ≡ x.narrower = cc in
    let w : y.wider ≡ x.wider = cc in
    let k : m ≡ l = cc in
    (ap₂ (λ (i j : ℕ). record { narrower = i; wider = j }) n w, k)

module _ (t u : Table) (few_t : t.constants ≤ 0x20) (few_u : u.constants ≤ 0x20) (rows_t : length t.rows ≤ 0x20) (rows_u : length u.rows ≤ 0x20) where
  row_told : Told written_row (row_declared t) (row_declared u)
  unfolding written_row
  row_told x y a b l m e =
      let r : y.role ≡ x.role = cc in
      let c : filler_code y.filler ≡ filler_code x.filler = cc in
      let k : m ≡ l = cc in (
        ap₂ (λ (r : ℕ) (f : Filler). record { role = r; filler = f }) r
            (filler_code_lem u.constants u.variables t.constants t.variables (filler_code x.filler) y.filler x.filler
            (subst (λ (i : ℕ). filler_of u.constants u.variables i ≡ some y.filler) c (filler_is u few_u y.filler (and_right (ltb y.role u.roles) _ b)))
            (filler_is t few_t x.filler (and_right (ltb x.role t.roles) _ a))),
        k,
      )

  entry_told : Told written_entry (entry_declared t) (entry_declared u)
  unfolding written_entry
  entry_told x y a b l m e =
      let c : entry_code y ≡ entry_code x = cc in
      let k : m ≡ l = cc in (
        entry_code_lem u.constants (length u.rows) u.variables t.constants (length t.rows) t.variables (entry_code x) y x
            (subst (λ (i : ℕ). entry_of u.constants (length u.rows) u.variables i ≡ some y) c (entry_is u few_u rows_u y b)) (entry_is t few_t rows_t x a),
        k,
      )

  line_told : Told written_line (line_declared t) (line_declared u)
  unfolding written_line written_entry flat_map
  line_told x y a b l m e =
      let n : length y.left ≡ length x.left = cc in
      let k : (flat_map written_entry y.left ++ written_entry y.right) ++ m ≡ (flat_map written_entry x.left ++ written_entry x.right) ++ l = cc in
      let r = begins written_entry (entry_declared t) (entry_declared u) entry_told x.left y.left (and_left (every_of (entry_declared t) x.left) _ a) (and_left (every_of (entry_declared u) y.left) _ b) (omega arith)
      (written_entry x.right ++ l) (written_entry y.right ++ m) (sym (append_assoc (flat_map written_entry y.left) _ m) ∙ k ∙ append_assoc (flat_map written_entry x.left) _ l) in
      let d : drop (length x.left) y.left ≡ [] = drop_of_length-le y.left {i = length x.left} (omega arith) in
      let i = entry_told x.right y.right (and_right (every_of (entry_declared t) x.left) _ a) (and_right (every_of (entry_declared u) y.left) _ b) l m (ap (λ (z : List Entry). flat_map written_entry z ++ (written_entry y.right ++ m)) (sym d) ∙ r.1) in
      (ap₂ (λ (p : List Entry) (q : Entry). record { left = p; right = q }) (r.0 ∙ ap (λ (z : List Entry). x.left ++ z) d ∙ append-nil x.left) i.0, i.1)

----------------------------------------------------------------------------------------------------
-- The role rows, rows and lines of the grown table

-- the bytes of the role rows, of the rows and of the lines of a readable table are those, written
module _ (s : List ℕ) (ok : T (is_readable (reading s))) where
  here_is : Layout s (table_of s)
  here_is = layout s ok

  few : ((table_of s).constants ≤ 0x20) × (length (table_of s).rows ≤ 0x20)
  few = (omega (arith, here_is.constants, here_is.few_constants), omega (arith, here_is.rows, here_is.few_restrictions))

  long_role_rows : length (flat_map written_role_row (table_of s).role_rows) ≡ 2 * (header_of s).q
  long_role_rows = role_rows_length (table_of s).role_rows ∙ ap (λ (k : ℕ). 2 * k) here_is.role_rows_are

  long_rows : length (flat_map written_row (table_of s).rows) ≡ 2 * (header_of s).e
  long_rows = rows_length (table_of s).rows ∙ ap (λ (k : ℕ). 2 * k) here_is.rows

  behind_header : drop (header_end (header_of s)) s ≡ flat_map written_role_row (table_of s).role_rows ++ (flat_map written_row (table_of s).rows ++ flat_map written_line (table_of s).lines)
  unfolding bytes_with
  behind_header = ap (drop (header_end (header_of s))) here_is.whole ∙ drop_at (written_header (header_of s)) _ _ (header_length_lem (header_of s))

  behind_role_rows : drop (rows_at s) s ≡ flat_map written_row (table_of s).rows ++ flat_map written_line (table_of s).lines
  behind_role_rows =
      sym (drop-drop (2 * (header_of s).q) (header_end (header_of s)) s) ∙ ap (drop (2 * (header_of s).q)) behind_header
      ∙ drop_at (flat_map written_role_row (table_of s).role_rows) _ _ long_role_rows

  role_row_bytes_lem : role_row_bytes s ≡ flat_map written_role_row (table_of s).role_rows
  unfolding role_row_bytes
  role_row_bytes_lem = ap (take (2 * (header_of s).q)) behind_header ∙ take_at (flat_map written_role_row (table_of s).role_rows) _ _ long_role_rows

  row_bytes_lem : row_bytes s ≡ flat_map written_row (table_of s).rows
  unfolding row_bytes
  row_bytes_lem = ap (take (2 * (header_of s).e)) behind_role_rows ∙ take_at (flat_map written_row (table_of s).rows) _ _ long_rows

  line_bytes_lem : line_bytes s ≡ flat_map written_line (table_of s).lines
  unfolding line_bytes
  line_bytes_lem =
      sym (drop-drop (2 * (header_of s).e) (rows_at s) s) ∙ ap (drop (2 * (header_of s).e)) behind_role_rows
      ∙ drop_at (flat_map written_row (table_of s).rows) _ _ long_rows

module _ (s u : List ℕ) (grown : Grown s u) where
  ok : T (is_readable (reading s))
  ok = grown.readable_before

  ko : T (is_readable (reading u))
  ko = grown.readable_after

  here : Layout s (table_of s)
  here = layout s ok

  there : Layout u (table_of u)
  there = layout u ko

  same_role_rows : (table_of u).role_rows ≡ (table_of s).role_rows
  same_role_rows =
      let r = begins written_role_row (role_row_declared (table_of s)) (role_row_declared (table_of u)) (role_row_told (role_row_declared (table_of s)) (role_row_declared (table_of u))) (table_of s).role_rows (table_of u).role_rows (role_rows_declared (table_of s) here.all_declared) (role_rows_declared (table_of u) there.all_declared)
      (omega (arith, here.role_rows_are, there.role_rows_are, grown.role_count_is)) [] [] (ap (λ (z : List ℕ). z ++ []) (sym (role_row_bytes_lem u ko) ∙ grown.role_rows_are ∙ role_row_bytes_lem s ok)) in
      r.0 ∙ ap (λ (z : List RoleRow). (table_of s).role_rows ++ z) (drop_of_length-le (table_of u).role_rows {i = length (table_of s).role_rows} (omega (arith, here.role_rows_are, there.role_rows_are, grown.role_count_is)))
      ∙ append-nil (table_of s).role_rows

  rows_begin : (table_of u).rows ≡ (table_of s).rows ++ drop (length (table_of s).rows) (table_of u).rows
  rows_begin =
      (begins written_row (row_declared (table_of s)) (row_declared (table_of u)) (row_told (table_of s) (table_of u) (few s ok).0 (few u ko).0 (few s ok).1 (few u ko).1) (table_of s).rows (table_of u).rows (rows_declared (table_of s) here.all_declared) (rows_declared (table_of u) there.all_declared)
      (omega (arith, here.rows, there.rows, grown.restrictions)) grown.rows_first.0 [] (append-nil _ ∙ sym (row_bytes_lem u ko) ∙ grown.rows_first.1 ∙ ap (λ (z : List ℕ). z ++ grown.rows_first.0) (row_bytes_lem s ok))).0

  lines_begin : (table_of u).lines ≡ (table_of s).lines ++ drop (length (table_of s).lines) (table_of u).lines
  lines_begin =
      (begins written_line (line_declared (table_of s)) (line_declared (table_of u)) (line_told (table_of s) (table_of u) (few s ok).0 (few u ko).0 (few s ok).1 (few u ko).1) (table_of s).lines (table_of u).lines (lines_declared (table_of s) here.all_declared) (lines_declared (table_of u) there.all_declared)
      (omega (arith, here.lines, there.lines, grown.lines)) grown.lines_first.0 [] (append-nil _ ∙ sym (line_bytes_lem u ko) ∙ grown.lines_first.1 ∙ ap (λ (z : List ℕ). z ++ grown.lines_first.0) (line_bytes_lem s ok))).0

  -- GROWTH ON BYTES IS GROWTH ON TABLES
  pub grown_grows : Grows (table_of s) (table_of u)
  grown_grows = record {
    constants = omega (arith, here.constants, there.constants, grown.constants);
    roles = omega (arith, here.roles, there.roles, grown.roles);
    variables = omega (arith, here.variables, there.variables, grown.variables);
    role_rows = same_role_rows;
    rows = (drop (length (table_of s).rows) (table_of u).rows, rows_begin);
    lines = (drop (length (table_of s).lines) (table_of u).lines, lines_begin);
  }

  pub grown_lines : SameLines s u → (table_of u).lines ≡ (table_of s).lines
  unfolding SameLines
  grown_lines e =
      lines_begin ∙ ap (λ (z : List Line). (table_of s).lines ++ z) (drop_of_length-le (table_of u).lines {i = length (table_of s).lines} (omega (arith, here.lines, there.lines, e))) ∙ append-nil (table_of s).lines
