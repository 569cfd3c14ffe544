-- What is read is exactly the bytes of a table that fits.
--
--   first_then, first_all, first_byte, behind == bytes that stand first, others behind them, all, one more, and what is left
--   role_rows_there, rows_there, lines_there == role rows, rows and lines that were read stand first as they are written, and are right
--   header_there, role_rows_first, rows_next, lines_next, lines_end == bytes that begin with right role rows, rows and lines are read so far
--   readable_is_written         == A READABLE INPUT IS THE BYTES OF ITS TABLE, which fits
--   written_is_readable         == THE BYTES OF A TABLE THAT FITS ARE READ AS THAT TABLE
--   readable_exactly            == both; table_read, a readable table is read so
use Rattle.std.specs.Prelude.{◌≡◌, refl, ◌↔◌, ℕ, ◌+◌, ◌≤◌, ◌<◌, T, drop}
use Rattle.std.proofs.Common.{sym, subst, ◌∙◌, drop_of_length-le}
use Rattle.std.proofs.Math.Path.{ap}
use mathlib.Core.List.{List, [], ◌∷◌, ◌++◌, flat_map, append_assoc, append-nil}
use native.Mathlib.Omega.{arith}
use Rattle.std.proofs.Math.ListN.{length, length-append}
use Rattle.std.proofs.Math.Seq.{drop-append_seam}
use Rattle.el.specs.Test.{every_of}
use Rattle.el.specs.Roles.{RoleRow}
use Rattle.el.specs.Table.{Row, Line, Table, role_row_declared, row_declared}
use Rattle.bounds.specs.Bounds.{bounds}
use Rattle.table.specs.declared.Header.{Header}
use Rattle.table.specs.Reading.{byte_at, header_end, read_role_row, read_row, read_line, table_with, readable, reading}
use Rattle.table.specs.Bytes.{written_header, written_role_row, written_row, written_line, bytes_with, counts_of, bytes_of, line_right, Right, Fits, IsTable}
use Rattle.table.specs.Standing.{Many, Stands, First, after_role_rows, after_rows, HeaderRead}
use Rattle.table.specs.ManyLaws.{stands_then, drop_behind, many_written, many_read}
use Rattle.table.specs.ReadLaws.{readable_read, readable_all}
use Rattle.table.specs.StandsLaws.{byte_here, role_row_stands, role_row_is, row_stands, row_is, line_stands, line_is, header_length_lem, header_first, version_read, first_header}

------------------------------------------------------------------ what stands first

module _ (s good : List ℕ) where
  pub first_then : (w : List ℕ) (at mid : ℕ) → First s good at → Stands s at w mid → First s (good ++ w) mid
  first_then w at mid f st = (
    f.0 ∙ ap (λ (l : List ℕ). good ++ l) st.0 ∙ sym (append_assoc good w (drop mid s)),
    (let a : at ≡ length good = f.1 in
        let b : mid ≡ at + length w = st.1 in
        let c : length (good ++ w) ≡ length good + length w = length-append good w in
        omega arith),
  )

  pub first_all : (at : ℕ) → First s good at → length s ≤ at → s ≡ good
  first_all at f w = f.0 ∙ ap (λ (l : List ℕ). good ++ l) (drop_of_length-le s w) ∙ append-nil good

  pub first_byte : (at : ℕ) → First s good at → at < length s → s ≡ good ++ (byte_at s at ∷ drop (at + 1) s)
  first_byte at f w = f.0 ∙ ap (λ (l : List ℕ). good ++ l) (byte_here s at w)

  pub behind : (tail : List ℕ) → s ≡ good ++ tail → drop (length good) s ≡ tail
  behind tail q = ap (drop (length good)) q ∙ drop-append_seam good tail

------------------------------------------------------------------ what was read stands first

module _ (s : List ℕ) (h : Header) (read : HeaderRead bounds s h) (role_rows : List RoleRow) (first : ℕ) (before : Many (read_role_row s h) role_rows (header_end h) first) where
  with_rows : (rows : List Row) (mid : ℕ) (lines : List Line) (end : ℕ) → Stands s first (flat_map written_row rows) mid × T (every_of (row_declared (table_with h role_rows rows lines)) rows)
      → Stands s mid (flat_map written_line lines) end × T (every_of (line_right (table_with h role_rows rows lines)) lines) → First s (bytes_with h role_rows rows lines) end × Right h role_rows rows lines
  unfolding bytes_with
  with_rows rows mid lines end r st =
      let k = many_written s (read_role_row s h) written_role_row (role_row_declared (table_with h role_rows rows lines)) (role_row_stands s h role_rows rows lines) role_rows (header_end h) first before in (
        first_then s (written_header h) (flat_map written_role_row role_rows ++ (flat_map written_row rows ++ flat_map written_line lines)) (header_end h) end (header_first s h read)
            (stands_then s (header_end h) first end (flat_map written_role_row role_rows) (flat_map written_row rows ++ flat_map written_line lines) k.0
            (stands_then s first mid end (flat_map written_row rows) (flat_map written_line lines) r.0 st.0)),
        record { version = version_read s h read; counts = read.counts; role_rows_right = k.1; rows_right = r.1; lines_right = st.1 },
      )

  pub role_rows_there : First s (bytes_with h role_rows [] []) first × Right h role_rows [] []
  unfolding flat_map every_of
  role_rows_there = with_rows [] first [] first ((refl, omega arith), tt) ((refl, omega arith), tt)

  module _ (rows : List Row) (mid : ℕ) (there : Many (read_row s h) rows first mid) where
    with_lines : (lines : List Line) (end : ℕ) → Stands s mid (flat_map written_line lines) end × T (every_of (line_right (table_with h role_rows rows lines)) lines) → First s (bytes_with h role_rows rows lines) end × Right h role_rows rows lines
    with_lines lines end = with_rows rows mid lines end (many_written s (read_row s h) written_row (row_declared (table_with h role_rows rows lines)) (row_stands s h role_rows rows lines) rows first mid there)

    pub rows_there : First s (bytes_with h role_rows rows []) mid × Right h role_rows rows []
    unfolding flat_map every_of
    rows_there = with_lines [] mid ((refl, omega arith), tt)

    pub lines_there : length rows ≡ h.e → (lines : List Line) (end : ℕ) → Many (read_line bounds s h) lines mid end → First s (bytes_with h role_rows rows lines) end × Right h role_rows rows lines
    lines_there all lines end m = with_lines lines end (many_written s (read_line bounds s h) written_line (line_right (table_with h role_rows rows lines)) (line_stands s h role_rows rows lines all) lines mid end m)

-- the counts of a table with all its role rows, rows and lines
counts_are : (h : Header) (role_rows : List RoleRow) (rows : List Row) (lines : List Line) → length role_rows ≡ h.q → length rows ≡ h.e → length lines ≡ h.m
    → h ≡ counts_of h.version (table_with h role_rows rows lines)
unfolding counts_of
counts_are h role_rows rows lines q e m = λ i. record { version = h.version; c = h.c; r = h.r; v = h.v; e = sym e i; m = sym m i; q = sym q i }

-- A READABLE INPUT IS THE BYTES OF ITS TABLE
pub readable_is_written : (s : List ℕ) (h : Header) (t : Table) → reading s ≡ readable h t → (s ≡ bytes_of h.version t) × Fits h.version t × (h ≡ counts_of h.version t)
unfolding reading bytes_of Fits
readable_is_written s h t q =
    let r = readable_read bounds s h t q in
    let b = r.1 in
    let w = lines_there s h r.0 b.role_rows b.first b.role_rows_read b.rows b.mid b.rows_read b.all_rows b.lines b.end b.lines_read in
    let counts = counts_are h b.role_rows b.rows b.lines b.all_role_rows b.all_rows b.all_lines in
    subst (λ (x : Table). (s ≡ bytes_with (counts_of h.version x) x.role_rows x.rows x.lines) × Right (counts_of h.version x) x.role_rows x.rows x.lines × (h ≡ counts_of h.version x)) (sym b.same)
    (subst (λ (k : Header). (s ≡ bytes_with k b.role_rows b.rows b.lines) × Right k b.role_rows b.rows b.lines × (h ≡ k)) counts (first_all s _ b.end w.0 b.nothing_left, w.1, refl))

------------------------------------------------------------------ bytes that begin right

module _ (s : List ℕ) (h : Header) (role_rows : List RoleRow) (rows : List Row) (lines : List Line) (tail : List ℕ) (right : Right h role_rows rows lines) (is : s ≡ bytes_with h role_rows rows lines ++ tail) where
  begins : s ≡ written_header h ++ (flat_map written_role_row role_rows ++ (flat_map written_row rows ++ (flat_map written_line lines ++ tail)))
  unfolding bytes_with
  begins =
      is ∙ append_assoc (written_header h) (flat_map written_role_row role_rows ++ (flat_map written_row rows ++ flat_map written_line lines)) tail
      ∙ ap (λ (l : List ℕ). written_header h ++ l)
      (append_assoc (flat_map written_role_row role_rows) (flat_map written_row rows ++ flat_map written_line lines) tail
      ∙ ap (λ (l : List ℕ). flat_map written_role_row role_rows ++ l) (append_assoc (flat_map written_row rows) (flat_map written_line lines) tail))

  pub header_there : HeaderRead bounds s h
  header_there = subst (λ (x : List ℕ). HeaderRead bounds x h) (sym begins) (first_header h (flat_map written_role_row role_rows ++ (flat_map written_row rows ++ (flat_map written_line lines ++ tail))) right.version right.counts)

  behind_header : drop (header_end h) s ≡ flat_map written_role_row role_rows ++ (flat_map written_row rows ++ (flat_map written_line lines ++ tail))
  behind_header = ap (λ (k : ℕ). drop k s) (sym (header_length_lem h)) ∙ ap (drop (length (written_header h))) begins ∙ drop-append_seam (written_header h) _

  behind_role_rows : drop (after_role_rows h role_rows) s ≡ flat_map written_row rows ++ (flat_map written_line lines ++ tail)
  behind_role_rows = drop_behind s (header_end h) (flat_map written_role_row role_rows) (flat_map written_row rows ++ (flat_map written_line lines ++ tail)) behind_header

  pub role_rows_first : Many (read_role_row s h) role_rows (header_end h) (after_role_rows h role_rows)
  role_rows_first =
      many_read s (read_role_row s h) written_role_row (role_row_declared (table_with h role_rows rows lines)) (role_row_is s h role_rows rows lines) role_rows (header_end h)
      (flat_map written_row rows ++ (flat_map written_line lines ++ tail)) right.role_rows_right behind_header

  pub rows_next : Many (read_row s h) rows (after_role_rows h role_rows) (after_rows h role_rows rows)
  rows_next =
      many_read s (read_row s h) written_row (row_declared (table_with h role_rows rows lines)) (row_is s h role_rows rows lines (let w = right.counts.few_constants in omega arith)) rows (after_role_rows h role_rows)
      (flat_map written_line lines ++ tail) right.rows_right behind_role_rows

  pub lines_end : after_rows h role_rows rows + length (flat_map written_line lines) ≡ length (bytes_with h role_rows rows lines)
  unfolding bytes_with
  lines_end =
      let a : length (flat_map written_row rows ++ flat_map written_line lines) ≡ length (flat_map written_row rows) + length (flat_map written_line lines) = length-append (flat_map written_row rows) (flat_map written_line lines) in
      let b : length (flat_map written_role_row role_rows ++ (flat_map written_row rows ++ flat_map written_line lines)) ≡ length (flat_map written_role_row role_rows) + length (flat_map written_row rows ++ flat_map written_line lines) = length-append (flat_map written_role_row role_rows) (flat_map written_row rows ++ flat_map written_line lines) in
      let c : length (written_header h ++ (flat_map written_role_row role_rows ++ (flat_map written_row rows ++ flat_map written_line lines))) ≡ length (written_header h) + length (flat_map written_role_row role_rows ++ (flat_map written_row rows ++ flat_map written_line lines)) = length-append (written_header h) (flat_map written_role_row role_rows ++ (flat_map written_row rows ++ flat_map written_line lines)) in
      let d = header_length_lem h in
      omega arith

  pub lines_next : length rows ≡ h.e → Many (read_line bounds s h) lines (after_rows h role_rows rows) (length (bytes_with h role_rows rows lines))
  lines_next all =
      let w = right.counts.few_constants in
      let x = right.counts.few_restrictions in
      subst (Many (read_line bounds s h) lines (after_rows h role_rows rows)) lines_end
      (many_read s (read_line bounds s h) written_line (line_right (table_with h role_rows rows lines)) (line_is s h role_rows rows lines all (omega arith) (omega arith)) lines (after_rows h role_rows rows) tail right.lines_right
      (drop_behind s (after_role_rows h role_rows) (flat_map written_row rows) (flat_map written_line lines ++ tail) behind_role_rows))

-- THE BYTES OF A TABLE THAT FITS ARE READ AS THAT TABLE
pub written_is_readable : (n : ℕ) (t : Table) → Fits n t → reading (bytes_of n t) ≡ readable (counts_of n t) t
unfolding reading Fits bytes_of counts_of
written_is_readable n t fits =
    let s = bytes_of n t in
    let h = counts_of n t in
    let is : bytes_of n t ≡ bytes_of n t ++ [] = sym (append-nil (bytes_of n t)) in
    readable_all bounds (bytes_of n t) (counts_of n t) t (header_there s h t.role_rows t.rows t.lines [] fits is)
    (record {
      role_rows = t.role_rows;
      rows = t.rows;
      lines = t.lines;
      first = after_role_rows h t.role_rows;
      mid = after_rows h t.role_rows t.rows;
      end = length (bytes_of n t);
      same = refl;
      all_role_rows = refl;
      all_rows = refl;
      all_lines = refl;
      role_rows_read = role_rows_first s h t.role_rows t.rows t.lines [] fits is;
      rows_read = rows_next s h t.role_rows t.rows t.lines [] fits is;
      lines_read = lines_next s h t.role_rows t.rows t.lines [] fits is refl;
      nothing_left = omega arith;
    })

pub table_read : (s : List ℕ) (t : Table) → (is : IsTable s t) → (n : ℕ) × (reading s ≡ readable (counts_of n t) t)
unfolding IsTable
table_read s t is = (is.0, ap reading is.1 ∙ written_is_readable is.0 t is.2)

-- WHAT IS READ IS EXACTLY WHAT IS WELL LAID
pub readable_exactly : (s : List ℕ) (h : Header) (t : Table) → (reading s ≡ readable h t) ↔ ((s ≡ bytes_of h.version t) × Fits h.version t × (h ≡ counts_of h.version t))
readable_exactly s h t =
    (readable_is_written s h t, λ w. ap reading w.0 ∙ written_is_readable h.version t w.1 ∙ ap (λ (k : Header). readable k t) (sym w.2))
