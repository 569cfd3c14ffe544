-- What was read, and where it stands.
--
--   Means P x          == where x is a refusal, P holds of it
--   Many one l at end  == the things l were read by `one` from `at` on, and `end` is the place after them
--   along next at n    == the place after n steps of `next` from `at` on
--   Stands s at bytes end == the bytes stand at `at`, and `end` is the place after them
--   First s good at    == the bytes `good` stand first, and `at` is the place after them
--   after_role_rows h role_rows, after_rows h role_rows rows == the place after these role rows behind the header h, and the one after these rows behind them
--   PairRead s f g at a b end == of the bytes at `at` and behind it f and g make a and b, and `end` is the place after them
--   RoleRowRead s h at row end, RowRead s h at row end, LineRead b s h at l end == the role row, the row, the line was read at `at`, and `end` is the place after it
--   HeaderRead b s h   == the header h was read: it is that of s, with a right mark and version, and within the bounds b
--   BodyRead b s h t   == the role rows, rows and lines of the table t were read behind the header, and nothing follows
use Rattle.std.specs.Prelude.{◌≡◌, true, ℕ, zero, suc, ◌+◌, ◌≤◌, ◌<◌, length, drop}
use mathlib.Core.List.{List, [], ◌∷◌, ◌++◌, flat_map}
use Rattle.std.proofs.Math.Option.{Option, some}
use Rattle.el.specs.Roles.{RoleRow}
use Rattle.el.specs.Table.{Row, Line, Table}
use Rattle.answer.specs.declared.Answer.{Answer}
use Rattle.bounds.specs.Bounds.{Bounds}
use Rattle.table.specs.declared.Header.{Header}
use Rattle.table.specs.Code.{role_of, filler_of}
use Rattle.table.specs.Reading.{Read, refused, got, byte_at, header_end, header_of, marked, version_known, read_role_row, read_row, read_entry, read_line, table_with}
use Rattle.table.specs.Bytes.{written_role_row, written_row, Within}

-- where x is a refusal, P holds of it
abbrev pub Means : (Answer → Type 0) → {A : Type 0} → Read A → Type 0
Means P x = (why : Answer) → x ≡ refused why → P why

abbrev pub Many : {A : Type 0} → (ℕ → Read A) → List A → ℕ → ℕ → Type 0
Many one [] at end = at ≡ end
Many one (a ∷ l) at end = (mid : ℕ) × (one at ≡ got a mid) × Many one l mid end

unfoldable pub along : (ℕ → ℕ) → ℕ → ℕ → ℕ
along next at zero = at
along next at (suc n) = next (along next at n)

module _ (s : List ℕ) where
  abbrev pub Stands : ℕ → List ℕ → ℕ → Type 0
  Stands at bytes end = (drop at s ≡ bytes ++ drop end s) × (end ≡ at + length bytes)

  abbrev pub First : List ℕ → ℕ → Type 0
  First good at = (s ≡ good ++ drop at s) × (at ≡ length good)

-- the place after the role rows, and the one after the rows
abbrev pub after_role_rows : Header → List RoleRow → ℕ
after_role_rows h role_rows = header_end h + length (flat_map written_role_row role_rows)

abbrev pub after_rows : Header → List RoleRow → List Row → ℕ
after_rows h role_rows rows = after_role_rows h role_rows + length (flat_map written_row rows)

-- two codes, one after the other
pub record PairRead {A B : Type 0} (s : List ℕ) (f : ℕ → Option A) (g : ℕ → Option B) (at : ℕ) (a : A) (b : B) (end : ℕ) : Type 0 where
  pub inside : at + 1 < length s
  pub first : f (byte_at s at) ≡ some a
  pub second : g (byte_at s (at + 1)) ≡ some b
  pub next : end ≡ at + 2

module _ (s : List ℕ) (h : Header) where
  abbrev pub RoleRowRead : ℕ → RoleRow → ℕ → Type 0
  RoleRowRead at row = PairRead s (role_of h.r) (role_of h.r) at row.narrower row.wider

  abbrev pub RowRead : ℕ → Row → ℕ → Type 0
  RowRead at row = PairRead s (role_of h.r) (filler_of h.c h.v) at row.role row.filler

module _ (b : Bounds) (s : List ℕ) (h : Header) where
  pub record LineRead (at : ℕ) (l : Line) (end : ℕ) : Type 0 where
    pub inside : at < length s
    pub few : byte_at s at ≤ b.left
    pub left_many : length l.left ≡ byte_at s at
    pub mid : ℕ
    pub left_read : Many (read_entry s h) l.left (at + 1) mid
    pub right_read : read_entry s h mid ≡ got l.right end

  pub record HeaderRead : Type 0 where
    pub same : h ≡ header_of s
    pub inside : header_end h ≤ length s
    pub mark : marked s ≡ true
    pub version : version_known s ≡ true
    pub counts : Within b h

  pub record BodyRead (t : Table) : Type 0 where
    pub role_rows : List RoleRow
    pub rows : List Row
    pub lines : List Line
    pub first : ℕ
    pub mid : ℕ
    pub end : ℕ
    pub same : t ≡ table_with h role_rows rows lines
    pub all_role_rows : length role_rows ≡ h.q
    pub all_rows : length rows ≡ h.e
    pub all_lines : length lines ≡ h.m
    pub role_rows_read : Many (read_role_row s h) role_rows (header_end h) first
    pub rows_read : Many (read_row s h) rows first mid
    pub lines_read : Many (read_line b s h) lines mid end
    pub nothing_left : length s ≤ end
