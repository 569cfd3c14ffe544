-- What is read stands there as it is written, and what stands there as it is written is read.
--
--   here_byte, byte_here == what stands at a place, by what is left from there
--   role_row_stands, role_row_is, row_stands, row_is == a role row, a row that was read stands there as it is written, and one that stands there is read
--   entry_stands, entry_reads, line_stands, line_is == the same for an entry and for a line
--   header_first, version_read, header_length_lem, first_header == the same for the header, its version is known, and how long it is
use Rattle.std.specs.Prelude.{◌≡◌, refl, Bool, true, false, ◌&&◌, ◌||◌, ◌⊎◌, ℕ, zero, suc, ◌+◌, ◌-◌, ◌≤◌, ◌<◌, leb, ltb, get_or}
use Rattle.std.proofs.Math.Path.{sym, ap, ap₂, subst}
use Rattle.std.proofs.Common.{◌∙◌, inl, inr, arith, add-one, eqb→eq, le→leb, length-drop, drop-drop, drop-cons, get_or-drop}
use Rattle.std.proofs.Math.Bool.{cond}
use mathlib.Core.List.{List, [], ◌∷◌, ◌++◌, flat_map, append_assoc}
use Rattle.std.proofs.Math.Option.{Option, some}
use Rattle.std.proofs.Math.Dec.{T, eqb, leb→le}
use Rattle.std.proofs.Math.ListN.{length, drop, length-append}
use Rattle.el.specs.Test.{every_of}
use Rattle.el.specs.TestLaws.{true_is, or_cases, and_make, and_left, and_right}
use Rattle.el.specs.Roles.{RoleRow}
use Rattle.el.specs.Table.{Entry, Row, Line, Table, role_row_declared, filler_declared, row_declared, entry_declared, line_declared}
use Rattle.bounds.specs.Bounds.{bounds, max_left}
use Rattle.table.specs.declared.Header.{Header}
use Rattle.table.specs.Code.{role_of, filler_of, entry_of}
use Rattle.table.specs.CodeLaws.{role_code, role_is, filler_code_lem, filler_is, entry_code_lem, entry_is}
use Rattle.table.specs.Reading.{got, byte_at, version_place, constants_place, roles_place, variables_place, restrictions_place, lines_place, header_length, role_rows_place, has_role_rows, header_end, role_count, header_of, marked, version_known, read_role_row, read_row, read_entry, read_line, table_with}
use Rattle.table.specs.Bytes.{filler_code, entry_code, written_role_count, written_header, written_role_row, written_row, written_entry, written_line, IsVersion, version_one, version_two, Within, line_right}
use Rattle.table.specs.Standing.{Stands, First, PairRead, HeaderRead}
use Rattle.table.specs.ManyLaws.{stands_then, drop_behind, many_written, many_read}
use Rattle.table.specs.ReadLaws.{code_answer, code_read, role_row_all, role_row_read, row_all, row_read, line_all, line_read, header_long}

------------------------------------------------------------------ what stands at a place

module _ (s : List ℕ) where
  pub here_byte : (at b : ℕ) (tail : List ℕ) → drop at s ≡ b ∷ tail → (at < length s) × (byte_at s at ≡ b) × (drop (at + 1) s ≡ tail)
  here_byte at b tail q = (
    (let l : length (drop at s) ≡ length s - at = length-drop at s in
        let k : length (drop at s) ≡ suc (length tail) = ap length q in
        omega arith),
    ap (λ (i : ℕ). get_or s i 0) (let e : at ≡ at + 0 = omega arith in e) ∙ sym (get_or-drop at s 0 0) ∙ ap (λ (l : List ℕ). get_or l 0 0) q,
    sym (drop-drop 1 at s) ∙ ap (drop 1) q,
  )

  pub byte_here : (at : ℕ) → at < length s → drop at s ≡ byte_at s at ∷ drop (at + 1) s
  byte_here at l = drop-cons s at 0 l ∙ ap (λ (k : ℕ). byte_at s at ∷ drop k s) (sym (add-one at))

------------------------------------------------------------------ two codes

module _ {A B : Type 0} (s : List ℕ) (f : ℕ → Option A) (g : ℕ → Option B) (at : ℕ) (a : A) (b : B) where
  pair_stands : (end x y : ℕ) → PairRead s f g at a b end → byte_at s at ≡ x → byte_at s (at + 1) ≡ y → Stands s at (x ∷ y ∷ []) end
  pair_stands end x y r p q =
      let inside : at + 1 < length s = r.inside in
      let two : end ≡ at + 2 = r.next in (
        byte_here s at (omega arith) ∙ ap₂ (λ (x : ℕ) (l : List ℕ). x ∷ l) p (byte_here s (at + 1) inside ∙ ap₂ (λ (y k : ℕ). y ∷ drop k s) q (let e : at + 1 + 1 ≡ end = omega arith in e)),
        two,
      )

  pair_is : (x y : ℕ) (tail : List ℕ) → drop at s ≡ x ∷ y ∷ tail → f x ≡ some a → g y ≡ some b → PairRead s f g at a b (at + 2)
  pair_is x y tail q i j =
      let p = here_byte s at x (y ∷ tail) q in
      let r = here_byte s (at + 1) y tail p.2 in
      record { inside = r.0; first = ap f p.1 ∙ i; second = ap g r.1 ∙ j; next = refl }

------------------------------------------------------------------ role rows and rows

module _ (s : List ℕ) (h : Header) (role_rows : List RoleRow) (rows : List Row) (lines : List Line) where
  abbrev built : Table
  built = table_with h role_rows rows lines

  pub role_row_stands : (at : ℕ) (row : RoleRow) (end : ℕ) → read_role_row s h at ≡ got row end → Stands s at (written_role_row row) end × T (role_row_declared built row)
  unfolding written_role_row
  role_row_stands at row end q =
      let r = role_row_read s h at row end q in
      let n = role_code h.r (byte_at s at) row.narrower r.first in
      let w = role_code h.r (byte_at s (at + 1)) row.wider r.second in (
        pair_stands s (role_of h.r) (role_of h.r) at row.narrower row.wider end row.narrower row.wider r n.0 w.0,
        and_make (ltb row.narrower h.r) (ltb row.wider h.r) n.1 w.1,
      )

  pub role_row_is : (at : ℕ) (row : RoleRow) (tail : List ℕ) → T (role_row_declared built row) → drop at s ≡ written_role_row row ++ tail → read_role_row s h at ≡ got row (at + length (written_role_row row))
  unfolding written_role_row
  role_row_is at row tail d q =
      role_row_all s h at row (at + 2)
      (pair_is s (role_of h.r) (role_of h.r) at row.narrower row.wider row.narrower row.wider tail q
      (role_is h.r row.narrower (and_left (ltb row.narrower h.r) (ltb row.wider h.r) d))
      (role_is h.r row.wider (and_right (ltb row.narrower h.r) (ltb row.wider h.r) d)))

  pub row_stands : (at : ℕ) (row : Row) (end : ℕ) → read_row s h at ≡ got row end → Stands s at (written_row row) end × T (row_declared built row)
  unfolding written_row
  row_stands at row end q =
      let r = row_read s h at row end q in
      let n = role_code h.r (byte_at s at) row.role r.first in
      let code = filler_code_lem built (byte_at s (at + 1)) row.filler r.second in (
        pair_stands s (role_of h.r) (filler_of h.c h.v) at row.role row.filler end row.role (filler_code row.filler) r n.0 code.0,
        and_make (ltb row.role h.r) (filler_declared built row.filler) n.1 code.1,
      )

  pub row_is : h.c ≤ 0x20 → (at : ℕ) (row : Row) (tail : List ℕ) → T (row_declared built row) → drop at s ≡ written_row row ++ tail → read_row s h at ≡ got row (at + length (written_row row))
  unfolding written_row
  row_is few at row tail d q =
      row_all s h at row (at + 2)
      (pair_is s (role_of h.r) (filler_of h.c h.v) at row.role row.filler row.role (filler_code row.filler) tail q
      (role_is h.r row.role (and_left (ltb row.role h.r) (filler_declared built row.filler) d))
      (filler_is built few row.filler (and_right (ltb row.role h.r) (filler_declared built row.filler) d)))

  ---------------------------------------------------------------- entries

  module _ (all_rows : length rows ≡ h.e) where
    pub entry_stands : (at : ℕ) (x : Entry) (end : ℕ) → read_entry s h at ≡ got x end → Stands s at (written_entry x) end × T (entry_declared built x)
    unfolding written_entry
    entry_stands at x end q =
        let r = code_read s (entry_of h.c h.e h.v) at x end q in
        let code = entry_code_lem built (byte_at s at) x (ap (λ (e : ℕ). entry_of h.c e h.v (byte_at s at)) all_rows ∙ r.1) in
        ((byte_here s at r.0 ∙ ap₂ (λ (b k : ℕ). b ∷ drop k s) code.0 (sym r.2), r.2), code.1)

    module _ (few : h.c ≤ 0x20) (few_rows : h.e ≤ 0x20) where
      pub entry_reads : (at : ℕ) (x : Entry) (tail : List ℕ) → T (entry_declared built x) → drop at s ≡ written_entry x ++ tail → read_entry s h at ≡ got x (at + length (written_entry x))
      unfolding written_entry
      entry_reads at x tail d q =
          let a = here_byte s at (entry_code x) tail q in
          code_answer s (entry_of h.c h.e h.v) at a.0 _
          (ap (entry_of h.c h.e h.v) a.1
          ∙ ap (λ (e : ℕ). entry_of h.c e h.v (entry_code x)) (sym all_rows)
          ∙ entry_is built few (let e : length rows ≡ h.e = all_rows in omega arith) x d)

    ---------------------------------------------------------------- lines

    pub line_stands : (at : ℕ) (l : Line) (end : ℕ) → read_line bounds s h at ≡ got l end → Stands s at (written_line l) end × T (line_right built l)
    unfolding written_line line_right
    line_stands at l end q =
        let r = line_read bounds s h at l end q in
        let left = many_written s (read_entry s h) written_entry (entry_declared built) entry_stands l.left (at + 1) r.mid r.left_read in
        let right = entry_stands r.mid l.right end r.right_read in
        let all = stands_then s at (at + 1) end (byte_at s at ∷ []) (flat_map written_entry l.left ++ written_entry l.right) (byte_here s at r.inside, refl)
        (stands_then s (at + 1) r.mid end (flat_map written_entry l.left) (written_entry l.right) left.0 right.0) in (
          subst (λ (k : ℕ). Stands s at (k ∷ (flat_map written_entry l.left ++ written_entry l.right)) end) (sym r.left_many) all,
          and_make (leb (length l.left) max_left) (line_declared built l) (le→leb (length l.left) max_left (subst (λ (k : ℕ). k ≤ max_left) (sym r.left_many) r.few))
              (and_make (every_of (entry_declared built) l.left) (entry_declared built l.right) left.1 right.1),
        )

    module _ (few : h.c ≤ 0x20) (few_rows : h.e ≤ 0x20) where
      pub line_is : (at : ℕ) (l : Line) (tail : List ℕ) → T (line_right built l) → drop at s ≡ written_line l ++ tail → read_line bounds s h at ≡ got l (at + length (written_line l))
      unfolding written_line line_right written_entry
      line_is at l tail d q =
          let a = here_byte s at (length l.left) (flat_map written_entry l.left ++ written_entry l.right ++ tail) q in
          let left_few : length l.left ≤ max_left = leb→le (length l.left) max_left (and_left (leb (length l.left) max_left) (line_declared built l) d) in
          let known : T (line_declared built l) = and_right (leb (length l.left) max_left) (line_declared built l) d in
          let behind : drop (at + 1) s ≡ flat_map written_entry l.left ++ (written_entry l.right ++ tail) = a.2 ∙ append_assoc (flat_map written_entry l.left) (written_entry l.right) tail in
          let long : length (flat_map written_entry l.left ++ written_entry l.right) ≡ length (flat_map written_entry l.left) + 1 = length-append (flat_map written_entry l.left) (written_entry l.right) in
          line_all bounds s h at l _
          (record {
            inside = a.0;
            few = subst (λ (k : ℕ). k ≤ max_left) (sym a.1) left_few;
            left_many = sym a.1;
            mid = at + 1 + length (flat_map written_entry l.left);
            left_read =
                many_read s (read_entry s h) written_entry (entry_declared built) (entry_reads few few_rows) l.left (at + 1) (written_entry l.right ++ tail)
                (and_left (every_of (entry_declared built) l.left) (entry_declared built l.right) known) behind;
            right_read =
                entry_reads few few_rows (at + 1 + length (flat_map written_entry l.left)) l.right tail (and_right (every_of (entry_declared built) l.left) (entry_declared built l.right) known)
                (drop_behind s (at + 1) (flat_map written_entry l.left) (written_entry l.right ++ tail) behind)
                ∙ ap (got l.right) (omega arith);
          })

------------------------------------------------------------------ the header

-- k bytes from `at` on
unfoldable bytes_from : List ℕ → ℕ → ℕ → List ℕ
bytes_from s at zero = []
bytes_from s at (suc k) = byte_at s at ∷ bytes_from s (at + 1) k

front : (s : List ℕ) (k at : ℕ) → at + k ≤ length s → drop at s ≡ bytes_from s at k ++ drop (at + k) s
unfolding bytes_from
front s zero at w = ap (λ (i : ℕ). drop i s) (let e : at ≡ at + 0 = omega arith in e)
front s (suc k) at w =
    byte_here s at (omega arith)
    ∙ ap (λ (l : List ℕ). byte_at s at ∷ l) (front s k (at + 1) (omega arith) ∙ ap (λ (i : ℕ). bytes_from s (at + 1) k ++ drop i s) (let e : at + 1 + k ≡ at + suc k = omega arith in e))

five : {a b c d e p q r t u : ℕ} (l : List ℕ) → a ≡ p → b ≡ q → c ≡ r → d ≡ t → e ≡ u → a ∷ b ∷ c ∷ d ∷ e ∷ l ≡ p ∷ q ∷ r ∷ t ∷ u ∷ l
five l f g h i j = λ x. f x ∷ g x ∷ h x ∷ i x ∷ j x ∷ l

both : (a b i j : ℕ) → T (eqb a i && eqb b j) → (a ≡ i) × (b ≡ j)
both a b i j m = (eqb→eq a i (and_left (eqb a i) (eqb b j) m), eqb→eq b j (and_right (eqb a i) (eqb b j) m))

-- the version of a header that was read is known
header_version : (s : List ℕ) → T (version_known s) → IsVersion (header_of s)
unfolding version_known has_role_rows role_count
header_version s v = go (or_cases (eqb (byte_at s version_place) 1) (eqb (byte_at s version_place) 2) (and_left (eqb (byte_at s version_place) 1 || eqb (byte_at s version_place) 2) (eqb (byte_at s 4) 0) v))
  where
    none_there : byte_at s version_place ≡ 1 → cond (has_role_rows (byte_at s version_place)) (byte_at s role_rows_place) 0 ≡ 0
    none_there e = ap (λ (k : ℕ). cond (has_role_rows k) (byte_at s role_rows_place) 0) e

    go : T (eqb (byte_at s version_place) 1) ⊎ T (eqb (byte_at s version_place) 2) → IsVersion (header_of s)
    go (inl u) = let e = eqb→eq (byte_at s version_place) 1 u in version_one e (none_there e)
    go (inr u) = version_two (eqb→eq (byte_at s version_place) 2 u)

-- the byte of q stands behind the counts, where there is one
count_bytes : (s : List ℕ) → header_end (header_of s) ≤ length s → drop header_length s ≡ written_role_count (header_of s) ++ drop (header_end (header_of s)) s
unfolding written_role_count header_end role_count
count_bytes s w = go (has_role_rows (byte_at s version_place)) w
  where
    go : (b : Bool) → cond b (header_length + 1) header_length ≤ length s
        → drop header_length s ≡ cond b (cond b (byte_at s role_rows_place) 0 ∷ []) [] ++ drop (cond b (header_length + 1) header_length) s
    go true w = byte_here s header_length w
    go false w = refl

-- a header with a right mark and version stands first
header_bytes_lem : (s : List ℕ) → header_end (header_of s) ≤ length s → T (marked s) → T (version_known s) → s ≡ written_header (header_of s) ++ drop (header_end (header_of s)) s
unfolding written_header bytes_from marked version_known
header_bytes_lem s long m v =
    let l = header_long (header_of s) in
    let a = both (byte_at s 1) (byte_at s 2) 0x4F 0x43 (and_right (eqb (byte_at s 0) 0x56) (eqb (byte_at s 1) 0x4F && eqb (byte_at s 2) 0x43) m) in
    let known = eqb (byte_at s version_place) 1 || eqb (byte_at s version_place) 2 in
    front s header_length 0 (omega arith)
    ∙ five _ (eqb→eq (byte_at s 0) 0x56 (and_left (eqb (byte_at s 0) 0x56) (eqb (byte_at s 1) 0x4F && eqb (byte_at s 2) 0x43) m)) a.0 a.1 refl (eqb→eq (byte_at s 4) 0 (and_right known (eqb (byte_at s 4) 0) v))
    ∙ ap (λ (l : List ℕ). 0x56 ∷ 0x4F ∷ 0x43 ∷ byte_at s version_place ∷ 0 ∷ byte_at s constants_place ∷ byte_at s roles_place ∷ byte_at s variables_place ∷ byte_at s restrictions_place ∷ byte_at s lines_place ∷ l) (count_bytes s long)

pub header_length_lem : (h : Header) → length (written_header h) ≡ header_end h
unfolding written_header written_role_count header_end
header_length_lem h = go (has_role_rows h.version)
  where
    go : (b : Bool) → length (0x56 ∷ 0x4F ∷ 0x43 ∷ h.version ∷ 0 ∷ h.c ∷ h.r ∷ h.v ∷ h.e ∷ h.m ∷ cond b (h.q ∷ []) []) ≡ cond b (header_length + 1) header_length
    go true = refl
    go false = refl

pub header_first : (s : List ℕ) (h : Header) → HeaderRead bounds s h → First s (written_header h) (header_end h)
header_first s h r = (
  subst (λ (x : Header). s ≡ written_header x ++ drop (header_end x) s) (sym r.same)
      (header_bytes_lem s (subst (λ (x : Header). header_end x ≤ length s) r.same r.inside) (true_is (marked s) r.mark) (true_is (version_known s) r.version)),
  sym (header_length_lem h),
)

pub version_read : (s : List ℕ) (h : Header) → HeaderRead bounds s h → IsVersion h
version_read s h r = subst IsVersion (sym r.same) (header_version s (true_is (version_known s) r.version))

-- a written header is read
module _ (h : Header) (tail : List ℕ) where
  known_version : IsVersion h → version_known (written_header h ++ tail) ≡ true
  unfolding version_known written_header
  known_version (version_one e z) = ap (λ (k : ℕ). (eqb k 1 || eqb k 2) && true) e
  known_version (version_two e) = ap (λ (k : ℕ). (eqb k 1 || eqb k 2) && true) e

  same_count : IsVersion h → h.q ≡ role_count (written_header h ++ tail)
  unfolding written_header written_role_count has_role_rows role_count
  same_count (version_one e z) = z ∙ ap (λ (k : ℕ). cond (eqb k 2) (get_or (cond (eqb k 2) (h.q ∷ []) [] ++ tail) 0 0) 0) (sym e)
  same_count (version_two e) = ap (λ (k : ℕ). cond (eqb k 2) (get_or (cond (eqb k 2) (h.q ∷ []) [] ++ tail) 0 0) 0) (sym e)

  pub first_header : IsVersion h → Within bounds h → HeaderRead bounds (written_header h ++ tail) h
  unfolding written_header marked
  first_header version w = record {
    same = λ i. record { version = h.version; c = h.c; r = h.r; v = h.v; e = h.e; m = h.m; q = same_count version i };
    inside = (let a = header_length_lem h in let b : length (written_header h ++ tail) ≡ length (written_header h) + length tail = length-append (written_header h) tail in omega arith);
    mark = refl;
    version = known_version version;
    counts = w;
  }
