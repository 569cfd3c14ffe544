-- How long tables are, and what of a longer input is looked at.
--
--   role_rows_length, rows_length, lines_length == the bytes of role rows, of rows, and of lines that are short enough
--   begun_length   == bytes that are right so far are no longer than the longest table
--   longest        == "The longest tables are 714 bytes in version 1 and 779 in version 2"
--   place_fits     == so where a line begins is no larger
--   longest_reached == in each version one has them; longest_lengths, in numerals
--   first_bytes    == THE FIRST 780 BYTES OF AN INPUT ARE READ AS THE WHOLE INPUT IS
use Rattle.std.specs.Prelude.{◌≡◌, refl, Bool, true, false, cond, ◌⊎◌, ℕ, suc, ◌+◌, ◌*◌, ◌-◌, ◌≤◌, ◌<◌, T, eqb, leb, length, take}
use Rattle.std.proofs.Common.{sym, ap, subst, ◌∙◌, inl, inr, arith, leb→le, length-append, take_all, length-take-le, get_or-take}
use mathlib.Core.List.{List, [], ◌∷◌, ◌++◌, flat_map}
use Rattle.std.proofs.Math.Decide.{dec_le}
use Rattle.std.proofs.Math.Seq.{take-append-add}
use Rattle.el.specs.Test.{every_of}
use Rattle.el.specs.TestLaws.{and_left, and_right, every_of_both}
use Rattle.el.specs.Roles.{RoleRow}
use Rattle.el.specs.Table.{Entry, Row, Line, Table, line_declared}
use Rattle.bounds.specs.Bounds.{bounds, max_restrictions, max_lines, max_left, max_role_rows}
use Rattle.answer.specs.declared.Answer.{Answer}
use Rattle.table.specs.declared.Header.{Header}
use Rattle.table.specs.Reading.{byte_at, version_place, constants_place, roles_place, variables_place, restrictions_place, lines_place, header_length, role_rows_place, has_role_rows, header_end, role_count, header_of, marked, version_known, table_with, Reading, refusal, readable, reading, is_readable}
use Rattle.table.specs.Bytes.{written_role_count, written_header, written_role_row, written_row, written_entry, written_line, bytes_with, counts_of, bytes_of, IsVersion, version_one, version_two, Within, line_right, Right, Fits, longest_line, longest_front, longest_length, enough_length, longest_table}
use Rattle.table.specs.Layout.{line_start}
use Rattle.table.specs.LayoutLaws.{readable_header, line_inside}
use Rattle.table.specs.ReadLaws.{header_long}
use Rattle.table.specs.StandsLaws.{header_length_lem}
use Rattle.table.specs.BytesLaws.{readable_is_written}
use Rattle.table.specs.Refusal.{Slot, a_narrower, a_wider, a_role, a_filler, a_count, an_entry, nothing, Begins, Over, RefusedAt, header_cut, wrong_mark, wrong_version, over_bound, no_role_count, over_left, ends_early, not_allowed, bytes_after}
use Rattle.table.specs.RefusalLaws.{refused_means, means_refusal}

pub role_rows_length : (rows : List RoleRow) → length (flat_map written_role_row rows) ≡ 2 * length rows
unfolding flat_map written_role_row
role_rows_length [] = refl
role_rows_length (row ∷ rows) = let ih : length (flat_map written_role_row rows) ≡ 2 * length rows = role_rows_length rows in omega arith

pub rows_length : (rows : List Row) → length (flat_map written_row rows) ≡ 2 * length rows
unfolding flat_map written_row
rows_length [] = refl
rows_length (row ∷ rows) = let ih : length (flat_map written_row rows) ≡ 2 * length rows = rows_length rows in omega arith

entries_length : (xs : List Entry) → length (flat_map written_entry xs) ≡ length xs
unfolding flat_map written_entry
entries_length [] = refl
entries_length (x ∷ xs) = ap suc (entries_length xs)

-- "p at most 8"
abbrev is_short : Line → Bool
is_short l = leb (length l.left) max_left

line_length : (l : Line) → T (is_short l) → length (written_line l) ≤ longest_line
unfolding written_line written_entry
line_length l r =
    let few : length l.left ≤ max_left = leb→le (length l.left) max_left r in
    let left : length (flat_map written_entry l.left) ≡ length l.left = entries_length l.left in
    let both : length (flat_map written_entry l.left ++ written_entry l.right) ≡ length (flat_map written_entry l.left) + 1 = length-append (flat_map written_entry l.left) (written_entry l.right) in
    omega arith

pub lines_length : (lines : List Line) → T (every_of is_short lines) → length (flat_map written_line lines) ≤ longest_line * length lines
unfolding flat_map every_of
lines_length [] r = omega arith
lines_length (l ∷ lines) r =
    let first : length (written_line l) ≤ longest_line = line_length l (and_left (is_short l) (every_of is_short lines) r) in
    let ih : length (flat_map written_line lines) ≤ longest_line * length lines = lines_length lines (and_right (is_short l) (every_of is_short lines) r) in
    let both : length (written_line l ++ flat_map written_line lines) ≡ length (written_line l) + length (flat_map written_line lines) = length-append (written_line l) (flat_map written_line lines) in
    omega arith

right_short : (t : Table) (lines : List Line) → T (every_of (line_right t) lines) → T (every_of is_short lines)
unfolding line_right
right_short t lines r = every_of_both (line_right t) (line_right t) is_short lines (λ l a d. and_left (is_short l) (line_declared t l) a) r r

-- role rows, rows and lines behind a header
with_length : (h : Header) (role_rows : List RoleRow) (rows : List Row) (lines : List Line) → Right h role_rows rows lines
    → length (bytes_with h role_rows rows lines) ≤ header_end h + 2 * length role_rows + 2 * length rows + longest_line * length lines
unfolding bytes_with
with_length h role_rows rows lines right =
    let a : length (flat_map written_row rows) ≡ 2 * length rows = rows_length rows in
    let b : length (flat_map written_line lines) ≤ longest_line * length lines = lines_length lines (right_short (table_with h role_rows rows lines) lines right.lines_right) in
    let c : length (flat_map written_row rows ++ flat_map written_line lines) ≡ length (flat_map written_row rows) + length (flat_map written_line lines) = length-append (flat_map written_row rows) (flat_map written_line lines) in
    let d : length (flat_map written_role_row role_rows) ≡ 2 * length role_rows = role_rows_length role_rows in
    let behind = flat_map written_row rows ++ flat_map written_line lines in
    let e : length (flat_map written_role_row role_rows ++ behind) ≡ length (flat_map written_role_row role_rows) + length behind = length-append (flat_map written_role_row role_rows) behind in
    let f : length (written_header h ++ (flat_map written_role_row role_rows ++ behind)) ≡ length (written_header h) + length (flat_map written_role_row role_rows ++ behind) = length-append (written_header h) (flat_map written_role_row role_rows ++ behind) in
    let g : length (written_header h) ≡ header_end h = header_length_lem h in
    omega arith

-- a header with its role rows
front_length : (h : Header) → IsVersion h → h.q ≤ max_role_rows → header_end h + 2 * h.q ≤ longest_front h.version
unfolding header_end longest_front has_role_rows
front_length h (version_one e z) w = subst (λ (n : ℕ). cond (eqb n 2) (header_length + 1) header_length + 2 * h.q ≤ cond (eqb n 2) (header_length + 1 + 2 * max_role_rows) header_length) (sym e) (omega arith)
front_length h (version_two e) w = subst (λ (n : ℕ). cond (eqb n 2) (header_length + 1) header_length + 2 * h.q ≤ cond (eqb n 2) (header_length + 1 + 2 * max_role_rows) header_length) (sym e) (omega arith)

front_enough : (n : ℕ) → longest_length n < enough_length
unfolding longest_front
front_enough n = go (has_role_rows n)
  where
    go : (b : Bool) → cond b (header_length + 1 + 2 * max_role_rows) header_length + 2 * max_restrictions + longest_line * max_lines < enough_length
    go true = omega arith
    go false = omega arith

-- a whole table at most
within_length : (h : Header) (role_rows : List RoleRow) (rows : List Row) (lines : List Line) (good : List ℕ) → Right h role_rows rows lines → (i j k : ℕ)
    → length role_rows + i ≤ h.q → length rows + j ≤ h.e → length lines + k ≤ h.m → good ≡ bytes_with h role_rows rows lines → length good + 2 * i + 2 * j + longest_line * k ≤ longest_length h.version
within_length h role_rows rows lines good right i j k o r l is =
    let w = with_length h role_rows rows lines right in
    let f = front_length h right.version right.counts.few_role_rows in
    let e : h.e ≤ max_restrictions = right.counts.few_restrictions in
    let m : h.m ≤ max_lines = right.counts.few_lines in
    let g : length good ≡ length (bytes_with h role_rows rows lines) = ap length is in
    omega arith

begun_length : (h : Header) (good : List ℕ) (x : Slot) → Begins h good x → length good < enough_length
begun_length h good a_narrower (role_rows, right, fewer, is) = let w = within_length h role_rows [] [] good right 0 0 0 (omega arith) (omega arith) (omega arith) is in let n = front_enough h.version in omega arith
begun_length h good a_wider (role_rows, narrower, right, fewer, less, is) =
    let begun = bytes_with h role_rows [] [] in
    let w = within_length h role_rows [] [] begun right 1 0 0 (omega arith) (omega arith) (omega arith) refl in
    let n = front_enough h.version in
    let e : length good ≡ length begun + 1 = ap length is ∙ length-append begun (narrower ∷ []) in
    omega arith
begun_length h good a_role (role_rows, rows, right, all, fewer, is) = let w = within_length h role_rows rows [] good right 0 0 0 (omega arith) (omega arith) (omega arith) is in let n = front_enough h.version in omega arith
begun_length h good a_filler (role_rows, rows, role, right, all, fewer, less, is) =
    let begun = bytes_with h role_rows rows [] in
    let w = within_length h role_rows rows [] begun right 0 1 0 (omega arith) (omega arith) (omega arith) refl in
    let n = front_enough h.version in
    let e : length good ≡ length begun + 1 = ap length is ∙ length-append begun (role ∷ []) in
    omega arith
begun_length h good a_count (role_rows, rows, lines, right, whole_first, all, fewer, is) = let w = within_length h role_rows rows lines good right 0 0 0 (omega arith) (omega arith) (omega arith) is in let n = front_enough h.version in omega arith
begun_length h good an_entry (role_rows, rows, lines, p, xs, right, whole_first, all, fewer, few, some_left, known, is) =
    let begun = bytes_with h role_rows rows lines in
    let w = within_length h role_rows rows lines begun right 0 0 1 (omega arith) (omega arith) (omega arith) refl in
    let n = front_enough h.version in
    let a : length (flat_map written_entry xs) ≡ length xs = entries_length xs in
    let e : length good ≡ length begun + suc (length (flat_map written_entry xs)) = ap length is ∙ length-append begun (p ∷ flat_map written_entry xs) in
    omega arith
begun_length h good nothing (role_rows, rows, lines, right, whole_first, all, whole, is) = let w = within_length h role_rows rows lines good right 0 0 0 (omega arith) (omega arith) (omega arith) is in let n = front_enough h.version in omega arith

table_length : (n : ℕ) (t : Table) → Fits n t → length (bytes_of n t) ≤ longest_length n
unfolding Fits bytes_of counts_of
table_length n t fits = let w = within_length (counts_of n t) t.role_rows t.rows t.lines (bytes_of n t) fits 0 0 0 (omega arith) (omega arith) (omega arith) refl in omega arith

-- a readable table of each version is at most as long as that version's longest
pub longest : (s : List ℕ) → T (is_readable (reading s)) → length s ≤ longest_length (header_of s).version
longest s ok = go (reading s) refl ok
  where
    go : (r : Reading) → reading s ≡ r → T (is_readable r) → length s ≤ longest_length (header_of s).version
    go (refusal why) e ok = absurd ok
    go (readable h t) e ok =
        let w = readable_is_written s h t e in
        subst (λ (k : Header). length s ≤ longest_length k.version) (readable_header s h t e).0
        (subst (λ (l : List ℕ). length l ≤ longest_length h.version) (sym w.0) (table_length h.version t w.1))

pub place_fits : (s : List ℕ) → T (is_readable (reading s)) → (n at : ℕ) → n < (header_of s).m → at ≡ line_start s n → at < enough_length
place_fits s ok n at h e = let i = line_inside s ok n at h e in let l = longest s ok in let k = front_enough (header_of s).version in omega arith

-- as many bytes as the longest may have, by the version
pub longest_reached : (n : ℕ) → (n ≡ 1) ⊎ (n ≡ 2) → Fits n (longest_table n) × (length (bytes_of n (longest_table n)) ≡ longest_length n)
unfolding longest_table longest_front has_role_rows Fits bytes_of bytes_with counts_of written_role_count written_header written_role_row written_row written_line written_entry flat_map every_of line_right
longest_reached n of = go of
  where
    Reached : ℕ → Type 0
    Reached k = Fits k (longest_table k) × (length (bytes_of k (longest_table k)) ≡ longest_length k)

    within : (k : ℕ) → (q : ℕ) → q ≤ max_role_rows → Within bounds (record { version = k; c = 0; r = 1; v = 0; e = max_restrictions; m = max_lines; q = q })
    within k q w = record { few_constants = omega arith; few_roles = omega arith; few_variables = omega arith; few_restrictions = omega arith; few_atoms = omega arith; few_lines = omega arith; few_role_rows = w }

    go : (n ≡ 1) ⊎ (n ≡ 2) → Reached n
    go (inl e) = subst Reached (sym e) (record { version = version_one refl refl; counts = within 1 0 (omega arith); role_rows_right = tt; rows_right = tt; lines_right = tt }, refl)
    go (inr e) = subst Reached (sym e) (record { version = version_two refl; counts = within 2 max_role_rows (omega arith); role_rows_right = tt; rows_right = tt; lines_right = tt }, refl)

pub longest_lengths : (longest_length 1 ≡ 714) × (longest_length 2 ≡ 779)
unfolding longest_front has_role_rows
longest_lengths = (refl, refl)

------------------------------------------------------------------ a longer input

module _ (s : List ℕ) (long : enough_length ≤ length s) where
  kept : (i : ℕ) → i < enough_length → byte_at (take enough_length s) i ≡ byte_at s i
  kept i w = get_or-take enough_length s i 0 w

  kept_length : length (take enough_length s) ≡ enough_length
  kept_length = length-take-le enough_length s long

  kept_mark : marked (take enough_length s) ≡ marked s
  unfolding marked
  kept_mark = simp (kept 0 (omega arith), kept 1 (omega arith), kept 2 (omega arith))

  kept_version : version_known (take enough_length s) ≡ version_known s
  unfolding version_known
  kept_version = simp (kept 3 (omega arith), kept 4 (omega arith))

  kept_role_count : role_count (take enough_length s) ≡ role_count s
  unfolding role_count
  kept_role_count = simp (kept version_place (omega arith), kept role_rows_place (omega arith))

  kept_counts : header_of (take enough_length s) ≡ header_of s
  kept_counts =
      λ i.
      record {
        version = kept version_place (omega arith) i;
        c = kept constants_place (omega arith) i;
        r = kept roles_place (omega arith) i;
        v = kept variables_place (omega arith) i;
        e = kept restrictions_place (omega arith) i;
        m = kept lines_place (omega arith) i;
        q = kept_role_count i;
      }

  kept_front : (good : List ℕ) (b : ℕ) (tail : List ℕ) → s ≡ good ++ (b ∷ tail) → length good < enough_length → take enough_length s ≡ good ++ (b ∷ take (enough_length - suc (length good)) tail)
  kept_front good b tail q w =
      ap (take enough_length) q
      ∙ ap (λ (k : ℕ). take k (good ++ (b ∷ tail))) (let e : enough_length ≡ length good + suc (enough_length - suc (length good)) = omega arith in e)
      ∙ take-append-add good (b ∷ tail) (suc (enough_length - suc (length good)))

  kept_refusal : {why : Answer} → RefusedAt s why → RefusedAt (take enough_length s) why
  kept_refusal (header_cut w) = absurd (let z : ⊥ = omega arith in z)
  kept_refusal (wrong_mark l m) = wrong_mark (let e = kept_length in omega arith) (λ z. m (subst T kept_mark z))
  kept_refusal (wrong_version l m v) = wrong_version (let e = kept_length in omega arith) (subst T (sym kept_mark) m) (λ z. v (subst T kept_version z))
  kept_refusal (over_bound {at} l m v o) =
      over_bound (let e = kept_length in omega arith) (subst T (sym kept_mark) m) (subst T (sym kept_version) v) (subst (λ (h : Header). Over h at) (sym kept_counts) o)
  kept_refusal (no_role_count l m v w c) = absurd (let z = header_long (header_of s) in let y : ⊥ = omega arith in y)
  kept_refusal (over_left h good p tail b q w) = over_left h good p (take (enough_length - suc (length good)) tail) b (kept_front good p tail q (begun_length h good a_count b)) w
  kept_refusal (ends_early h x a b) = let z = begun_length h s x b in absurd (let y : ⊥ = omega arith in y)
  kept_refusal (not_allowed h x good b tail g q r) = not_allowed h x good b (take (enough_length - suc (length good)) tail) g (kept_front good b tail q (begun_length h good x g)) r
  kept_refusal (bytes_after h good b tail g q) = bytes_after h good b (take (enough_length - suc (length good)) tail) g (kept_front good b tail q (begun_length h good nothing g))

-- THE FIRST 780 BYTES OF AN INPUT ARE READ AS THE WHOLE INPUT IS
pub first_bytes : (s : List ℕ) → reading (take enough_length s) ≡ reading s
first_bytes s = go (dec_le (length s) enough_length)
  where
    over : enough_length < length s → (r : Reading) → reading s ≡ r → reading (take enough_length s) ≡ r
    over l (refusal why) e = means_refusal (take enough_length s) why (kept_refusal s (omega arith) (refused_means s why e))
    over l (readable h t) e = let w = longest s (subst (λ (r : Reading). T (is_readable r)) (sym e) tt) in let n = front_enough (header_of s).version in absurd (let y : ⊥ = omega arith in y)

    go : Dec (length s ≤ enough_length) → reading (take enough_length s) ≡ reading s
    go (yes l) = ap reading (take_all enough_length s l)
    go (no l) = over (omega arith) (reading s) refl
