-- The bytes of a readable table lie as its table says.
--
--   start_after          == where line n begins, by what is read
--   layout               == a readable table's bytes lie as its table says
--   readable_header      == a reading's header and table are header_of and table_of
--   refused_readable, readable_is == a verdict is one of the two, and where it is "readable" the reading is
--   narrower_said, wider_said, role_said, filler_said == what the bytes of a role row and of a row say
--   start_first, start_next == where the first line begins, and the next one
--   line_inside, begun_inside == a line lies inside its table
--   left_many, left_within, left_writes, right_writes == what the bytes of a line say
use Rattle.std.specs.Prelude.{◌≡◌, refl, List, [], ℕ, zero, suc, ◌+◌, ◌*◌, ◌≤◌, ◌<◌, T, leb, get_or}
use Rattle.std.proofs.Math.Path.{sym, ap, subst}
use Rattle.std.proofs.Common.{ap₂, ◌∙◌, add-one}
use Rattle.std.proofs.Math.Option.{some}
use native.Mathlib.Omega.{arith}
use Rattle.std.proofs.Math.ListN.{length}
use Rattle.el.specs.TestLaws.{and_right, every_of_both}
use Rattle.el.specs.Table.{top_f, constant, Line, Table, row_at, line_declared}
use Rattle.el.specs.TableLaws.{all_declared}
use Rattle.answer.specs.declared.Answer.{Answer}
use Rattle.bounds.specs.Bounds.{bounds, max_left}
use Rattle.table.specs.declared.Header.{Header}
use Rattle.std.specs.Prelude.{Result, Ok, Err}
use Rattle.table.specs.Code.{filler_of, entry_of}
use Rattle.table.specs.CodeLaws.{role_code}
use Rattle.table.specs.Reading.{got, byte_at, header_end, header_of, role_row_start, wider_place, rows_at, row_start, filler_place, read_role_row, read_row, read_entry, read_line, table_with, Reading, refusal, readable, reading, the_table, table_of, is_readable}
use Rattle.table.specs.Bytes.{bytes_with, line_right}
use Rattle.table.specs.Standing.{Many, along, RoleRowRead, RowRead, LineRead, HeaderRead, BodyRead}
use Rattle.table.specs.ManyLaws.{many_each}
use Rattle.table.specs.ReadLaws.{code_read, role_row_read, row_read, line_read, header_long, readable_read}
use Rattle.table.specs.BytesLaws.{first_all, lines_there}
use Rattle.table.specs.Step.{verdict_of}
use Rattle.table.specs.Layout.{role_row_at, line_at, line_start, Layout, IsRowFiller, IsEntryCode, LineBegins, AtLine}

-- a step of one byte, of two, of a line
along_one : (at n : ℕ) → along (λ p. p + 1) at n ≡ at + n
unfolding along
along_one at zero = let e : at ≡ at + 0 = omega arith in e
along_one at (suc n) = let ih : along (λ p. p + 1) at n ≡ at + n = along_one at n in omega arith

along_two : (at n : ℕ) → along (λ p. p + 2) at n ≡ at + 2 * n
unfolding along
along_two at zero = let e : at ≡ at + 2 * 0 = omega arith in e
along_two at (suc n) = let ih : along (λ p. p + 2) at n ≡ at + 2 * n = along_two at n in omega arith

start_after : (s : List ℕ) (n : ℕ) → along (λ p. p + byte_at s p + 2) (row_start s (header_of s).e) n ≡ line_start s n
unfolding along line_start
start_after s zero = refl
start_after s (suc n) = ap (λ (p : ℕ). p + byte_at s p + 2) (start_after s n)

------------------------------------------------------------------ the layout

module _ (s : List ℕ) (h : Header) where
  -- where each left entry and the right one stand, and where the line ends
  entries_there : (at : ℕ) (l : Line) (end : ℕ) → LineRead bounds s h at l end
      → ((i : ℕ) → i < length l.left → entry_of h.c h.e h.v (byte_at s (at + 1 + i)) ≡ some (get_or l.left i (constant 0)))
      × (entry_of h.c h.e h.v (byte_at s (at + 1 + byte_at s at)) ≡ some l.right) × (at + byte_at s at + 2 ≤ length s) × (end ≡ at + byte_at s at + 2)
  entries_there at l end r =
      let each = many_each (read_entry s h) (λ p. p + 1) (λ at x end q. (code_read s (entry_of h.c h.e h.v) at x end q).2) (constant 0) l.left (at + 1) r.mid r.left_read in
      let mid : r.mid ≡ at + 1 + byte_at s at = each.1 ∙ along_one (at + 1) (length l.left) ∙ ap (λ (k : ℕ). at + 1 + k) r.left_many in
      let right = code_read s (entry_of h.c h.e h.v) r.mid l.right end r.right_read in
      let inside : r.mid < length s = right.0 in
      let next : end ≡ r.mid + 1 = right.2 in (
        (λ i w. ap (λ (p : ℕ). entry_of h.c h.e h.v (byte_at s p)) (sym (along_one (at + 1) i)) ∙ (code_read s (entry_of h.c h.e h.v) _ _ _ (each.0 i w)).1),
        ap (λ (p : ℕ). entry_of h.c h.e h.v (byte_at s p)) (sym mid) ∙ right.1,
        omega arith,
        omega arith,
      )

module _ (s : List ℕ) (t : Table) (header : HeaderRead bounds s (header_of s)) (body : BodyRead bounds s (header_of s) t) where
  role_rows_each : ((k : ℕ) → k < length body.role_rows → read_role_row s (header_of s) (along (λ p. p + 2) (header_end (header_of s)) k) ≡ got (role_row_at body.role_rows k) (along (λ p. p + 2) (header_end (header_of s)) k + 2))
      × (body.first ≡ along (λ p. p + 2) (header_end (header_of s)) (length body.role_rows))
  unfolding role_row_at
  role_rows_each =
      many_each (read_role_row s (header_of s)) (λ p. p + 2) (λ at x end q. (role_row_read s (header_of s) at x end q).next) (record { narrower = 0; wider = 0 })
      body.role_rows (header_end (header_of s)) body.first body.role_rows_read

  role_row_there : (k : ℕ) → k < (header_of s).q → RoleRowRead s (header_of s) (role_row_start s k) (role_row_at body.role_rows k) (role_row_start s k + 2)
  role_row_there k w =
      subst (λ (p : ℕ). RoleRowRead s (header_of s) p (role_row_at body.role_rows k) (p + 2)) (along_two (header_end (header_of s)) k)
      (role_row_read s (header_of s) _ _ _ (role_rows_each.0 k (let e = body.all_role_rows in omega arith)))

  rows_begin : body.first ≡ rows_at s
  rows_begin = role_rows_each.1 ∙ along_two (header_end (header_of s)) (length body.role_rows) ∙ ap (role_row_start s) body.all_role_rows

  rows_each : ((k : ℕ) → k < length body.rows → read_row s (header_of s) (along (λ p. p + 2) (rows_at s) k) ≡ got (row_at body.rows k) (along (λ p. p + 2) (rows_at s) k + 2))
      × (body.mid ≡ along (λ p. p + 2) (rows_at s) (length body.rows))
  unfolding row_at
  rows_each =
      many_each (read_row s (header_of s)) (λ p. p + 2) (λ at x end q. (row_read s (header_of s) at x end q).next) (record { role = 0; filler = top_f })
      body.rows (rows_at s) body.mid (subst (λ (p : ℕ). Many (read_row s (header_of s)) body.rows p body.mid) rows_begin body.rows_read)

  row_there : (k : ℕ) → k < (header_of s).e → RowRead s (header_of s) (row_start s k) (row_at body.rows k) (row_start s k + 2)
  row_there k w =
      subst (λ (p : ℕ). RowRead s (header_of s) p (row_at body.rows k) (p + 2)) (along_two (rows_at s) k)
      (row_read s (header_of s) _ _ _ (rows_each.0 k (let e = body.all_rows in omega arith)))

  line_at_lem : (n : ℕ) → along (λ p. p + byte_at s p + 2) body.mid n ≡ line_start s n
  line_at_lem n =
      ap (λ (at : ℕ). along (λ p. p + byte_at s p + 2) at n) (rows_each.1 ∙ along_two (rows_at s) (length body.rows) ∙ ap (row_start s) body.all_rows) ∙ start_after s n

  lines_each : ((n : ℕ) → n < length body.lines → LineRead bounds s (header_of s) (line_start s n) (line_at body.lines n) (line_start s n + byte_at s (line_start s n) + 2))
      × (body.end ≡ line_start s (length body.lines))
  unfolding line_at
  lines_each =
      let each = many_each (read_line bounds s (header_of s)) (λ p. p + byte_at s p + 2) (λ at l end q. (entries_there s (header_of s) at l end (line_read bounds s (header_of s) at l end q)).3)
      (record { left = []; right = constant 0 }) body.lines body.mid body.end body.lines_read in (
        (λ n w. subst (λ (p : ℕ). LineRead bounds s (header_of s) p (line_at body.lines n) (p + byte_at s p + 2)) (line_at_lem n) (line_read bounds s (header_of s) _ _ _ (each.0 n w))),
        each.1 ∙ line_at_lem (length body.lines),
      )

  line_there : (n : ℕ) → n < (header_of s).m → LineRead bounds s (header_of s) (line_start s n) (line_at body.lines n) (line_start s n + byte_at s (line_start s n) + 2)
  line_there n w = lines_each.0 n (let e = body.all_lines in omega arith)

  laid : Layout s (table_with (header_of s) body.role_rows body.rows body.lines)
  unfolding line_right
  laid =
      let built = table_with (header_of s) body.role_rows body.rows body.lines in
      let stands = lines_there s (header_of s) header body.role_rows body.first body.role_rows_read body.rows body.mid body.rows_read body.all_rows body.lines body.end body.lines_read in
      let long = header_long (header_of s) in
      let whole = first_all s (bytes_with (header_of s) body.role_rows body.rows body.lines) body.end stands.0 body.nothing_left in
      let role : (k : ℕ) (w : k < (header_of s).e) → (row_at body.rows k).role ≡ byte_at s (row_start s k) = λ k w. sym (role_code (header_of s).r _ _ (row_there k w).first).0 in
      let there : (k : ℕ) → wider_place s k ≡ role_row_start s k + 1 = λ k. omega arith in
      record {
        constants = refl;
        roles = refl;
        variables = refl;
        role_rows_are = body.all_role_rows;
        rows = body.all_rows;
        lines = body.all_lines;
        few_constants = header.counts.few_constants;
        few_roles = header.counts.few_roles;
        few_variables = header.counts.few_variables;
        few_restrictions = header.counts.few_restrictions;
        few_atoms = header.counts.few_atoms;
        few_lines = header.counts.few_lines;
        few_role_rows = header.counts.few_role_rows;
        header_in = (let w = header.inside in omega arith);
        role_row_in = λ k w. (let l = (role_row_there k w).inside in omega arith);
        row_narrower = λ k w. sym (role_code (header_of s).r _ _ (role_row_there k w).first).0;
        row_wider = λ k w. sym (role_code (header_of s).r _ _ (role_row_there k w).second).0 ∙ ap (byte_at s) (sym (there k));
        row_in = λ k w. (let l = (row_there k w).inside in omega arith);
        row_role = role;
        row_filler = λ k w. ap (λ (i : ℕ). filler_of (header_of s).c (header_of s).v (byte_at s i)) (let e : filler_place s k ≡ row_start s k + 1 = omega arith in e) ∙ (row_there k w).second;
        line_in = λ n w. (entries_there s (header_of s) _ _ _ (line_there n w)).2;
        line_few = λ n w. (line_there n w).few;
        line_left = λ n w. (line_there n w).left_many;
        line_entry = λ n i w l. (entries_there s (header_of s) _ _ _ (line_there n w)).0 i (let e = (line_there n w).left_many in omega arith);
        line_right_is = λ n w. (entries_there s (header_of s) _ _ _ (line_there n w)).1;
        line_end = ap (line_start s) (sym body.all_lines) ∙ sym lines_each.1 ∙ stands.0.1 ∙ sym (ap length whole);
        all_declared =
            all_declared built stands.1.role_rows_right stands.1.rows_right
            (every_of_both (line_right built) (line_right built) (line_declared built) body.lines (λ l a d. and_right (leb (length l.left) max_left) (line_declared built l) a) stands.1.lines_right stands.1.lines_right);
        whole = whole;
      }

pub readable_header : (s : List ℕ) (h : Header) (t : Table) → reading s ≡ readable h t → (h ≡ header_of s) × (t ≡ table_of s)
unfolding reading table_of
readable_header s h t q = ((readable_read bounds s h t q).0.same, sym (ap the_table q))

readable_layout : (s : List ℕ) (h : Header) (t : Table) → reading s ≡ readable h t → Layout s t
unfolding reading
readable_layout s h t q =
    let r = readable_read bounds s h t q in
    let w = subst (λ (k : Header). HeaderRead bounds s k × BodyRead bounds s k t) r.0.same r in
    subst (Layout s) (sym w.1.same) (laid s t w.0 w.1)

pub layout : (s : List ℕ) → T (is_readable (reading s)) → Layout s (table_of s)
unfolding table_of
layout s ok = go (reading s) refl ok
  where
    go : (x : Reading) → reading s ≡ x → T (is_readable x) → Layout s (the_table x)
    go (refusal why) e ok = absurd ok
    go (readable h t) e ok = readable_layout s h t e

pub refused_readable : (why : Answer) → ◌≡◌ {A = Result (Unit {0}) Answer} (Err why) (Ok tt) → ⊥
refused_readable why q = let z : ◌≡◌ {A = ℕ} 0 1 = cc in omega arith

pub readable_is : (s : List ℕ) → verdict_of (reading s) ≡ Ok tt → T (is_readable (reading s))
unfolding verdict_of
readable_is s q = go (reading s) q
  where
    go : (x : Reading) → verdict_of x ≡ Ok tt → T (is_readable x)
    go (refusal why) q = absurd (refused_readable why q)
    go (readable h t) q = tt

------------------------------------------------------------------ what the bytes of rows say

module _ (s : List ℕ) (ok : T (is_readable (reading s))) (k at : ℕ) where
  pub narrower_said : at ≡ header_end (header_of s) → k < (header_of s).q → byte_at s (at + 2 * k) ≡ (role_row_at (table_of s).role_rows k).narrower
  narrower_said e w = ap (λ (p : ℕ). byte_at s (p + 2 * k)) e ∙ sym ((layout s ok).row_narrower k w)

  pub wider_said : at ≡ header_end (header_of s) → k < (header_of s).q → byte_at s (at + 1 + 2 * k) ≡ (role_row_at (table_of s).role_rows k).wider
  wider_said e w = ap (λ (p : ℕ). byte_at s (p + 1 + 2 * k)) e ∙ sym ((layout s ok).row_wider k w)

  pub role_said : at ≡ rows_at s → k < (header_of s).e → byte_at s (at + 2 * k) ≡ (row_at (table_of s).rows k).role
  role_said e w = ap (λ (p : ℕ). byte_at s (p + 2 * k)) e ∙ sym ((layout s ok).row_role k w)

  pub filler_said : at ≡ rows_at s → k < (header_of s).e → IsRowFiller s k (byte_at s (at + 1 + 2 * k))
  unfolding IsRowFiller
  filler_said e w = ap (λ (p : ℕ). filler_of (header_of s).c (header_of s).v (byte_at s (p + 1 + 2 * k))) e ∙ (layout s ok).row_filler k w

------------------------------------------------------------------ where lines lie

pub start_first : (s : List ℕ) (at e : ℕ) → at ≡ rows_at s → e ≡ (header_of s).e → at + 2 * e ≡ line_start s 0
unfolding line_start
start_first s at e p q = ap₂ (λ (x y : ℕ). x + 2 * y) p q

pub start_next : (s : List ℕ) (n at p : ℕ) → at ≡ line_start s n → p ≡ byte_at s at → at + p + 2 ≡ line_start s (n + 1)
unfolding line_start
start_next s n at p e q = ap (λ (k : ℕ). at + k + 2) q ∙ ap (λ (k : ℕ). k + byte_at s k + 2) e ∙ ap (line_start s) (sym (add-one n))

pub line_inside : (s : List ℕ) → T (is_readable (reading s)) → (n at : ℕ) → n < (header_of s).m → at ≡ line_start s n → at + byte_at s at + 2 ≤ length s
line_inside s ok n at few begins = subst (λ (k : ℕ). k + byte_at s k + 2 ≤ length s) (sym begins) ((layout s ok).line_in n few)

-- the line that begins at the byte `at`
module _ (s : List ℕ) (ok : T (is_readable (reading s))) (at : ℕ) where
  pub begun_inside : LineBegins s at → at + byte_at s at + 2 ≤ length s
  begun_inside b = line_inside s ok b.number at b.few b.begins

  pub left_many : AtLine s at (λ l. byte_at s at ≡ length l.left)
  left_many n few begins = ap (byte_at s) begins ∙ sym ((layout s ok).line_left n few)

  module _ (i : ℕ) (among : AtLine s at (λ l. i < length l.left)) where
    pub left_within : LineBegins s at → i < byte_at s at
    left_within b = let m = left_many b.number b.few b.begins in let h = among b.number b.few b.begins in omega arith

    pub left_writes : AtLine s at (λ l. IsEntryCode s (get_or l.left i (constant 0)) (byte_at s (at + 1 + i)))
    unfolding IsEntryCode
    left_writes n few begins = rw begins ((layout s ok).line_entry n i few (let m = (layout s ok).line_left n few in let h = among n few begins in omega arith))

  pub right_writes : (p : ℕ) → p ≡ byte_at s at → AtLine s at (λ l. IsEntryCode s l.right (byte_at s (at + 1 + p)))
  unfolding IsEntryCode
  right_writes p many n few begins = rw (many, begins) ((layout s ok).line_right_is n few)
