-- What each reader answers: a law for each refusal in order, one for what is read, and what is known where something was read.
--
--   code_short, code_answer         == the answers of read_code, which reads a role, a filler, an entry
--   pair_stop, pair_next            == of read_pair, which reads a role row and a row
--   line_short, line_over, line_opened == of read_line
--   header_short, header_mark, header_version, header_counts, counts_within == of read_header
--   pair_all, role_row_all, row_all, line_all, header_all, body_all == what is there is read
--   code_read, pair_read, role_row_read, row_read, line_read, counts_read, header_read, body_read, readable_read == what was read is there
--   header_long                     == how long a header is
use Rattle.std.specs.Prelude.{◌≡◌, refl, Bool, true, false, cond, List, ℕ, ◌+◌, ◌≤◌, ◌<◌, ltb}
use Rattle.std.proofs.Math.Path.{sym, ap, subst}
use Rattle.std.proofs.Common.{◌∙◌, arith}
use Rattle.std.proofs.Math.Bool.{not}
use Rattle.std.proofs.Math.Option.{Option, some}
use Rattle.std.proofs.Math.ListN.{length}
use borrow.Author.Tests.{ltb-false, leb-false, lt-ltb, le-ltb, le-leb, lt-leb, not-false}
use Rattle.el.specs.Roles.{RoleRow}
use Rattle.el.specs.Table.{Entry, Row, Line, Table}
use Rattle.answer.specs.declared.Answer.{Answer}
use Rattle.answer.specs.declared.Answer.TheVariants.{EndsEarly, WrongMark, WrongVersion, OverBound, BytesAfter}
use Rattle.bounds.specs.Bounds.{Bounds}
use Rattle.table.specs.declared.Header.{Header}
use Rattle.table.specs.Code.{role_of, filler_of}
use Rattle.table.specs.Reading.{Read, refused, got, and_then, or_refused, read_pair, byte_at, missing, read_code, constants_place, roles_place, variables_place, restrictions_place, lines_place, header_length, role_rows_place, has_role_rows, header_end, header_of, marked, version_known, read_counts, then_there, read_header, role_row_of, row_of, read_entry, read_role_row, read_role_rows, read_row, read_rows, read_entries, then_right, table_with, read_line, read_lines, then_end, then_lines, then_rows, read_body, readable, whole, from_header, reading_within}
use Rattle.table.specs.Bytes.{Within}
use Rattle.table.specs.Standing.{PairRead, RoleRowRead, RowRead, LineRead, HeaderRead, BodyRead}
use Rattle.table.specs.ManyLaws.{got_same, if_passed, if_refused, refuse_got, then_got, or_got, many_got, many_whole}

------------------------------------------------------------------ one code, and two

module _ {A : Type 0} (s : List ℕ) (of : ℕ → Option A) where
  pub code_short : (at : ℕ) → length s ≤ at → read_code s of at ≡ refused (EndsEarly (length s))
  unfolding read_code
  code_short at w = if_refused _ _ _ (le-leb (length s) at w)

  pub code_answer : (at : ℕ) → at < length s → (o : Option A) → of (byte_at s at) ≡ o → read_code s of at ≡ or_refused at o
  unfolding read_code
  code_answer at l o q = if_passed _ _ _ (lt-leb (length s) at l) ∙ ap (or_refused at) q

  pub code_read : (at : ℕ) (x : A) (end : ℕ) → read_code s of at ≡ got x end → (at < length s) × (of (byte_at s at) ≡ some x) × (end ≡ at + 1)
  unfolding read_code
  code_read at x end q =
      let a = refuse_got (missing s at) (EndsEarly (length s)) _ x end q in
      let g = or_got at (of (byte_at s at)) x end a.1 in
      (leb-false (length s) at a.0, g.0, g.1)

module _ {A B C : Type 0} (one : ℕ → Read A) (two : ℕ → Read B) (make : A → B → C) (at : ℕ) where
  pub pair_stop : (why : Answer) → one at ≡ refused why → read_pair one two make at ≡ refused why
  unfolding read_pair
  pair_stop why q = ap (λ (x : Read A). and_then x (λ a next. and_then (two next) (λ b end. got (make a b) end))) q

  pub pair_next : (a : A) (next : ℕ) → one at ≡ got a next → read_pair one two make at ≡ and_then (two next) (λ b end. got (make a b) end)
  unfolding read_pair
  pair_next a next q = ap (λ (x : Read A). and_then x (λ a next. and_then (two next) (λ b end. got (make a b) end))) q

module _ {A B C : Type 0} (s : List ℕ) (f : ℕ → Option A) (g : ℕ → Option B) (make : A → B → C) (at : ℕ) where
  pub pair_all : (a : A) (b : B) (end : ℕ) → PairRead s f g at a b end → read_pair (read_code s f) (read_code s g) make at ≡ got (make a b) end
  pair_all a b end r =
      pair_next (read_code s f) (read_code s g) make at a (at + 1) (code_answer s f at (let w = r.inside in omega arith) (some a) r.first)
      ∙ ap (λ (x : Read B). and_then x (λ b end. got (make a b) end)) (code_answer s g (at + 1) r.inside (some b) r.second)
      ∙ ap (got (make a b)) (let e = r.next in omega arith)

  pub pair_read : (x : C) (end : ℕ) → read_pair (read_code s f) (read_code s g) make at ≡ got x end → (a : A) × (b : B) × (make a b ≡ x) × PairRead s f g at a b end
  unfolding read_pair
  pair_read x end q =
      let p = then_got (read_code s f at) (λ a next. and_then (read_code s g next) (λ b end. got (make a b) end)) x end q in
      let r = then_got (read_code s g p.1) (λ b end. got (make p.0 b) end) x end p.3 in
      let e = got_same (make p.0 r.0) x r.1 end r.3 in
      let i = code_read s f at p.0 p.1 p.2 in
      let j = code_read s g p.1 r.0 r.1 r.2 in
      let next : p.1 ≡ at + 1 = i.2 in (
        p.0,
        r.0,
        e.0,
        record {
          inside = (let w : p.1 < length s = j.0 in omega arith);
          first = i.1;
          second = ap (λ (k : ℕ). g (byte_at s k)) (sym next) ∙ j.1;
          next = (let w : r.1 ≡ p.1 + 1 = j.2 in let z : r.1 ≡ end = e.1 in omega arith);
        },
      )

module _ (s : List ℕ) (h : Header) (at : ℕ) where
  pub role_row_all : (row : RoleRow) (end : ℕ) → RoleRowRead s h at row end → read_role_row s h at ≡ got row end
  role_row_all row end r = pair_all s (role_of h.r) (role_of h.r) role_row_of at row.narrower row.wider end r

  pub role_row_read : (row : RoleRow) (end : ℕ) → read_role_row s h at ≡ got row end → RoleRowRead s h at row end
  role_row_read row end q =
      let p = pair_read s (role_of h.r) (role_of h.r) role_row_of at row end q in
      subst (λ (x : RoleRow). RoleRowRead s h at x end) p.2 p.3

  pub row_all : (row : Row) (end : ℕ) → RowRead s h at row end → read_row s h at ≡ got row end
  row_all row end r = pair_all s (role_of h.r) (filler_of h.c h.v) row_of at row.role row.filler end r

  pub row_read : (row : Row) (end : ℕ) → read_row s h at ≡ got row end → RowRead s h at row end
  row_read row end q =
      let p = pair_read s (role_of h.r) (filler_of h.c h.v) row_of at row end q in
      subst (λ (x : Row). RowRead s h at x end) p.2 p.3

module _ (b : Bounds) (s : List ℕ) (h : Header) where
  ------------------------------------------------------------------ lines

  pub line_short : (at : ℕ) → length s ≤ at → read_line b s h at ≡ refused (EndsEarly (length s))
  unfolding read_line
  line_short at w = if_refused _ _ _ (le-leb (length s) at w)

  pub line_over : (at : ℕ) → at < length s → b.left < byte_at s at → read_line b s h at ≡ refused (OverBound at)
  unfolding read_line
  line_over at l w = if_passed _ _ _ (lt-leb (length s) at l) ∙ if_refused _ _ _ (lt-ltb b.left (byte_at s at) w)

  pub line_opened : (at : ℕ) → at < length s → byte_at s at ≤ b.left → read_line b s h at ≡ and_then (read_entries s h (byte_at s at) (at + 1)) (then_right s h)
  unfolding read_line
  line_opened at l few = if_passed _ _ _ (lt-leb (length s) at l) ∙ if_passed _ _ _ (le-ltb b.left (byte_at s at) few)

  pub line_all : (at : ℕ) (l : Line) (end : ℕ) → LineRead b s h at l end → read_line b s h at ≡ got l end
  line_all at l end r =
      line_opened at r.inside r.few
      ∙ ap (λ (x : Read (List Entry)). and_then x (then_right s h)) (many_whole (read_entry s h) (byte_at s at) l.left (at + 1) r.mid r.left_many r.left_read)
      ∙ ap (λ (x : Read Entry). and_then x (λ right end. got (record { left = l.left; right = right }) end)) r.right_read

  pub line_read : (at : ℕ) (l : Line) (end : ℕ) → read_line b s h at ≡ got l end → LineRead b s h at l end
  unfolding read_line
  line_read at l end q =
      let a = refuse_got (missing s at) (EndsEarly (length s)) _ l end q in
      let d = refuse_got (ltb b.left (byte_at s at)) (OverBound at) _ l end a.1 in
      let f = then_got (read_entries s h (byte_at s at) (at + 1)) (then_right s h) l end d.1 in
      let g = then_got (read_entry s h f.1) (λ right end. got (record { left = f.0; right = right }) end) l end f.3 in
      let e = got_same (record { left = f.0; right = g.0 }) l g.1 end g.3 in
      let m = many_got (read_entry s h) (byte_at s at) (at + 1) f.0 f.1 f.2 in
      subst (λ (x : Line). LineRead b s h at x end) e.0
      (record {
        inside = leb-false (length s) at a.0;
        few = ltb-false b.left (byte_at s at) d.0;
        left_many = m.0;
        mid = f.1;
        left_read = m.1;
        right_read = g.2 ∙ ap (got g.0) e.1;
      })

------------------------------------------------------------------ the header

pub counts_within : (b : Bounds) (h : Header) → Within b h → read_counts b h ≡ got h (header_end h)
unfolding read_counts
counts_within b h w =
    if_passed _ _ _ (le-ltb b.constants h.c w.few_constants) ∙ if_passed _ _ _ (le-ltb b.roles h.r w.few_roles)
    ∙ if_passed _ _ _ (le-ltb b.variables h.v w.few_variables) ∙ if_passed _ _ _ (le-ltb b.restrictions h.e w.few_restrictions)
    ∙ if_passed _ _ _ (le-ltb b.atoms (h.c + h.e) w.few_atoms) ∙ if_passed _ _ _ (le-ltb b.lines h.m w.few_lines)
    ∙ if_passed _ _ _ (le-ltb b.role_rows h.q w.few_role_rows)

pub counts_read : (b : Bounds) (h k : Header) (end : ℕ) → read_counts b h ≡ got k end → Within b h × (h ≡ k) × (header_end h ≡ end)
unfolding read_counts
counts_read b h k end q =
    let c = refuse_got (ltb b.constants h.c) (OverBound constants_place) _ k end q in
    let r = refuse_got (ltb b.roles h.r) (OverBound roles_place) _ k end c.1 in
    let v = refuse_got (ltb b.variables h.v) (OverBound variables_place) _ k end r.1 in
    let e = refuse_got (ltb b.restrictions h.e) (OverBound restrictions_place) _ k end v.1 in
    let a = refuse_got (ltb b.atoms (h.c + h.e)) (OverBound restrictions_place) _ k end e.1 in
    let m = refuse_got (ltb b.lines h.m) (OverBound lines_place) _ k end a.1 in
    let o = refuse_got (ltb b.role_rows h.q) (OverBound role_rows_place) _ k end m.1 in
    let g = got_same h k (header_end h) end o.1 in (
      record {
        few_constants = ltb-false b.constants h.c c.0;
        few_roles = ltb-false b.roles h.r r.0;
        few_variables = ltb-false b.variables h.v v.0;
        few_restrictions = ltb-false b.restrictions h.e e.0;
        few_atoms = ltb-false b.atoms (h.c + h.e) a.0;
        few_lines = ltb-false b.lines h.m m.0;
        few_role_rows = ltb-false b.role_rows h.q o.0;
      },
      g.0,
      g.1,
    )

-- a header has at least ten bytes, and at most eleven
pub header_long : (h : Header) → (header_length ≤ header_end h) × (header_end h ≤ header_length + 1)
unfolding header_end
header_long h = go (has_role_rows h.version)
  where
    go : (x : Bool) → (header_length ≤ cond x (header_length + 1) header_length) × (cond x (header_length + 1) header_length ≤ header_length + 1)
    go true = (omega arith, omega arith)
    go false = (omega arith, omega arith)

module _ (b : Bounds) (s : List ℕ) where
  pub header_short : length s < header_length → read_header b s ≡ refused (EndsEarly (length s))
  unfolding read_header
  header_short w = if_refused _ _ _ (lt-ltb (length s) header_length w)

  module _ (long : header_length ≤ length s) where
    pub header_mark : marked s ≡ false → read_header b s ≡ refused WrongMark
    unfolding read_header
    header_mark m = if_passed _ _ _ (le-ltb (length s) header_length long) ∙ if_refused _ _ _ (ap not m)

    module _ (mark : marked s ≡ true) where
      pub header_version : version_known s ≡ false → read_header b s ≡ refused WrongVersion
      unfolding read_header
      header_version v = if_passed _ _ _ (le-ltb (length s) header_length long) ∙ if_passed _ _ _ (ap not mark) ∙ if_refused _ _ _ (ap not v)

      pub header_counts : version_known s ≡ true → read_header b s ≡ and_then (read_counts b (header_of s)) (then_there s)
      unfolding read_header
      header_counts v = if_passed _ _ _ (le-ltb (length s) header_length long) ∙ if_passed _ _ _ (ap not mark) ∙ if_passed _ _ _ (ap not v)

  pub header_all : (h : Header) → HeaderRead b s h → read_header b s ≡ got h (header_end h)
  header_all h r =
      let w = r.inside in let l = header_long h in
      header_counts (omega arith) r.mark r.version
      ∙ ap (λ (k : Header). and_then (read_counts b k) (then_there s)) (sym r.same)
      ∙ ap (λ (x : Read Header). and_then x (then_there s)) (counts_within b h r.counts)
      ∙ if_passed _ _ _ (le-ltb (length s) (header_end h) r.inside)

  pub header_read : (h : Header) (end : ℕ) → read_header b s ≡ got h end → HeaderRead b s h
  unfolding read_header
  header_read h end q =
      let a = refuse_got (ltb (length s) header_length) (EndsEarly (length s)) _ h end q in
      let d = refuse_got (not (marked s)) WrongMark _ h end a.1 in
      let f = refuse_got (not (version_known s)) WrongVersion _ h end d.1 in
      let k = then_got (read_counts b (header_of s)) (then_there s) h end f.1 in
      let n = refuse_got (ltb (length s) k.1) (EndsEarly (length s)) _ h end k.3 in
      let x = got_same k.0 h k.1 end n.1 in
      let r = counts_read b (header_of s) k.0 k.1 k.2 in
      let same : header_of s ≡ h = r.1 ∙ x.0 in
      record {
        same = sym same;
        inside = subst (λ (y : Header). header_end y ≤ length s) same (subst (λ (i : ℕ). i ≤ length s) (sym r.2) (ltb-false (length s) k.1 n.0));
        mark = not-false (marked s) d.0;
        version = not-false (version_known s) f.0;
        counts = subst (Within b) same r.0;
      }

  ------------------------------------------------------------------ the whole

  module _ (h : Header) (t : Table) where
    body_read : (end : ℕ) → read_body b s h ≡ got t end → BodyRead b s h t
    unfolding read_body
    body_read end q =
        let p = then_got (read_role_rows s h h.q (header_end h)) (then_rows b s h) t end q in
        let f = then_got (read_rows s h h.e p.1) (then_lines b s h p.0) t end p.3 in
        let g = then_got (read_lines b s h h.m f.1) (then_end b s h p.0 f.0) t end f.3 in
        let a = refuse_got (ltb g.1 (length s)) (BytesAfter g.1) _ t end g.3 in
        let k = many_got (read_role_row s h) h.q (header_end h) p.0 p.1 p.2 in
        let m = many_got (read_row s h) h.e p.1 f.0 f.1 f.2 in
        let n = many_got (read_line b s h) h.m f.1 g.0 g.1 g.2 in
        record {
          role_rows = p.0;
          rows = f.0;
          lines = g.0;
          first = p.1;
          mid = f.1;
          end = g.1;
          same = sym (got_same (table_with h p.0 f.0 g.0) t g.1 end a.1).0;
          all_role_rows = k.0;
          all_rows = m.0;
          all_lines = n.0;
          role_rows_read = k.1;
          rows_read = m.1;
          lines_read = n.1;
          nothing_left = ltb-false g.1 (length s) a.0;
        }

    pub body_all : (r : BodyRead b s h t) → read_body b s h ≡ got t r.end
    unfolding read_body
    body_all r =
        ap (λ (x : Read (List RoleRow)). and_then x (then_rows b s h)) (many_whole (read_role_row s h) h.q r.role_rows (header_end h) r.first r.all_role_rows r.role_rows_read)
        ∙ ap (λ (x : Read (List Row)). and_then x (then_lines b s h r.role_rows)) (many_whole (read_row s h) h.e r.rows r.first r.mid r.all_rows r.rows_read)
        ∙ ap (λ (x : Read (List Line)). and_then x (then_end b s h r.role_rows r.rows)) (many_whole (read_line b s h) h.m r.lines r.mid r.end r.all_lines r.lines_read)
        ∙ if_passed _ _ _ (le-ltb r.end (length s) r.nothing_left) ∙ ap (λ (x : Table). got x r.end) (sym r.same)

    pub readable_read : reading_within b s ≡ readable h t → HeaderRead b s h × BodyRead b s h t
    readable_read q = go (read_header b s) refl q
      where
        inner : (k : Header) (at : ℕ) → read_header b s ≡ got k at → (x : Read Table) → read_body b s k ≡ x → whole k x ≡ readable h t → HeaderRead b s h × BodyRead b s h t
        inner k at e (refused why) f q = absurd (let z : ◌≡◌ {A = ℕ} 0 1 = cc in let y : ⊥ = omega arith in y)
        inner k at e (got u end) f q =
            let i : k ≡ h = cc in
            let j : u ≡ t = cc in
            let e' : read_header b s ≡ got h at = e ∙ ap (λ (x : Header). got x at) i in
            let f' : read_body b s h ≡ got t end = ap (read_body b s) (sym i) ∙ f ∙ ap (λ (x : Table). got x end) j in
            (header_read h at e', body_read end f')

        go : (x : Read Header) → read_header b s ≡ x → from_header b s x ≡ readable h t → HeaderRead b s h × BodyRead b s h t
        go (refused why) e q = absurd (let z : ◌≡◌ {A = ℕ} 0 1 = cc in let y : ⊥ = omega arith in y)
        go (got k at) e q = inner k at e (read_body b s k) refl q

    pub readable_all : HeaderRead b s h → BodyRead b s h t → reading_within b s ≡ readable h t
    readable_all r d = ap (from_header b s) (header_all h r) ∙ ap (whole h) (body_all d)
