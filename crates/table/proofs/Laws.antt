-- Laws that carry the reader's code to the reading's definition.
--
--   some_within, filler_by_lem, entry_by_lem == whether a code is a filler, an entry, by its kind
--   stops                        == a refusal as a step
--   step_refused, step_got       == what was answered, by the step
--   then_last                    == a step whose last part cannot fail
--   steps_many                   == many of a kind, as steps one after the other
--   turn_stop, turn_next, turn_end == the turns of a loop of steps
--   and_stop, and_on             == the test of two, by the one at which it ends
--   code_short, code_stop, code_next, code_is == the step over one code, and that it is how the code is read
--   pair_..                      == answers of the functions that read two
--   version_.., role_count_.., end_by, header_.., line_.., body_.., check_.. == answers of the function so named
--   refused_said                 == the verdict on a table that is refused
use mathlib.Core.Path.{◌≡◌, refl, sym, ap, ap₂, ◌∙◌}
use mathlib.Core.Bool.{Bool, true, false, ◌&&◌, ◌||◌, cond, and-true, and-false}
use mathlib.Core.List.{List, ◌∷◌}
use mathlib.Core.Option.{Option, none, some}
use Prim.Native.Nat.{ℕ, zero, suc, ◌+◌, ◌-◌, ◌≤◌, ◌<◌}
use native.Mathlib.Omega.{arith}
use lib.Dec.{eqb, ltb}
use lib.ListN.{length, get_or-eq_default}
use borrow.Author.Tests.{lt-ltb, le-ltb, le-leb, lt-leb, eq-eqb, ne_eqb}
use Rattle.el.specs.Roles.{RoleRow}
use Rattle.el.specs.Table.{Entry, Row, Line, Table}
use Rattle.answer.specs.declared.Answer.{Answer}
use Rattle.answer.specs.declared.Answer.TheVariants.{EndsEarly, NotAllowed, BytesAfter}
use Rattle.bounds.specs.Bounds.{bounds, max_left}
use Rattle.table.specs.declared.Kind.{Kind}
use Rattle.table.specs.declared.Header.{Header}
use Rattle.std.specs.Prelude.{Ok, Err, Result, T}
use Rattle.table.specs.Code.{kind_of, within, filler_of_kind, filler_of, entry_of_kind, entry_of}
use Rattle.table.specs.Reading.{Read, refused, got, refuse_if, and_then, or_refused, missing, read_many, read_pair, byte_at, read_code, version_place, header_length, role_rows_place, has_role_rows, header_end, role_count, header_of, marked, version_known, read_counts, then_there, read_header, read_role_rows, read_rows, read_entry, read_entries, then_right, read_line, read_lines, then_end, then_lines, then_rows, read_body, whole, from_header, refusal, reading, is_readable}
use Rattle.table.specs.Step.{is_some, step_of, step_code, on_from, steps, verdict_of}
use Rattle.table.specs.ManyLaws.{if_passed, if_refused}
use Rattle.table.specs.ReadLaws.{pair_stop, pair_next, line_opened, header_counts, header_read, header_long}
use Rattle.table.specs.LayoutLaws.{readable_is}

------------------------------------------------------------------ codes

pub some_within : {A : Type 0} (k n : ℕ) (a : A) → ltb k n ≡ is_some (within k n a)
unfolding is_some within
some_within k n a = go (ltb k n)
  where
    go : (t : Bool) → t ≡ is_some (cond t (some a) none)
    go true = refl
    go false = refl

pub filler_by_lem : (c v b : ℕ) (k : Kind) → kind_of b ≡ k → is_some (filler_of_kind c v k) ≡ is_some (filler_of c v b)
unfolding filler_of
filler_by_lem c v b k e = ap (λ (x : Kind). is_some (filler_of_kind c v x)) (sym e)

pub entry_by_lem : (c e v b : ℕ) (k : Kind) → kind_of b ≡ k → is_some (entry_of_kind c e v k) ≡ is_some (entry_of c e v b)
unfolding entry_of
entry_by_lem c e v b k i = ap (λ (x : Kind). is_some (entry_of_kind c e v x)) (sym i)

------------------------------------------------------------------ steps

pub stops : {A : Type 0} {x : Read A} {why : Answer} → x ≡ refused why → Err why ≡ step_of x
unfolding step_of
stops e = ap step_of (sym e)

next_stop : (at : ℕ) (why : Answer) → Ok at ≡ Err why → ⊥
next_stop at why q = let z : ◌≡◌ {A = ℕ} 0 1 = cc in omega arith

step_refused : {A : Type 0} (x : Read A) (why : Answer) → step_of x ≡ Err why → x ≡ refused why
unfolding step_of
step_refused (refused was) why e = let a : was ≡ why = cc in ap refused a
step_refused (got a at) why e = absurd (next_stop at why e)

step_got : {A : Type 0} (x : Read A) (at : ℕ) → step_of x ≡ Ok at → (a : A) × (x ≡ got a at)
unfolding step_of
step_got (refused why) at e = absurd (next_stop at why (sym e))
step_got (got a end) at e = let w : end ≡ at = cc in (a, ap (got a) w)

then_last : {A B : Type 0} (x : Read A) (f : A → B) → step_of (and_then x (λ a end. got (f a) end)) ≡ step_of x
unfolding step_of
then_last (refused why) f = refl
then_last (got a at) f = refl

-- many of a kind, one after the other
module _ {A : Type 0} (one : ℕ → Read A) where
  then_steps : (k : ℕ) → ((next : ℕ) → steps (λ at. step_of (one at)) k next ≡ step_of (read_many one k next))
      → (x : Read A) → on_from (step_of x) (steps (λ at. step_of (one at)) k) ≡ step_of (and_then x (λ a next. and_then (read_many one k next) (λ l end. got (a ∷ l) end)))
  unfolding step_of
  then_steps k h (refused why) = refl
  then_steps k h (got a next) = h next ∙ sym (then_last (read_many one k next) (λ l. a ∷ l))

  pub steps_many : (count at : ℕ) → steps (λ at. step_of (one at)) count at ≡ step_of (read_many one count at)
  unfolding steps step_of read_many
  steps_many zero at = refl
  steps_many (suc k) at = then_steps k (λ next. steps_many k next) (one at)

-- the turns of a loop of steps
module _ (step : ℕ → Result ℕ Answer) (count k at : ℕ) where
  pub turn_end : count ≤ k → steps step (count - k) at ≡ Ok at
  unfolding steps
  turn_end h = ap (λ (k : ℕ). steps step k at) (let e : count - k ≡ 0 = omega arith in e)

  module _ (h : k < count) where
    turned : steps step (count - k) at ≡ on_from (step at) (steps step (count - (k + 1)))
    unfolding steps
    turned = ap (λ (k : ℕ). steps step k at) (let e : count - k ≡ suc (count - (k + 1)) = omega arith in e)

    pub turn_stop : (why : Answer) → step at ≡ Err why → steps step (count - k) at ≡ Err why
    turn_stop why q = turned ∙ ap (λ (x : Result ℕ Answer). on_from x (steps step (count - (k + 1)))) q

    pub turn_next : (next : ℕ) → step at ≡ Ok next → steps step (count - k) at ≡ steps step (count - (k + 1)) next
    turn_next next q = turned ∙ ap (λ (x : Result ℕ Answer). on_from x (steps step (count - (k + 1)))) q

------------------------------------------------------------------ the header

-- the test of two, by the one at which it ends
pub and_stop : {a : Bool} (b : Bool) → a ≡ false → a ≡ a && b
and_stop b e = rw e

pub and_on : {a : Bool} (b : Bool) → a ≡ true → b ≡ a && b
and_on b e = rw e

module _ (s : List ℕ) where
  pub version_high : (byte_at s 4 ≡ 0 → ⊥) → false ≡ version_known s
  unfolding version_known
  version_high n = sym (ap (λ (b : Bool). (eqb (byte_at s version_place) 1 || eqb (byte_at s version_place) 2) && b) (ne_eqb (byte_at s 4) 0 n) ∙ and-false (eqb (byte_at s version_place) 1 || eqb (byte_at s version_place) 2))

  pub version_first : byte_at s 4 ≡ 0 → byte_at s version_place ≡ 1 → true ≡ version_known s
  unfolding version_known
  version_first z e = rw (eq-eqb (byte_at s 4) 0 z, eq-eqb (byte_at s version_place) 1 e)

  pub version_second : byte_at s 4 ≡ 0 → (byte_at s version_place ≡ 1 → ⊥) → eqb (byte_at s version_place) 2 ≡ version_known s
  unfolding version_known
  version_second z n = rw (eq-eqb (byte_at s 4) 0 z, ne_eqb (byte_at s version_place) 1 n) (sym (and-true (eqb (byte_at s version_place) 2)))

  -- a byte that is not there is 0
  pub role_count_short : length s ≤ role_rows_place → 0 ≡ role_count s
  unfolding role_count
  role_count_short w = go (has_role_rows (byte_at s version_place))
    where
      go : (b : Bool) → 0 ≡ cond b (byte_at s role_rows_place) 0
      go true = sym (get_or-eq_default s 0 w)
      go false = refl

  pub role_count_by : (b : Bool) → b ≡ has_role_rows (byte_at s version_place) → cond b (byte_at s role_rows_place) 0 ≡ role_count s
  unfolding role_count
  role_count_by b e = ap (λ (x : Bool). cond x (byte_at s role_rows_place) 0) e

pub end_by : (h : Header) (b : Bool) → b ≡ has_role_rows h.version → cond b (header_length + 1) header_length ≡ header_end h
unfolding header_end
end_by h b e = ap (λ (x : Bool). cond x (header_length + 1) header_length) e

module _ (s : List ℕ) (k : Header) (same : k ≡ header_of s) (long : header_length ≤ length s) (mark : marked s ≡ true) (version : version_known s ≡ true) where
  header_then : (x : Read Header) → read_counts bounds k ≡ x → read_header bounds s ≡ and_then x (then_there s)
  header_then x q = header_counts bounds s long mark version ∙ ap (λ (x : Read Header). and_then x (then_there s)) (ap (read_counts bounds) (sym same) ∙ q)

  pub header_stop : (why : Answer) → step_of (read_counts bounds k) ≡ Err why → Err why ≡ step_of (read_header bounds s)
  header_stop why q = stops (header_then _ (step_refused (read_counts bounds k) why q))

  pub header_cut : (end : ℕ) → step_of (read_counts bounds k) ≡ Ok end → length s < end → Err (EndsEarly (length s)) ≡ step_of (read_header bounds s)
  header_cut end q w = stops (header_then _ (step_got (read_counts bounds k) end q).1 ∙ if_refused _ _ _ (lt-ltb (length s) end w))

  pub header_done : (end : ℕ) → step_of (read_counts bounds k) ≡ Ok end → end ≤ length s → Ok end ≡ step_of (read_header bounds s)
  unfolding step_of
  header_done end q w = ap step_of (sym (header_then _ (step_got (read_counts bounds k) end q).1 ∙ if_passed _ _ _ (le-ltb (length s) end w)))

------------------------------------------------------------------ codes, pairs, lines

module _ (s : List ℕ) (allows : ℕ → Bool) (at : ℕ) where
  pub code_short : length s ≤ at → Err (EndsEarly (length s)) ≡ step_code s allows at
  unfolding step_code
  code_short w = rw (le-leb (length s) at w)

  pub code_stop : at < length s → allows (byte_at s at) ≡ false → Err (NotAllowed at) ≡ step_code s allows at
  unfolding step_code
  code_stop l q = rw (lt-leb (length s) at l, q)

  pub code_next : at < length s → allows (byte_at s at) ≡ true → Ok (at + 1) ≡ step_code s allows at
  unfolding step_code
  code_next l q = rw (lt-leb (length s) at l, q)

-- a step over a code is how the code is read
pub code_is : {A : Type 0} (s : List ℕ) (of : ℕ → Option A) (at : ℕ) → step_code s (λ b. is_some (of b)) at ≡ step_of (read_code s of at)
unfolding step_code step_of read_code is_some
code_is {A = A} s of at = go (missing s at) (of (byte_at s at))
  where
    go : (m : Bool) (o : Option A) → cond m (Err (EndsEarly (length s))) (cond (is_some o) (Ok (at + 1)) (Err (NotAllowed at))) ≡ step_of (refuse_if m (EndsEarly (length s)) (or_refused at o))
    go true o = refl
    go false none = refl
    go false (some a) = refl

module _ {A B C : Type 0} (one : ℕ → Read A) (two : ℕ → Read B) (make : A → B → C) (at : ℕ) where
  pub pair_first : (why : Answer) → step_of (one at) ≡ Err why → Err why ≡ step_of (read_pair one two make at)
  pair_first why q = stops (pair_stop one two make at why (step_refused (one at) why q))

  pub pair_second : (next : ℕ) → step_of (one at) ≡ Ok next → step_of (two next) ≡ step_of (read_pair one two make at)
  pair_second next q = let g = step_got (one at) next q in sym (ap step_of (pair_next one two make at g.0 next g.1) ∙ then_last (two next) (make g.0))

module _ (s : List ℕ) (h : Header) (at : ℕ) where
  module _ (count : ℕ) (same : count ≡ byte_at s at) (l : at < length s) (few : byte_at s at ≤ max_left) where
    line_then : (x : Read (List Entry)) → read_entries s h count (at + 1) ≡ x → read_line bounds s h at ≡ and_then x (then_right s h)
    line_then x q = line_opened bounds s h at l few ∙ ap (λ (x : Read (List Entry)). and_then x (then_right s h)) (ap (λ (k : ℕ). read_entries s h k (at + 1)) (sym same) ∙ q)

    pub line_stop : (why : Answer) → step_of (read_entries s h count (at + 1)) ≡ Err why → Err why ≡ step_of (read_line bounds s h at)
    line_stop why q = stops (line_then _ (step_refused (read_entries s h count (at + 1)) why q))

    pub line_right_is : (next : ℕ) → step_of (read_entries s h count (at + 1)) ≡ Ok next → step_of (read_entry s h next) ≡ step_of (read_line bounds s h at)
    line_right_is next q =
        let g = step_got (read_entries s h count (at + 1)) next q in
        sym (ap step_of (line_then _ g.1) ∙ then_last (read_entry s h next) (λ right. record { left = g.0; right = right }))

------------------------------------------------------------------ the body

module _ (s : List ℕ) (h : Header) (role_rows : ℕ) (same_role_rows : role_rows ≡ h.q) (from : ℕ) (same_from : from ≡ header_end h) where
  body_then : (x : Read (List RoleRow)) → read_role_rows s h role_rows from ≡ x → read_body bounds s h ≡ and_then x (then_rows bounds s h)
  unfolding read_body
  body_then x q = ap (λ (x : Read (List RoleRow)). and_then x (then_rows bounds s h)) (sym (ap₂ (read_role_rows s h) same_role_rows same_from) ∙ q)

  pub body_role_rows : (why : Answer) → step_of (read_role_rows s h role_rows from) ≡ Err why → Err why ≡ step_of (read_body bounds s h)
  body_role_rows why q = stops (body_then _ (step_refused (read_role_rows s h role_rows from) why q))

  module _ (first : ℕ) (past_role_rows : step_of (read_role_rows s h role_rows from) ≡ Ok first) (rows : ℕ) (same_rows : rows ≡ h.e) where
    rows_then : (x : Read (List Row)) → read_rows s h rows first ≡ x → (k : List RoleRow) × (read_body bounds s h ≡ and_then x (then_lines bounds s h k))
    rows_then x q =
        let g = step_got (read_role_rows s h role_rows from) first past_role_rows in
        (g.0, body_then _ g.1 ∙ ap (λ (x : Read (List Row)). and_then x (then_lines bounds s h g.0)) (ap (λ (k : ℕ). read_rows s h k first) (sym same_rows) ∙ q))

    pub body_rows : (why : Answer) → step_of (read_rows s h rows first) ≡ Err why → Err why ≡ step_of (read_body bounds s h)
    body_rows why q = stops (rows_then _ (step_refused (read_rows s h rows first) why q)).1

    module _ (next : ℕ) (past_rows : step_of (read_rows s h rows first) ≡ Ok next) (lines : ℕ) (same_lines : lines ≡ h.m) where
      lines_then : (x : Read (List Line)) → read_lines bounds s h lines next ≡ x → (k : List RoleRow) × (l : List Row) × (read_body bounds s h ≡ and_then x (then_end bounds s h k l))
      lines_then x q =
          let g = step_got (read_rows s h rows first) next past_rows in
          let r = rows_then _ g.1 in
          (r.0, g.0, r.1 ∙ ap (λ (x : Read (List Line)). and_then x (then_end bounds s h r.0 g.0)) (ap (λ (k : ℕ). read_lines bounds s h k next) (sym same_lines) ∙ q))

      pub body_lines : (why : Answer) → step_of (read_lines bounds s h lines next) ≡ Err why → Err why ≡ step_of (read_body bounds s h)
      body_lines why q = stops (lines_then _ (step_refused (read_lines bounds s h lines next) why q)).2

      module _ (end : ℕ) (past_lines : step_of (read_lines bounds s h lines next) ≡ Ok end) where
        pub body_after : end < length s → Err (BytesAfter end) ≡ step_of (read_body bounds s h)
        body_after w = stops ((lines_then _ (step_got (read_lines bounds s h lines next) end past_lines).1).2 ∙ if_refused _ _ _ (lt-ltb end (length s) w))

        pub body_all : length s ≤ end → Ok end ≡ step_of (read_body bounds s h)
        unfolding step_of
        body_all w = ap step_of (sym ((lines_then _ (step_got (read_lines bounds s h lines next) end past_lines).1).2 ∙ if_passed _ _ _ (le-ltb end (length s) w)))

------------------------------------------------------------------ the whole

pub refused_said : (s : List ℕ) (why : Answer) → reading s ≡ refusal why → Err why ≡ verdict_of (reading s)
unfolding verdict_of
refused_said s why e = ap verdict_of (sym e)

module _ (s : List ℕ) where
  pub check_header : (why : Answer) → step_of (read_header bounds s) ≡ Err why → reading s ≡ refusal why
  unfolding reading
  check_header why q = ap (from_header bounds s) (step_refused (read_header bounds s) why q)

  module _ (at : ℕ) (past_header : step_of (read_header bounds s) ≡ Ok at) where
    pub header_in : header_length ≤ length s
    header_in =
        let g = step_got (read_header bounds s) at past_header in
        let w = (header_read bounds s g.0 at g.1).inside in
        let l = header_long g.0 in
        omega arith

    check_then : (k : Header) → k ≡ header_of s → (x : Read Table) → read_body bounds s k ≡ x → reading s ≡ whole k x
    unfolding reading
    check_then k same x q =
        let g = step_got (read_header bounds s) at past_header in
        let e : g.0 ≡ k = (header_read bounds s g.0 at g.1).same ∙ sym same in
        ap (from_header bounds s) g.1 ∙ ap (λ (h : Header). whole h (read_body bounds s h)) e ∙ ap (whole k) q

    module _ (k : Header) (same : k ≡ header_of s) where
      pub check_body : (why : Answer) → step_of (read_body bounds s k) ≡ Err why → reading s ≡ refusal why
      check_body why q = check_then k same _ (step_refused (read_body bounds s k) why q)

      pub check_said : (end : ℕ) → step_of (read_body bounds s k) ≡ Ok end → verdict_of (reading s) ≡ Ok tt
      unfolding verdict_of
      check_said end q = ap verdict_of (check_then k same _ (step_got (read_body bounds s k) end q).1)

      pub check_all : (end : ℕ) → step_of (read_body bounds s k) ≡ Ok end → T (is_readable (reading s))
      check_all end q = readable_is s (check_said end q)
