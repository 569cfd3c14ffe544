-- Laws that carry the public calls to what they answer.
--
--   refused_by    == bytes of which the check gives no table
--   read_refused  == the reader's answer to a refused table
--   read_readable == the reader's answer to a readable one
--   line_refused, line_over, line_there == where a line lies: an unreadable table has none, there is none from m on, and else it is there
--   line_room_lem, span_inside == a line lies inside its table
--   told_there, told_none == what the line call for C hands back
--   some_inside, line_part_lem, no_part == the part that the line call hands back
--   finish_found, finish_nothing, finish_spent == the answer to the end of a walk
--   solve_refused, solve_short, solve_walked == the solver's answer, by what it meets first
use mathlib.Core.Path.{◌≡◌, refl, sym, ap, subst, ◌∙◌}
use Rattle.std.proofs.Common.{Result, Ok, Err, IfErr, Some, None}
use mathlib.Core.Bool.{Bool, true, false, ◌&&◌, cond}
use mathlib.Core.List.{List, [], ◌∷◌}
use Prim.Native.Nat.{ℕ, ◌+◌, ◌-◌, ◌*◌, ◌≤◌, ◌<◌}
use native.Mathlib.Omega.{arith}
use lib.Dec.{T, ltb, ltb→lt}
use lib.ListN.{length, take, drop}
use borrow.Author.Tests.{lt-ltb, le-ltb}
use denote.Ref.{Bor}
use Rattle.bounds.specs.Bounds.{set_bytes}
use Rattle.el.specs.TestLaws.{is_true, true_is, and_left, and_right}
use Rattle.el.specs.Table.{role_order}
use Rattle.answer.specs.declared.Answer.{Answer}
use Rattle.answer.specs.declared.Answer.TheVariants.{Solved, OutputShort, Nothing, Budget}
use Rattle.table.specs.declared.Header.{Header}
use Rattle.el.specs.Walk.{outcome}
use Rattle.table.specs.Reading.{byte_at, Reading, refusal, readable, reading, is_readable, table_of, header_of}
use Rattle.table.specs.Layout.{line_start}
use Rattle.table.specs.LayoutLaws.{layout, readable_header, line_inside}
use Rattle.node.specs.Node.{node_of}
use Rattle.walk.specs.declared.Going.{Going}
use Rattle.walk.specs.declared.Going.TheVariants.{On, Over}
use Rattle.walk.specs.declared.State.{State}
use Rattle.walk.specs.Step as step
use Rattle.output.specs.Written.{written}
use Rattle.makrothel.specs.Answer.{read_as, zeros, read_answer, has_line, span_if, line_span, SpanIs, line_part}
use Rattle.makrothel.specs.C.{line_found, start_and_length, spanned}
use Rattle.makrothel.specs.declared.Span.{Span}
use Rattle.makrothel.specs.Solve.{answered, outcome_as, reading_as, answer}
use Rattle.makrothel.specs.Demand2.{answer_outcome}
use Rattle.makrothel.specs.Demand1.{readable_table, answer_short}

module _ (s : List ℕ) where
  pub read_refused : (why : Answer) → reading s ≡ refusal why → read_as why zeros ≡ read_answer (reading s)
  unfolding read_answer
  read_refused why q = sym (ap read_answer q)

  pub read_readable : (h : Header) → h ≡ header_of s → T (is_readable (reading s)) → read_as (Solved 0) h ≡ read_answer (reading s)
  unfolding read_answer
  read_readable h p q = ap (read_as (Solved 0)) p ∙ go (reading s) refl q
    where
      go : (x : Reading) → reading s ≡ x → T (is_readable x) → read_as (Solved 0) (header_of s) ≡ read_answer x
      go (refusal why) e q = absurd q
      go (readable h t) e q = ap (read_as (Solved 0)) (sym (readable_header s h t e).0)

  -- where the check gives no table, the bytes are refused
  pub refused_by : {A : Type 0} (r : Result A Answer) → IfErr r (λ why. reading s ≡ refusal why) → ((x : A) → r ≡ Ok x → ⊥) → (why : Answer) × (reading s ≡ refusal why)
  refused_by (Ok x) err none = absurd (none x refl)
  refused_by (Err why) err none = (why, err)

  span_by : (k : ℕ) (b : Bool) → has_line s k ≡ b → span_if s k b ≡ line_span s k
  unfolding line_span
  span_by k b e = sym (ap (span_if s k) e)

  pub line_refused : (k : ℕ) (why : Answer) → reading s ≡ refusal why → has_line s k ≡ false
  unfolding has_line
  line_refused k why q = ap (λ (x : Reading). is_readable x && ltb k (header_of s).m) q

  module _ (ok : T (is_readable (reading s))) (k : ℕ) where
    tested : has_line s k ≡ ltb k (header_of s).m
    unfolding has_line
    tested = rw (is_true (is_readable (reading s)) ok)

    pub line_over : (h : Header) → h ≡ header_of s → h.m ≤ k → has_line s k ≡ false
    line_over h e l = tested ∙ le-ltb k (header_of s).m (omega (arith, ap (λ (x : Header). x.m) e))

    module _ (at : ℕ) (l : k < (header_of s).m) (a : at ≡ line_start s k) where
      pub line_room_lem : at + byte_at s at + 2 ≤ length s
      line_room_lem = line_inside s ok k at l a

      pub line_there : (p : ℕ) → p ≡ byte_at s at → (has_line s k ≡ true) × (record { start = at; length = p + 2 } ≡ line_span s k)
      line_there p e = (tested ∙ lt-ltb k (header_of s).m l, rw (e, a) (span_by k true (tested ∙ lt-ltb k (header_of s).m l)))

  -- a line lies inside its table
  pub span_inside : (k : ℕ) → (line_span s k).start + (line_span s k).length ≤ length s
  unfolding has_line
  span_inside k = go (has_line s k) refl
    where
      go : (b : Bool) → has_line s k ≡ b → (line_span s k).start + (line_span s k).length ≤ length s
      go true e = let w = true_is (has_line s k) e in rw (sym (span_by k true e)) (omega (arith, (layout s (and_left (is_readable (reading s)) _ w)).line_in k (ltb→lt k (header_of s).m (and_right (is_readable (reading s)) _ w))))
      go false e = rw (sym (span_by k false e)) (omega arith)

  -- what the line call for C hands back
  abbrev Told : ℕ → ℕ → ℕ → ℕ → Type 0
  Told k found start size = (found ≡ line_found s k) × (((start ∷ size ∷ []) ≡ start_and_length (line_span s k)) × (spanned (start ∷ size ∷ []) s ≡ line_part s k))

  told : (k : ℕ) (b : Bool) → has_line s k ≡ b → Told k (cond b 1 0) (span_if s k b).start (span_if s k b).length
  unfolding line_found line_span start_and_length spanned line_part
  told k true e = rw e (refl, (refl, refl))
  told k false e = rw e (refl, (refl, refl))

  pub told_there : (k : ℕ) (x : Span) → SpanIs s k (Some x) → Told k 1 x.start x.length
  unfolding SpanIs
  told_there k x e = subst (λ (y : Span). Told k 1 y.start y.length) (span_by k true e.0 ∙ sym e.1) (told k true e.0)

  pub told_none : (k : ℕ) → SpanIs s k None → Told k 0 0 0
  unfolding SpanIs
  told_none k e = told k false e

-- a line that is there lies inside its table
pub some_inside : (s : List ℕ) (k : ℕ) (x : Span) → SpanIs s k (Some x) → x.start + x.length ≤ length s
unfolding SpanIs
some_inside s k x e = subst (λ (y : Span). y.start + y.length ≤ length s) (sym e.1) (span_inside s k)

-- a part of the table that begins at the line's start, as the promise says it
pub line_part_lem : (t : Bor (List ℕ)) (k : ℕ) (x : Span) → SpanIs t.now k (Some x)
    → (take (x.start + x.length - x.start) (drop x.start t.now) ≡ line_part t.now k) × ((t.ref_ptr.0 ≡ t.ref_ptr.0) × (x.start + t.ref_ptr.1 ≡ t.ref_ptr.1 + (line_span t.now k).start))
unfolding line_part SpanIs
line_part_lem t k x e =
    let i : x.start ≡ (line_span t.now k).start = ap (λ (y : Span). y.start) e.1 in
    (ap (λ (n : ℕ). take n (drop x.start t.now)) (let z : x.start + x.length - x.start ≡ x.length = omega arith in z) ∙ ap (λ (y : Span). take y.length (drop y.start t.now)) e.1, (refl, omega arith))

-- where there is no line, an empty part
pub no_part : (t : Bor (List ℕ)) (k : ℕ) → SpanIs t.now k None → ([] ≡ line_part t.now k) × ((t.ref_ptr.0 ≡ t.ref_ptr.0) × (t.ref_ptr.1 ≡ t.ref_ptr.1 + (line_span t.now k).start))
unfolding line_part line_span SpanIs
no_part t k e = rw e (refl, (refl, omega arith))

----------------------------------------------------------------------------------------------------
-- The end of a walk

module _ (w : State) (out : List ℕ) where
  ended : (e : Going) → w.going ≡ e → outcome_as set_bytes (step.outcome_as e w.count (node_of w.sets)) out ≡ outcome_as set_bytes (step.outcome_of w) out
  unfolding step.outcome_of
  ended e q = ap (λ (x : Going). outcome_as set_bytes (step.outcome_as x w.count (node_of w.sets)) out) (sym q)

  pub finish_found : (after : List ℕ) → w.going ≡ Going.Solved → after ≡ written (take w.sets.chosen w.sets.set) out
      → answered (Solved w.count) after ≡ outcome_as set_bytes (step.outcome_of w) out
  unfolding node_of
  finish_found after q h = ap (answered (Solved w.count)) h ∙ ended Going.Solved q

  pub finish_nothing : w.going ≡ Over → answered (Nothing w.count) out ≡ outcome_as set_bytes (step.outcome_of w) out
  finish_nothing q = ended Over q

  pub finish_spent : w.going ≡ On → answered (Budget w.count) out ≡ outcome_as set_bytes (step.outcome_of w) out
  finish_spent q = ended On q

----------------------------------------------------------------------------------------------------
-- The solver

module _ (s : List ℕ) (b : ℕ) (out : List ℕ) where
  pub solve_refused : (why : Answer) → reading s ≡ refusal why → answered why out ≡ answer s b out
  unfolding answer
  solve_refused why q = sym (ap (λ (x : Reading). reading_as set_bytes x b out) q)

  module _ (ok : T (is_readable (reading s))) (h : Header) (v : ℕ) (e : h ≡ header_of s) (w : v ≡ h.v) where
    variables : (table_of s).variables ≡ v
    variables = (layout s ok).variables ∙ sym (w ∙ ap (λ (x : Header). x.v) e)

    pub solve_short : length out < set_bytes * v → answered (OutputShort (set_bytes * v)) out ≡ answer s b out
    solve_short l =
        sym (answer_short s b out (table_of s) (readable_table s ok) (let i = variables in omega arith) ∙ ap (λ (k : ℕ). answered (OutputShort (set_bytes * k)) out) variables)

    pub solve_walked : set_bytes * v ≤ length out → outcome_as set_bytes (outcome (role_order (table_of s)) (table_of s) b) out ≡ answer s b out
    solve_walked l = sym (answer_outcome s (table_of s) (readable_table s ok) b out (let i = variables in omega arith))
