-- Laws that carry the program's parts to the text.
--
--   few_constants, few_opens, few_roles == there is room for where the names stand
--   names_given   == the writers are given what they ask for
--   first_line_lem    == number, count and place
--   text_long, text_other, text_solved == the text of a file that is too long, of one that is not solved, and of a solved one
--   window_less, window_in, window_end == window after window the text comes to its end
--   window_next   == the windows make the text
--   window_part   == and so does a part of one, behind those before it: what a failed write leaves is a beginning of the text
--   text_some     == a text has a byte, and so where nothing is written not all of it is
--   run_bytes, run_text == what is written of a file's first bytes is the text of the whole file
--   run_part      == what a failed write leaves is a beginning of it
--   prepared_long, prepared_refused, prepared_solved == what comes of a text is prepared
use mathlib.Core.Path.{◌≡◌, refl, sym, ap, ap₂, subst, ◌∙◌}
use mathlib.Core.List.{List, [], ◌++◌, append-nil}
use Prim.Native.Nat.{ℕ, zero, suc, ◌+◌, ◌*◌, ◌-◌, ◌≤◌, ◌<◌}
use native.Mathlib.Omega.{arith}
use lib.ListN.{length, take, drop, length-append, length-take, length-drop}
use Rattle.std.proofs.lemmas.List.{take_all, length-take-le}
use Rattle.std.proofs.Math.Seq.{take-take, take-add}
use Rattle.std.specs.Prelude.{Option, Some, None, Result, Ok, Err, IfOk, OnErr, IfSome}
use Rattle.std.specs.Counts.{IsPrefixLen}
use Rattle.std.specs.Io.KnownBytes.{Appends}
use Rattle.std.proofs.KnownBytes.{Appends-trans}
use Rattle.std.proofs.Math.Decide.{dec_le}
use Rattle.input.specs.Part.{AppendsPart}
use Rattle.input.proofs.PartLaws.{on_known}
use Rattle.bounds.specs.Bounds.{max_constants, max_variables, max_roles, set_bytes}
use Rattle.answer.specs.declared.Handed.{Handed}
use Rattle.answer.specs.Handed.{handed}
use Rattle.table.specs.Reading.{table_of}
use Rattle.table.specs.LayoutLaws.{layout}
use Rattle.output.specs.Written.{set_in}
use Rattle.text.specs.Append.{Appended}
use Rattle.text.specs.AppendLaws.{appended_whole}
use Rattle.text.specs.Batch.{read_text}
use Rattle.text.specs.Listing.{under_number}
use Rattle.text.specs.Room.{Numbers}
use Rattle.text.proofs.FitsLaws.{read_fits}
use Rattle.makrothel.specs.Solve.{answer}
use Rattle.owl.specs.Mention.{names_in}
use Rattle.owl_answer.specs.Owl.{owl, OwlAt}
use Rattle.spell.specs.Window.{window}
use Rattle.spell.specs.declared.Span.{Span}
use Rattle.owl_name.specs.Declarations.{group_names}
use Rattle.spell.specs.Spelling.{named_lines}
use Rattle.spell.specs.Given.{Given}
use Rattle.owl_span.specs.Span.{SpansDone}
use Rattle.owl_span.specs.SpanLaws.{spans_of}
use Rattle.join.specs.Join.{join_most, join_budget, join_table, join_output, long_text, numbers_line, join_as, joined, file_text, join_text}
use Rattle.join.specs.Part.{Prepared, Solved}
use Rattle.join.specs.JoinLaws.{joined_refused, joined_solved, solved_facts, join_long, join_short, first_bytes}

----------------------------------------------------------------------------------------------------
-- Names

module _ (s table : List ℕ) (f : Solved s table) where
  pub few_constants : (spans : List Span) (r : ℕ) → SpansDone s 0 spans r → r ≤ max_constants
  unfolding SpansDone group_names
  few_constants spans r d = omega (arith, d.0, f.constants_are, (layout table f.ok).constants, (layout table f.ok).few_constants)

  pub few_opens : (spans : List Span) (r : ℕ) → SpansDone s 1 spans r → r ≤ max_variables
  unfolding SpansDone group_names
  few_opens spans r d = omega (arith, d.0, f.opens_are, (layout table f.ok).variables, (layout table f.ok).few_variables)

  pub few_roles : (spans : List Span) (r : ℕ) → SpansDone s 2 spans r → r ≤ max_roles
  unfolding SpansDone group_names
  few_roles spans r d = omega (arith, d.0, f.roles_are, (layout table f.ok).roles, (layout table f.ok).few_roles)

  pub names_given : (output : List ℕ) (cs os rs : List Span) (c o r : ℕ) → set_bytes * max_variables ≤ length output → SpansDone s 0 cs c → SpansDone s 1 os o → SpansDone s 2 rs r
      → c ≤ length cs → o ≤ length os → r ≤ length rs → Given s (take c cs) (take o os) (take r rs) table output
  unfolding group_names
  names_given output cs os rs c o r room dc do' dr hc ho hr = record {
    constants_at = spans_of s 0 cs c dc hc;
    opens_at = spans_of s 1 os o do' ho;
    roles_at = spans_of s 2 rs r dr hr;
    ok = f.ok;
    named = omega (arith, f.opens_are, (layout table f.ok).variables);
    room = omega (arith, (layout table f.ok).few_variables);
  }

----------------------------------------------------------------------------------------------------
-- The first line

pub first_line_lem : {b line : List ℕ} {n : ℕ} (ns : List ℕ) → Numbers ns → length ns ≡ 3 → 64 ≤ length b → Appended b 0 (read_text ns) line n → IsPrefixLen n line × (take n line ≡ read_text ns)
first_line_lem {b} ns h three room x =
    let w = appended_whole x (let z : length (read_text ns) ≤ length ns * 21 + 1 = read_fits ns h in omega arith) in
    ((w.0, w.1), w.2)

----------------------------------------------------------------------------------------------------
-- A window

module _ (s : List ℕ) where
  -- a text of which a window stands at the start of a buffer
  pub text_long : join_most < length s → long_text ≡ join_text s
  text_long h = sym (join_long s h)

  module _ (table output : List ℕ) (n c p : ℕ) (prepared : Prepared s table output n c p) (h : length s ≤ join_most) where
    is_file : join_text s ≡ file_text s (join_as n c p table output)
    unfolding Prepared
    is_file = join_short s (join_as n c p table output) h (prepared h)

    other_text : (k : ℕ) (t : List ℕ) → (k ≡ 0 → ⊥) → under_number k t ≡ []
    other_text zero t z = absurd (z refl)
    other_text (suc k) t z = refl

    pub text_other : (n ≡ 0 → ⊥) → numbers_line n c p ≡ join_text s
    text_other z = sym (is_file ∙ ap (λ (l : List ℕ). numbers_line n c p ++ l) (other_text n _ z) ∙ append-nil (numbers_line n c p))

    pub text_solved : n ≡ 0 → numbers_line n c p ++ named_lines (names_in s) (table_of table) (set_in output) ≡ join_text s
    text_solved z = sym (is_file ∙ ap (λ (k : ℕ). numbers_line n c p ++ under_number k (named_lines (names_in s) (table_of table) (set_in output))) z)

    pub solved_given : n ≡ 0 → Solved s table
    unfolding Prepared
    solved_given z = solved_facts s (join_as n c p table output) (prepared h) z

----------------------------------------------------------------------------------------------------
-- What comes of a text

pub prepared_long : (s table output : List ℕ) (n c p : ℕ) → join_most < length s → Prepared s table output n c p
unfolding Prepared
prepared_long s table output n c p h l = absurd (let z : ⊥ = omega arith in z)

pub prepared_refused : {s b : List ℕ} {n c p : ℕ} → OwlAt s join_table (owl n c p b) → (n ≡ 0 → ⊥) → Prepared s [] join_output n c p
unfolding Prepared
prepared_refused x z l = joined_refused x z

pub prepared_solved : {s b : List ℕ} {n c p : ℕ} (a : Handed) (out : List ℕ) → OwlAt s join_table (owl n c p b) → n ≡ 0 → a ≡ handed (answer (take c b) join_budget join_output).says
    → out ≡ (answer (take c b) join_budget join_output).output → Prepared s (take c b) out a.number a.count a.place
unfolding Prepared
prepared_solved {s} {b} {n} {c} {p} a out x z e o l = joined_solved x z ∙ ap₂ (λ (h : Handed) (y : List ℕ). join_as h.number h.count h.place (take c b) y) (sym e) (sym o)

----------------------------------------------------------------------------------------------------
-- Window after window

module _ (from room n : ℕ) (text a : List ℕ) (h : IsPrefixLen n a) (e : take n a ≡ window from room text) where
  -- how many bytes a window has
  window_size : (n ≤ room) × (n ≤ length text - from) × (n < room → n ≡ length text - from)
  window_size =
      let d : n ≡ length (window from room text) = h.1 ∙ ap length e in
      let t : length (window from room text) ≡ _ = length-take room (drop from text) in
      let f : length (drop from text) ≡ length text - from = length-drop from text in
      (omega arith, omega arith, λ l. omega arith)

  -- behind a window with a byte there is less of the text
  pub window_less : 0 < n → length text - (from + n) < length text - from
  window_less l = let w = window_size in let z : n ≤ length text - from = w.1 in omega arith

  pub window_in : from ≤ length text → from + n ≤ length text
  window_in l = let w = window_size in let z : n ≤ length text - from = w.1 in omega arith

  -- a window that is not full ends the text
  pub window_end : from ≤ length text → n < room → from + n ≡ length text
  window_end l k = let w = window_size in let z : n ≡ length text - from = w.2 k in omega arith

  -- what stands before a window, and the window
  pub window_next : take from text ++ take n a ≡ take (from + n) text
  window_next =
      let w = window_size in
      let z : n ≤ room = w.0 in
      let same : take n a ≡ take n (drop from text) =
      sym (take_all n (take n a) (omega (arith, h.1))) ∙ ap (take n) e ∙ take-take n room (drop from text) z
      in
      ap (λ (l : List ℕ). take from text ++ l) same ∙ sym (take-add from n text)

  -- what stands before a window, and the first bytes of it that were written
  pub window_part : from ≤ length text → (before mid after : Option (List ℕ)) → Appends before mid (take from text) → AppendsPart mid after (take n a) → AppendsPart before after text
  window_part inside before mid after p (k, l, q) =
      let w = window_size in
      let z : n ≤ room = w.0 in
      let m : length (take n a) ≡ n = length-take-le n a (omega (arith, h.0)) in
      let same : take k (take n a) ≡ take k (drop from text) = ap (take k) e ∙ take-take k room (drop from text) (omega arith) in
      let grown : take from text ++ take k (take n a) ≡ take (from + k) text = ap (λ (l : List ℕ). take from text ++ l) same ∙ sym (take-add from k text) in
      let left : n ≤ length text - from = w.1 in
      (from + k, omega arith, subst (Appends before after) grown (Appends-trans before mid after (take from text) (take k (take n a)) p q))

----------------------------------------------------------------------------------------------------
-- The first bytes of a file

module _ (file : Option (List ℕ)) (front : List ℕ) (room : ℕ) (m : room ≡ join_most + 1) (known : IfSome file (λ xs. front ≡ take room xs)) where
  on_text : (P : List ℕ → Type 0) → P (join_text front) → IfSome file (λ xs. P (join_text xs))
  on_text = on_known join_text (join_most + 1) first_bytes file front room m known

  pub run_bytes : {E : Type 0} (r : Result (Option ℕ) E) → IfOk r (λ w. IfSome w (λ n. n ≡ length (join_text front))) → IfOk r (λ w. IfSome w (λ n. IfSome file (λ xs. n ≡ length (join_text xs))))
  run_bytes (Ok (Some n)) h = on_text (λ t. n ≡ length t) h
  run_bytes (Ok None) h = tt
  run_bytes (Err e) h = tt

  pub run_text : {E : Type 0} (before after : Option (List ℕ)) (r : Result (Option ℕ) E) → IfOk r (λ w. IfSome w (λ n. Appends before after (join_text front)))
      → IfOk r (λ w. IfSome w (λ n. IfSome file (λ xs. Appends before after (join_text xs))))
  run_text before after (Ok (Some n)) h = on_text (Appends before after) h
  run_text before after (Ok None) h = tt
  run_text before after (Err e) h = tt

  pub run_part : {A E : Type 0} (r : Result A E) (before after : Option (List ℕ)) → OnErr r (AppendsPart before after (join_text front)) → OnErr r (IfSome file (λ xs. AppendsPart before after (join_text xs)))
  run_part (Ok x) before after h = tt
  run_part (Err e) before after h = on_text (AppendsPart before after) h

-- a text has a byte
line_some : (ns : List ℕ) → 0 < length (read_text ns)
unfolding read_text
line_some ns = simp (length-append) (omega arith)

pub text_some : (s : List ℕ) → 0 < length (join_text s)
unfolding long_text
text_some s = go (dec_le (length s) join_most)
  where
    go : Dec (length s ≤ join_most) → 0 < length (join_text s)
    go (yes l) =
        let line : 0 < length (numbers_line (joined s).number (joined s).count (joined s).place) = line_some _ in
        rw (join_short s _ l refl, length-append) (omega arith)
    go (no l) = rw (join_long s (omega arith)) (omega arith)
