-- What the promises of the public calls pin: two results that meet a promise on the same input are equal.
--
--   read_unique == of the reader: number, place and the counts
--   line_unique == of the line call: the contents of the part, and where it begins
--   solve_unique == of the solver: number, count, place and the output afterwards
--   line_length == a line that is there has p + 2 bytes
--   c_read_unique, c_line_unique, c_solve_unique == of the calls for C
use Rattle.std.specs.Prelude.{◌≡◌, List, ℕ, ◌+◌, ◌<◌, T, length}
use Rattle.std.proofs.Common.{sym, ◌∙◌, arith, length-drop, length-take-le, lt-ltb}
use Rattle.std.specs.Borrow.{Bor}
use Rattle.el.specs.TestLaws.{is_true}
use Rattle.answer.specs.declared.Handed.{Handed}
use Rattle.answer.specs.Handed.{handed}
use Rattle.table.specs.Reading.{byte_at, reading, is_readable, header_of}
use Rattle.table.specs.Layout.{line_start}
use Rattle.table.specs.LayoutLaws.{layout}
use Rattle.makrothel.specs.declared.ReadAnswer.{ReadAnswer}
use Rattle.makrothel.specs.Answer.{read_answer, has_line, line_span, line_part, BeginsIn}
use Rattle.makrothel.specs.C.{place_and_counts, line_found, start_and_length, count_and_place}
use Rattle.makrothel.specs.Solve.{answer}

pub read_unique : (s : List ℕ) (a b : ReadAnswer) → a ≡ read_answer (reading s) → b ≡ read_answer (reading s) → a ≡ b
read_unique s a b p q = p ∙ sym q

pub line_unique : (t a b : Bor (List ℕ)) (n : ℕ) → a.now ≡ line_part t.now n → BeginsIn a t (line_span t.now n).start → b.now ≡ line_part t.now n → BeginsIn b t (line_span t.now n).start
    → (a.now ≡ b.now) × (a.ref_ptr.0 ≡ b.ref_ptr.0) × (a.ref_ptr.1 ≡ b.ref_ptr.1)
line_unique t a b n p q e f = (p ∙ sym e, q.0 ∙ sym f.0, q.1 ∙ sym f.1)

pub solve_unique : (s : List ℕ) (b : ℕ) (out : List ℕ) (q r : Handed) (after later : List ℕ)
    → q ≡ handed (answer s b out).says → after ≡ (answer s b out).output → r ≡ handed (answer s b out).says → later ≡ (answer s b out).output → (q ≡ r) × (after ≡ later)
solve_unique s b out q r after later p o e f = (p ∙ sym e, o ∙ sym f)

pub line_length : (s : List ℕ) (n : ℕ) → T (is_readable (reading s)) → n < (header_of s).m → length (line_part s n) ≡ byte_at s (line_start s n) + 2
unfolding line_part line_span has_line
line_length s n ok h = rw (is_true (is_readable (reading s)) ok, lt-ltb n (header_of s).m h) (length-take-le _ _ (simp length-drop (omega (arith, (layout s ok).line_in n h))))

----------------------------------------------------------------------------------------------------
-- The calls for C

pub c_read_unique : (s : List ℕ) (a b : ℕ) (x y : List ℕ)
    → a ≡ (read_answer (reading s)).number → x ≡ place_and_counts (read_answer (reading s))
    → b ≡ (read_answer (reading s)).number → y ≡ place_and_counts (read_answer (reading s)) → (a ≡ b) × (x ≡ y)
c_read_unique s a b x y p q e f = (p ∙ sym e, q ∙ sym f)

pub c_line_unique : (s : List ℕ) (n a b : ℕ) (x y : List ℕ)
    → a ≡ line_found s n → x ≡ start_and_length (line_span s n) → b ≡ line_found s n → y ≡ start_and_length (line_span s n) → (a ≡ b) × (x ≡ y)
c_line_unique s n a b x y p q e f = (p ∙ sym e, q ∙ sym f)

pub c_solve_unique : (s : List ℕ) (budget : ℕ) (out : List ℕ) (a b : ℕ) (x y after later : List ℕ)
    → a ≡ (handed (answer s budget out).says).number → x ≡ count_and_place (handed (answer s budget out).says) → after ≡ (answer s budget out).output
    → b ≡ (handed (answer s budget out).says).number → y ≡ count_and_place (handed (answer s budget out).says) → later ≡ (answer s budget out).output
    → (a ≡ b) × (x ≡ y) × (after ≡ later)
c_solve_unique s budget out a b x y after later p q g e f h = (p ∙ sym e, q ∙ sym f, g ∙ sym h)
