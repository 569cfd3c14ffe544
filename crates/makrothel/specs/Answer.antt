-- What the public calls answer.
--
--   read_as a h   == what the reader hands back under the answer a and the counts h
--   read_answer r == the reader's number, place and counts for a reading
--   has_line s n  == are the bytes s readable, and is there a line n?
--   line_span s n == the byte where line n of the bytes s begins, and its length; zeros where there is none; `span_if`, by whether it is there
--   SpanIs s n o  == o is that span where there is a line n, and none where there is none
--   line_part s n == the bytes there
--   BeginsIn r t k == the part r of the caller's table t begins at the byte k of t
use Rattle.std.specs.Prelude.{◌≡◌, Bool, true, false, ◌&&◌, Option, MatchOption, List, ℕ, ◌+◌, ltb, take, drop}
use Rattle.std.specs.Borrow.{Bor}
use Rattle.answer.specs.declared.Answer.{Answer}
use Rattle.answer.specs.declared.Answer.TheVariants.{Solved}
use Rattle.answer.specs.Handed.{handed}
use Rattle.table.specs.declared.Header.{Header}
use Rattle.table.specs.Reading.{byte_at, Reading, refusal, readable, reading, is_readable, header_of}
use Rattle.table.specs.Layout.{line_start}
use Rattle.makrothel.specs.declared.ReadAnswer.{ReadAnswer}
use Rattle.makrothel.specs.declared.Span.{Span}

-- a number and a place of the table of answers, and the counts
abbrev pub read_as : Answer → Header → ReadAnswer
read_as a h = record { number = (handed a).number; place = (handed a).place; constants = h.c; roles = h.r; variables = h.v; restrictions = h.e; lines = h.m; inclusions = h.q }

abbrev pub zeros : Header
zeros = record { version = 0; c = 0; r = 0; v = 0; e = 0; m = 0; q = 0 }

-- "The reader answers 0 to 6 with the same places, and the five counts (zeros when refused)."; "The reader hands back q too (0 in version 1)"
unfoldable pub read_answer : Reading → ReadAnswer
read_answer (refusal why) = read_as why zeros
read_answer (readable h t) = read_as (Solved 0) h

unfoldable pub has_line : List ℕ → ℕ → Bool
has_line s n = is_readable (reading s) && ltb n (header_of s).m

-- "from its left count to its right code, p + 2 bytes"
abbrev pub span_if : List ℕ → ℕ → Bool → Span
span_if s n true = record { start = line_start s n; length = byte_at s (line_start s n) + 2 }
span_if s n false = record { start = 0; length = 0 }

unfoldable pub line_span : List ℕ → ℕ → Span
line_span s n = span_if s n (has_line s n)

-- a span where there is a line n, and none where there is none
unfoldable pub SpanIs : List ℕ → ℕ → Option Span → Type 0
SpanIs s n o = MatchOption o (has_line s n ≡ false) (λ x. (has_line s n ≡ true) × (x ≡ line_span s n))

-- "returns that line as a part of the caller's own table"; "An unreadable table or a line number of m or more gives an empty part."
unfoldable pub line_part : List ℕ → ℕ → List ℕ
line_part s n = take (line_span s n).length (drop (line_span s n).start s)

-- a reference points to a block of memory and a place in it
abbrev pub BeginsIn : Bor (List ℕ) → Bor (List ℕ) → ℕ → Type 0
BeginsIn r t k = (r.ref_ptr.0 ≡ t.ref_ptr.0) × (r.ref_ptr.1 ≡ t.ref_ptr.1 + k)
