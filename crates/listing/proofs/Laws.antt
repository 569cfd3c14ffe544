-- The laws that carry the report to its text, and the program to the report.
--
--   report_is == the text of the solver's answer, written to a buffer that is long enough, is the report
--   run_is    == what is written of an input's first bytes is the report of the whole input
--   run_part  == what a failed write leaves is a beginning of it
--   report_some == a report has a byte, and so where nothing is written not all of it is
use mathlib.Core.Path.{◌≡◌, ap₂, subst, ◌∙◌}
use mathlib.Core.List.{List, [], ◌∷◌}
use Prim.Native.Nat.{ℕ, ◌≤◌}
use native.Mathlib.Omega.{arith}
use lib.ListN.{length, take, length-append}
use Rattle.std.specs.Prelude.{◌<◌, Option, Result, Ok, Err, OnOk, OnErr, IfSome}
use Rattle.std.specs.Io.KnownBytes.{Appends}
use Rattle.input.specs.Part.{AppendsPart}
use Rattle.input.proofs.PartLaws.{on_known}
use Rattle.answer.specs.declared.Handed.{Handed}
use Rattle.answer.specs.Handed.{handed}
use Rattle.text.specs.Append.{Appended}
use Rattle.text.specs.AppendLaws.{appended_whole}
use Rattle.text.specs.Listing.{first_line, listing_text}
use Rattle.text.specs.Room.{Numbers, listing_room}
use Rattle.text.proofs.FitsLaws.{listing_fits}
use Rattle.makrothel.specs.Solve.{answer}
use Rattle.table.specs.Bytes.{enough_length}
use Rattle.listing.specs.ReportLaws.{longer_input}
use Rattle.listing.specs.Report.{listing_budget, listing_output, answer_text, report_text}

pub report_is : (s : List ℕ) (a : Handed) (out : List ℕ) {b after : List ℕ} {r : ℕ} → a ≡ handed (answer s listing_budget listing_output).says → out ≡ (answer s listing_budget listing_output).output
    → Numbers (a.number ∷ a.count ∷ a.place ∷ []) → listing_room ≤ length b → Appended b 0 (listing_text s a out) after r → take r after ≡ report_text s
unfolding answer_text report_text
report_is s a out e o n room h = (appended_whole h (omega (arith, listing_fits s a out n))).2 ∙ ap₂ (listing_text s) e o

module _ (input : Option (List ℕ)) (front text : List ℕ) (room : ℕ) (m : room ≡ enough_length) (known : IfSome input (λ xs. front ≡ take room xs)) (w : text ≡ report_text front) where
  on_report : (P : List ℕ → Type 0) → P text → IfSome input (λ xs. P (report_text xs))
  on_report P h = on_known report_text enough_length longer_input input front room m known P (subst P w h)

  pub run_is : {A E : Type 0} (r : Result A E) (before after : Option (List ℕ)) → OnOk r (Appends before after text) → OnOk r (IfSome input (λ xs. Appends before after (report_text xs)))
  run_is (Err e) before after h = tt
  run_is (Ok x) before after h = on_report (Appends before after) h

  pub run_part : {A E : Type 0} (r : Result A E) (before after : Option (List ℕ)) → OnErr r (AppendsPart before after text) → OnErr r (IfSome input (λ xs. AppendsPart before after (report_text xs)))
  run_part (Ok x) before after h = tt
  run_part (Err e) before after h = on_report (AppendsPart before after) h

pub report_some : (s : List ℕ) → 0 < length (report_text s)
unfolding report_text answer_text listing_text first_line
report_some s = simp (length-append) (omega arith)
