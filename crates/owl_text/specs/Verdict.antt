-- What the check answers, as the verdict of the definitions.
--
--   reason_number r == the number of the refusal r
--   verdict_of r    == the verdict that a result stands for
use Rattle.std.specs.Prelude.{ℕ, Result, Ok, Err}
use Rattle.owl.specs.Grammar.{Verdict, verdict}
use Rattle.owl_text.specs.declared.Reason.{Reason}
use Rattle.owl_text.specs.declared.Reason.TheVariants.{Syntax, Unlisted}
use Rattle.owl_text.specs.declared.Refusal.{Refusal}

abbrev pub reason_number : Reason → ℕ
reason_number Syntax = 10
reason_number Unlisted = 11

abbrev pub verdict_of : Result (Unit {0}) Refusal → Verdict
verdict_of (Ok u) = verdict 0 0
verdict_of (Err r) = verdict (reason_number r.reason) r.place
