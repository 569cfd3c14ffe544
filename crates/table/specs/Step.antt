-- What the reader's code answers, in the words of the reading.
--
--   is_some o            == something was read
--   step_of x            == a step of the reader: the place after what was read, or the refusal
--   steps step count at  == `count` steps, one after the other, from `at` on; the first refusal ends them
--   step_code s allows at == the step over one byte, where the test `allows` it
--   on_from r f          == what `f` makes of the place that r answers; or the refusal r
--   verdict_of r         == the verdict on a whole table: nothing more to say, or the refusal
--   verdict_in x         == the verdict that an answer gives, whatever comes with it
use Rattle.std.specs.Prelude.{Bool, true, false, cond, List, ℕ, zero, suc, ◌+◌, length, Result, Ok, Err}
use Rattle.std.proofs.Math.Option.{Option, none, some}
use Rattle.answer.specs.declared.Answer.{Answer}
use Rattle.answer.specs.declared.Answer.TheVariants.{EndsEarly, NotAllowed}
use Rattle.table.specs.Reading.{Read, refused, got, missing, byte_at, Reading, refusal, readable}

unfoldable pub is_some : {A : Type 0} → Option A → Bool
is_some none = false
is_some (some a) = true

unfoldable pub step_of : {A : Type 0} → Read A → Result ℕ Answer
step_of (refused why) = Err why
step_of (got a at) = Ok at

-- "a missing byte gives 1"; "code or role not declared or not allowed there", "its byte"
unfoldable pub step_code : List ℕ → (ℕ → Bool) → ℕ → Result ℕ Answer
step_code s allows at = cond (missing s at) (Err (EndsEarly (length s))) (cond (allows (byte_at s at)) (Ok (at + 1)) (Err (NotAllowed at)))

abbrev pub on_from : Result ℕ Answer → (ℕ → Result ℕ Answer) → Result ℕ Answer
on_from (Err why) f = Err why
on_from (Ok next) f = f next

unfoldable pub steps : (ℕ → Result ℕ Answer) → ℕ → ℕ → Result ℕ Answer
steps step zero at = Ok at
steps step (suc k) at = on_from (step at) (steps step k)

unfoldable pub verdict_of : Reading → Result (Unit {0}) Answer
verdict_of (refusal why) = Err why
verdict_of (readable h t) = Ok tt

abbrev pub verdict_in : {A : Type 0} → Result A Answer → Result (Unit {0}) Answer
verdict_in (Ok a) = Ok tt
verdict_in (Err why) = Err why
