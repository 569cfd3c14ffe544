-- What the listing program writes.
--
--   listing_budget  == how many nodes are allowed
--   listing_output  == the output before the call
--   answer_text s a == the solver's answer a to the bytes s as text
--   report_text s   == the answer to the bytes s as text
use Rattle.std.specs.Prelude.{List, ℕ, ◌*◌, replicate}
use Rattle.bounds.specs.Bounds.{max_variables, set_bytes}
use Rattle.answer.specs.Handed.{handed}
use Rattle.text.specs.Listing.{listing_text}
use Rattle.makrothel.specs.Solve.{Answered, answer}

-- "solves it with budget 1,000,000"
abbrev pub listing_budget : ℕ
listing_budget = 1000000

abbrev pub listing_output : List ℕ
listing_output = replicate (set_bytes * max_variables) 0

unfoldable pub answer_text : List ℕ → Answered → List ℕ
answer_text s a = listing_text s (handed a.says) a.output

unfoldable pub report_text : List ℕ → List ℕ
report_text s = answer_text s (answer s listing_budget listing_output)
