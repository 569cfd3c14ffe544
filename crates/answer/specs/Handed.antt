-- "Numbers handed back": the number, the count and the place of each answer. No other file ties a number to its meaning.
--
--   handed a == what is handed back under the answer a
use Rattle.answer.specs.declared.Answer.{Answer}
use Rattle.answer.specs.declared.Answer.TheVariants.{Solved, EndsEarly, WrongMark, WrongVersion, OverBound, NotAllowed, BytesAfter, OutputShort, Nothing, Budget}
use Rattle.answer.specs.declared.Handed.{Handed}

-- "The solver answers number, count and place."
abbrev pub handed : Answer → Handed
-- "solved", N, 0
handed (Solved n) = record { number = 0; count = n; place = 0 }
-- "input ends early", 0, "input length"
handed (EndsEarly p) = record { number = 1; count = 0; place = p }
-- "wrong mark", 0, 0
handed WrongMark = record { number = 2; count = 0; place = 0 }
-- "version is not 1", 0, 3
handed WrongVersion = record { number = 3; count = 0; place = 3 }
-- "a count is over its bound", 0, "its byte"
handed (OverBound p) = record { number = 4; count = 0; place = p }
-- "code or role not declared or not allowed there", 0, "its byte"
handed (NotAllowed p) = record { number = 5; count = 0; place = p }
-- "bytes after the last line", 0, "first of them"
handed (BytesAfter p) = record { number = 6; count = 0; place = p }
-- "output shorter than 4v bytes", 0, 4v; "Number 7 now speaks of 8v"
handed (OutputShort p) = record { number = 7; count = 0; place = p }
-- "none", N, 0
handed (Nothing n) = record { number = 8; count = n; place = 0 }
-- "budget", b, 0
handed (Budget b) = record { number = 9; count = b; place = 0 }
