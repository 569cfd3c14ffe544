-- `listing::report` meets its contract. The text of the solver's answer is the report, and fits.
use Rattle.std.proofs.Common.{arith}
use Rattle.listing.proofs.Laws.{report_is}
use Rattle.listing.proofs.report.Goals as goal

pub returns : goal.returns
returns c = report_is _ c.solve-a.result _ c.solve-a.ensures.numbers c.solve-a.ensures.output (grind arith) (omega arith) c.listing-end.ensures
