-- `makrothel::line` meets its contract: the part where the line lies; an empty one where there is none.
use Rattle.std.proofs.Common.{arith}
use Rattle.makrothel.proofs.Laws.{some_inside, line_part_lem, no_part}
use Rattle.makrothel.proofs.line.Goals as goal

pub overflow_add-result : goal.overflow_add-result
overflow_add-result c = let inside = some_inside _ _ _ c.in-Some.ensures in omega arith

pub slice_bounds-result-end : goal.slice_bounds-result-end
slice_bounds-result-end c = let inside = some_inside _ _ _ c.in-Some.ensures in omega arith

pub returns-in-Some-clause-part : goal.returns-in-Some-clause-part
returns-in-Some-clause-part c = (line_part_lem c.args.table c.args.n c.in-Some.span c.in-Some.ensures).0

pub returns-in-Some-clause-place : goal.returns-in-Some-clause-place
returns-in-Some-clause-place c = (line_part_lem c.args.table c.args.n c.in-Some.span c.in-Some.ensures).1

pub returns-in-None-clause-part : goal.returns-in-None-clause-part
returns-in-None-clause-part c = (no_part c.args.table c.args.n c.in-None.ensures).0

pub returns-in-None-clause-place : goal.returns-in-None-clause-place
returns-in-None-clause-place c = (no_part c.args.table c.args.n c.in-None.ensures).1
