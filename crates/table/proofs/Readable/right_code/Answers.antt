-- `table::Readable::right_code` meets its contract: the layout says what the byte is.
use native.Mathlib.Omega.{arith}
use Rattle.table.specs.LayoutLaws.{begun_inside, right_writes}
use Rattle.table.proofs.Readable.right_code.Goals as goal

pub overflow_add-result : goal.overflow_add-result
overflow_add-result c = omega (arith, begun_inside _ c.args.self.now.reads _ c.requires)

pub bounds-self-at : goal.bounds-self-at
bounds-self-at c = omega (arith, begun_inside _ c.args.self.now.reads _ c.requires)

pub overflow_add-result-2 : goal.overflow_add-result-2
overflow_add-result-2 c = omega (arith, begun_inside _ c.args.self.now.reads _ c.requires, c.from.ensures)

pub bounds-self-at-2 : goal.bounds-self-at-2
bounds-self-at-2 c = omega (arith, begun_inside _ c.args.self.now.reads _ c.requires, c.from.ensures)

pub returns : goal.returns
returns c = right_writes _ c.args.self.now.reads _ _ c.from.ensures
