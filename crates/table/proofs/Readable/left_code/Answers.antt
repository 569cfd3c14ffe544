-- `table::Readable::left_code` meets its contract: the layout says what the byte is.
use native.Mathlib.Omega.{arith}
use Rattle.table.specs.LayoutLaws.{begun_inside, left_within, left_writes}
use Rattle.table.proofs.Readable.left_code.Goals as goal

pub overflow_add-result : goal.overflow_add-result
overflow_add-result c = omega (arith, begun_inside _ c.args.self.now.reads _ c.requires.0)

pub overflow_add-result-2 : goal.overflow_add-result-2
overflow_add-result-2 c = omega (arith, begun_inside _ c.args.self.now.reads _ c.requires.0, left_within _ c.args.self.now.reads _ _ c.requires.1 c.requires.0)

pub bounds-self-at : goal.bounds-self-at
bounds-self-at c = omega (arith, begun_inside _ c.args.self.now.reads _ c.requires.0, left_within _ c.args.self.now.reads _ _ c.requires.1 c.requires.0)

pub returns : goal.returns
returns c = left_writes _ c.args.self.now.reads _ _ c.requires.1
