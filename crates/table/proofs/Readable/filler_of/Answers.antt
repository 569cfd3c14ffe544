-- `table::Readable::filler_of` meets its contract: the layout says what the byte is.
use native.Mathlib.Omega.{arith}
use Rattle.table.specs.LayoutLaws.{layout, filler_said}
use Rattle.table.proofs.Readable.filler_of.Goals as goal

pub overflow_add-result : goal.overflow_add-result
overflow_add-result c = omega (arith, c.rows_at.ensures, (layout _ c.args.self.now.reads).row_in _ c.requires)

pub overflow_mul-result : goal.overflow_mul-result
overflow_mul-result c = omega (arith, (layout _ c.args.self.now.reads).few_restrictions, c.requires)

pub overflow_add-result-2 : goal.overflow_add-result-2
overflow_add-result-2 c = omega (arith, c.rows_at.ensures, (layout _ c.args.self.now.reads).row_in _ c.requires)

pub bounds-self-rows_at : goal.bounds-self-rows_at
bounds-self-rows_at c = omega (arith, c.rows_at.ensures, (layout _ c.args.self.now.reads).row_in _ c.requires)

pub returns : goal.returns
returns c = filler_said _ c.args.self.now.reads _ _ c.rows_at.ensures c.requires
