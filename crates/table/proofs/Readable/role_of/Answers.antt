-- `table::Readable::role_of` meets its contract: the layout says what the byte is.
use native.Mathlib.Omega.{arith}
use Rattle.table.specs.LayoutLaws.{layout, role_said}
use Rattle.table.proofs.Readable.role_of.Goals as goal

pub overflow_mul-result : goal.overflow_mul-result
overflow_mul-result c = omega (arith, (layout _ c.args.self.now.reads).few_restrictions, c.requires)

pub overflow_add-result : goal.overflow_add-result
overflow_add-result c = omega (arith, c.rows_at.ensures, (layout _ c.args.self.now.reads).row_in _ c.requires)

pub bounds-self-rows_at : goal.bounds-self-rows_at
bounds-self-rows_at c = omega (arith, c.rows_at.ensures, (layout _ c.args.self.now.reads).row_in _ c.requires)

pub returns : goal.returns
returns c = role_said _ c.args.self.now.reads _ _ c.rows_at.ensures c.requires
