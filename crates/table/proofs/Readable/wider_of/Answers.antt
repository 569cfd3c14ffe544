-- `table::Readable::wider_of` meets its contract: the layout says what the byte is.
use mathlib.Core.Path.{ap, ◌∙◌}
use native.Mathlib.Omega.{arith}
use Rattle.table.specs.Reading.{header_end}
use Rattle.table.specs.ReadLaws.{header_long}
use Rattle.table.specs.LayoutLaws.{layout, wider_said}
use Rattle.table.proofs.Readable.wider_of.Goals as goal

pub overflow_add-result : goal.overflow_add-result
overflow_add-result c = omega (arith, c.header_end.ensures, header_long c.header.result)

pub overflow_mul-result : goal.overflow_mul-result
overflow_mul-result c = omega (arith, (layout _ c.args.self.now.reads).few_role_rows, c.requires)

pub overflow_add-result-2 : goal.overflow_add-result-2
overflow_add-result-2 c = omega (arith, c.header_end.ensures, header_long c.header.result, (layout _ c.args.self.now.reads).few_role_rows, c.requires)

pub bounds-self-header_end : goal.bounds-self-header_end
bounds-self-header_end c = omega (arith, c.header_end.ensures ∙ ap header_end c.header.ensures, (layout _ c.args.self.now.reads).role_row_in _ c.requires)

pub returns : goal.returns
returns c = wider_said _ c.args.self.now.reads _ _ (c.header_end.ensures ∙ ap header_end c.header.ensures) c.requires
