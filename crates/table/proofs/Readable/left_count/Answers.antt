-- `table::Readable::left_count` meets its contract: the layout says what the byte is.
use mathlib.Core.Path.{◌∙◌}
use native.Mathlib.Omega.{arith}
use Rattle.table.specs.LayoutLaws.{begun_inside, left_many}
use Rattle.table.proofs.Readable.left_count.Goals as goal

pub bounds-self-at : goal.bounds-self-at
bounds-self-at c = omega (arith, begun_inside _ c.args.self.now.reads _ c.requires)

pub returns : goal.returns
returns c n few begins = c.from.ensures ∙ left_many _ c.args.self.now.reads _ n few begins
