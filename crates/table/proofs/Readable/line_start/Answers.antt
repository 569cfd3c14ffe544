-- `table::Readable::line_start` meets its contract. The invariant: `at` is where line i begins; the layout of a readable table keeps it inside.
use Rattle.std.proofs.Common.{◌≡◌, ap, ◌∙◌, arith}
use Rattle.table.specs.Reading.{header_of}
use Rattle.table.specs.ReadLaws.{header_long}
use Rattle.table.specs.Layout.{line_start}
use Rattle.table.specs.LayoutLaws.{layout, start_first, start_next, line_inside}
use Rattle.table.proofs.Readable.line_start.Goals as goal

pub bounds-self-8 : goal.bounds-self-8
bounds-self-8 c = omega (arith, (layout _ c.args.self.now.reads).header_in)

pub overflow_add-at : goal.overflow_add-at
overflow_add-at c = omega (arith, c.rows_at.ensures, header_long (header_of c.args.self.now.bytes.now), (layout _ c.args.self.now.reads).few_role_rows)

pub loop-init : goal.loop-init
loop-init c = start_first _ _ _ c.rows_at.ensures c.from.ensures

pub bounds-self-at : goal.bounds-self-at
bounds-self-at c = omega (arith, line_inside _ c.args.self.now.reads _ _ (omega arith) c.loop.invariant)

pub overflow_add-at-in-loop : goal.overflow_add-at-in-loop
overflow_add-at-in-loop c = omega (arith, line_inside _ c.args.self.now.reads _ _ (omega arith) c.loop.invariant)

pub overflow_add-at-in-loop-2 : goal.overflow_add-at-in-loop-2
overflow_add-at-in-loop-2 c = omega (arith, line_inside _ c.args.self.now.reads _ _ (omega arith) c.loop.invariant)

pub loop-preserved : goal.loop-preserved
loop-preserved c = start_next _ _ _ _ c.loop.invariant c.from-in-loop.ensures

pub returns : goal.returns
returns c = let e : c.loop.counter ≡ c.args.n = omega arith in c.loop.invariant ∙ ap (line_start _) e
