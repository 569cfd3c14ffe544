-- `join::write_joined`: what is handed on is what comes of the file.
use Rattle.std.proofs.Common.{sym, length-take-le}
use Rattle.join.specs.JoinLaws.{owl_inside}
use Rattle.join.proofs.PartLaws.{prepared_long, prepared_refused, prepared_solved}
use Rattle.join.proofs.write_joined.Goals as goal

pub write_to-requires : goal.write_to-requires
write_to-requires g c = prepared_long _ _ _ _ _ _ c.if-file-gt-MOST.true

pub write_to-requires-then-made-ne0 : goal.write_to-requires-then-made-ne0
write_to-requires-then-made-ne0 g c = prepared_refused c.owl-made.ensures c.if-made-ne0.true

pub slice_bounds-table-end-2 : goal.slice_bounds-table-end-2
slice_bounds-table-end-2 g c = owl_inside c.owl-made.ensures c.if-made-ne0.false

pub slice_bounds-solve-end : goal.slice_bounds-solve-end
slice_bounds-solve-end g c = sym (length-take-le _ c.owl-made.new.out (owl_inside c.owl-made.ensures c.if-made-ne0.false))

pub slice_bounds-table-end-3 : goal.slice_bounds-table-end-3
slice_bounds-table-end-3 g c = owl_inside c.owl-made.ensures c.if-made-ne0.false

pub write_to-requires-2 : goal.write_to-requires-2
write_to-requires-2 g c = prepared_solved c.solve-a.result c.solve-a.new.out c.owl-made.ensures c.if-made-ne0.false c.solve-a.ensures.numbers c.solve-a.ensures.output

pub slice_bounds-answered-end : goal.slice_bounds-answered-end
slice_bounds-answered-end g c = sym (length-take-le _ c.owl-made.new.out (owl_inside c.owl-made.ensures c.if-made-ne0.false))
