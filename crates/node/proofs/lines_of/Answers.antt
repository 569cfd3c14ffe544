-- `node::lines_of` meets its contract.
use Rattle.std.proofs.Common.{arith, rules, ◌≡◌, ap}
use Rattle.table.specs.declared.Header.{Header}
use Rattle.table.specs.Reading.{header_of}
use lib.ListN.{length-set}
use Rattle.table.specs.LayoutLaws.{layout}
use Rattle.table.specs.LengthLaws.{place_fits}
use Rattle.node.specs.MaskLaws.{each_set}
use Rattle.node.specs.LineLaws.{line_next}
use Rattle.node.proofs.lines_of.Goals as goal

pub bounds-lines-n : goal.bounds-lines-n
bounds-lines-n c = let z : c.header.result.m ≡ (header_of c.args.table.bytes.now).m = ap (λ (h : Header). h.m) c.header.ensures in let h = (layout _ c.args.table.reads).few_lines in let i = c.loop-n.invariant.count in omega arith

pub overflow_cast-lines : goal.overflow_cast-lines
overflow_cast-lines c = let z : c.header.result.m ≡ (header_of c.args.table.bytes.now).m = ap (λ (h : Header). h.m) c.header.ensures in let i = c.loop-n.invariant in let q = i.count in
    let h = place_fits _ c.args.table.reads c.loop-n.n _ (omega arith) i.begins in search rules

pub bounds-lines-n-in-loop-n : goal.bounds-lines-n-in-loop-n
bounds-lines-n-in-loop-n c = let z : c.header.result.m ≡ (header_of c.args.table.bytes.now).m = ap (λ (h : Header). h.m) c.header.ensures in let h = (layout _ c.args.table.reads).few_lines in let i = c.loop-n.invariant.count in omega arith

pub overflow_add-at : goal.overflow_add-at
overflow_add-at c = let z : c.header.result.m ≡ (header_of c.args.table.bytes.now).m = ap (λ (h : Header). h.m) c.header.ensures in let q = c.loop-n.invariant.count in omega (arith, line_next _ c.args.table.reads _ _ _ (omega arith) c.loop-n.invariant.begins c.left_count.ensures)

pub overflow_add-at-in-loop-n : goal.overflow_add-at-in-loop-n
overflow_add-at-in-loop-n c = let z : c.header.result.m ≡ (header_of c.args.table.bytes.now).m = ap (λ (h : Header). h.m) c.header.ensures in let q = c.loop-n.invariant.count in omega (arith, line_next _ c.args.table.reads _ _ _ (omega arith) c.loop-n.invariant.begins c.left_count.ensures)

pub loop-n-preserved : goal.loop-n-preserved
loop-n-preserved c = let z : c.header.result.m ≡ (header_of c.args.table.bytes.now).m = ap (λ (h : Header). h.m) c.header.ensures in let i = c.loop-n.invariant in let q = i.count in let f = (layout _ c.args.table.reads).few_lines in record {
  count = i.count;
  mask_room = simp length-set i.mask_room;
  start_room = simp length-set i.start_room;
  begins = let h = line_next _ c.args.table.reads _ _ _ (omega arith) i.begins c.left_count.ensures in omega (arith, h.0);
  masks = each_set i.masks (omega arith) (c.line_mask.ensures _ (omega arith) i.begins);
  starts = each_set i.starts (omega arith) i.begins;
}
