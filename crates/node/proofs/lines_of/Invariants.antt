-- `node::lines_of` meets its contract. The invariant: the masks and starts of the first n lines are made, and `at` is where line n begins.
use Rattle.std.proofs.Common.{◌≡◌, length}
use Rattle.bounds.specs.Bounds.{max_lines}
use Rattle.table.specs.Layout.{line_start}
use Rattle.table.specs.Reading.{table_of, header_of}
use Rattle.node.specs.Mask.{LineMasks, LineStarts}
use Rattle.node.proofs.lines_of.Given as goal

abbrev pub invariant-loop-n : goal.invariant-loop-n
invariant-loop-n l = record {
  count : l.lines.count ≡ (header_of l.table.bytes.now).m;
  mask_room : length l.lines.mask ≡ max_lines;
  start_room : length l.lines.start ≡ max_lines;
  begins : l.at ≡ line_start l.table.bytes.now l.n;
  masks : LineMasks (table_of l.table.bytes.now) l.n l.lines.mask;
  starts : LineStarts l.table.bytes.now l.n l.lines.start;
}
