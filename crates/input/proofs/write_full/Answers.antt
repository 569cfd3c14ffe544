-- `input::write_full` meets its contract: what a write took stands behind what was appended before.
use Rattle.std.proofs.Common.{arith, take-add, length-drop}
use Rattle.std.proofs.lemmas.List.{take_rest}
use Rattle.std.proofs.KnownBytes.{Appends-trans}
use Rattle.input.proofs.write_full.Goals as goal

pub loop-done-preserved : goal.loop-done-preserved
loop-done-preserved g c =
    let before = c.loop-done.invariant in
    let all = c.args.bytes.now in
    let done = c.loop-done.done in
    let more = rw (take_rest all done) at c.in_ok-taken.ensures.bytes in
    let bound = rw (take_rest all done) at c.in_ok-taken.ensures.bound in
    rw (take-add done c.in_ok-taken.taken all) (omega (arith, before.0, bound, length-drop done all), Appends-trans _ _ _ _ _ before.1 more)
