-- `join::write_text` meets its contract: a window ends where the next one begins.
use Rattle.std.proofs.Common.{rules, length, subst}
use Rattle.std.specs.Io.KnownBytes.{Appends}
use Rattle.std.proofs.KnownBytes.{Appends-trans}
use Rattle.join.specs.Join.{join_text}
use Rattle.input.proofs.PartLaws.{on_err}
use Rattle.join.proofs.PartLaws.{window_in, window_next, window_part}
use Rattle.join.proofs.Joined.write_to.Goals as goal

pub loop-from-preserved : goal.loop-from-preserved
loop-from-preserved g c =
    let from = c.loop-from.from in
    let room = length c.loop-from.buffer in
    let text = join_text c.args.self.now.file.now in
    let part = c.part-n.ensures in (
      search rules,
      window_in from room _ text _ part.prefix_len part.buffer_after c.loop-from.invariant.1,
      subst (Appends _ _) (window_next from room _ text _ part.prefix_len part.buffer_after) (Appends-trans _ _ _ _ _ c.loop-from.invariant.2 c.in_ok-write_full.ensures.bytes),
    )

pub returns-in_err-write_full-clause-err : goal.returns-in_err-write_full-clause-err
returns-in_err-write_full-clause-err g c =
    let from = c.loop-from.from in
    let room = length c.loop-from.buffer in
    let text = join_text c.args.self.now.file.now in
    let part = c.part-n.ensures in
    on_err c.from_residual.result
    (window_part from room _ text _ part.prefix_len part.buffer_after c.loop-from.invariant.1 _ _ _ c.loop-from.invariant.2 c.in_err-write_full.ensures.err)
