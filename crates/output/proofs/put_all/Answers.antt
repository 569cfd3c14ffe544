-- `output::put_all` meets its contract: before the first set nothing is written, and each turn writes one set more.
use Rattle.std.specs.Int.{to_le_bytes, w64}
use Rattle.std.proofs.Common.{refl, ap, ◌∙◌, List, ℕ, take_all, arith}
use Rattle.output.specs.Written.{assignment_bytes, written_in, written}
use Rattle.output.proofs.Laws.{all_turn}
use Rattle.output.proofs.put_all.Goals as goal

pub loop-i-init : goal.loop-i-init
unfolding written_in assignment_bytes
loop-i-init c = refl

pub loop-i-preserved : goal.loop-i-preserved
loop-i-preserved c = all_turn c.loop-i.i c.args.sets.now _ _ _ c.loop-i-test.true c.loop-i.invariant (c.copy_from_slice.ensures.after ∙ c.to_le_bytes.ensures ∙ ap (to_le_bytes w64) (omega arith))

pub returns : goal.returns
returns c = c.loop-i.invariant ∙ ap (λ (a : List ℕ). written a c.args.out.now) (take_all c.loop-i.i c.args.sets.now c.loop-i-test.false)
