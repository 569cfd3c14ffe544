-- The invariant: the way to `>` from the start is the way passed and the way from here.
use mathlib.Core.Path.{refl, sym, ◌∙◌}
use Prim.Native.Nat.{◌<◌, ◌≤◌}
use native.Mathlib.Omega.{arith}
use lib.ListN.{length}
use Rattle.owl_token.proofs.RunLaws as laws
use Rattle.owl_token.proofs.close_at.Goals as goal

pub loop-i-init : goal.loop-i-init
loop-i-init c = (omega arith, omega arith, refl)

pub returns-then-s-i-eq62 : goal.returns-then-s-i-eq62
returns-then-s-i-eq62 c = let s = c.args.s.now in let i = c.loop-i.i in let h : i < length s = omega arith in (sym (c.loop-i.invariant.2 ∙ laws.close_stop s i h c.if-s-i-eq62.true), omega arith)

pub loop-i-preserved : goal.loop-i-preserved
loop-i-preserved c = let s = c.args.s.now in let i = c.loop-i.i in let h : i < length s = omega arith in (omega arith, omega arith, c.loop-i.invariant.2 ∙ laws.close_on s i h c.if-s-i-eq62.false)

pub returns : goal.returns
returns c = let s = c.args.s.now in let i = c.loop-i.i in let h : length s ≤ i = omega arith in (sym (c.loop-i.invariant.2 ∙ laws.close_end s i h), omega arith)
