-- The invariant: the blanks from the start are those passed and those from here.
use mathlib.Core.Path.{◌≡◌, sym, ap, ◌∙◌}
use Prim.Native.Nat.{ℕ, ◌<◌, ◌+◌, ◌≤◌}
use native.Mathlib.Omega.{arith}
use lib.ListN.{length, drop}
use Rattle.owl.specs.Token.{blank}
use Rattle.owl_token.proofs.RunLaws as laws
use Rattle.owl_token.proofs.skip.Goals as goal

pub loop-i-init : goal.loop-i-init
loop-i-init c = (omega arith, omega arith, omega arith, laws.skip_start _ _)

pub returns-then-c-eq2 : goal.returns-then-c-eq2
returns-then-c-eq2 c = let s = c.args.s.now in let i = c.loop-i.i in let m = c.loop-i.c in let h : i < length s = omega arith in (sym (c.loop-i.invariant.3 ∙ laws.skip_stop s m i h (sym c.between-c.ensures.0 ∙ c.if-c-eq2.true)), omega arith)

pub loop-i-preserved : goal.loop-i-preserved
loop-i-preserved c = let s = c.args.s.now in let i = c.loop-i.i in let m = c.loop-i.c in let h : i < length s = omega arith in let e = c.between-c.ensures.0 in (omega arith, omega arith, omega arith, c.loop-i.invariant.3 ∙ laws.skip_on s m i h (λ z. c.if-c-eq2.false (e ∙ z)) ∙ ap (λ (k : ℕ). i + 1 + blank k (drop (i + 1) s)) (sym e))

pub returns : goal.returns
returns c =
    let s = c.args.s.now in
    let i = c.loop-i.i in
    let m = c.loop-i.c in
    let h : length s ≤ i = omega arith in
    let e : i ≡ length s = omega arith in
    (rw e at (sym (c.loop-i.invariant.3 ∙ laws.skip_end s m i h)), omega arith)
