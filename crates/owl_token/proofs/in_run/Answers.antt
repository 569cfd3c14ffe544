-- A byte from 64 is one of a run; the bits of the number say it of the others.
use mathlib.Core.Bool.{true}
use Prim.Native.Nat.{◌/◌, ◌%◌, ◌^◌}
use native.Mathlib.Omega.{arith}
use lib.Dec.{eqb, ltb}
use Rattle.el.specs.Test.{all_below}
use Rattle.owl.specs.Token.{is_plain, byte_class}
use Rattle.owl_token.proofs.RunLaws as laws
use Rattle.owl_token.proofs.in_run.Goals as goal

pub returns-then-b-gt63 : goal.returns-then-b-gt63
unfolding byte_class is_plain all_below
returns-then-b-gt63 c = laws.tests_agree 64 255 (λ k. true) (λ k. ltb (byte_class k) 5) tt c.args.b (omega arith) (omega arith) (omega arith)

pub returns : goal.returns
unfolding byte_class is_plain all_below
returns c = laws.tests_agree 0 63 (λ k. eqb (0x7000030D00002600 / 2 ^ k % 2) 0) (λ k. ltb (byte_class k) 5) tt c.args.b (omega arith) (omega arith) (omega arith)
