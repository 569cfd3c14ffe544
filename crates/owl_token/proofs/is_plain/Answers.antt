-- A byte from 128 is plain; the bits of the numbers say it of the others.
use mathlib.Core.Bool.{true}
use Prim.Native.Nat.{◌-◌, ◌/◌, ◌%◌, ◌^◌}
use native.Mathlib.Omega.{arith}
use lib.Dec.{eqb}
use Rattle.el.specs.Test.{all_below}
use Rattle.owl.specs.Token.{is_plain}
use Rattle.owl_token.proofs.RunLaws as laws
use Rattle.owl_token.proofs.is_plain.Goals as goal

pub returns-then-b-gt127 : goal.returns-then-b-gt127
unfolding is_plain all_below
returns-then-b-gt127 c = laws.tests_agree 128 255 (λ k. true) is_plain tt c.args.b (omega arith) (omega arith) (omega arith)

pub returns-then-b-gt63 : goal.returns-then-b-gt63
unfolding is_plain all_below
returns-then-b-gt63 c = laws.tests_agree 64 127 (λ k. eqb (0x07FFFFFE07FFFFFE / 2 ^ (k - 64) % 2) 1) is_plain tt c.args.b (omega arith) (omega arith) (omega arith)

pub returns : goal.returns
unfolding is_plain all_below
returns c = laws.tests_agree 0 63 (λ k. eqb (0x03FF000000000000 / 2 ^ k % 2) 1) is_plain tt c.args.b (omega arith) (omega arith) (omega arith)
