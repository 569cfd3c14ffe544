-- Each test says what the byte does, by one law.
use mathlib.Core.Path.{◌≡◌, refl, sym, ap₂, ◌∙◌}
use mathlib.Core.Bool.{false, ◌||◌}
use Prim.Native.Nat.{ℕ, ◌<◌}
use borrow.Author.Tests.{ne_eqb}
use native.Mathlib.Omega.{arith}
use Rattle.owl.specs.Token.{is_plain, byte_class, betweens, between}
use Rattle.owl_token.specs.Keyword.{ends_line}
use Rattle.owl_token.proofs.RunLaws as laws
use Rattle.owl_token.proofs.between.Goals as goal

-- a byte above all of them ends no line
above : (b : ℕ) → 35 < b → ends_line b ≡ false
unfolding ends_line
above b h = ap₂ ◌||◌ (ne_eqb b 10 (λ e. omega arith)) (ne_eqb b 13 (λ e. omega arith))

pub returns-then-c-eq1 : goal.returns-then-c-eq1
returns-then-c-eq1 c = (laws.between_comment c.args.c c.args.b c.requires (omega arith) (above c.args.b (omega arith)) c.if-c-eq1.true, omega arith)

pub returns-else-c-eq1 : goal.returns-else-c-eq1
returns-else-c-eq1 c = (
  laws.between_token c.args.c c.args.b c.requires (omega arith) (above c.args.b (omega arith)) c.if-c-eq1.false ((λ e. omega arith), ((λ e. omega arith), ((λ e. omega arith), tt))),
  omega arith,
)

pub returns-then-ends_line : goal.returns-then-ends_line
returns-then-ends_line c = (laws.between_line c.args.c c.args.b c.requires (omega arith) (sym c.ends_line.ensures ∙ c.if-ends_line.true), omega arith)

pub returns-then-c-eq1-2 : goal.returns-then-c-eq1-2
returns-then-c-eq1-2 c = (laws.between_comment c.args.c c.args.b c.requires (omega arith) (sym c.ends_line.ensures ∙ c.if-ends_line.false) c.if-c-eq1-2.true, omega arith)

pub returns-then-b-eq32 : goal.returns-then-b-eq32
unfolding between betweens byte_class is_plain
returns-then-b-eq32 c = (laws.between_is c.args.c c.args.b 32 0 c.requires c.if-c-eq1-2.false refl c.if-b-eq32.true, omega arith)

pub returns-then-b-eq9 : goal.returns-then-b-eq9
unfolding between betweens byte_class is_plain
returns-then-b-eq9 c = (laws.between_is c.args.c c.args.b 9 0 c.requires c.if-c-eq1-2.false refl c.if-b-eq9.true, omega arith)

pub returns-then-b-eq35 : goal.returns-then-b-eq35
unfolding between betweens byte_class is_plain
returns-then-b-eq35 c = (laws.between_is c.args.c c.args.b 35 1 c.requires c.if-c-eq1-2.false refl c.if-b-eq35.true, omega arith)

pub returns : goal.returns
returns c = (laws.between_token c.args.c c.args.b c.requires (omega arith) (sym c.ends_line.ensures ∙ c.if-ends_line.false) c.if-c-eq1-2.false (c.if-b-eq32.false, (c.if-b-eq9.false, (c.if-b-eq35.false, tt))), omega arith)
