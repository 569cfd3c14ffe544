-- A text that is shorter than the word is not the word; what is left of the two says whether the run is.
use Rattle.std.proofs.Common.{◌≡◌, ◌≤◌, ◌<◌, sym, ap, ◌∙◌, not, ltb, length, get_or, arith}
use borrow.Author.Tests.{eq-eqb}
use Rattle.el.specs.TestLaws.{is_true, every_of_at}
use Rattle.owl.specs.Token.{byte_class}
use Rattle.owl_token.proofs.RunLaws as laws
use Rattle.owl_token.proofs.is_word.Goals as goal

pub returns-then-s-w : goal.returns-then-s-w
returns-then-s-w c = sym (laws.word_long c.args.s.now c.args.w.now (omega arith))

pub returns-then-s-i : goal.returns-then-s-i
returns-then-s-i c =
    let s = c.args.s.now in
    let w = c.args.w.now in
    let i = c.loop-i.i in
    let h : i < length s = omega arith in
    let l : i < length w = omega arith in
    sym (c.loop-i.invariant.2 ∙ laws.word_off s w i h l c.if-s-i.true)

pub loop-i-preserved : goal.loop-i-preserved
loop-i-preserved c =
    let s = c.args.s.now in
    let w = c.args.w.now in
    let i = c.loop-i.i in
    let h : i < length s = omega arith in
    let l : i < length w = omega arith in
    (omega arith, omega arith, c.loop-i.invariant.2 ∙ laws.word_on s w i h l c.if-s-i.false (is_true (ltb (byte_class (get_or w i 0)) 5) (every_of_at (λ b. ltb (byte_class b) 5) w i 0 c.requires l)))

pub returns-then-s-w-2 : goal.returns-then-s-w-2
returns-then-s-w-2 c =
    let s = c.args.s.now in
    let w = c.args.w.now in
    let i = c.loop-i.i in
    let h : length s ≤ i = omega arith in
    let l : length w ≤ i = omega arith in
    eq-eqb (length s) (length w) (omega arith) ∙ sym (c.loop-i.invariant.2 ∙ laws.word_end s w i h l)

pub returns-else-s-w-2 : goal.returns-else-s-w-2
returns-else-s-w-2 c =
    let s = c.args.s.now in
    let w = c.args.w.now in
    let i = c.loop-i.i in
    let h : i < length s = omega arith in
    let l : length w ≤ i = omega arith in
    let e : length w ≡ i = omega arith in
    ap not (c.in_run.ensures ∙ ap (λ i. ltb (byte_class (get_or s i 0)) 5) e) ∙ sym (c.loop-i.invariant.2 ∙ laws.word_stop s w i h l)
