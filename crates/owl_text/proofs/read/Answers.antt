-- The invariant: so many tokens were read, and the array has the states of the block; the measure is what is left of the text.
use Rattle.std.proofs.Common.{◌≡◌, ◌+◌, ◌%◌, ◌/◌, ◌<◌, subst, ◌∙◌, ℕ, get_or, arith, rules}
use Rattle.owl_token.specs.Kind.{kind_number}
use Rattle.owl_text.specs.Levels.{next, opened, Updated}
use Rattle.owl_text.proofs.BlockLaws as blocks
use Rattle.owl_text.proofs.read.Goals as goal
use Rattle.owl_text.proofs.read.Goals.{After-max-most, else-depth-eq0-via-then-depth-eq0+else-levels-eq-DONE, else-depth-eq0-via-else-depth-eq0}

pub loop-at-init : goal.loop-at-init
loop-at-init c = record { same_block = search rules; so_far = blocks.reading_start c.args.s.now c.args.block }

pub returns-then-levels-eq-DONE : goal.returns-then-levels-eq-DONE
returns-then-levels-eq-DONE c =
    blocks.found_end c.args.s.now c.args.block c.loop-at.at c.loop-at.depth c.loop-at.most c.loop-at.levels.states c.loop-at.invariant.so_far c.args.best.at c.requires.0
    (kind_number c.token_at-t.result.kind) c.token_at-t.ensures.0 c.loop-at-test.true (search rules) _ (blocks.end_well _ _ _ c.if-depth-eq0.true c.if-levels-eq-DONE.true)

pub returns-else-depth-eq0 : goal.returns-else-depth-eq0
returns-else-depth-eq0 c =
    blocks.found_end c.args.s.now c.args.block c.loop-at.at c.loop-at.depth c.loop-at.most c.loop-at.levels.states c.loop-at.invariant.so_far c.args.best.at c.requires.0
    (kind_number c.token_at-t.result.kind) c.token_at-t.ensures.0 c.loop-at-test.true (search rules) _
    (blocks.end_early _ _ _ (λ d e. elim c.else-depth-eq0.branch [
      | else-depth-eq0-via-then-depth-eq0+else-levels-eq-DONE w ↦ w.if-levels-eq-DONE.false e
      | else-depth-eq0-via-else-depth-eq0 w ↦ w.if-depth-eq0.false d
    ]))

pub returns-in-Err : goal.returns-in-Err
returns-in-Err c =
    blocks.found_bad c.args.s.now c.args.block c.loop-at.at c.loop-at.depth c.loop-at.most c.loop-at.levels.states c.loop-at.invariant.so_far c.args.best.at c.requires.0
    (kind_number c.token_at-t.result.kind) c.token_at-t.ensures.0 c.loop-at-test.true (c.in-Err.ensures.judged.0 ∙ c.loop-at.invariant.same_block) (λ e. search rules) _ _
    c.in-Err.ensures.judged.1 c.token_at-t.ensures.1

pub loop-at-smaller : goal.loop-at-smaller
loop-at-smaller c =
    let z =
    blocks.goes c.args.s.now c.args.block c.loop-at.at c.loop-at.depth c.loop-at.most c.loop-at.levels.states c.loop-at.invariant.so_far (kind_number c.token_at-t.result.kind)
    c.token_at-t.ensures.0 (λ e. search rules) _ c.token_at-t.ensures.2 in
    omega arith

pub loop-at-preserved : goal.loop-at-preserved
loop-at-preserved c =
    let same = c.loop-at.invariant.same_block in
    let kept = c.loop-at.levels.states in
    let depth = c.loop-at.depth in
    let k = kind_number c.token_at-t.result.kind in
    let turned =
    blocks.reading_turn c.args.s.now c.args.block c.loop-at.at depth c.loop-at.most kept c.loop-at.invariant.so_far k c.token_at-t.ensures.0 (λ e. search rules)
    c.step.new.self.states c.open.new.self.states
    (subst (λ (b : ℕ). Updated b depth (λ q. next q k) kept c.step.new.self.states) same c.in_default.ensures.judged.0)
    (subst (λ (b : ℕ). depth / 4096 ≡ b → next (get_or kept (depth % 4096) 0) k < 80) same c.in_default.ensures.judged.1)
    (subst (λ (b : ℕ). Updated b (depth + 1) (opened k) c.step.new.self.states c.open.new.self.states) (c.step.ensures.block ∙ same) c.open.ensures.begun)
    c.token_at-t.result.end c.deeper-depth.result c.max-most.result c.token_at-t.ensures.2 c.token_at-t.ensures.3 c.deeper-depth.ensures in
    record { same_block = c.open.ensures.block ∙ c.step.ensures.block ∙ same; so_far = turned (omega arith) (omega arith) }

pub returns : goal.returns
returns c =
    blocks.found_before c.args.s.now c.args.block c.loop-at.at c.loop-at.depth c.loop-at.most c.loop-at.levels.states c.loop-at.invariant.so_far c.args.best.at c.requires.0 _
    c.loop-at-test.false c.requires.1
