-- The invariant: the run and its shape from the start are those passed and those from here.
use Rattle.std.proofs.Common.{◌+◌, sym, ◌∙◌, arith}
use Rattle.owl_token.specs.Run.{class_number, class_number_below, shape_number, shape_number_below}
use Rattle.owl_token.proofs.RunLaws as laws
use Rattle.owl_token.proofs.run_at.Goals as goal
use Rattle.owl_token.proofs.run_at.Goals.{After-plain_count-end}

-- after a plain byte and those behind it
plain : (c : After-plain_count-end) → laws.Running c.args.s.now c.args.at (c.loop-end.end + 1 + c.plain_count-end.result) (shape_number c.shape_after-shape.result)
plain c =
    laws.running_plain c.args.s.now c.args.at (c.loop-end.end + 1) (shape_number c.loop-end.shape) _ _ (shape_number_below c.loop-end.shape)
    c.shape_after-shape.ensures c.plain_count-end.ensures
    (laws.running_on c.args.s.now c.args.at c.loop-end.end (shape_number c.loop-end.shape) 0 _ (omega arith) (laws.plain_class _ (sym c.is_plain.ensures ∙ c.if-is_plain.true))
    (omega arith) c.shape_after-shape.ensures c.loop-end.invariant)

pub overflow_add-end-then-is_plain : goal.overflow_add-end-then-is_plain
overflow_add-end-then-is_plain c = omega (arith, (plain c).1)

pub loop-end-preserved-then-is_plain : goal.loop-end-preserved-then-is_plain
loop-end-preserved-then-is_plain c = plain c

pub loop-end-preserved : goal.loop-end-preserved
loop-end-preserved c =
    laws.running_on c.args.s.now c.args.at c.loop-end.end (shape_number c.loop-end.shape) (class_number c.odd_class.result) _ (omega arith) c.odd_class.ensures
    (omega (arith, class_number_below c.odd_class.result)) c.shape_after-shape-then-in_run.ensures c.loop-end.invariant

pub returns-else-in_run : goal.returns-else-in_run
returns-else-in_run c = laws.running_stop c.args.s.now c.args.at c.loop-end.end (shape_number c.loop-end.shape) (omega arith) (sym c.in_run.ensures ∙ c.if-in_run.false) c.loop-end.invariant

pub returns-after-loop-end : goal.returns-after-loop-end
returns-after-loop-end c = laws.running_end c.args.s.now c.args.at c.loop-end.end (shape_number c.loop-end.shape) (omega arith) c.loop-end.invariant
