-- `Fillers::is_acyclic` meets its contract.
use Rattle.std.proofs.Common.{arith, ◌≡◌, ◌∙◌, ℕ, List, ap, length, take_all}
use Rattle.el.specs.Assignment.{acyclic}
use Rattle.node.specs.Node.{node_of}
use Rattle.node.specs.StandLaws.{standing_first, standing_next, standing_last, standing_whole, cycle_says}
use Rattle.node.proofs.Fillers.is_acyclic.Goals as goal
use Rattle.node.proofs.Fillers.is_acyclic.Goals.{else-loop-test, then-loop-test+then-left-standing}

pub loop-init : goal.loop-init
loop-init c = standing_first _ _ _ _ _ _ _ c.first_mask-standing.ensures

pub loop-preserved : goal.loop-preserved
loop-preserved c = standing_next _ _ _ _ _ _ _ _ c.loop.invariant _ _ c.atoms_into.ensures c.having.ensures

-- the sets that are given are a node
whole : (chosen : List ℕ) → node_of (record { set = chosen; chosen = length chosen }) ≡ chosen
unfolding node_of
whole chosen = take_all (length chosen) chosen (omega arith)

pub returns : goal.returns
returns c = λ t fills few.
    let chosen = c.args.chosen.now in
    cycle_says t _ _ _ fills (record { set = chosen; chosen = length chosen }) few _ _ c.requires.1 (elim c.loop-test.branch [
      | else-loop-test w ↦ standing_whole _ _ _ _ _ _ _ _ c.loop.invariant (omega arith) w.loop-test.false
      | then-loop-test+then-left-standing w ↦ standing_last _ _ _ _ _ _ _ _ c.loop.invariant _ _ w.atoms_into.ensures w.having.ensures w.loop-test.true w.if-left-standing.true
    ]) ∙ ap (acyclic t) (whole chosen)
