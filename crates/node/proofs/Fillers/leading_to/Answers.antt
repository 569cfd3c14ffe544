-- `Fillers::leading_to` meets its contract: a law for each way the rounds end.
use Rattle.node.specs.MarkLaws.{marking_start, marking_more, leads_stable, leads_none, leads_full}
use Rattle.node.proofs.Fillers.leading_to.Goals as goal

pub loop-init : goal.loop-init
loop-init c = marking_start _ _ _ _ _ _ _ c.atoms_into-atoms.ensures

pub loop-preserved : goal.loop-preserved
loop-preserved c = marking_more _ _ _ _ _ _ _ _ _ c.loop.invariant _ c.having.ensures _ c.if-more-marked.false c.atoms_into-atoms-in-loop.ensures

pub returns-after-loop : goal.returns-after-loop
returns-after-loop c = (leads_full _ _ _ _ _ _ _ _ _ c.loop.invariant c.loop-test.false, c.loop.invariant.into)

pub returns-then-atoms-eq0 : goal.returns-then-atoms-eq0
returns-then-atoms-eq0 c = (leads_none _ _ _ _ _ _ _ _ _ c.loop.invariant c.if-atoms-eq0.true, c.loop.invariant.into)

pub returns-then-more-marked : goal.returns-then-more-marked
returns-then-more-marked c = (leads_stable _ _ _ _ _ _ _ _ _ c.loop.invariant _ c.having.ensures c.if-more-marked.true, c.loop.invariant.into)
