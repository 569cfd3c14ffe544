-- `node::having` meets its contract. The invariant: the mask has the variables below x whose sets have one of the atoms.
use Rattle.node.specs.Mask.{Picks}
use Rattle.node.specs.Marks.{has_one}
use Rattle.node.proofs.having.Given as goal

abbrev pub invariant-loop-x : goal.invariant-loop-x
invariant-loop-x l = Picks (has_one l.chosen l.atoms) l.x l.mask
