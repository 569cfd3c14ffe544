-- `Fillers::atoms_into` meets its contract. The invariant: the atoms of the first k restrictions with a marked filler.
use Rattle.node.specs.Mask.{Masks}
use Rattle.node.specs.Marks.{atoms_to}
use Rattle.node.proofs.Fillers.atoms_into.Given as goal

abbrev pub invariant-loop-k : goal.invariant-loop-k
invariant-loop-k l = Masks (atoms_to l.self.masks.now l.self.constants l.mask l.k) l.atoms
