-- `Fillers::leading_to` meets its contract. The invariant: what is marked leads to the mask, and each round marked more.
use Rattle.std.proofs.Common.{length}
use Rattle.node.specs.Marks.{Marking}
use Rattle.node.proofs.Fillers.leading_to.Given as goal

abbrev pub invariant-loop : goal.invariant-loop
invariant-loop l = Marking l.self.masks.now l.self.constants (length l.self.masks.now) l.chosen (length l.chosen) l.mask l.marked l.atoms l.index
