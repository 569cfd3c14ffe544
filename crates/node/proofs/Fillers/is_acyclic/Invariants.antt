-- `Fillers::is_acyclic` meets its contract. The invariant: the mask has what stands after so many rounds.
use Rattle.std.proofs.Common.{length}
use Rattle.el.specs.Standing.{standing}
use Rattle.node.specs.Mask.{Masks}
use Rattle.node.specs.Marks.{depends_in}
use Rattle.node.proofs.Fillers.is_acyclic.Given as goal

abbrev pub invariant-loop : goal.invariant-loop
invariant-loop l = Masks (standing (depends_in l.self.masks.now l.self.constants (length l.self.masks.now) l.chosen (length l.chosen)) l.v l.counter) l.standing
