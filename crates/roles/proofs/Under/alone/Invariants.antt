-- `roles::Under::alone` meets its contract. The invariant: of the first s roles each lies under itself alone.
use Rattle.el.specs.Description.{same_role}
use Rattle.roles.specs.Under.{SaysTo}
use Rattle.roles.proofs.Under.alone.Given as goal

abbrev pub invariant-loop-s : goal.invariant-loop-s
invariant-loop-s l = SaysTo same_role l.s l.m-items
