-- `roles::Under::widen` meets its contract. The invariant: the first roles, so many as the index says, have the row more, the others are as they were.
use Rattle.roles.specs.Under.{WidenedTo}
use Rattle.roles.proofs.Under.widen.Given as goal

abbrev pub invariant-loop-m : goal.invariant-loop-m
invariant-loop-m l = WidenedTo l.fn.self.mask l.narrower l.wider l.m-index l.m-items
