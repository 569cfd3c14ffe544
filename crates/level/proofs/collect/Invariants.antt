-- `level::collect` meets its contract. The invariant: of the first n lines those that pass are listed.
use Rattle.level.specs.Level.{is_fresh, Listed}
use Rattle.level.proofs.collect.Given as goal

abbrev pub invariant-loop-n : goal.invariant-loop-n
invariant-loop-n l = Listed (is_fresh l.lines.mask l.back.marked l.near) l.n l.fresh l.few
