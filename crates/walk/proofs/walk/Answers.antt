-- `walk::walk` meets its contract: it is a run from the root, with the budget as its share.
use Rattle.std.proofs.Common.{arith, rules}
use Rattle.table.specs.LayoutLaws.{layout}
use Rattle.walk.specs.WalkLaws.{fresh_sound, walked_few, walked_outcome}
use Rattle.walk.proofs.walk.Goals as goal

pub run-requires : goal.run-requires
run-requires c = let n = c.fresh.ensures.none_counted in (fresh_sound _ _ c.fresh.ensures, search rules)

pub returns : goal.returns
returns c = let f = c.fresh.ensures in let l = (layout _ c.args.table.reads).variables in let k = walked_few _ _ f _ _ c.run.ensures in
    (walked_outcome _ _ f _ _ c.run.ensures, omega arith)
