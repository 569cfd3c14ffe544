-- `makrothel::finish` meets its contract: a law for each end of the walk.
use Rattle.makrothel.proofs.Laws.{finish_found, finish_nothing, finish_spent}
use Rattle.makrothel.proofs.finish.Goals as goal

pub returns-in-Solved : goal.returns-in-Solved
returns-in-Solved c = finish_found c.args.state.now _ _ c.in-Solved.is c.put_all.ensures

pub returns-in-Over : goal.returns-in-Over
returns-in-Over c = finish_nothing _ _ c.in-Over.is

pub returns-in-On : goal.returns-in-On
returns-in-On c = finish_spent _ _ c.in-On.is
