-- `Fillers::settled_mask` meets its contract: what leads to a variable that is not chosen is not settled, all others are.
use Rattle.std.proofs.Common.{subst, arith, length, List, ℕ, take_all}
use Rattle.node.specs.Mask.{Masks}
use Rattle.el.specs.Walk.{settled}
use Rattle.node.specs.ReadyLaws.{all_settled}
use Rattle.node.proofs.Fillers.settled_mask.Goals as goal

pub returns : goal.returns
returns c = λ t known small fills.
    subst (λ (s : List ℕ). Masks (settled t s) c.others.result) (take_all (length c.args.chosen.now) c.args.chosen.now (omega arith))
    (all_settled t known small _ _ _ fills _ _ _ _ _ _ c.requires (omega arith) c.first_mask.ensures c.others-open.ensures c.leading_to.ensures.0 c.others.ensures)
