-- `order::BitsIterator::next` meets its contract: the zeros below the lowest bit are counted, and a mask without its lowest bit has fewer.
use Rattle.std.proofs.Common.{refl, rules}
use Rattle.order.proofs.LowestLaws.{next_found, less_ones}
use Rattle.order.proofs.BitsIterator.next.Goals as goal

pub returns-clause-steps : goal.returns-clause-steps
returns-clause-steps c = (next_found _ (search rules) c.if-self-eq0.false _ c.low_zeros-k.ensures, refl)

pub returns-clause-goes : goal.returns-clause-goes
returns-clause-goes c =
    record { on = λ f. (tt, tt, less_ones _ _ (next_found _ (search rules) c.if-self-eq0.false _ c.low_zeros-k.ensures)); keeps = tt; rests = λ f. tt }
