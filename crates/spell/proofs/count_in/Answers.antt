-- `spell::count_in` meets its contract. The numbers that the filter lets through are the atoms of the set.
use Rattle.std.proofs.Common.{rules, tests, arith, ap, ◌∙◌, length}
use Rattle.std.proofs.lemmas.Iterator.{YieldsList-from_range}
use Rattle.std.proofs.lemmas.Iterator.Consumers.{YieldsList-from_filter, count_from_yields_List}
use Rattle.spell.proofs.SpellLaws.{atoms_filter}
use Rattle.spell.proofs.count_in.Goals as goal

pub returns : goal.returns
returns c =
    count_from_yields_List c.filter.result _ c.count.ensures.ran (YieldsList-from_filter _ _ (YieldsList-from_range 0 c.args.n c.args.n c.filter.ensures.source (omega arith)) c.filter.ensures.closure (λ x r q k. search (rules, tests)))
    ∙ ap length (atoms_filter c.args.set c.args.n)
