-- The three questions meet their contracts. The measure is three times the dependences left, one more for the conjunction's question and two more for that
-- of two conjunctions. The loops go over the bits of a mask, lowest first: what is asked of the whole mask is asked of what is left of it.
use Rattle.std.proofs.Common.{◌≡◌, ◌+◌, ◌*◌, not, get_or}
use Rattle.order.specs.Asked.{any_in, set_asked, filler_asked}
use Rattle.order.proofs.Asked.+below.Given as goal

abbrev pub decreases-each_below : goal.decreases-each_below
decreases-each_below l = 3 * l.depth + 2

abbrev pub decreases-set_below : goal.decreases-set_below
decreases-set_below l = 3 * l.depth + 1

abbrev pub decreases-filler_below : goal.decreases-filler_below
decreases-filler_below l = 3 * l.depth

abbrev pub invariant-each_below-loop-j : goal.invariant-each_below-loop-j
invariant-each_below-loop-j l =
    any_in l.missing (l.self.rows.now.c + l.self.rows.now.e) (λ i. not (set_asked l.self.rows.now l.self.set.now l.depth l.left i))
    ≡ any_in l.j-iterator.mask (l.self.rows.now.c + l.self.rows.now.e) (λ i. not (set_asked l.self.rows.now l.self.set.now l.depth l.left i))

abbrev pub invariant-set_below-loop-k : goal.invariant-set_below-loop-k
invariant-set_below-loop-k l =
    any_in l.initial.k-iterator.mask l.rows.e (λ i. filler_asked l.self.rows.now l.self.set.now l.depth (get_or l.rows.inner i 0) (get_or l.rows.inner l.row 0))
    ≡ any_in l.k-iterator.mask l.rows.e (λ i. filler_asked l.self.rows.now l.self.set.now l.depth (get_or l.rows.inner i 0) (get_or l.rows.inner l.row 0))
