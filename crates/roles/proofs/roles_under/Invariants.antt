-- `roles::roles_under` meets its contract. The invariant: the masks say the order over the role rows from row k on.
use Rattle.table.specs.Reading.{table_of}
use Rattle.roles.specs.Under.{UnderFrom}
use Rattle.roles.proofs.roles_under.Given as goal

abbrev pub invariant-loop-k : goal.invariant-loop-k
invariant-loop-k l = UnderFrom (table_of l.table.bytes.now) l.k l.under.mask
