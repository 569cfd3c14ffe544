-- `table::kind_of` meets its contract: a law for each range.
use native.Mathlib.Omega.{arith}
use Rattle.table.specs.CodeLaws.{kind_top, kind_constant, kind_restriction, kind_variable, kind_other}
use Rattle.table.proofs.kind_of.Goals as goal

pub returns-in-0 : goal.returns-in-0
returns-in-0 c = kind_top _ c.in-0.is

pub returns-in_default : goal.returns-in_default
returns-in_default c = kind_other _ (omega arith) (omega arith)

pub returns-in-32-to-63 : goal.returns-in-32-to-63
returns-in-32-to-63 c = kind_constant _ (omega arith) (omega arith)

pub returns-in-64-to-95 : goal.returns-in-64-to-95
returns-in-64-to-95 c = kind_restriction _ (omega arith) (omega arith)

pub returns-in-96-to-255 : goal.returns-in-96-to-255
returns-in-96-to-255 c = kind_variable _ (omega arith)
