-- `node::variable_mask` meets its contract: by the kind of the code.
use Rattle.std.proofs.Common.{refl, sym, ◌∙◌, arith}
use Rattle.node.specs.Mask.{Names}
use Rattle.node.specs.CodeLaws.{named_other, named_one}
use Rattle.node.proofs.variable_mask.Goals as goal

pub overflow_shl-result : goal.overflow_shl-result
unfolding Names
overflow_shl-result c = let h = c.requires _ (sym c.kind_of.ensures ∙ c.in-Variable.is) in omega arith

pub returns-in-Variable : goal.returns-in-Variable
unfolding Names
returns-in-Variable c = let q = sym c.kind_of.ensures ∙ c.in-Variable.is in let h = c.requires _ q in named_one _ _ _ q refl (omega arith)

pub returns-in_default : goal.returns-in_default
returns-in_default c = named_other _ (λ k q. c.in_default.not-Variable k (c.kind_of.ensures ∙ q))
