-- `order::is_constant` is the test `is_constant`, by the kind of the code.
use Rattle.std.proofs.Common.{◌≡◌, refl, sym, ap, ◌∙◌, arith, ℕ}
use Rattle.table.specs.declared.Kind.{Kind}
use Rattle.table.specs.declared.Kind.TheVariants.{Top, Constant, Restriction, Variable, Other}
use Rattle.table.specs.contracts.KindPartialEq.TheImpl as eq
use Rattle.order.specs.Rule.{is_constant}
use Rattle.order.specs.Given.{filler_from_kind}
use Rattle.order.proofs.CodeLaws.{constant_kind}
use Rattle.order.proofs.is_constant.Goals as goal

eq_is : (x : Kind) (k : ℕ) → eq.eq-value.it x (Constant k) ≡ is_constant k (filler_from_kind x)
eq_is Top k = refl
eq_is (Constant i) k = refl
eq_is (Restriction i) k = refl
eq_is (Variable i) k = refl
eq_is Other k = refl

pub returns : goal.returns
returns c =
    c.eq.ensures
    ∙ ap (λ (k : ℕ). eq.eq-value.it c.kind_of.result (Constant k)) (omega arith)
    ∙ eq_is c.kind_of.result c.args.k
    ∙ constant_kind _ _ _ (sym c.kind_of.ensures)
