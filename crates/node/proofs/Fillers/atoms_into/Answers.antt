-- `Fillers::atoms_into` meets its contract.
use Rattle.std.proofs.Common.{ap, ◌∙◌, arith}
use Rattle.bounds.specs.Bounds.{set_bits}
use Rattle.el.specs.Test.{bit}
use Rattle.node.specs.MarkLaws.{atoms_start, atoms_more, atoms_skip, atoms_whole}
use Rattle.node.proofs.Fillers.atoms_into.Goals as goal
use Rattle.node.proofs.Fillers.atoms_into.Goals.{then-own-mask-ne0, else-own-mask-ne0}

pub loop-k-init : goal.loop-k-init
loop-k-init c = atoms_start _ _ _

pub loop-k-preserved : goal.loop-k-preserved
loop-k-preserved c =
    let h = c.args.self.few_atoms in
    λ i. elim c.if-own-mask-ne0.branch [
      | then-own-mask-ne0 w ↦ ap (bit i) w.atoms-is ∙ atoms_more _ _ _ _ _ c.loop-k.invariant set_bits (omega arith) w.if-own-mask-ne0.true i
      | else-own-mask-ne0 w ↦ ap (bit i) w.atoms-is ∙ atoms_skip _ _ _ _ _ c.loop-k.invariant w.if-own-mask-ne0.false i
    ]

pub returns : goal.returns
returns c = atoms_whole _ _ _ _ _ c.loop-k.invariant _ (omega arith) c.loop-k-test.false
