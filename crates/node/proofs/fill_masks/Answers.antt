-- `node::fill_masks` meets its contract.
use Rattle.std.proofs.Common.{◌≡◌, ◌∙◌, ap, arith}
use Rattle.table.specs.declared.Header.{Header}
use Rattle.table.specs.Reading.{header_of}
use lib.ListN.{length-set}
use Rattle.table.specs.Layout.{IsRowFiller}
use Rattle.table.specs.LayoutLaws.{layout}
use Rattle.node.specs.MaskLaws.{each_set}
use Rattle.node.specs.CodeLaws.{filler_names, filler_says}
use Rattle.node.proofs.fill_masks.Goals as goal

pub variable_mask-requires : goal.variable_mask-requires
unfolding IsRowFiller
variable_mask-requires c = let h = (layout _ c.args.table.reads).few_variables in filler_names _ _ _ _ c.filler_of.ensures (omega arith)

pub bounds-fill-k : goal.bounds-fill-k
bounds-fill-k c = let z : c.header.result.e ≡ (header_of c.args.table.bytes.now).e = ap (λ (h : Header). h.e) c.header.ensures in let h = (layout _ c.args.table.reads).few_restrictions in omega arith

pub loop-k-preserved : goal.loop-k-preserved
unfolding IsRowFiller
loop-k-preserved c = let z : c.header.result.e ≡ (header_of c.args.table.bytes.now).e = ap (λ (h : Header). h.e) c.header.ensures in let h = (layout _ c.args.table.reads).few_restrictions in (simp length-set c.loop-k.invariant.0, each_set c.loop-k.invariant.1 (omega arith) (λ y. c.variable_mask.ensures y ∙ filler_says _ _ _ _ c.filler_of.ensures y))
