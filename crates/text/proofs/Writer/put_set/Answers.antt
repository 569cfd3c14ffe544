-- `text::Writer::put_set` meets its contract. No atom is written at first; each turn writes one more, where the set has it; at the end they are the set's text.
use Rattle.std.proofs.Common.{arith, sym, ◌∙◌, ◌≡◌}
use Rattle.el.specs.Table.{atoms}
use Rattle.table.specs.Reading.{table_of}
use Rattle.text.proofs.ListingLaws.{atoms_are, atoms_none, atoms_there, atoms_out, set_text_lem}
use Rattle.text.proofs.Writer.put_set.Goals as goal
use Rattle.text.proofs.Writer.put_set.Goals.{then-has_bit, else-has_bit}

pub loop-i-init : goal.loop-i-init
loop-i-init c = atoms_none _ _ _

pub has_bit-requires : goal.has_bit-requires
has_bit-requires c = omega (arith, (atoms_are _ c.args.table.reads _ _ _ c.header-header.ensures c.from.ensures c.from-2.ensures).1)

pub loop-i-preserved : goal.loop-i-preserved
loop-i-preserved c = (let l = c.loop-i in
    elim c.if-has_bit.branch [
      | then-has_bit w ↦ rw (w.self-is, w.later-is) (atoms_there _ _ l.i (sym c.has_bit.ensures ∙ w.if-has_bit.true) l.invariant.0 l.invariant.1 w.put_if.ensures w.put_atom.ensures)
      | else-has_bit w ↦ rw (w.self-is, w.later-is) (atoms_out _ _ l.i (sym c.has_bit.ensures ∙ w.if-has_bit.false) l.invariant.0 l.invariant.1)
    ])

pub returns : goal.returns
returns c = (let l = c.loop-i in
    let e : l.i ≡ atoms (table_of c.args.table.bytes.now) = omega (arith, (atoms_are _ c.args.table.reads _ _ _ c.header-header.ensures c.from.ensures c.from-2.ensures).0) in
    set_text_lem _ _ e l.invariant.0 l.invariant.1 c.put_if-2.ensures)
