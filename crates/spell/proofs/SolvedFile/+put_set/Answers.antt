-- The five writers that call each other meet their contracts. The measure is five times the depth that is left, with one to four more on the way from a
-- variable to its set. The loop goes over the atoms of a set: those with a number below i are written, and `later` says whether there were any.
use Rattle.std.proofs.Common.{rules, arith, sym, ◌∙◌, ◌≡◌}
use Rattle.el.specs.Table.{atoms}
use Rattle.table.specs.Reading.{table_of}
use Rattle.spell.specs.PennedLaws.{penned_full}
use Rattle.spell.proofs.SpellLaws.{row_text_lem, filler_fits, fits_variable, filler_top, filler_constant, filler_variable, filler_other, atom_constant, atom_row, variable_named, variable_flat, variable_deep, atoms_none, atoms_there, atoms_out, set_text_lem}
use Rattle.spell.proofs.SolvedFile.+put_set.Goals as goal
use Rattle.spell.proofs.SolvedFile.+put_set.Goals.{put_set-then-has_bit, put_set-else-has_bit}

pub put_atom-returns-then-is_full : goal.put_atom-returns-then-is_full
put_atom-returns-then-is_full t c = penned_full _ _ (search rules)

pub put_atom-returns-then-i-constants : goal.put_atom-returns-then-i-constants
put_atom-returns-then-i-constants t c =
    atom_constant _ _ c.args.self.now.table.reads _ c.args.self.now.given.constants_at _ _ _ c.header.ensures c.from-constants.ensures c.if-i-constants.true c.put_name.ensures

pub put_atom-returns-else-i-constants : goal.put_atom-returns-else-i-constants
put_atom-returns-else-i-constants t c = atom_row _ _ c.args.self.now.table.reads _ _ _ _ c.header.ensures c.from-constants.ensures c.if-i-constants.false c.put_row.ensures

pub put_filler-put_variable-requires : goal.put_filler-put_variable-requires
put_filler-put_variable-requires t c = (omega arith, fits_variable _ _ _ _ c.requires c.in-Variable.ensures c.from-in-Variable.ensures)

pub put_filler-returns-in-Top : goal.put_filler-returns-in-Top
put_filler-returns-in-Top t c = filler_top _ _ _ c.in-Top.ensures c.put.ensures

pub put_filler-returns-in-Constant : goal.put_filler-returns-in-Constant
put_filler-returns-in-Constant t c = filler_constant _ _ _ c.args.self.now.given.constants_at _ c.in-Constant.ensures c.from.ensures c.put_name.ensures

pub put_filler-returns-in-Variable : goal.put_filler-returns-in-Variable
put_filler-returns-in-Variable t c = filler_variable _ _ _ _ c.in-Variable.ensures c.from-in-Variable.ensures c.put_variable.ensures

pub put_filler-returns-in-Restriction : goal.put_filler-returns-in-Restriction
put_filler-returns-in-Restriction t c = filler_other _ _ _ _ c.in-Restriction.is c.kind_of.ensures

pub put_row-put_filler-requires : goal.put_row-put_filler-requires
put_row-put_filler-requires t c = (omega arith, filler_fits _ _ _ c.filler_of.ensures)

pub put_row-returns : goal.put_row-returns
put_row-returns t c =
    row_text_lem _ _ _ c.args.self.now.given.roles_at _ _ _ _ c.from.ensures c.role_of.ensures c.filler_of.ensures c.put.ensures c.put_name.ensures c.put-2.ensures c.put_filler.ensures c.put-3.ensures

pub put_set-loop-i-init : goal.put_set-loop-i-init
put_set-loop-i-init t c = atoms_none _ _ _ _ _

pub put_set-loop-i-preserved : goal.put_set-loop-i-preserved
put_set-loop-i-preserved t c = (let l = c.loop-i in
    elim c.if-has_bit.branch [
      | put_set-then-has_bit w ↦ rw (w.sheet-is, w.later-is) (atoms_there _ _ _ _ l.i (sym c.has_bit.ensures ∙ w.if-has_bit.true) l.invariant.0 l.invariant.1 w.put_if.ensures w.put_atom.ensures)
      | put_set-else-has_bit w ↦ rw (w.sheet-is, w.later-is) (atoms_out _ _ _ _ l.i (sym c.has_bit.ensures ∙ w.if-has_bit.false) l.invariant.0 l.invariant.1)
    ])

pub put_set-returns : goal.put_set-returns
put_set-returns t c = (let l = c.loop-i in
    let e : l.i ≡ atoms (table_of c.args.self.now.table.bytes.now) = omega (arith, c.atoms-i-end.ensures.0) in
    set_text_lem _ _ _ _ _ e l.invariant.0 l.invariant.1 c.put_if-2.ensures)

pub put_variable-returns-then-x-self : goal.put_variable-returns-then-x-self
put_variable-returns-then-x-self t c = variable_named _ _ _ c.args.self.now.given.opens_at _ _ c.if-x-self.true c.put_name.ensures

pub put_variable-returns-then-depth-eq0 : goal.put_variable-returns-then-depth-eq0
put_variable-returns-then-depth-eq0 t c = variable_flat _ _ _ c.args.self.now.given.opens_at _ _ c.if-x-self.false c.if-depth-eq0.true c.put.ensures

pub put_variable-returns-else-depth-eq0 : goal.put_variable-returns-else-depth-eq0
put_variable-returns-else-depth-eq0 t c =
    variable_deep _ _ _ c.args.self.now.given.opens_at _ _ _ _ _ c.if-x-self.false c.if-depth-eq0.false c.set_in-set.ensures c.atoms.ensures.0 c.count_in-several.ensures c.put_if.ensures c.put_set.ensures c.put_if-else-depth-eq0.ensures
