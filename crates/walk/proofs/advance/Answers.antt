-- `walk::advance` meets its contract: one law for each end of the sweep.
use Rattle.std.proofs.Common.{◌≡◌, ◌≤◌, ℕ, refl, subst, sym, ap₂, arith, rules, length}
use Rattle.bounds.specs.Bounds.{max_variables}
use Rattle.el.specs.Table.{Table}
use Rattle.node.specs.DeadLaws.{made_fillers}
use Rattle.level.specs.Sweep.{sets_of, sibling_of}
use Rattle.walk.specs.declared.Going.{Going}
use Rattle.walk.specs.declared.State.{State}
use Rattle.walk.specs.Step.{Advances}
use Rattle.walk.specs.GivenLaws.{given_variables, given_level, level_is, given_sweep}
use Rattle.walk.specs.SweptLaws.{advanced_live, advanced_over, advanced_spent}
use Rattle.walk.proofs.advance.Goals as goal
use Rattle.walk.proofs.advance.Goals.{in-Live, in-Over, in-Spent}

pub fillers-requires : goal.fillers-requires
fillers-requires c = made_fillers c.args.table.reads c.requires.0.prepares

pub level_of-level-requires : goal.level_of-level-requires
level_of-level-requires c = let p = c.requires in given_level p.0 c.args.table.reads _ p.1.in_range p.2

pub sweep-swept-requires : goal.sweep-swept-requires
sweep-swept-requires c = let p = c.requires in given_sweep p.0 c.args.table.reads _ p.1.in_range p.2 _ p.1.live_above (level_is p.0 c.args.table.reads _ p.1.in_range p.2 c.fillers.ensures.0 c.fillers.ensures.1 _ c.level_of-level.ensures)

pub offset_bounds-state-state : goal.offset_bounds-state-state
offset_bounds-state-state c = let p = c.requires in let v = given_variables p.0 c.args.table.reads in let f = p.1.in_range.few in search rules

pub bounds-state-state : goal.bounds-state-state
bounds-state-state c = let p = c.requires in let v = given_variables p.0 c.args.table.reads in let f = p.1.in_range.few in let s = p.2 in omega arith

pub enter-state-requires : goal.enter-state-requires
enter-state-requires c = let p = c.requires in let v = given_variables p.0 c.args.table.reads in let f = p.1.in_range.few in (v.1, omega arith)

pub next_node-state-requires : goal.next_node-state-requires
next_node-state-requires c = let p = c.requires in let v = given_variables p.0 c.args.table.reads in let f = p.1.in_range.few in (omega arith, p.0.narrow)

-- the state as the arms of the match left it
left : {t : Table} {from : State} {end : ℕ} {g h : Going} {x y : State} → g ≡ h → x ≡ y
    → Advances t from end (record { going = h; sets = y.sets; count = y.count }) → Advances t from end (record { going = g; sets = x.sets; count = x.count })
left {t} {from} {end} p q a = subst (Advances t from end) (sym (ap₂ (λ (g : Going) (x : State). record { going = g; sets = x.sets; count = x.count }) p q)) a

pub returns : goal.returns
returns c =
    let p = c.requires in let g = p.0 in let sets = c.args.state.now.sets in let swept = c.sweep-swept.result in
    let n : length sets.set ≡ max_variables = search rules in let v = given_variables g c.args.table.reads in let f = p.1.in_range.few in
    let fits : sets.chosen ≤ length sets.set = omega arith in
    let here = sets_of (sibling_of sets swept.at) sets.chosen in
    elim c.match-swept.branch [
      | in-Live w ↦ left w.state2-is w.state-is (advanced_live _ _ g.width sets p.2 fits _ _ swept c.sweep-swept.ensures here refl refl _ _ _ w.in-Live.is (w.enter-state.ensures _ (sym v.0)))
      | in-Over w ↦ left w.state2-is w.state-is (advanced_over _ _ g.width sets p.2 fits _ _ swept c.sweep-swept.ensures here refl refl _ _ _ w.in-Over.is (w.next_node-state.ensures _ g.width))
      | in-Spent w ↦ left w.state2-is w.state-is (advanced_spent _ _ g.width sets p.2 fits _ _ swept c.sweep-swept.ensures here refl refl _ p.3 w.in-Spent.is)
    ]
