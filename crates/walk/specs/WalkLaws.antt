-- The walk: a run from the root with the budget as its share.
--
--   fresh_sound        == the root
--   walked_few, walked_found, walked_over, walked_spent, walked_outcome == the outcome, where the run ended
use Rattle.std.specs.Prelude.{◌≡◌, refl, List, [], ◌∷◌, ℕ, suc, ◌+◌, ◌-◌, ◌^◌, ◌≤◌}
use Rattle.std.proofs.Common.{sym, ap₂, subst, ◌∙◌}
use Rattle.std.proofs.Math.Path.{ap}
use native.Mathlib.Omega.{arith}
use Rattle.el.specs.Table.{Table, atoms, role_order}
use Rattle.el.specs.Walk.{Node, dead, ends, nodes, solved, nothing, budget, outcome}
use Rattle.el.specs.Along.{remaining, scan}
use Rattle.el.specs.ScanLaws.{scan_end, scan_spent, scan_solved, scan_moves, scan_means}
use Rattle.el.specs.StepLaws.{remaining_start, remaining_first}
use Rattle.node.specs.Node.{node_of}
use Rattle.walk.specs.declared.Going.{Going}
use Rattle.walk.specs.declared.Going.TheVariants.{Solved, On, Over}
use Rattle.walk.specs.declared.State.{State}
use Rattle.walk.specs.Step.{LiveAboveAt, Sound, rest, Leads, RunsOn, RunsAs, Runs, Fresh, outcome_as, outcome_of}
use Rattle.walk.specs.StepLaws.{goes_as}

module _ (t : Table) (root : State) (fresh : Fresh root) where
  pub fresh_sound : Sound t root.sets
  unfolding LiveAboveAt
  fresh_sound =
      let e : root.sets.chosen ≡ 0 = fresh.none_chosen in
      record {
        in_range = record { few = omega arith; sets = λ x h. absurd (let z : ⊥ = omega arith in z); clean = λ x _. fresh.empty x };
        live_above = λ j h. absurd (let z : ⊥ = omega arith in z);
      }

  module _ (b : ℕ) (state : State) (runs : Runs t root b state) where
    run : RunsOn t root.sets root.count b state
    run = subst (λ (g : Going). RunsAs t g root b state) fresh.going (unfold Runs in runs)

    pub walked_few : state.sets.chosen ≤ t.variables
    walked_few = (run.ran.goes.keeps.in_range fresh_sound.in_range).few

    counted : state.count ≡ run.many
    counted = let q : state.count ≡ root.count + run.many = run.ran.counted in let z : root.count ≡ 0 = fresh.none_counted in omega arith

    leads : (g : Going) → state.going ≡ g → Leads t (rest t root.sets) run.many g state.sets
    leads g e = (goes_as state.going g e run.ran.goes).leads

    first : (l : List Node) × (rest t state.sets ≡ node_of state.sets ∷ l)
    unfolding rest node_of
    first = remaining_first (dead (role_order t) t) (2 ^ atoms t) t.variables state.sets.set state.sets.chosen

    start : outcome (role_order t) t b ≡ scan (ends (role_order t) t) b 0 (rest t root.sets)
    unfolding rest nodes
    start =
        scan_means (role_order t) t b
        ∙ ap (scan (ends (role_order t) t) b 0) (remaining_start (dead (role_order t) t) (2 ^ atoms t) t.variables root.sets.set ∙ ap (remaining (dead (role_order t) t) (2 ^ atoms t) t.variables root.sets.set) (sym fresh.none_chosen))

    pub walked_found : state.going ≡ Solved → solved state.count (node_of state.sets) ≡ outcome (role_order t) t b
    walked_found e =
        let k = leads Solved e in let q : run.many ≡ k.0 + 1 = k.1 in let f : run.many ≤ b = run.few in
        sym (start ∙ scan_moves b 0 k.2 (omega arith)
        ∙ ap₂ (λ (x : ℕ) (l : List Node). scan (ends (role_order t) t) x (0 + k.0) l) (let z : b - k.0 ≡ suc (b - (k.0 + 1)) = omega arith in z) first.1
        ∙ scan_solved (ends (role_order t) t) (b - (k.0 + 1)) (0 + k.0) (node_of state.sets) first.0 k.3
        ∙ ap (λ (n : ℕ). solved n (node_of state.sets)) (let z : 0 + k.0 + 1 ≡ state.count = omega (arith, counted) in z))

    pub walked_over : state.going ≡ Over → nothing state.count ≡ outcome (role_order t) t b
    walked_over e =
        sym (start ∙ scan_moves b 0 (leads Over e).0 run.few ∙ scan_end (ends (role_order t) t) (b - run.many) (0 + run.many) [] refl
        ∙ ap nothing (let z : 0 + run.many ≡ state.count = omega (arith, counted) in z))

    pub walked_spent : state.going ≡ On → budget state.count ≡ outcome (role_order t) t b
    walked_spent e =
        let w : run.many ≡ b = run.whole e in
        sym (start ∙ scan_moves b 0 (leads On e) run.few ∙ ap (scan (ends (role_order t) t) (b - run.many) (0 + run.many)) first.1
        ∙ scan_spent (ends (role_order t) t) (b - run.many) (0 + run.many) (node_of state.sets) first.0 (omega arith)
        ∙ ap budget (let z : 0 + run.many ≡ state.count = omega (arith, counted) in z))

    -- the outcome, wherever the run ended
    pub walked_outcome : outcome_of state ≡ outcome (role_order t) t b
    unfolding outcome_of
    walked_outcome = at state.going refl
      where
        at : (g : Going) → state.going ≡ g → outcome_as g state.count (node_of state.sets) ≡ outcome (role_order t) t b
        at Solved e = walked_found e
        at On e = walked_spent e
        at Over e = walked_over e
