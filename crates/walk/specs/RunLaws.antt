-- Laws of a run.
--
--   ran_none, ran_on, runs_ended, runs_whole == a run of no node, of some after others, one that ended, and a whole one
--   runs_one, runs_more == a run by where its first node leads
--   running_start      == a run of which no node is looked at yet
--   running_first      == the loop of a run begins: the first node is looked at
--   running_fits, running_on, running_spent, running_ended, running_done == its turns and ends
--   runs_stays, runs_going == a run by its state
--   runs_twice         == A RUN AFTER A RUN IS ONE RUN
use Rattle.std.specs.Prelude.{◌≡◌, refl, ℕ, ◌+◌, ◌-◌, ◌≤◌, ◌<◌}
use Rattle.std.proofs.Common.{sym, ap, subst, ◌∙◌, add-zero, arith}
use Rattle.el.specs.Table.{Table}
use Rattle.el.specs.ScanLaws.{moves_none}
use Rattle.node.specs.declared.Sets.{Sets}
use Rattle.walk.specs.declared.Going.{Going}
use Rattle.walk.specs.declared.Going.TheVariants.{Solved, On, Over}
use Rattle.walk.specs.declared.State.{State}
use Rattle.walk.specs.Step.{Sound, rest, HasEnded, Goes, Looks, Advances, Ran, RunsOn, RunsAs, Runs, Running}
use Rattle.walk.specs.StepLaws.{ended_off, keeps_same, keeps_sound, goes_on, goes_as}

-- n nodes, and then some more
ran_on : {t : Table} {sets : Sets} {count i : ℕ} {g : Going} {mid : Sets} {j : ℕ} {to : State}
    → Goes t (rest t sets) i sets g mid → g ≡ On → Ran t mid (count + i) j to → Ran t sets count (i + j) to
ran_on {g = g} goes e ran = record { counted = let q = ran.counted in omega arith; goes = goes_on (goes_as g On e goes).leads goes.keeps ran.goes }

-- a run that ended, and one that went on below the first nodes
runs_ended : {t : Table} {sets : Sets} {count n share : ℕ} {to : State} → Ran t sets count n to → HasEnded to.going → n ≤ share → RunsOn t sets count share to
runs_ended {n = n} {to = to} ran off h = record { many = n; few = h; whole = λ o. absurd (ended_off to.going off o); ran = ran }

pub runs_whole : {t : Table} {sets : Sets} {count n share : ℕ} {to : State} → Ran t sets count n to → n ≡ share → RunsOn t sets count share to
runs_whole {n = n} ran e = record { many = n; few = omega arith; whole = λ _. e; ran = ran }

pub ran_none : (t : Table) (sets : Sets) (count : ℕ) → Ran t sets count 0 (record { going = On; sets = sets; count = count })
ran_none t sets count = record { counted = sym (add-zero count); goes = record { leads = moves_none refl; keeps = keeps_same } }

-- the loop of a run: no node is looked at, the first is, and then siblings are swept over
pub running_start : (t : Table) (first : Sets) (counted end : ℕ) → counted ≤ end → Sound t first → 0 < first.chosen
    → Running t first counted end (record { going = On; sets = first; count = counted })
running_start t first counted end h sound some = record { many = 0; ran = ran_none t first counted; few = h; sound = sound; parent = λ _. some }

pub running_first : {t : Table} {first to : Sets} {going : Going} (counted end : ℕ) → counted < end → Sound t first → Looks t first going to
    → Running t first counted end (record { going = going; sets = to; count = counted + 1 })
running_first counted end h sound looks =
    record { many = 1; ran = record { counted = refl; goes = looks.goes }; few = omega arith; sound = keeps_sound looks.goes.keeps sound; parent = looks.parent }

module _ {t : Table} {first : Sets} {counted end : ℕ} {state : State} (running : Running t first counted end state) where
  counted_is : state.count ≡ counted + running.many
  counted_is = running.ran.counted

  pub running_spent : (share : ℕ) → end ≡ counted + share → end ≤ state.count → RunsOn t first counted share state
  running_spent share e h = let q = counted_is in let f : state.count ≤ end = running.few in runs_whole running.ran (omega arith)

  pub running_done : (share : ℕ) → end ≡ counted + share → (state.going ≡ On → end ≤ state.count) → RunsOn t first counted share state
  running_done share e done =
      let q = counted_is in let f : state.count ≤ end = running.few in
      record { many = running.many; few = omega arith; whole = λ o. let d : end ≤ state.count = done o in omega arith; ran = running.ran }

  -- a sweep passed some siblings
  pub running_fits : {to : State} → Advances t state end to → (passed : ℕ) → to.count ≡ state.count + passed → (0 < passed) × (state.count + passed ≤ end)
  running_fits {to} advances passed e =
      let c : to.count ≡ state.count + advances.many = advances.ran.counted in
      let s : 0 < advances.many = advances.some in
      let f : state.count + advances.many ≤ end = advances.few in
      (omega arith, omega arith)

  module _ {to : State} (on : state.going ≡ On) (advances : Advances t state end to) where
    fits : (0 < advances.many) × (state.count + advances.many ≤ end)
    fits = running_fits advances advances.many advances.ran.counted

    ran : (g : Going) → to.going ≡ g → Ran t first counted (running.many + advances.many) (record { going = g; sets = to.sets; count = to.count })
    ran g e =
        let q = counted_is in
        let c : to.count ≡ state.count + advances.many = advances.ran.counted in
        record { counted = omega arith; goes = goes_on (goes_as state.going On on running.ran.goes).leads running.ran.goes.keeps (goes_as to.going g e advances.ran.goes) }

    pub running_on : Running t first counted end to
    running_on =
        let c : to.count ≡ state.count + advances.many = advances.ran.counted in
        let f = fits in
        record {
          many = running.many + advances.many;
          ran = record { counted = (ran to.going refl).counted; goes = (ran to.going refl).goes };
          few = omega arith;
          sound = keeps_sound advances.ran.goes.keeps running.sound;
          parent = advances.parent;
        }

    pub running_ended : (g : Going) → to.going ≡ g → HasEnded g → (share : ℕ) → end ≡ counted + share
        → RunsOn t first counted share (record { going = g; sets = to.sets; count = to.count })
    running_ended g e off share i = let q = counted_is in let f = fits in runs_ended (ran g e) off (omega arith)

-- the first node is looked at
module _ {t : Table} {sets : Sets} {going : Going} {to : Sets} (looks : Looks t sets going to) (count share : ℕ) (some : 0 < share) where
  pub runs_one : (g : Going) → going ≡ g → HasEnded g → RunsOn t sets count share (record { going = g; sets = to; count = count + 1 })
  runs_one g e off = runs_ended (record { counted = refl; goes = goes_as going g e looks.goes }) off some

  pub runs_more : {state : State} → going ≡ On → RunsOn t to (count + 1) (share - 1) state → RunsOn t sets count share state
  runs_more {state} e runs =
      let f : runs.many ≤ share - 1 = runs.few in
      record { many = 1 + runs.many; few = omega arith; whole = λ o. let w : runs.many ≡ share - 1 = runs.whole o in omega arith; ran = ran_on looks.goes e runs.ran }

-- a state that has ended stays, and any where no node is allowed; one that goes on is moved on
pub runs_stays : (t : Table) (state : State) (share : ℕ) → (state.going ≡ On → share ≡ 0) → Runs t state share state
unfolding Runs
runs_stays t state share h = at state.going refl
  where
    at : (g : Going) → state.going ≡ g → RunsAs t g state share state
    at Solved _ = refl
    at On e =
        let none = ran_none t state.sets state.count in
        runs_whole (record { counted = none.counted; goes = goes_as On state.going (sym e) none.goes }) (sym (h e))
    at Over _ = refl

pub runs_going : (t : Table) (state : State) (share : ℕ) (to : State) → state.going ≡ On → RunsOn t state.sets state.count share to → Runs t state share to
unfolding Runs
runs_going t state share to e r = subst (λ (x : Going). RunsAs t x state share to) (sym e) r

-- A RUN AFTER A RUN IS ONE RUN: a state moved on by a share, and what comes of it by another, is the state moved on by both
pub runs_twice : (t : Table) (from mid to : State) (a b : ℕ) → Runs t from a mid → Runs t mid b to → Runs t from (a + b) to
unfolding Runs
runs_twice t from mid to a b first second = at from.going refl first
  where
    -- a state that has ended stays
    stays : (g : Going) → mid.going ≡ g → HasEnded g → to ≡ mid
    stays Solved e _ = subst (λ (x : Going). RunsAs t x mid b to) e second
    stays On e z = absurd z
    stays Over e _ = subst (λ (x : Going). RunsAs t x mid b to) e second

    on : RunsOn t from.sets from.count a mid → (g : Going) → mid.going ≡ g → RunsOn t from.sets from.count (a + b) to
    on r Solved e = let f : r.many ≤ a = r.few in subst (RunsOn t from.sets from.count (a + b)) (sym (stays Solved e tt)) (runs_ended r.ran (subst HasEnded (sym e) tt) (omega arith))
    on r Over e = let f : r.many ≤ a = r.few in subst (RunsOn t from.sets from.count (a + b)) (sym (stays Over e tt)) (runs_ended r.ran (subst HasEnded (sym e) tt) (omega arith))
    on r On e =
        let s : RunsOn t mid.sets mid.count b to = subst (λ (x : Going). RunsAs t x mid b to) e second in
        let q : r.many ≡ a = r.whole e in let f : s.many ≤ b = s.few in
        record {
          many = r.many + s.many;
          few = omega arith;
          whole = λ o. let w : s.many ≡ b = s.whole o in omega arith;
          ran = ran_on r.ran.goes e (subst (λ (n : ℕ). Ran t mid.sets n s.many to) r.ran.counted s.ran);
        }

    at : (g : Going) → from.going ≡ g → RunsAs t g from a mid → RunsAs t g from (a + b) to
    at Solved e r = stays Solved (ap (λ (x : State). x.going) r ∙ e) tt ∙ r
    at On e r = on r mid.going refl
    at Over e r = stays Over (ap (λ (x : State). x.going) r ∙ e) tt ∙ r
