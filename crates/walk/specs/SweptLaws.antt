-- Laws of a sweep over siblings, and the step after it.
--
--   sibling_next, swept_moves == dead siblings, gone along
--   advanced_live, advanced_over, advanced_spent == a sweep by its end, and the step after it
use Rattle.std.specs.Prelude.{◌≡◌, refl, false}
use Rattle.std.proofs.Common.{sym, ap₂, ◌∙◌, add-zero, add-one, arith}
use Rattle.std.proofs.Math.Path.{ap, subst}
use Rattle.std.proofs.Math.Bool.{true}
use mathlib.Core.List.{List, ◌∷◌}
use Prim.Native.Nat.{ℕ, zero, suc, ◌+◌, ◌-◌, ◌^◌, ◌≤◌, ◌<◌}
use Rattle.std.proofs.Math.ListN.{length, get_or, take, set, length-set}
use Rattle.std.proofs.Math.Seq.{get_or-set_same, set-get_or, set-set}
use Rattle.el.specs.Table.{Table, atoms, role_order}
use Rattle.el.specs.Walk.{Node, dead, ends}
use Rattle.el.specs.Along.{remaining, Moves}
use Rattle.el.specs.ScanLaws.{moves_none, moves_one, moves_on}
use Rattle.el.specs.StepLaws.{remaining_gone, afterwards_hit}
use Rattle.node.specs.declared.Sets.{Sets}
use Rattle.node.specs.Node.{node_of}
use Rattle.level.specs.declared.Swept.{Swept}
use Rattle.level.specs.declared.Halt.{Halt}
use Rattle.level.specs.declared.Halt.TheVariants as halt
use Rattle.level.specs.Sweep.{sets_of, sibling_of, own_of, dead_sibling, Passes, SweepsAs, Sweeps}
use Rattle.walk.specs.declared.Going.{Going}
use Rattle.walk.specs.declared.Going.TheVariants.{On}
use Rattle.walk.specs.Step.{Keeps, rest, dead_at, Goes, Next, Looks, Advances}
use Rattle.walk.specs.StepLaws.{keeps_sibling, goes_on, ends_dead, looks_dead}

module _ (t : Table) (last : ℕ) (width : 2 ^ atoms t ≡ last + 1) (sets : Sets) (some : 0 < sets.chosen) (fits : sets.chosen ≤ length sets.set) where
  abbrev sibling : ℕ → Sets
  sibling x = sets_of (sibling_of sets x) sets.chosen

  -- a dead sibling that is not the last one is followed by the next
  sibling_next : (x : ℕ) → x < last → dead_sibling t sets x ≡ true → rest t (sibling x) ≡ node_of (sibling x) ∷ rest t (sibling (x + 1))
  unfolding rest node_of dead_sibling
  sibling_next x h e =
      let q : get_or (sibling_of sets x) (sets.chosen - 1) 0 ≡ x = get_or-set_same sets.set (sets.chosen - 1) x 0 (omega arith) in
      remaining_gone (dead (role_order t) t) (2 ^ atoms t) t.variables (sibling_of sets x) sets.chosen e
      ∙ ap (λ (l : List Node). take sets.chosen (sibling_of sets x) ∷ l)
      (afterwards_hit (dead (role_order t) t) (2 ^ atoms t) t.variables (sibling_of sets x) sets.chosen some (let w : length (sibling_of sets x) ≡ length sets.set = length-set sets.set (sets.chosen - 1) x in omega arith) (omega arith)
      ∙ ap (λ (l : List ℕ). remaining (dead (role_order t) t) (2 ^ atoms t) t.variables l sets.chosen) (ap (λ (y : ℕ). set (sibling_of sets x) (sets.chosen - 1) (y + 1)) q ∙ set-set sets.set (sets.chosen - 1) x (x + 1)))

  -- i dead siblings, gone along
  swept_moves : (i : ℕ) → own_of sets + i ≤ last → Passes t sets i → Moves (ends (role_order t) t) i (rest t sets) (rest t (sibling (own_of sets + i)))
  swept_moves zero h p =
      moves_none (unfold rest in ap (λ (a : List ℕ). remaining (dead (role_order t) t) (2 ^ atoms t) t.variables a sets.chosen) (sym (ap (set sets.set (sets.chosen - 1)) (add-zero (own_of sets)) ∙ set-get_or sets.set (sets.chosen - 1) 0)))
  swept_moves (suc i) h p =
      subst (λ (n : ℕ). Moves (ends (role_order t) t) n (rest t sets) (rest t (sibling (own_of sets + suc i)))) (add-one i)
      (moves_on (swept_moves i (omega arith) (unfold Passes in λ j k. p j (omega arith)))
      (moves_one (node_of (sibling (own_of sets + i))) (sibling_next (own_of sets + i) (omega arith) here ∙ ap (λ (x : ℕ). node_of (sibling (own_of sets + i)) ∷ rest t (sibling x)) next)
      (ends_dead t (node_of (sibling (own_of sets + i))) (unfold node_of dead_sibling in here))))
    where
      here : dead_sibling t sets (own_of sets + i) ≡ true
      here = unfold Passes in p i (omega arith)

      next : own_of sets + i + 1 ≡ own_of sets + suc i
      next = omega arith

  -- a sweep until `end` nodes are examined at most, where `count` were, and the node `here` where it ended
  module _ (count end : ℕ) (swept : Swept) (sweeps : Sweeps t sets last (end - count) swept) (here : Sets)
      (set_is : here.set ≡ sibling_of sets swept.at) (chosen_is : here.chosen ≡ sets.chosen) where
    is_sibling : here ≡ sibling swept.at
    is_sibling = ap₂ (λ (a : List ℕ) (k : ℕ). sets_of a k) set_is chosen_is

    here_keeps : Keeps t sets here
    here_keeps = subst (Keeps t sets) (sym is_sibling) (keeps_sibling t sets.set sets.chosen some fits swept.at (let w : swept.at ≤ last = sweeps.within in omega arith))

    here_dead : dead_sibling t sets swept.at ≡ dead_at t here
    here_dead = unfold dead_sibling dead_at node_of in ap (λ (x : Sets). dead (role_order t) t (take x.chosen x.set)) (sym is_sibling)

    here_moves : (i : ℕ) → swept.at ≡ own_of sets + i → Passes t sets i → Moves (ends (role_order t) t) i (rest t sets) (rest t here)
    here_moves i e p =
        subst (λ (x : Sets). Moves (ends (role_order t) t) i (rest t sets) (rest t x)) (ap sibling (sym e) ∙ sym is_sibling)
        (swept_moves i (let w : swept.at ≤ last = sweeps.within in omega arith) p)

    -- what the sweep says, by its end
    as_ended : (x : Halt) → swept.end ≡ x → SweepsAs t sets last (end - count) x swept.passed swept.at
    as_ended x e = subst (λ (z : Halt). SweepsAs t sets last (end - count) z swept.passed swept.at) e sweeps.ends

    module _ (from going : Going) (to : Sets) where
      abbrev Advanced : Type 0
      Advanced = Advances t (record { going = from; sets = sets; count = count }) end (record { going = going; sets = to; count = count + swept.passed })

      -- i siblings are dead, and the one at hand is examined
      advanced : (i : ℕ) → swept.passed ≡ i + 1 → swept.at ≡ own_of sets + i → Passes t sets i → Looks t here going to → Advanced
      advanced i all e p looks =
          record {
            many = swept.passed;
            some = omega arith;
            few = let f : swept.passed ≤ end - count = sweeps.few in omega arith;
            ran = record { counted = refl; goes = subst (λ (n : ℕ). Goes t (rest t sets) n sets going to) (sym all) (goes_on (here_moves i e p) here_keeps looks.goes) };
            parent = looks.parent;
          }

      pub advanced_live : swept.end ≡ halt.Live → (dead_at t here ≡ false → Looks t here going to) → Advanced
      advanced_live e looks = let w = as_ended halt.Live e in advanced w.0 w.1 w.2 w.3 (looks (sym here_dead ∙ w.4))

      pub advanced_over : swept.end ≡ halt.Over → Next t here going to → Advanced
      advanced_over e next = let w = as_ended halt.Over e in advanced w.0 w.1 w.2 w.3 (looks_dead t here (sym here_dead ∙ w.4) next)

    -- all that were allowed are dead
    pub advanced_spent : (from : Going) → count < end → swept.end ≡ halt.Spent
        → Advances t (record { going = from; sets = sets; count = count }) end (record { going = On; sets = here; count = count + swept.passed })
    advanced_spent from below e =
        let w = as_ended halt.Spent e in
        let q : swept.passed ≡ end - count = w.0 in
        record {
          many = swept.passed;
          some = omega arith;
          few = omega arith;
          ran = record { counted = refl; goes = record { leads = here_moves swept.passed w.1 w.2; keeps = here_keeps } };
          parent = λ _. omega arith;
        }
