-- Laws of a sweep over siblings.
--
--   at_start, at_next == the loop of the sweep
--   at_child, at_chosen == what the test of the one at hand asks
--   swept_live, swept_over, swept_spent == its three ends
use Rattle.std.specs.Prelude.{◌≡◌, refl, Bool, false, List, ℕ, ◌+◌, ◌-◌, ◌≤◌, ◌<◌, T, length, get_or, take, set}
use Rattle.std.proofs.Math.Path.{sym}
use Rattle.std.proofs.Common.{ap, subst, ◌∙◌, add-zero, get_or-set_same, set-set}
use Rattle.std.proofs.Math.Bool.{true}
use native.Mathlib.Omega.{arith}
use Rattle.std.proofs.lemmas.List.{set-get_or}
use Rattle.bounds.specs.Bounds.{max_variables}
use Rattle.el.specs.Table.{Table, role_order}
use Rattle.el.specs.Walk.{dead}
use Rattle.table.specs.Reading.{reading, is_readable, table_of}
use Rattle.node.specs.declared.Prepared.{Prepared}
use Rattle.node.specs.declared.Sets.{Sets}
use Rattle.level.specs.declared.Level.{Level}
use Rattle.node.specs.MaskLaws.{next_below}
use Rattle.level.specs.declared.Halt.TheVariants.{Live, Over, Spent}
use Rattle.level.specs.Sweep.{sets_of, ChildGiven, sibling_of, own_of, dead_sibling, Passes, At, Sweeps}
use Rattle.level.specs.ChildLaws.{child_place, child_sibling}

pub at_start : {t : Table} {first : Sets} {last : ℕ} → own_of first ≤ last → At t first last 0 first
at_start {t} {first} {last} h =
    record {
      is = sym (ap (λ (l : List ℕ). sets_of l first.chosen) (ap (set first.set (first.chosen - 1)) (add-zero (own_of first)) ∙ set-get_or first.set (first.chosen - 1) 0));
      within = omega arith;
      dead_all = unfold Passes in λ j l. absurd (let z : ⊥ = omega arith in z);
    }

module _ {s : List ℕ} {p : Prepared} {level : Level} {first : Sets} (given : ChildGiven s p level first) (readable : T (is_readable (reading s))) (room : length first.set ≡ max_variables)
    {last passed : ℕ} {here : Sets} (at : At (table_of s) first last passed here) where
  pub at_child : ChildGiven s p level here
  at_child = subst (ChildGiven s p level) (sym at.is) (child_sibling given readable room (own_of first + passed))

  -- as many are chosen
  pub at_chosen : here.chosen ≡ first.chosen
  at_chosen = ap (λ (x : Sets). x.chosen) at.is

  fits : first.chosen - 1 < length first.set
  fits = let h = child_place given readable room in omega arith

  -- the set at hand
  own_here_lem : get_or here.set (first.chosen - 1) 0 ≡ own_of first + passed
  own_here_lem = ap (λ (x : Sets). get_or x.set (first.chosen - 1) 0) at.is ∙ get_or-set_same first.set (first.chosen - 1) (own_of first + passed) 0 fits

  module _ {x : ℕ} (reads : x ≡ get_or here.set (first.chosen - 1) 0) where
    x_is : x ≡ own_of first + passed
    x_is = reads ∙ own_here_lem

    x_within : x ≤ last
    x_within = let w : own_of first + passed ≤ last = at.within in let q = x_is in omega arith

    sibling_is : take here.chosen here.set ≡ take first.chosen (sibling_of first x)
    sibling_is = ap (λ (z : Sets). take z.chosen z.set) at.is ∙ ap (λ (y : ℕ). take first.chosen (sibling_of first y)) (sym x_is)

    answer_is : (b r : Bool) → b ≡ dead (role_order (table_of s)) (table_of s) (take here.chosen here.set) → b ≡ r → dead_sibling (table_of s) first x ≡ r
    answer_is b r e f = unfold dead_sibling in (ap (dead (role_order (table_of s)) (table_of s)) (sym sibling_is) ∙ sym e ∙ f)

    pub swept_live : {most : ℕ} {b : Bool} → passed < most → b ≡ dead (role_order (table_of s)) (table_of s) (take here.chosen here.set) → b ≡ false
        → Sweeps (table_of s) first last most (record { end = Live; passed = passed + 1; at = x })
    swept_live {most} {b} h e f =
        record { few = omega arith; within = x_within; ends = (passed, refl, x_is, at.dead_all, answer_is b false e f) }

    pub swept_over : {most : ℕ} {b : Bool} → passed < most → b ≡ dead (role_order (table_of s)) (table_of s) (take here.chosen here.set) → b ≡ true → last ≤ x
        → Sweeps (table_of s) first last most (record { end = Over; passed = passed + 1; at = x })
    swept_over {most} {b} h e f l =
        record { few = omega arith; within = x_within; ends = (passed, refl, x_is, at.dead_all, answer_is b true e f, l) }

    pub swept_spent : {most : ℕ} → passed ≡ most → Sweeps (table_of s) first last most (record { end = Spent; passed = most; at = x })
    swept_spent {most} e =
        record { few = omega arith; within = x_within; ends = (refl, (let q = x_is in omega arith), subst (Passes (table_of s) first) e at.dead_all) }

    pub at_next : {b : Bool} → b ≡ dead (role_order (table_of s)) (table_of s) (take here.chosen here.set) → b ≡ true → x < last
        → At (table_of s) first last (passed + 1) (record { set = set here.set (first.chosen - 1) (x + 1); chosen = here.chosen })
    at_next {b} e f l =
        record {
          is = ap (λ (z : Sets). sets_of (set z.set (first.chosen - 1) (x + 1)) z.chosen) at.is
              ∙ ap (λ (z : List ℕ). sets_of z first.chosen) (set-set first.set (first.chosen - 1) (own_of first + passed) (x + 1)
              ∙ ap (set first.set (first.chosen - 1)) (let q = x_is in let z : x + 1 ≡ own_of first + (passed + 1) = omega arith in z));
          within = let q = x_is in omega arith;
          dead_all = unfold Passes in next_below at.dead_all (ap (dead_sibling (table_of s) first) (sym x_is) ∙ answer_is b true e f);
        }
