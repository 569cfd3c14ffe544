-- The theorems at concrete tables: their hypotheses are met, and the outcomes are computed from the definitions.
--
--   p5_cyclic                                   == X = {some r X} is cyclic, so it does not solve P5
--   entered_circle, chain_struck                == of three, where 0 depends on 1, 1 on 2 and 2 on 1, one leads to itself; where 2 depends on none, none does, for nothing stands at the end
--   p5_none, p12_none, p12_not_unifiable        == no assignment solves P5, none solves P12, and no substitution makes P12's lines true
--   p6_solved                                   == X = {A} solves P6
--   p6_local, p6_local_solves                   == the local assignment of `deep` is X = {A}, and locality says that it solves
--   ring_reaches, ring_apart                    == over the role rows (0, 2), (2, 1), (2, 0) role 0 reaches role 1, and role 1 does not reach role 0
--   p6_more, more_most                          == the tables grow
--   growth_keeps, growth_back_keeps, .._solving == growth applied
use Rattle.std.specs.Prelude.{◌≡◌, refl, Bool, true, false, ◌&&◌, ◌||◌, not, List, [], ◌∷◌, ℕ, zero, suc, ◌^◌, ◌<◌, T, eqb, ltb, length}
use Rattle.std.proofs.Common.{inl, inr, arith, eqb→eq, ltb→lt, T_not}
use Rattle.el.specs.Test.{any_below, all_below, every_of, bit}
use Rattle.el.specs.TestLaws.{or_cases, and_left, false_not, all_below_at}
use Rattle.el.specs.Description.{same_role}
use Rattle.el.proofs.OrderLaws.{same_role_refl, same_role_trans}
use Rattle.el.specs.Roles.{RoleRow, ReachesRole, reaches_role}
use Rattle.el.proofs.RoleLaws.{reaches_role_lem}
use Rattle.el.specs.Table.{Table, row_at, atoms, declared}
use Rattle.el.specs.Meaning.{holds, makes}
use Rattle.el.specs.Assignment.{Assignment, set_of, IsAssignment, depends, path, Reaches, reaches, Acyclic, acyclic, atom_under, conjoin, set_under, induced_to, induced, Solves, solves}
use Rattle.el.proofs.ReachLaws.{acyclic_means}
use Rattle.el.proofs.CircleLaws.{circle_some}
use Rattle.el.specs.Standing.{Stand, standing}
use Rattle.el.proofs.StandingLaws.{stands_below, struck_exactly}
use Rattle.el.specs.Locality.{number, list_to, local_set, local_assignment, IsLocal, Unifiable, Solvable}
use Rattle.el.proofs.LocalityLaws.{locality, local_iff, solves_means}
use Rattle.el.specs.Growth.{Grows}
use Rattle.el.proofs.GrowthLaws.{growth_back, growth_same, growth_back_solving, growth_same_solving}
use Rattle.el.specs.Examples.{p5, p6, p12, more, most, deep}

p5_declared : T (declared p5)
unfolding declared every_of
p5_declared = tt

p6_declared : T (declared p6)
unfolding declared every_of
p6_declared = tt

p12_declared : T (declared p12)
unfolding declared every_of
p12_declared = tt

more_declared : T (declared more)
unfolding declared every_of
more_declared = tt

most_declared : T (declared most)
unfolding declared every_of
most_declared = tt

----------------------------------------------------------------------------------------------------
-- P5: "Allowing a variable to depend on itself because the line then holds"

p5_test : acyclic p5 (1 ∷ []) ≡ false
unfolding acyclic reaches path depends all_below any_below bit set_of row_at
p5_test = refl

pub p5_cyclic : Acyclic p5 (1 ∷ []) → ⊥
p5_cyclic f = false_not (acyclic p5 (1 ∷ [])) p5_test ((acyclic_means p5 p5_declared (1 ∷ [])).1 f)

----------------------------------------------------------------------------------------------------
-- The finite fact behind the cycle test, at a circle of two that is entered from outside

abbrev pub entered : ℕ → ℕ → Bool
entered x y = (eqb x 0 && eqb y 1) || ((eqb x 1 && eqb y 2) || (eqb x 2 && eqb y 1))

entered_stands : Stand entered (λ x. ltb x 3)
entered_stands zero u = (1, tt, tt)
entered_stands (suc zero) u = (2, tt, tt)
entered_stands (suc (suc zero)) u = (1, tt, tt)
entered_stands (suc (suc (suc x))) u = absurd (let h : suc (suc (suc x)) < 3 = ltb→lt (suc (suc (suc x))) 3 u in let z : ⊥ = omega arith in z)

pub entered_circle : (z : ℕ) × T (ltb z 3) × Reaches entered z z
entered_circle = circle_some 3 entered (λ x. ltb x 3) (λ x u. ltb→lt x 3 u) entered_stands 0 tt

abbrev pub chain : ℕ → ℕ → Bool
chain x y = (eqb x 0 && eqb y 1) || (eqb x 1 && eqb y 2)

chain_low : (x y : ℕ) → T (chain x y) → x < 3
chain_low x y u =
    elim (or_cases (eqb x 0 && eqb y 1) (eqb x 1 && eqb y 2) u) [
      | inl w ↦ (let e : x ≡ 0 = eqb→eq x 0 (and_left (eqb x 0) (eqb y 1) w) in omega arith)
      | inr w ↦ (let e : x ≡ 1 = eqb→eq x 1 (and_left (eqb x 1) (eqb y 2) w) in omega arith)
    ]

chain_stands : (x : ℕ) → T (standing chain 3 3 x) → ⊥
unfolding standing any_below
chain_stands zero u = u
chain_stands (suc zero) u = u
chain_stands (suc (suc zero)) u = u
chain_stands (suc (suc (suc x))) u = (let h : suc (suc (suc x)) < 3 = stands_below chain 3 3 (suc (suc (suc x))) u in omega arith)

pub chain_struck : (x : ℕ) → Reaches chain x x → ⊥
chain_struck = (struck_exactly chain 3 chain_low).0 chain_stands

----------------------------------------------------------------------------------------------------
-- Where no assignment solves: the sets of the one variable are tried in turn

none_passes : (t : Table) → T (declared t) → t.variables ≡ 1 → T (all_below (2 ^ atoms t) (λ s. not (solves same_role t (s ∷ [])))) → Solvable same_role t → ⊥
unfolding Solvable IsAssignment every_of
none_passes t known one tried s = go s.0 s.1 ((solves_means same_role t known s.0).1 s.2)
  where
    go : (a : Assignment) → IsAssignment t a → T (solves same_role t a) → ⊥
    go [] is u = let e : length {A = ℕ} [] ≡ t.variables = is.0 in omega arith
    go (x ∷ []) is u =
        T_not (solves same_role t (x ∷ []))
        (all_below_at (2 ^ atoms t) x (λ s. not (solves same_role t (s ∷ []))) tried (ltb→lt x (2 ^ atoms t) (and_left (ltb x (2 ^ atoms t)) true is.1))) u
    go (x ∷ y ∷ a) is u = let e : suc (suc (length a)) ≡ t.variables = is.0 in omega arith

p5_tried : T (all_below (2 ^ atoms p5) (λ s. not (solves same_role p5 (s ∷ []))))
unfolding all_below any_below every_of bit same_role row_at atoms set_of depends path reaches acyclic atom_under conjoin set_under induced_to induced holds makes solves
p5_tried = tt

p12_tried : T (all_below (2 ^ atoms p12) (λ s. not (solves same_role p12 (s ∷ []))))
unfolding all_below any_below every_of bit same_role row_at atoms set_of depends path reaches acyclic atom_under conjoin set_under induced_to induced holds makes solves
p12_tried = tt

pub p5_none : Solvable same_role p5 → ⊥
p5_none = none_passes p5 p5_declared refl p5_tried

pub p12_none : Solvable same_role p12 → ⊥
p12_none = none_passes p12 p12_declared refl p12_tried

-- whatever description stands for X, of any depth and over any names
pub p12_not_unifiable : Unifiable same_role p12 → ⊥
p12_not_unifiable u = p12_none ((local_iff same_role same_role_refl same_role_trans p12 p12_declared).0 u)

----------------------------------------------------------------------------------------------------
-- P6: "A inside a restriction" is a candidate

p6_test : T (solves same_role p6 (1 ∷ []))
unfolding all_below any_below every_of bit same_role row_at atoms set_of depends path reaches acyclic atom_under conjoin set_under induced_to induced holds makes solves
p6_test = tt

pub p6_solved : IsAssignment p6 (1 ∷ []) × Solves same_role p6 (1 ∷ [])
unfolding IsAssignment atoms every_of
p6_solved = ((refl, tt), (solves_means same_role p6 p6_declared (1 ∷ [])).0 p6_test)

----------------------------------------------------------------------------------------------------
-- Locality at P6, with a substitution over names that the table does not declare

p6_deep : T (makes same_role p6 deep)
unfolding makes holds every_of same_role row_at
p6_deep = tt

pub p6_local : local_assignment same_role p6 deep ≡ 1 ∷ []
unfolding local_assignment list_to local_set number atoms atom_under same_role row_at
p6_local = refl

pub p6_local_solves : (a : Assignment) × IsAssignment p6 a × IsLocal same_role p6 deep a × Solves same_role p6 a
p6_local_solves = locality same_role same_role_refl same_role_trans p6 p6_declared deep p6_deep

----------------------------------------------------------------------------------------------------
-- Roles: more than one step, and a circle of roles

abbrev pub ring : List RoleRow
ring = record { narrower = 0; wider = 2 } ∷ record { narrower = 2; wider = 1 } ∷ record { narrower = 2; wider = 0 } ∷ []

pub ring_reaches : ReachesRole ring 0 1
unfolding reaches_role same_role
ring_reaches = (reaches_role_lem ring 0 1).0 tt

pub ring_apart : ReachesRole ring 1 0 → ⊥
unfolding reaches_role same_role
ring_apart h = (reaches_role_lem ring 1 0).1 h

----------------------------------------------------------------------------------------------------
-- Growth

pub p6_more : Grows p6 more
p6_more = record { constants = omega arith; roles = omega arith; variables = omega arith; role_rows = refl; rows = ([], refl); lines = ([], refl) }

pub more_most : Grows more most
more_most = record { constants = omega arith; roles = omega arith; variables = omega arith; role_rows = refl; rows = (_, refl); lines = (_, refl) }

pub growth_keeps : T (makes same_role more deep)
growth_keeps = growth_same same_role p6 more p6_declared p6_more refl deep p6_deep

pub growth_keeps_solving : Solvable same_role more
unfolding Solvable
growth_keeps_solving = growth_same_solving same_role p6 more p6_declared p6_more same_role_refl same_role_trans more_declared refl (1 ∷ [], p6_solved.0, p6_solved.1)

most_deep : T (makes same_role most deep)
unfolding makes holds every_of same_role row_at
most_deep = tt

pub growth_back_keeps : T (makes same_role more deep)
growth_back_keeps = growth_back same_role more most more_declared more_most deep most_deep

pub growth_back_keeps_solving : Solvable same_role more
unfolding Unifiable
growth_back_keeps_solving =
    growth_back_solving same_role more most more_declared more_most same_role_refl same_role_trans most_declared
    ((local_iff same_role same_role_refl same_role_trans most most_declared).0 (deep, most_deep))
