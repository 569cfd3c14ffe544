-- Laws of the steps of the walk, over a list of set numbers a and how many are chosen, k.
--
--   ended_off          == a walk that has ended does not go on
--   keeps_same, keeps_on, keeps_sound == what is so of a node, from one to the next
--   leads_on, goes_on  == some nodes, and then a step; `goes_as`, where it is known where that goes
--   set_within         == a set number put into a list
--   keeps_sibling, keeps_up == a sibling, and the node above
--   climbs_start, climbs_up, next_sibling, next_none == the loop of `next_node`
--   ends_dead          == a dead node does not end the walk
--   looks_dead, looks_solved, looks_down == what examining a node finds
use Rattle.std.specs.Prelude.{◌≡◌, refl, true, List, ◌∷◌, ℕ, ◌+◌, ◌-◌, ◌^◌, ◌≤◌, ◌<◌, length, get_or, take, set}
use Rattle.std.proofs.Common.{sym, ap₂, ◌∙◌, arith, get_or-set_same, get_or-set_other, pow_pos}
use Rattle.std.proofs.Math.Path.{ap, subst}
use Rattle.std.proofs.Math.Bool.{false}
use Rattle.std.proofs.Math.Decide.{ℕ_discrete}
use Rattle.std.proofs.lemmas.List.{take-set-le}
use borrow.Author.Tests.{eq-eqb, ne_eqb}
use Rattle.el.specs.Table.{Table, atoms, role_order}
use Rattle.el.specs.Walk.{Node, dead, full, ends}
use Rattle.el.specs.Along.{Moves}
use Rattle.el.specs.ScanLaws.{moves_none, moves_one, moves_on}
use Rattle.el.specs.StepLaws.{remaining_gone, remaining_down, afterwards_hit, afterwards_miss, afterwards_end}
use Rattle.node.specs.declared.Sets.{Sets}
use Rattle.node.specs.Node.{node_of}
use Rattle.node.specs.SetsLaws.{clean_next, clean_up, length_node}
use Rattle.level.specs.Sweep.{sets_of}
use Rattle.walk.specs.declared.Going.{Going}
use Rattle.walk.specs.declared.Going.TheVariants.{Solved, On, Over}
use Rattle.walk.specs.Step.{LiveAboveAt, InRange, LiveAbove, Sound, KeepsAt, Keeps, rest, after, HasEnded, Climbs, dead_at, Leads, Goes, Next, Looks}

----------------------------------------------------------------------------------------------------
-- Some nodes, and then a step

pub ended_off : (g : Going) → HasEnded g → g ≡ On → ⊥
ended_off g h e = subst HasEnded e h

pub leads_on : (t : Table) (i n : ℕ) (l m : List Node) (g : Going) (to : Sets) → Moves (ends (role_order t) t) i l m → Leads t m n g to → Leads t l (i + n) g to
leads_on t i n l m Solved to a k = let e : n ≡ k.0 + 1 = k.1 in (i + k.0, omega arith, moves_on a k.2, k.3)
leads_on t i n l m On to a k = moves_on a k
leads_on t i n l m Over to a k = (moves_on a k.0, k.1)

pub keeps_same : {t : Table} {a : List ℕ} {k : ℕ} → KeepsAt t a k a k
keeps_same = record { in_range = λ r. r; live_above = λ f. f }

keeps_on : {t : Table} {a : List ℕ} {k : ℕ} {b : List ℕ} {i : ℕ} {c : List ℕ} {j : ℕ} → KeepsAt t a k b i → KeepsAt t b i c j → KeepsAt t a k c j
keeps_on p q = record { in_range = λ r. q.in_range (p.in_range r); live_above = λ f. q.live_above (p.live_above f) }

pub keeps_sound : {t : Table} {from to : Sets} → Keeps t from to → Sound t from → Sound t to
keeps_sound p sound = record { in_range = p.in_range sound.in_range; live_above = p.live_above sound.live_above }

pub goes_on : {t : Table} {i n : ℕ} {l m : List Node} {from mid : Sets} {g : Going} {to : Sets} → Moves (ends (role_order t) t) i l m → Keeps t from mid → Goes t m n mid g to → Goes t l (i + n) from g to
goes_on {t} {i} {n} {l} {m} {g = g} {to} a keeps goes = record { leads = leads_on t i n l m g to a goes.leads; keeps = keeps_on keeps goes.keeps }

-- what a step says, where it is known where it goes
pub goes_as : {t : Table} {l : List Node} {n : ℕ} {from to : Sets} (g h : Going) → g ≡ h → Goes t l n from g to → Goes t l n from h to
goes_as {t} {l} {n} {from} {to} g h e goes = subst (λ (x : Going). Goes t l n from x to) e goes

----------------------------------------------------------------------------------------------------
-- A node's siblings, and the node above

set_within : (a : List ℕ) (i y w k : ℕ) → i < length a → y < w → ((x : ℕ) → x < k → (x ≡ i → ⊥) → get_or a x 0 < w) → (x : ℕ) → x < k → get_or (set a i y) x 0 < w
set_within a i y w k h l f x q = go (ℕ_discrete x i)
  where
    go : Dec (x ≡ i) → get_or (set a i y) x 0 < w
    go (yes e) = subst (λ (j : ℕ). get_or (set a i y) j 0 < w) (sym e) (subst (λ (z : ℕ). z < w) (sym (get_or-set_same a i y 0 h)) l)
    go (no e) = subst (λ (z : ℕ). z < w) (sym (get_or-set_other a i x y 0 e)) (f x q e)

module _ (t : Table) (a : List ℕ) (k : ℕ) (some : 0 < k) (fits : k ≤ length a) where
  live_set : (y j : ℕ) → j ≤ k → LiveAboveAt t a k → LiveAboveAt t (set a (k - 1) y) j
  unfolding LiveAboveAt
  live_set y j h f i l = ap (dead (role_order t) t) (take-set-le i a (k - 1) y (omega arith)) ∙ f i (omega arith)

  pub keeps_sibling : (y : ℕ) → y < 2 ^ atoms t → KeepsAt t a k (set a (k - 1) y) k
  keeps_sibling y h =
      record {
        in_range = λ r. record { few = r.few; sets = set_within a (k - 1) y (2 ^ atoms t) k (omega arith) h (λ x l _. r.sets x l); clean = clean_next a k y some r.clean };
        live_above = live_set y k (omega arith);
      }

  keeps_up : KeepsAt t a k (set a (k - 1) 0) (k - 1)
  keeps_up =
      record {
        in_range = λ r. record {
          few = let h : k ≤ t.variables = r.few in omega arith;
          sets = set_within a (k - 1) 0 (2 ^ atoms t) (k - 1) (omega arith) (pow_pos (atoms t)) (λ x h _. r.sets x (omega arith));
          clean = clean_up a k some fits r.clean;
        };
        live_above = live_set 0 (k - 1) (omega arith);
      }

pub climbs_start : (t : Table) (a : List ℕ) (k : ℕ) → Climbs t a k a k
climbs_start t a k = record { same = refl; keeps = keeps_same }

module _ (t : Table) (a₀ : List ℕ) (k₀ : ℕ) (a : List ℕ) (k : ℕ) (climbs : Climbs t a₀ k₀ a k) where
  module _ (some : 0 < k) (fits : k ≤ length a) (last : ℕ) (width : 2 ^ atoms t ≡ last + 1) where
    -- where the node has no sibling left, the walk goes up
    pub climbs_up : last ≤ get_or a (k - 1) 0 → Climbs t a₀ k₀ (set a (k - 1) 0) (k - 1)
    climbs_up h =
        record {
          same = climbs.same ∙ (unfold after in afterwards_miss (dead (role_order t) t) (2 ^ atoms t) t.variables a k some (omega arith));
          keeps = keeps_on climbs.keeps (keeps_up t a k some fits);
        }

    pub next_sibling : get_or a (k - 1) 0 < last → Next t (sets_of a₀ k₀) On (sets_of (set a (k - 1) (get_or a (k - 1) 0 + 1)) k)
    next_sibling h =
        record {
          goes = record {
            leads = moves_none (climbs.same ∙ (unfold after rest in afterwards_hit (dead (role_order t) t) (2 ^ atoms t) t.variables a k some fits (omega arith)));
            keeps = keeps_on climbs.keeps (keeps_sibling t a k some fits (get_or a (k - 1) 0 + 1) (omega arith));
          };
          parent = λ _. some;
        }

  pub next_none : k ≡ 0 → Next t (sets_of a₀ k₀) Over (sets_of a 0)
  next_none e =
      record {
        goes = record {
          leads = (moves_none (climbs.same ∙ (unfold after in afterwards_end (dead (role_order t) t) (2 ^ atoms t) t.variables a k e)), refl);
          keeps = subst (KeepsAt t a₀ k₀ a) e climbs.keeps;
        };
        parent = λ o. absurd (ended_off Over tt o);
      }

----------------------------------------------------------------------------------------------------
-- Examining the node (take k a)

module _ (t : Table) (s : Node) where
  pub ends_dead : dead (role_order t) t s ≡ true → ends (role_order t) t s ≡ false
  unfolding ends
  ends_dead e = rw e

  ends_live : dead (role_order t) t s ≡ false → length s ≡ t.variables → ends (role_order t) t s ≡ true
  unfolding ends full
  ends_live e h = rw (e, eq-eqb (length s) t.variables h)

  ends_part : dead (role_order t) t s ≡ false → (length s ≡ t.variables → ⊥) → ends (role_order t) t s ≡ false
  unfolding ends full
  ends_part e h = rw (e, ne_eqb (length s) t.variables h)

module _ (t : Table) (sets : Sets) where
  pub looks_dead : {going : Going} {to : Sets} → dead_at t sets ≡ true → Next t sets going to → Looks t sets going to
  unfolding dead_at
  looks_dead e next =
      let q : rest t sets ≡ node_of sets ∷ after t sets = unfold rest after node_of in remaining_gone (dead (role_order t) t) (2 ^ atoms t) t.variables sets.set sets.chosen e in
      record { goes = goes_on (moves_one (node_of sets) q (ends_dead t (node_of sets) e)) keeps_same next.goes; parent = next.parent }

  module _ (fits : sets.chosen ≤ length sets.set) (live : dead_at t sets ≡ false) where
    pub looks_solved : sets.chosen ≡ t.variables → Looks t sets Solved sets
    looks_solved h =
        record {
          goes = record { leads = (0, refl, moves_none refl, ends_live t (node_of sets) (unfold dead_at in live) (length_node sets fits ∙ h)); keeps = keeps_same };
          parent = λ o. absurd (ended_off Solved tt o);
        }

    pub looks_down : (to : Sets) → sets.chosen < length sets.set → sets.chosen < t.variables → to.set ≡ set sets.set sets.chosen 0 → to.chosen ≡ sets.chosen + 1
        → Looks t sets On to
    looks_down to h l p q =
        record {
          goes = record {
            leads = moves_one (node_of sets) down (ends_part t (node_of sets) here (λ z. let y : sets.chosen ≡ t.variables = sym (length_node sets fits) ∙ z in omega arith));
            keeps = subst (Keeps t sets) (sym is_child) (record { in_range = range; live_above = above });
          };
          parent = λ _. omega arith;
        }
      where
        first : Sets
        first = sets_of (set sets.set sets.chosen 0) (sets.chosen + 1)

        is_child : to ≡ first
        is_child = ap₂ (λ (a : List ℕ) (k : ℕ). sets_of a k) p q

        here : dead (role_order t) t (node_of sets) ≡ false
        here = unfold dead_at in live

        child_next : rest t sets ≡ node_of sets ∷ rest t first
        child_next = unfold rest node_of in remaining_down (dead (role_order t) t) (2 ^ atoms t) t.variables sets.set sets.chosen h l (pow_pos (atoms t)) here

        down : rest t sets ≡ node_of sets ∷ rest t to
        down = child_next ∙ ap (λ (x : Sets). node_of sets ∷ rest t x) (sym is_child)

        range : InRange t sets → InRange t first
        range r =
            record {
              few = omega arith;
              sets = set_within sets.set sets.chosen 0 (2 ^ atoms t) (sets.chosen + 1) h (pow_pos (atoms t)) (λ x k n. r.sets x (omega arith));
              clean = λ x k. get_or-set_other sets.set sets.chosen x 0 0 (omega arith) ∙ r.clean x (omega arith);
            }

        above : LiveAbove t sets → LiveAbove t first
        above f = unfold LiveAboveAt in (λ j k. ap (dead (role_order t) t) (take-set-le j sets.set sets.chosen 0 (omega arith)) ∙ at j k (ℕ_discrete j sets.chosen))
          where
            at : (j : ℕ) → j < sets.chosen + 1 → Dec (j ≡ sets.chosen) → dead (role_order t) t (take j sets.set) ≡ false
            at j k (yes i) = ap (λ (n : ℕ). dead (role_order t) t (take n sets.set)) i ∙ (unfold node_of in here)
            at j k (no i) = unfold LiveAboveAt in f j (omega arith)
