-- How many fillers are no names, stop by stop.
--
--   Owning                                   == so many were before the byte `at` and the limit, and the rest is behind it
--   Walked                                   == the same of a walk
--   owning_start, owning_turn, owning_end, owning_limit == stop by stop
--   fresh_all_lem                                == all of them
use Rattle.std.specs.Prelude.{Some, None}
use mathlib.Core.Path.{◌≡◌, refl, sym, ap, ap₂, subst, ◌∙◌}
use mathlib.Core.Bool.{Bool, true, false, ◌&&◌, not}
use mathlib.Core.List.{List, [], ◌∷◌}
use Prim.Native.Nat.{ℕ, suc, ◌+◌, ◌-◌, ◌≤◌, ◌<◌}
use native.Mathlib.Omega.{arith}
use lib.Dec.{eqb}
use lib.ListN.{length}
use Rattle.owl.specs.Token.{place_at, kind_at, end_at}
use Rattle.owl.specs.Grammar.{is_name}
use Rattle.owl.specs.Mention.{sort_after, name_at, mentioned}
use Rattle.owl.specs.Restriction.{by_name, by_number, part_at, own_at, Standing, standing_at, standing, restrictions_of, own_one, owns_of}
use Rattle.owl_name.specs.Declarations.{one_if}
use Rattle.owl_name.specs.declared.walks.Does.{Does}
use Rattle.owl_name.specs.declared.walks.Does.TheVariants.{Nothing}
use Rattle.owl_name.specs.declared.walks.Stop.{Stop}
use Rattle.owl_name.specs.declared.walks.Walk.{Walk}
use Rattle.owl_name.specs.Walk.{does_number, passes, Goes}
use Rattle.owl_name.proofs.RestLaws.{stop_in, end_in, passes_is}
use Rattle.owl_name.specs.Ordered.{before}
use Rattle.owl_name.proofs.OrderedLaws.{one_if_le, before_none, before_take, before_all}
use Rattle.owl_row.specs.Rows.{place_in, rest_of, own_in, own_here, fresh_before}
use Rattle.owl_row.proofs.StandLaws.{turned, rest_start, rest_end, rest_turn, standing_rising, all_rising}

abbrev owns : List Standing → ℕ
owns l = owns_of (restrictions_of l)

pub record Owning (s : List ℕ) (limit at does count : ℕ) : Type 0 where
  pub within : at ≤ length s
  pub few : count ≤ at
  pub number : ℕ
  pub left : owns (before place_in limit (standing s)) ≡ count + owns (before place_in limit (rest_of s at does number))

pub record Walked (s : List ℕ) (limit : ℕ) (w : Walk) (count : ℕ) : Type 0 where
  pub text : w.text.now ≡ s
  pub owning : Owning s limit w.at (does_number w.does) count

pub owning_start : (s : List ℕ) (limit : ℕ) (u w : Walk) → u.text.now ≡ s → u.at ≡ 0 → u.does ≡ Nothing → w ≡ u → Walked s limit w 0
owning_start s limit u w t a d e =
    subst (λ (v : Walk). Walked s limit v 0) (sym e) (record {
      text = t;
      owning = subst (λ (i : ℕ). Owning s limit i (does_number u.does) 0) (sym a) (subst (λ (q : Does). Owning s limit 0 (does_number q) 0) (sym d) (record {
        within = omega arith;
        few = omega arith;
        number = 0;
        left = (let z : owns (before place_in limit (standing s)) ≡ owns (before place_in limit (rest_of s 0 0 0)) = ap (λ (l : List Standing). owns (before place_in limit l)) (rest_start s) in omega arith);
      }));
    })

-- nothing is left
ended : (s : List ℕ) (limit at does count : ℕ) (o : Owning s limit at does count) → before place_in limit (rest_of s at does o.number) ≡ [] → count ≡ fresh_before s limit
unfolding fresh_before owns_of
ended s limit at does count o e =
    let y : owns (before place_in limit (standing s)) ≡ count + owns (before place_in limit (rest_of s at does o.number)) = o.left in
    let w : owns (before place_in limit (rest_of s at does o.number)) ≡ 0 = ap owns e in
    omega arith

pub owning_end : (s : List ℕ) (limit : ℕ) (w v : Walk) (count : ℕ) → Walked s limit w count → Goes w None v → count ≡ fresh_before s limit
unfolding before
owning_end s limit w v count o k =
    ended s limit w.at (does_number w.does) count o.owning (ap (before place_in limit) (rest_end s w.at (does_number w.does) o.owning.number (end_in s w v o.text k)))

pub owning_limit : (s : List ℕ) (limit : ℕ) (w v : Walk) (x : Stop) (count : ℕ) → Walked s limit w count → Goes w (Some x) v → limit ≤ x.place → count ≡ fresh_before s limit
unfolding rest_of
owning_limit s limit w v x count o k l =
    ended s limit w.at (does_number w.does) count o.owning
    (before_none place_in limit (place_at s w.at) (length s) (rest_of s w.at (does_number w.does) o.owning.number)
    (standing_rising s (suc (length s - w.at)) w.at (does_number w.does) o.owning.number o.owning.within)
    (let d : x.place ≡ place_at s w.at = (stop_in s w v x o.text k).place in let y : limit ≤ place_at s w.at = omega arith in y))

-- a token's own, and those behind it
own_turn : (s : List ℕ) (limit at q n : ℕ) (rest : ℕ → List Standing) → place_at s at < limit →
    (m : ℕ) × (owns (before place_in limit (turned s at q n rest)) ≡ one_if (own_here s q (kind_at s at) (end_at s at)) + owns (before place_in limit (rest m)))
unfolding owns_of own_here one_if part_at
own_turn s limit at q n rest l = go (is_name (kind_at s at)) (eqb q 4)
  where
    one : (b : Bool) → own_one (elim b [ true ↦ by_name (name_at s (end_at s at)) | false ↦ by_number n ]) ≡ one_if (not b)
    one true = refl
    one false = refl

    none : owns (before place_in limit (rest n)) ≡ 0 + owns (before place_in limit (rest n))
    none = let z : owns (before place_in limit (rest n)) ≡ 0 + owns (before place_in limit (rest n)) = omega arith in z

    go : (a b : Bool) →
        (m : ℕ) × (owns (before place_in limit (elim (a && b) [ true ↦ standing_at s at n ∷ rest (n + own_at s (end_at s at)) | false ↦ rest n ]))
        ≡ one_if (a && (b && not (is_name (kind_at s (end_at s at))))) + owns (before place_in limit (rest m)))
    go true true = (
      n + own_at s (end_at s at),
      ap owns (before_take place_in limit (standing_at s at n) (rest (n + own_at s (end_at s at))) l)
          ∙ ap (λ (k : ℕ). k + owns (before place_in limit (rest (n + own_at s (end_at s at))))) (one (is_name (kind_at s (end_at s at)))),
    )
    go true false = (n, none)
    go false b = (n, none)

pub owning_turn : (s : List ℕ) (limit : ℕ) (w v : Walk) (x : Stop) (count a : ℕ) (b : Bool) → Walked s limit w count → Goes w (Some x) v → x.place < limit →
    b ≡ passes (own_in s x.end) x → a ≡ one_if b → Walked s limit v (count + a)
unfolding own_here
owning_turn s limit w v x count a b o k l f i =
    let here = stop_in s w v x o.text k in
    let at : ℕ = w.at in
    let does : ℕ = does_number w.does in
    let asked : Bool = own_here s does (kind_at s at) (end_at s at) in
    let same : passes (own_in s x.end) x ≡ asked =
    passes_is (own_in s x.end) s at does x here ∙ ap (λ (e : ℕ). is_name (kind_at s at) && own_in s e (mentioned does (name_at s at))) here.end
    in
    let turn = own_turn s limit at does o.owning.number (rest_of s (end_at s at) (sort_after does (kind_at s at))) (let p : x.place ≡ place_at s at = here.place in omega arith) in
    let own : a ≡ one_if asked = i ∙ ap one_if (f ∙ same) in
    let small : one_if asked ≤ 1 = one_if_le asked in
    let behind : v.at ≡ x.end = k.2 in
    let within : x.end ≤ length s = here.within in
    let goes : at < x.end = here.goes in record {
      text = k.1 ∙ o.text;
      owning = record {
        within = omega arith;
        few = (let y : count ≤ at = o.owning.few in omega arith);
        number = turn.0;
        left =
            (let z : owns (before place_in limit (standing s)) ≡ count + owns (before place_in limit (rest_of s at does o.owning.number)) = o.owning.left in
            let y : owns (before place_in limit (rest_of s at does o.owning.number)) ≡ one_if asked + owns (before place_in limit (rest_of s (end_at s at) (sort_after does (kind_at s at)) turn.0)) =
            ap (λ (k : List Standing). owns (before place_in limit k)) (rest_turn s at does o.owning.number o.owning.within here.some) ∙ turn.1 in
            let u : owns (before place_in limit (rest_of s (end_at s at) (sort_after does (kind_at s at)) turn.0)) ≡ owns (before place_in limit (rest_of s v.at (does_number v.does) turn.0)) =
            ap₂ (λ (i j : ℕ). owns (before place_in limit (rest_of s i j turn.0))) (sym (k.2 ∙ here.end)) (sym (k.3 ∙ ap (sort_after does) here.kind)) in
            omega arith);
      };
    }

pub fresh_all_lem : (s : List ℕ) → fresh_before s (length s) ≡ owns_of (restrictions_of (standing s))
unfolding fresh_before
fresh_all_lem s = ap owns (before_all place_in 0 (length s) (standing s) (all_rising s))
