-- How many different names of a group are declared before a byte, token by token.
--
--   Counting       == the byte `at` was reached, and so many different names of the group stand before it and the limit
--   Walked         == a walk reached it
--   counting_start, counting_turn, counting_end, counting_limit == stop by stop
--   byte_one       == the number of a test
--   reaches_all, reaches_over == a count that stops where it is more than `most`
use Rattle.std.specs.Prelude.{Some, None}
use mathlib.Core.Path.{◌≡◌, refl, sym, ap, subst, ◌∙◌}
use mathlib.Core.Bool.{Bool, true, false, ◌&&◌}
use mathlib.Core.List.{List, [], ◌∷◌}
use Prim.Native.Nat.{ℕ, zero, suc, ◌+◌, ◌-◌, ◌≤◌, ◌<◌}
use native.Mathlib.Omega.{arith}
use mir.Val.{bool_byte}
use lib.Dec.{eqb, ltb}
use lib.ListN.{length}
use borrow.Author.Tests.{lt-ltb}
use Rattle.owl.specs.Naming.{same_name}
use Rattle.owl.specs.NamingLaws.{same_name_refl, same_name_means}
use Rattle.owl.specs.Token.{place_at, kind_at, end_at}
use Rattle.owl.specs.Grammar.{is_name}
use Rattle.owl.specs.Mention.{sort_after, name_at, Placed, mentioned, placed_at, placed, first_place}
use Rattle.owl_name.specs.declared.walks.Does.{Does}
use Rattle.owl_name.specs.declared.walks.Does.TheVariants.{Nothing}
use Rattle.owl_name.specs.declared.walks.Stop.{Stop}
use Rattle.owl_name.specs.declared.walks.Walk.{Walk}
use Rattle.owl_name.specs.Walk.{does_number, passes, StopAt, Goes}
use Rattle.owl_name.specs.Declarations.{rest_of, declares, declared_at, in_group, inside, place_in, name_in, first_in, different, Reaches, one_if}
use Rattle.owl_name.proofs.RestLaws.{rest_start, rest_end, rest_turn, token_goes, stop_in, end_in, passes_is}
use Rattle.owl_name.proofs.AddLaws.{idle_out, own_name}
use Rattle.owl_name.proofs.GroupLaws.{placed_rising, all_rising, inside_rising, inside_first}
use Rattle.owl_name.specs.Ordered.{before}
use Rattle.owl_name.proofs.OrderedLaws as ordered

abbrev Counted : List ℕ → ℕ → ℕ → ℕ → ℕ → ℕ → Type 0
Counted s g limit at does count = ordered.Counting place_in name_in same_name same_name_refl same_name_means (inside g (placed s)) limit at count (inside g (rest_of s at does))

pub record Counting (s : List ℕ) (g limit at does count : ℕ) : Type 0 where
  pub within : at ≤ length s
  pub counted : Counted s g limit at does count

pub record Walked (s : List ℕ) (g limit : ℕ) (w : Walk) (count : ℕ) : Type 0 where
  pub text : w.text.now ≡ s
  pub counting : Counting s g limit w.at (does_number w.does) count

pub counting_start : (s : List ℕ) (g limit : ℕ) (u w : Walk) → u.text.now ≡ s → u.at ≡ 0 → u.does ≡ Nothing → w ≡ u → Walked s g limit w 0
counting_start s g limit u w t a d e =
    subst (λ (v : Walk). Walked s g limit v 0) (sym e) (record {
      text = t;
      counting = subst (λ (i : ℕ). Counting s g limit i (does_number u.does) 0) (sym a) (subst (λ (q : Does). Counting s g limit 0 (does_number q) 0) (sym d) (record {
        within = omega arith;
        counted = ordered.counting_start place_in name_in same_name same_name_refl same_name_means (inside g (placed s)) (inside g (rest_of s 0 0)) limit (ap (inside g) (rest_start s));
      }));
    })

-- what is left has nothing to add
ended : (s : List ℕ) (g limit at does count : ℕ) → Counting s g limit at does count → before place_in limit (inside g (rest_of s at does)) ≡ [] → count ≡ different s g limit
unfolding different
ended s g limit at does count c e =
    ordered.counted place_in name_in same_name same_name_refl same_name_means (inside g (placed s)) limit at count (inside g (rest_of s at does)) c.counted e

pub counting_end : (s : List ℕ) (g limit : ℕ) (w v : Walk) (count : ℕ) → Walked s g limit w count → Goes w None v → count ≡ different s g limit
unfolding before inside
counting_end s g limit w v count c k =
    ended s g limit w.at (does_number w.does) count c.counting
    (ap (λ (l : List Placed). before place_in limit (inside g l)) (rest_end s w.at (does_number w.does) (end_in s w v c.text k)))

pub counting_limit : (s : List ℕ) (g limit : ℕ) (w v : Walk) (x : Stop) (count : ℕ) → Walked s g limit w count → Goes w (Some x) v → limit ≤ x.place → count ≡ different s g limit
unfolding rest_of
counting_limit s g limit w v x count c k l =
    ended s g limit w.at (does_number w.does) count c.counting
    (ordered.before_none place_in limit (place_at s w.at) (length s) (inside g (rest_of s w.at (does_number w.does)))
    (inside_rising g (place_at s w.at) (length s) (rest_of s w.at (does_number w.does)) (placed_rising s (suc (length s - w.at)) w.at (does_number w.does) c.counting.within))
    (let d : x.place ≡ place_at s w.at = (stop_in s w v x c.text k).place in let y : limit ≤ place_at s w.at = omega arith in y))

-- the number of a test
pub byte_one : (b : Bool) → bool_byte b ≡ one_if b
unfolding one_if
byte_one true = refl
byte_one false = refl

pub reaches_all : (s : List ℕ) (g limit most count : ℕ) → count ≡ different s g limit → Reaches s g limit most count
unfolding Reaches
reaches_all s g limit most count e = ((λ h. e), (λ h. omega arith))

pub reaches_over : (s : List ℕ) (g limit most : ℕ) (w : Walk) (count : ℕ) → Walked s g limit w count → most < count → Reaches s g limit most count
unfolding Reaches different
reaches_over s g limit most w count c l =
    let h : count ≤ different s g limit =
    ordered.counted_le place_in name_in same_name same_name_refl same_name_means (inside g (placed s)) limit w.at count (inside g (rest_of s w.at (does_number w.does))) c.counting.counted in
    ((λ z. absurd (let y : ⊥ = omega arith in y)), (λ z. omega arith))

-- a mention, in the group or not
mention_turn : (s : List ℕ) (g limit at does count to next : ℕ) (x : Placed) → Counting s g limit at does count → rest_of s at does ≡ x ∷ rest_of s to next → x.place < limit → at < to →
    Counted s g limit to next (count + one_if (in_group g x.mention && eqb (declared_at s x.mention.sort x.mention.name) x.place))
unfolding inside declared_at
mention_turn s g limit at does count to next x c e p h = go (in_group g x.mention) refl (ap (inside g) e)
  where
    rest : List Placed
    rest = inside g (rest_of s to next)

    go : (b : Bool) → in_group g x.mention ≡ b → inside g (rest_of s at does) ≡ elim b [ true ↦ x ∷ rest | false ↦ rest ] →
        Counted s g limit to next (count + one_if (b && eqb (declared_at s x.mention.sort x.mention.name) x.place))
    go true i d =
        let own = own_name g x.mention i in
        subst (λ (k : ℕ). Counted s g limit to next (count + one_if (eqb k x.place)))
        (inside_first g (length s) x.mention.name (placed s) own.1 ∙ ap (λ (k : ℕ). first_place (declares k x.mention.name) (length s) (placed s)) (sym own.0))
        (ordered.counting_next place_in name_in same_name same_name_refl same_name_means (inside g (placed s)) limit at count to (length s) (inside g (rest_of s at does)) rest x (all_rising s g) c.counted d p h)
    go false i d =
        ordered.counting_idle place_in name_in same_name same_name_refl same_name_means (inside g (placed s)) limit at count to (inside g (rest_of s at does)) rest c.counted d (omega arith)

turn : (s : List ℕ) (g limit at does count : ℕ) → Counting s g limit at does count → (kind_at s at ≡ 0 → ⊥) → place_at s at < limit →
    Counted s g limit (end_at s at) (sort_after does (kind_at s at)) (count + one_if (is_name (kind_at s at) && first_in s g (place_at s at) (mentioned does (name_at s at))))
turn s g limit at does count c n l = go (is_name (kind_at s at)) does (rest_turn s at does c.within n)
  where
    next : ℕ
    next = sort_after does (kind_at s at)

    goes : at < end_at s at
    goes = token_goes s at (kind_at s at) (place_at s at) (end_at s at) (refl, refl, refl) c.within n

    idle : rest_of s at does ≡ rest_of s (end_at s at) next → Counted s g limit (end_at s at) next (count + one_if false)
    idle e =
        ordered.counting_idle place_in name_in same_name same_name_refl same_name_means (inside g (placed s)) limit at count (end_at s at) (inside g (rest_of s at does)) (inside g (rest_of s (end_at s at) next))
        c.counted (ap (inside g) e) (let z : at < end_at s at = goes in omega arith)

    go : (b : Bool) (q : ℕ) → rest_of s at does ≡ elim (b && ltb 0 q) [ true ↦ placed_at s at q ∷ rest_of s (end_at s at) next | false ↦ rest_of s (end_at s at) next ] →
        Counted s g limit (end_at s at) next (count + one_if (b && (in_group g (mentioned q (name_at s at)) && eqb (declared_at s q (name_at s at)) (place_at s at))))
    go false q e = idle e
    go true zero e =
        subst (λ (b : Bool). Counted s g limit (end_at s at) next (count + one_if (b && eqb (declared_at s 0 (name_at s at)) (place_at s at)))) (sym (idle_out g (name_at s at))) (idle e)
    go true (suc q) e =
        mention_turn s g limit at does count (end_at s at) next (placed_at s at (suc q)) c
        (e ∙ ap (λ (b : Bool). elim b [ true ↦ placed_at s at (suc q) ∷ rest_of s (end_at s at) next | false ↦ rest_of s (end_at s at) next ]) (lt-ltb 0 (suc q) (omega arith))) l goes

pub counting_turn : (s : List ℕ) (g limit : ℕ) (w v : Walk) (x : Stop) (count a : ℕ) (b : Bool) → Walked s g limit w count → Goes w (Some x) v → x.place < limit →
    b ≡ passes (first_in s g x.place) x → a ≡ one_if b → Walked s g limit v (count + a)
counting_turn s g limit w v x count a b c k l f i = record {
  text = k.1 ∙ c.text;
  counting = record {
    within = (let at : v.at ≡ x.end = k.2 in let e : x.end ≤ length s = here.within in omega arith);
    counted = subst (λ (j : ℕ). Counted s g limit v.at (does_number v.does) (count + j)) (sym (i ∙ ap one_if (f ∙ same)))
        (subst (λ (j : ℕ). Counted s g limit v.at j (count + one_if asked)) (sym (k.3 ∙ ap (sort_after (does_number w.does)) here.kind))
        (subst (λ (j : ℕ). Counted s g limit j (sort_after (does_number w.does) (kind_at s w.at)) (count + one_if asked)) (sym (k.2 ∙ here.end))
        (turn s g limit w.at (does_number w.does) count c.counting here.some (let p : x.place ≡ place_at s w.at = here.place in omega arith))));
  };
}
  where
    here : StopAt s w.at (does_number w.does) x
    here = stop_in s w v x c.text k

    asked : Bool
    asked = is_name (kind_at s w.at) && first_in s g (place_at s w.at) (mentioned (does_number w.does) (name_at s w.at))

    same : passes (first_in s g x.place) x ≡ asked
    same =
        passes_is (first_in s g x.place) s w.at (does_number w.does) x here
        ∙ ap (λ (p : ℕ). is_name (kind_at s w.at) && first_in s g p (mentioned (does_number w.does) (name_at s w.at))) here.place
