-- How many different rows stand before a byte, token by token, and the number of a row.
--
--   Counting                       == the byte `at` was reached, and so many different restrictions stand before it and the limit
--   Walked                         == a walk reached it
--   counting_start, counting_turn, counting_end, counting_limit == stop by stop
--   rows_count                     == how many rows there are
--   number_none, number_named, number_fresh == the number of a restriction's row
use Rattle.std.specs.Prelude.{Some, None}
use mathlib.Core.Path.{◌≡◌, refl, sym, ap, ap₂, subst, ◌∙◌}
use mathlib.Core.Bool.{Bool, true, false, ◌&&◌, ◌||◌, not}
use mathlib.Core.List.{List, [], ◌∷◌, ◌++◌}
use Prim.Native.Nat.{ℕ, suc, ◌+◌, ◌-◌, ◌≤◌, ◌<◌}
use native.Mathlib.Omega.{arith}
use lib.Dec.{T, eqb, eqb→eq}
use lib.ListN.{length}
use borrow.Author.Tests.{eq-eqb}
use Rattle.owl.specs.Once.{is_among, place, once}
use Rattle.owl.specs.Tree.{Name}
use Rattle.owl.specs.Token.{place_at, kind_at, end_at}
use Rattle.owl.specs.Grammar.{is_name}
use Rattle.owl.specs.Mention.{sort_after, name_at, mentioned}
use Rattle.owl.specs.Restriction.{by_name, by_number, Restriction, restricted, part_at, own_at, Standing, standing_at, standing, restrictions_of, same_restriction}
use Rattle.owl_name.specs.Ordered.{before, Rising, keys, first_of}
use Rattle.owl_name.specs.Declarations.{one_if}
use Rattle.owl_name.specs.declared.walks.Does.{Does}
use Rattle.owl_name.specs.declared.walks.Does.TheVariants.{Nothing}
use Rattle.owl_name.specs.declared.walks.Stop.{Stop}
use Rattle.owl_name.specs.declared.walks.Walk.{Walk}
use Rattle.owl_name.specs.Walk.{does_number, passes, StopAt, Goes}
use Rattle.owl_name.proofs.RestLaws.{token_goes, stop_in, end_in, passes_is}
use Rattle.owl_name.proofs.OrderedLaws as ordered
use Rattle.owl_row.specs.Rows.{place_in, key_in, rest_of, first_row, different_rows, row_in, adds_row, IsNumber}
use Rattle.owl_row.proofs.StandLaws.{rest_start, rest_end, rest_turn, standing_rising, all_rising, fresh_own, standing_named, same_restriction_refl, same_restriction_means}

----------------------------------------------------------------------------------------------------
-- One token

role_asked : (s : List ℕ) (does p k : ℕ) (n : Name) (e : ℕ) (b : Bool) → does ≡ 4 → is_name k ≡ true → is_name (kind_at s e) ≡ b →
    adds_row s does p k n e ≡ (not b || eqb (first_row s (restricted n (by_name (name_at s e)))) p)
unfolding adds_row
role_asked s does p k n e b h d c =
    ap₂ (λ (x y : Bool). x && (y && (not (is_name (kind_at s e)) || eqb (first_row s (restricted n (by_name (name_at s e)))) p))) d (eq-eqb does 4 h)
    ∙ ap (λ (x : Bool). not x || eqb (first_row s (restricted n (by_name (name_at s e)))) p) c

----------------------------------------------------------------------------------------------------
-- The first of its row

pub keys_are : (l : List Standing) → keys place_in key_in l ≡ restrictions_of l
unfolding keys
keys_are [] = refl
keys_are (x ∷ l) = ap (λ (k : List Restriction). x.restriction ∷ k) (keys_are l)

abbrev first : List ℕ → Restriction → ℕ
first s r = first_of place_in key_in same_restriction r (length s) (standing s)

-- a restriction whose filler is no name is the first of its row
fresh_first : (s : List ℕ) (at n : ℕ) (pre post : List Standing) → standing s ≡ pre ++ (standing_at s at n ∷ post) → is_name (kind_at s (end_at s at)) ≡ false →
    eqb (first s (standing_at s at n).restriction) (place_at s at) ≡ true
unfolding part_at
fresh_first s at n pre post d e =
    let x : Standing = standing_at s at n in
    ap (λ (l : List Standing). eqb (first_of place_in key_in same_restriction x.restriction (length s) l) (place_at s at)) d
    ∙ ordered.first_own place_in key_in same_restriction same_restriction_refl same_restriction_means 0 (length s) pre post x (subst (Rising place_in 0 (length s)) d (all_rising s))
    ∙ ap not
    (ap (is_among same_restriction x.restriction) (keys_are pre)
    ∙ fresh_own s n pre post x d (ap (λ (b : Bool). elim b [ true ↦ by_name (name_at s (end_at s at)) | false ↦ by_number n ]) e))

----------------------------------------------------------------------------------------------------
-- Token by token

abbrev Counted : List ℕ → ℕ → ℕ → ℕ → ℕ → ℕ → Type 0
Counted s limit at does n count = ordered.Counting place_in key_in same_restriction same_restriction_refl same_restriction_means (standing s) limit at count (rest_of s at does n)

pub record Counting (s : List ℕ) (limit at does count : ℕ) : Type 0 where
  pub within : at ≤ length s
  pub number : ℕ
  pub counted : Counted s limit at does number count

pub record Walked (s : List ℕ) (limit : ℕ) (w : Walk) (count : ℕ) : Type 0 where
  pub text : w.text.now ≡ s
  pub counting : Counting s limit w.at (does_number w.does) count

pub counting_start : (s : List ℕ) (limit : ℕ) (u w : Walk) → u.text.now ≡ s → u.at ≡ 0 → u.does ≡ Nothing → w ≡ u → Walked s limit w 0
counting_start s limit u w t a d e =
    subst (λ (v : Walk). Walked s limit v 0) (sym e) (record {
      text = t;
      counting = subst (λ (i : ℕ). Counting s limit i (does_number u.does) 0) (sym a) (subst (λ (q : Does). Counting s limit 0 (does_number q) 0) (sym d) (record {
        within = omega arith;
        number = 0;
        counted = ordered.counting_start place_in key_in same_restriction same_restriction_refl same_restriction_means (standing s) (rest_of s 0 0 0) limit (rest_start s);
      }));
    })

ended : (s : List ℕ) (limit at does count : ℕ) (c : Counting s limit at does count) → before place_in limit (rest_of s at does c.number) ≡ [] → count ≡ different_rows s limit
unfolding different_rows
ended s limit at does count c e =
    ordered.counted place_in key_in same_restriction same_restriction_refl same_restriction_means (standing s) limit at count (rest_of s at does c.number) c.counted e

pub counting_end : (s : List ℕ) (limit : ℕ) (w v : Walk) (count : ℕ) → Walked s limit w count → Goes w None v → count ≡ different_rows s limit
unfolding before
counting_end s limit w v count c k =
    ended s limit w.at (does_number w.does) count c.counting (ap (before place_in limit) (rest_end s w.at (does_number w.does) c.counting.number (end_in s w v c.text k)))

pub counting_limit : (s : List ℕ) (limit : ℕ) (w v : Walk) (x : Stop) (count : ℕ) → Walked s limit w count → Goes w (Some x) v → limit ≤ x.place → count ≡ different_rows s limit
unfolding rest_of
counting_limit s limit w v x count c k l =
    ended s limit w.at (does_number w.does) count c.counting
    (ordered.before_none place_in limit (place_at s w.at) (length s) (rest_of s w.at (does_number w.does) c.counting.number)
    (standing_rising s (suc (length s - w.at)) w.at (does_number w.does) c.counting.number c.counting.within)
    (let d : x.place ≡ place_at s w.at = (stop_in s w v x c.text k).place in let y : limit ≤ place_at s w.at = omega arith in y))

-- a role is counted where its restriction stands nowhere before
pub role_adds : (s : List ℕ) (at does n : ℕ) (pre post : List Standing) → standing s ≡ pre ++ (standing_at s at n ∷ post) → is_name (kind_at s at) ≡ true → eqb does 4 ≡ true →
    eqb (first s (standing_at s at n).restriction) (place_at s at) ≡ adds_row s does (place_at s at) (kind_at s at) (name_at s at) (end_at s at)
unfolding part_at first_row
role_adds s at does n pre post d i q = go (is_name (kind_at s (end_at s at))) refl
  where
    asked : (b : Bool) → is_name (kind_at s (end_at s at)) ≡ b →
        adds_row s does (place_at s at) (kind_at s at) (name_at s at) (end_at s at) ≡ (not b || eqb (first_row s (restricted (name_at s at) (by_name (name_at s (end_at s at))))) (place_at s at))
    asked b e = role_asked s does (place_at s at) (kind_at s at) (name_at s at) (end_at s at) b (eqb→eq does 4 (subst T (sym q) tt)) i e

    go : (b : Bool) → is_name (kind_at s (end_at s at)) ≡ b →
        eqb (first s (standing_at s at n).restriction) (place_at s at) ≡ adds_row s does (place_at s at) (kind_at s at) (name_at s at) (end_at s at)
    go true e =
        ap (λ (b : Bool). eqb (first s (restricted (name_at s at) (elim b [ true ↦ by_name (name_at s (end_at s at)) | false ↦ by_number n ]))) (place_at s at)) e
        ∙ sym (asked true e)
    go false e = fresh_first s at n pre post d e ∙ sym (asked false e)

turn : (s : List ℕ) (limit at does count : ℕ) (c : Counting s limit at does count) → (kind_at s at ≡ 0 → ⊥) → place_at s at < limit →
    (m : ℕ) × Counted s limit (end_at s at) (sort_after does (kind_at s at)) m (count + one_if (adds_row s does (place_at s at) (kind_at s at) (name_at s at) (end_at s at)))
unfolding adds_row
turn s limit at does count c z l = go (is_name (kind_at s at)) (eqb does 4) refl refl (rest_turn s at does n c.within z)
  where
    n : ℕ
    n = c.number

    rest : ℕ → List Standing
    rest m = rest_of s (end_at s at) (sort_after does (kind_at s at)) m

    goes : at < end_at s at
    goes = token_goes s at (kind_at s at) (place_at s at) (end_at s at) (refl, refl, refl) c.within z

    idle : rest_of s at does n ≡ rest n → Counted s limit (end_at s at) (sort_after does (kind_at s at)) n (count + one_if false)
    idle e =
        ordered.counting_idle place_in key_in same_restriction same_restriction_refl same_restriction_means (standing s) limit at count (end_at s at) (rest_of s at does n) (rest n) c.counted e
        (let y : at < end_at s at = goes in omega arith)

    go : (a b : Bool) → is_name (kind_at s at) ≡ a → eqb does 4 ≡ b → rest_of s at does n ≡ elim (a && b) [ true ↦ standing_at s at n ∷ rest (n + own_at s (end_at s at)) | false ↦ rest n ] →
        (m : ℕ) × Counted s limit (end_at s at) (sort_after does (kind_at s at)) m
        (count + one_if (is_name (kind_at s at) && (eqb does 4 && (not (is_name (kind_at s (end_at s at))) || eqb (first_row s (restricted (name_at s at) (by_name (name_at s (end_at s at))))) (place_at s at)))))
    go true true i q e = (
      n + own_at s (end_at s at),
      subst (λ (b : Bool). Counted s limit (end_at s at) (sort_after does (kind_at s at)) (n + own_at s (end_at s at)) (count + one_if b))
          (role_adds s at does n c.counted.own (rest (n + own_at s (end_at s at))) (c.counted.split ∙ ap (λ (k : List Standing). c.counted.own ++ k) e) i q)
          (ordered.counting_next place_in key_in same_restriction same_restriction_refl same_restriction_means (standing s) limit at count (end_at s at) (length s) (rest_of s at does n)
          (rest (n + own_at s (end_at s at))) (standing_at s at n) (all_rising s) c.counted e l goes),
    )
    go true false i q e = (
      n,
      subst (λ (b : Bool). Counted s limit (end_at s at) (sort_after does (kind_at s at)) n (count + one_if b))
          (sym (ap₂ (λ (a b : Bool). a && (b && (not (is_name (kind_at s (end_at s at))) || eqb (first_row s (restricted (name_at s at) (by_name (name_at s (end_at s at))))) (place_at s at)))) i q)) (idle e),
    )
    go false b i q e = (
      n,
      subst (λ (b : Bool). Counted s limit (end_at s at) (sort_after does (kind_at s at)) n (count + one_if b))
          (sym (ap (λ (a : Bool). a && (eqb does 4 && (not (is_name (kind_at s (end_at s at))) || eqb (first_row s (restricted (name_at s at) (by_name (name_at s (end_at s at))))) (place_at s at)))) i)) (idle e),
    )

pub counting_turn : (s : List ℕ) (limit : ℕ) (w v : Walk) (x : Stop) (count a : ℕ) (b : Bool) → Walked s limit w count → Goes w (Some x) v → x.place < limit →
    b ≡ passes (row_in s x.place x.end) x → a ≡ one_if b → Walked s limit v (count + a)
unfolding adds_row
counting_turn s limit w v x count a b c k l f i = record {
  text = k.1 ∙ c.text;
  counting = record {
    within = (let at : v.at ≡ x.end = k.2 in let e : x.end ≤ length s = here.within in omega arith);
    number = to.0;
    counted = subst (λ (j : ℕ). Counted s limit v.at (does_number v.does) to.0 (count + j)) (sym (i ∙ ap one_if (f ∙ same)))
        (subst (λ (j : ℕ). Counted s limit v.at j to.0 (count + one_if asked)) (sym (k.3 ∙ ap (sort_after (does_number w.does)) here.kind))
        (subst (λ (j : ℕ). Counted s limit j (sort_after (does_number w.does) (kind_at s w.at)) to.0 (count + one_if asked)) (sym (k.2 ∙ here.end)) to.1));
  };
}
  where
    here : StopAt s w.at (does_number w.does) x
    here = stop_in s w v x c.text k

    asked : Bool
    asked = is_name (kind_at s w.at) && row_in s (place_at s w.at) (end_at s w.at) (mentioned (does_number w.does) (name_at s w.at))

    to : (m : ℕ) × Counted s limit (end_at s w.at) (sort_after (does_number w.does) (kind_at s w.at)) m (count + one_if asked)
    to = turn s limit w.at (does_number w.does) count c.counting here.some (let p : x.place ≡ place_at s w.at = here.place in omega arith)

    same : passes (row_in s x.place x.end) x ≡ asked
    same =
        passes_is (row_in s x.place x.end) s w.at (does_number w.does) x here
        ∙ ap₂ (λ (p e : ℕ). is_name (kind_at s w.at) && row_in s p e (mentioned (does_number w.does) (name_at s w.at))) here.place here.end

----------------------------------------------------------------------------------------------------
-- Numbers

pub rows_count : (s : List ℕ) → different_rows s (length s) ≡ length (once same_restriction [] (restrictions_of (standing s)))
unfolding different_rows
rows_count s =
    ordered.count_all place_in key_in same_restriction same_restriction_refl same_restriction_means (length s) (standing s) (all_rising s)
    ∙ ap (λ (l : List Restriction). length (once same_restriction [] l)) (keys_are (standing s))

number_in : (s : List ℕ) (r : Restriction) → different_rows s (first s r) ≡ place same_restriction r (once same_restriction [] (restrictions_of (standing s)))
unfolding different_rows
number_in s r =
    sym (ordered.place_count place_in key_in same_restriction same_restriction_refl same_restriction_means r (length s) (standing s) (all_rising s))
    ∙ ap (λ (l : List Restriction). place same_restriction r (once same_restriction [] l)) (keys_are (standing s))

pub number_none : (s : List ℕ) (at i : ℕ) → is_name (kind_at s at) ≡ false → IsNumber s at i
unfolding IsNumber
number_none s at i d n pre post h = absurd (subst T (sym (standing_named s at n pre post h) ∙ d) tt)

pub number_fresh : (s : List ℕ) (at p e i : ℕ) → p ≡ place_at s at → e ≡ end_at s at → is_name (kind_at s e) ≡ false → i ≡ different_rows s p → IsNumber s at i
unfolding IsNumber
number_fresh s at p e i t f c d n pre post h =
    let own : is_name (kind_at s (end_at s at)) ≡ false = ap (λ (z : ℕ). is_name (kind_at s z)) (sym f) ∙ c in
    let here : first s (standing_at s at n).restriction ≡ place_at s at =
    eqb→eq (first s (standing_at s at n).restriction) (place_at s at) (subst T (sym (fresh_first s at n pre post h own)) tt)
    in d ∙ ap (different_rows s) (t ∙ sym here) ∙ number_in s (standing_at s at n).restriction

pub number_named : (s : List ℕ) (at e : ℕ) (role filler : Name) (r i : ℕ) → e ≡ end_at s at → role ≡ name_at s at → (is_name (kind_at s e) ≡ true) × (filler ≡ name_at s e) →
    r ≡ first_row s (restricted role (by_name filler)) → i ≡ different_rows s r → IsNumber s at i
unfolding IsNumber part_at first_row
number_named s at e role filler r i t u c f d n pre post h =
    let own : is_name (kind_at s (end_at s at)) ≡ true = ap (λ (z : ℕ). is_name (kind_at s z)) (sym t) ∙ c.0 in
    let key : restricted role (by_name filler) ≡ (standing_at s at n).restriction =
    ap₂ (λ (a b : Name). restricted a (by_name b)) u (c.1 ∙ ap (name_at s) t)
    ∙ sym (ap (λ (b : Bool). restricted (name_at s at) (elim b [ true ↦ by_name (name_at s (end_at s at)) | false ↦ by_number n ])) own)
    in d ∙ ap (different_rows s) (f ∙ ap (first s) key) ∙ number_in s (standing_at s at n).restriction
