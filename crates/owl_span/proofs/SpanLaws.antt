-- Laws that carry the places of names to the names.
--
--   Spanning           == a walk came so far, so many names of the group were found, and those for which there is room stand in `spans`
--   spanning_start, spanning_turn, spanning_idle, spanning_end == stop by stop
use Rattle.std.specs.Prelude.{Some, None}
use mathlib.Core.Path.{◌≡◌, refl, sym, ap, ap₂, subst, ◌∙◌}
use mathlib.Core.Bool.{Bool, true, false, ◌&&◌, ◌||◌}
use mathlib.Core.List.{List, [], ◌∷◌, ◌++◌}
use Prim.Native.Nat.{ℕ, zero, suc, ◌+◌, ◌-◌, ◌≤◌, ◌<◌}
use native.Mathlib.Omega.{arith}
use native.Mathlib.Decide.{dec_lt}
use lib.Dec.{T, eqb, eqb→eq, ltb}
use lib.ListN.{length, get_or, take, drop, set, length-set}
use lib.Seq.{get_or-set_same, get_or-set_other}
use borrow.Author.Tests.{ne_eqb, lt-ltb}
use Rattle.el.specs.Test.{any_of}
use Rattle.el.specs.TestLaws.{is_true, true_is, and_left, and_right}
use Rattle.owl.specs.Once.{is_among, place, once}
use Rattle.owl.specs.OnceLaws.{place_at_lem}
use Rattle.owl.specs.DistinctLaws.{among_once}
use Rattle.owl.specs.Tree.{Name, short, full}
use Rattle.owl.specs.Naming.{same_name}
use Rattle.owl.specs.NamingLaws.{same_name_refl, same_name_means}
use Rattle.owl.specs.Token.{place_at, kind_at, end_at}
use Rattle.owl.specs.Grammar.{is_name}
use Rattle.owl.specs.Mention.{sort_after, name_by, bytes_at, name_at, Mention, Placed, mentioned, placed_at, placed, names_in}
use Rattle.owl.specs.UndeclaredLaws.{place_within}
use Rattle.owl_token.specs.Kind.{kind_number}
use Rattle.owl_name.specs.declared.Group.{Group}
use Rattle.owl_name.specs.declared.Group.TheVariants.{Constants, Opens, Roles}
use Rattle.owl_name.specs.declared.walks.Does.TheVariants.{Nothing}
use Rattle.owl_name.specs.declared.walks.Stop.{Stop}
use Rattle.owl_name.specs.declared.walks.Walk.{Walk}
use Rattle.owl_name.specs.Walk.{does_number, passes, StopAt, Goes}
use Rattle.owl_name.specs.Declarations.{rest_of, declared_at, group_number, group_sort, group_takes, group_names, in_group, inside, place_in, name_in, first_in, different, one_if}
use Rattle.owl_name.specs.Ordered.{Rising, before, keys, first_of, different_before}
use Rattle.owl_name.proofs.OrderedLaws.{place_count, among_first, before_own}
use Rattle.owl_name.proofs.RestLaws.{rest_turn, token_bytes, token_order, stop_in, passes_is}
use Rattle.owl_name.proofs.GroupLaws.{all_rising, inside_first, constants_group, opens_group, roles_group}
use Rattle.owl_name.proofs.AddLaws.{own_name, in_does}
use Rattle.owl_name.proofs.CountLaws.{Counting, Walked, counting_start, counting_turn, counting_end}
use Rattle.owl_name.proofs.NumberLaws.{group_count}
use Rattle.spell.specs.Spelling.{name_text, name_of}
use Rattle.spell.specs.declared.Span.{Span}
use Rattle.spell.specs.Given.{span_at}
use Rattle.owl_span.specs.Span.{SpanAt, SpansDone}
use Rattle.owl_span.specs.SpanLaws.{span_moved}

----------------------------------------------------------------------------------------------------
-- The names of a group

group_is : (s : List ℕ) (g : Group) → group_names (names_in s) (group_number g) ≡ once same_name [] (keys place_in name_in (inside (group_number g) (placed s)))
unfolding group_names
group_is s Constants = constants_group s
group_is s Opens = opens_group s
group_is s Roles = roles_group s

name_at_lem : (l : List Name) (k : ℕ) (d : Name) → k < length l → name_of l k ≡ name_text (get_or l k d)
unfolding name_of
name_at_lem [] k d h = absurd (let z : ⊥ = omega arith in z)
name_at_lem (n ∷ l) zero d h = refl
name_at_lem (n ∷ l) (suc k) d h = name_at_lem l k d (omega arith)

place_in_lem : (n : Name) (l : List Name) → T (is_among same_name n l) → place same_name n l < length l
unfolding is_among any_of place
place_in_lem n [] h = absurd h
place_in_lem n (m ∷ l) h = go (same_name n m) h (place_in_lem n l)
  where
    go : (b : Bool) → T (b || any_of (same_name n) l) → (T (any_of (same_name n) l) → place same_name n l < length l) → elim b [ true ↦ 0 | false ↦ suc (place same_name n l) ] < suc (length l)
    go true h f = omega arith
    go false h f = let z : place same_name n l < length l = f h in omega arith

-- a name that is there has its bytes at its place
name_there : (n : Name) (l : List Name) (k : ℕ) → T (is_among same_name n l) → place same_name n l ≡ k → name_text n ≡ name_of l k
name_there n l k h e =
    ap name_text (same_name_means n (get_or l (place same_name n l) n) (place_at_lem same_name n l n h))
    ∙ sym (name_at_lem l (place same_name n l) n (place_in_lem n l h))
    ∙ ap (name_of l) e

-- the bytes of a name are its token's
bytes_of : (k : ℕ) (w : List ℕ) → name_text (name_by k w) ≡ w
unfolding name_by name_text
bytes_of k w = go (eqb k 13)
  where
    go : (b : Bool) → name_text (elim b [ true ↦ short w | false ↦ full w ]) ≡ w
    go true = refl
    go false = refl

----------------------------------------------------------------------------------------------------
-- The first declaration of a name

-- its mention is the next of the group
next_inside : (s : List ℕ) (g at does count : ℕ) → Counting s g (length s) at does count → (kind_at s at ≡ 0 → ⊥) → is_name (kind_at s at) ≡ true → 0 < does → in_group g (mentioned does (name_at s at)) ≡ true
    → (post : List Placed) × (inside g (rest_of s at does) ≡ placed_at s at does ∷ post)
unfolding inside
next_inside s g at does count c k n q i = (
  inside g rest,
  ap (inside g) (rest_turn s at does c.within k)
      ∙ ap₂ (λ (a b : Bool). inside g (elim (a && b) [ true ↦ placed_at s at does ∷ rest | false ↦ rest ])) n (lt-ltb 0 does q)
      ∙ ap (λ (b : Bool). elim b [ true ↦ placed_at s at does ∷ inside g rest | false ↦ inside g rest ]) i,
)
  where
    rest : List Placed
    rest = rest_of s (end_at s at) (sort_after does (kind_at s at))

-- so many different names stand before it
count_before : (s : List ℕ) (g at does count : ℕ) (post : List Placed) → Counting s g (length s) at does count → inside g (rest_of s at does) ≡ placed_at s at does ∷ post → count ≡ different s g (place_at s at)
unfolding different different_before
count_before s g at does count post c e =
    let own = c.counted.own in
    let all : inside g (placed s) ≡ own ++ (placed_at s at does ∷ post) = c.counted.split ∙ ap (λ (k : List Placed). own ++ k) e in
    let cut : before place_in (place_at s at) (own ++ (placed_at s at does ∷ post)) ≡ own = before_own place_in 0 (length s) own post (placed_at s at does) (subst (Rising place_in 0 (length s)) all (all_rising s g)) in
    c.counted.many ∙ ap (λ (l : List Placed). length (once same_name [] (keys place_in name_in l))) (sym (ap (before place_in (place_at s at)) all ∙ cut))

-- where it stands among the names of the group
first_number : (s : List ℕ) (G : Group) (p : ℕ) (n : Name) → group_takes (group_number G) n ≡ true → declared_at s (group_sort (group_number G)) n ≡ p → p < length s
    → (place same_name n (group_names (names_in s) (group_number G)) ≡ different s (group_number G) p) × T (is_among same_name n (group_names (names_in s) (group_number G)))
unfolding different declared_at is_among any_of
first_number s G p n t e l = (
  ap (place same_name n) (group_is s G) ∙ place_count place_in name_in same_name same_name_refl same_name_means n (length s) (inside g (placed s)) (all_rising s g)
      ∙ ap (λ (k : ℕ). different_before place_in name_in same_name k (inside g (placed s))) first,
  true_is (is_among same_name n (group_names (names_in s) g))
      (ap (is_among same_name n) (group_is s G) ∙ among_once same_name same_name_means n (keys place_in name_in (inside g (placed s))) []
      ∙ among_first place_in name_in same_name n 0 (length s) (inside g (placed s)) (all_rising s g) ∙ ap (λ (k : ℕ). ltb k (length s)) first ∙ lt-ltb p (length s) l),
)
  where
    g : ℕ
    g = group_number G

    first : first_of place_in name_in same_name n (length s) (inside g (placed s)) ≡ p
    first = inside_first g (length s) n (placed s) t ∙ e

first_means : (s : List ℕ) (g p : ℕ) (m : Mention) → first_in s g p m ≡ true → (in_group g m ≡ true) × (declared_at s m.sort m.name ≡ p)
first_means s g p m e =
    let t = true_is (first_in s g p m) e in (
      is_true (in_group g m) (and_left (in_group g m) (eqb (declared_at s m.sort m.name) p) t),
      eqb→eq (declared_at s m.sort m.name) p (and_right (in_group g m) (eqb (declared_at s m.sort m.name) p) t),
    )

-- a token begins in the text
in_text : (s : List ℕ) (at q : ℕ) (x : Stop) → StopAt s at q x → x.place < length s
in_text s at q x t = let h : place_at s at < length s = place_within s at (ne_eqb (kind_at s at) 0 t.some) in let d : x.place ≡ place_at s at = t.place in omega arith

found : (s : List ℕ) (G : Group) (at q count : ℕ) (x : Stop) → Counting s (group_number G) (length s) at q count → StopAt s at q x → passes (first_in s (group_number G) x.place) x ≡ true
    → take (x.end - x.place) (drop x.place s) ≡ name_of (group_names (names_in s) (group_number G)) count
found s G at q count x c t a =
    token_bytes s at (kind_number x.kind) x.place x.end (t.kind, t.place, t.end) ∙ sym (bytes_of (kind_at s at) (bytes_at s at))
    ∙ name_there n (group_names (names_in s) g) count number.1 (number.0 ∙ ap (different s g) t.place ∙ sym (count_before s g at q count next.0 c next.1))
  where
    g : ℕ
    g = group_number G

    n : Name
    n = name_at s at

    both : T (is_name (kind_at s at) && first_in s g x.place (mentioned q n))
    both = true_is (is_name (kind_at s at) && first_in s g x.place (mentioned q n)) (sym (passes_is (first_in s g x.place) s at q x t) ∙ a)

    named : is_name (kind_at s at) ≡ true
    named = is_true (is_name (kind_at s at)) (and_left (is_name (kind_at s at)) (first_in s g x.place (mentioned q n)) both)

    first : (in_group g (mentioned q n) ≡ true) × (declared_at s q n ≡ x.place)
    first =
        first_means s g x.place (mentioned q n) (is_true (first_in s g x.place (mentioned q n)) (and_right (is_name (kind_at s at)) (first_in s g x.place (mentioned q n)) both))

    own : (q ≡ group_sort g) × (group_takes g n ≡ true)
    own = own_name g (mentioned q n) first.0

    next : (post : List Placed) × (inside g (rest_of s at q) ≡ placed_at s at q ∷ post)
    next = next_inside s g at q count c t.some named (in_does g q n first.0) first.0

    number : (place same_name n (group_names (names_in s) g) ≡ different s g x.place) × T (is_among same_name n (group_names (names_in s) g))
    number = first_number s G x.place n own.1 (ap (λ (j : ℕ). declared_at s j n) (sym own.0) ∙ first.1) (in_text s at q x t)

----------------------------------------------------------------------------------------------------
-- Stop by stop

pub record Spanning (s : List ℕ) (G : Group) (b spans : List Span) (w : Walk) (count : ℕ) : Type 0 where
  pub counting : Walked s (group_number G) (length s) w count
  pub same : length spans ≡ length b
  pub stand : (k : ℕ) → k < count → k < length spans → SpanAt s (group_names (names_in s) (group_number G)) spans k

pub spanning_start : (s : List ℕ) (G : Group) (b : List Span) (u w : Walk) → u.text.now ≡ s → u.at ≡ 0 → u.does ≡ Nothing → w ≡ u → Spanning s G b b w 0
spanning_start s G b u w t a d e = record {
  counting = counting_start s (group_number G) (length s) u w t a d e;
  same = refl;
  stand = λ k h l. absurd (let z : ⊥ = omega arith in z);
}

pub spanning_end : (s : List ℕ) (G : Group) (b spans : List Span) (w v : Walk) (count : ℕ) → Spanning s G b spans w count → Goes w None v
    → SpansDone s (group_number G) spans count × (length spans ≡ length b)
unfolding SpansDone
spanning_end s G b spans w v count c k = ((counting_end s (group_number G) (length s) w v count c.counting k ∙ group_count s G, c.stand), c.same)

-- what was counted goes on
goes_on : (s : List ℕ) (g : ℕ) (w v : Walk) (x : Stop) (count : ℕ) (b : Bool) → Walked s g (length s) w count → Goes w (Some x) v → passes (first_in s g x.place) x ≡ b →
    Walked s g (length s) v (count + one_if b)
goes_on s g w v x count b c k e =
    counting_turn s g (length s) w v x count (one_if b) b c k (in_text s w.at (does_number w.does) x (stop_in s w v x c.text k)) (sym e) refl

pub spanning_idle : (s : List ℕ) (G : Group) (b spans : List Span) (w v : Walk) (x : Stop) (count : ℕ) → Spanning s G b spans w count → Goes w (Some x) v
    → passes (first_in s (group_number G) x.place) x ≡ false → Spanning s G b spans v count
unfolding one_if
spanning_idle s G b spans w v x count c k e = record {
  counting = subst (Walked s (group_number G) (length s) v) (let z : count + 0 ≡ count = omega arith in z) (goes_on s (group_number G) w v x count false c.counting k e);
  same = c.same;
  stand = c.stand;
}

pub spanning_turn : (s : List ℕ) (G : Group) (b spans spans' : List Span) (w v : Walk) (x : Stop) (count : ℕ) → Spanning s G b spans w count → Goes w (Some x) v
    → passes (first_in s (group_number G) x.place) x ≡ true → spans' ≡ set spans count (record { from = x.place; to = x.end }) → Spanning s G b spans' v (count + 1)
unfolding one_if
spanning_turn s G b spans spans' w v x count c k a m = record {
  counting = goes_on s (group_number G) w v x count true c.counting k a;
  same = long ∙ c.same;
  stand = λ j l r. go j l r (dec_lt j count);
}
  where
    names : List Name
    names = group_names (names_in s) (group_number G)

    here : StopAt s w.at (does_number w.does) x
    here = stop_in s w v x c.counting.text k

    long : length spans' ≡ length spans
    long = ap length m ∙ length-set spans count _

    go : (j : ℕ) → j < count + 1 → j < length spans' → Dec (j < count) → SpanAt s names spans' j
    go j l r (yes u) =
        span_moved s names spans spans' j (ap (λ (y : List Span). span_at y j) m ∙ get_or-set_other spans count j _ _ (λ z. omega arith)) (c.stand j u (let n : length spans' ≡ length spans = long in omega arith))
    go j l r (no u) =
        let last : j ≡ count = omega arith in
        let there : span_at spans' count ≡ record { from = x.place; to = x.end } =
        ap (λ (y : List Span). span_at y count) m ∙ get_or-set_same spans count _ _ (let n : length spans' ≡ length spans = long in omega arith)
        in
        let from : (span_at spans' count).from ≡ x.place = ap (λ (y : Span). y.from) there in
        let to : (span_at spans' count).to ≡ x.end = ap (λ (y : Span). y.to) there in
        let up : x.place ≤ x.end = token_order s w.at (kind_number x.kind) x.place x.end (here.kind, here.place, here.end) in
        let within : x.end ≤ length s = here.within in
        subst (SpanAt s names spans') (sym last) (record {
          order = omega arith;
          inside = omega arith;
          bytes = ap₂ (λ (y z : ℕ). take (z - y) (drop y s)) from to ∙ found s G w.at (does_number w.does) count x c.counting.counting here a;
        })
