-- Laws of things in the order of a text: which is the first of its key, how many keys there are, and the number of a key.
--
--   rising_lower, rising_behind       == bytes that rise from one byte on rise from an earlier one; what stands behind lies behind
--   first_between                     == the first of a key lies between
--   among_first                       == a key is there exactly if the first that has it lies before the end
--   before_none, before_take, before_all, before_own == what lies before a byte
--   first_own                         == a thing is the first of its key exactly if none before it has that key
--   count_more                        == how many different keys there are with one thing more
--   place_count                       == a key's place among the different ones is the number of different ones before the first that has it
--   Counting                          == the things `own` were passed, `rest` is left, and so many different keys were before the limit
--   counting_start, counting_idle, counting_next, counted, counted_le == one by one
use mathlib.Core.Path.{◌≡◌, refl, sym, ap, ap₂, subst, ◌∙◌}
use mathlib.Core.Bool.{Bool, true, false, ◌||◌, not}
use mathlib.Core.List.{List, [], ◌∷◌, ◌++◌, append-nil}
use Prim.Native.Nat.{ℕ, suc, ◌+◌, ◌≤◌, ◌<◌}
use native.Mathlib.Omega.{arith}
use lib.Dec.{T, eqb, eqb_refl, ltb}
use lib.ListN.{length, length-append}
use borrow.Author.Tests.{ne_eqb, lt-ltb, le-ltb}
use Rattle.el.specs.Test.{any_of}
use Rattle.el.specs.TestLaws.{is_true}
use Rattle.owl.specs.Once.{is_among, place, once}
use Rattle.owl.specs.DistinctLaws.{among_last, once_append, once_after, place_none, place_once}
use Rattle.owl_name.specs.Ordered.{before, Rising, keys, first_of, different_before}
use Rattle.owl_name.specs.Declarations.{one_if}

pub append_one : {A : Type 0} (l : List A) (x : A) (m : List A) → l ++ (x ∷ m) ≡ (l ++ (x ∷ [])) ++ m
append_one [] x m = refl
append_one (y ∷ l) x m = ap (λ (k : List _). y ∷ k) (append_one l x m)

pub one_if_le : (b : Bool) → one_if b ≤ 1
unfolding one_if
one_if_le true = omega arith
one_if_le false = omega arith

module _ {X : Type 0} (place_of : X → ℕ) where
  pub rising_lower : (lo hi end : ℕ) (l : List X) → lo ≤ hi → Rising place_of hi end l → Rising place_of lo end l
  rising_lower lo hi end [] h r = omega arith
  rising_lower lo hi end (x ∷ l) h r = ((let z : hi ≤ place_of x = r.0 in omega arith), r.1, r.2)

  rising_behind : (lo end : ℕ) (pre post : List X) (x : X) → Rising place_of lo end (pre ++ (x ∷ post)) → lo ≤ place_of x
  rising_behind lo end [] post x r = r.0
  rising_behind lo end (y ∷ pre) post x r =
      let h : suc (place_of y) ≤ place_of x = rising_behind (suc (place_of y)) end pre post x r.2 in
      let k : lo ≤ place_of y = r.0 in
      omega arith

  pub before_none : (limit lo end : ℕ) (l : List X) → Rising place_of lo end l → limit ≤ lo → before place_of limit l ≡ []
  unfolding before
  before_none limit lo end [] r h = refl
  before_none limit lo end (x ∷ l) r h =
      let z : lo ≤ place_of x = r.0 in
      ap (λ (b : Bool). elim b [ true ↦ x ∷ before place_of limit l | false ↦ [] ]) (le-ltb (place_of x) limit (let y : limit ≤ place_of x = omega arith in y))

  pub before_take : (limit : ℕ) (x : X) (l : List X) → place_of x < limit → before place_of limit (x ∷ l) ≡ x ∷ before place_of limit l
  unfolding before
  before_take limit x l h = ap (λ (b : Bool). elim b [ true ↦ x ∷ before place_of limit l | false ↦ [] ]) (lt-ltb (place_of x) limit h)

  pub before_all : (lo end : ℕ) (l : List X) → Rising place_of lo end l → before place_of end l ≡ l
  unfolding before
  before_all lo end [] r = refl
  before_all lo end (x ∷ l) r = before_take end x l r.1 ∙ ap (λ (k : List X). x ∷ k) (before_all (suc (place_of x)) end l r.2)

  pub before_own : (lo end : ℕ) (pre post : List X) (x : X) → Rising place_of lo end (pre ++ (x ∷ post)) → before place_of (place_of x) (pre ++ (x ∷ post)) ≡ pre
  unfolding before
  before_own lo end [] post x r = ap (λ (b : Bool). elim b [ true ↦ x ∷ before place_of (place_of x) post | false ↦ [] ]) (le-ltb (place_of x) (place_of x) (omega arith))
  before_own lo end (y ∷ pre) post x r =
      before_take (place_of x) y (pre ++ (x ∷ post)) (rising_behind (suc (place_of y)) end pre post x r.2)
      ∙ ap (λ (l : List X). y ∷ l) (before_own (suc (place_of y)) end pre post x r.2)

  module _ {A : Type 0} (key_of : X → A) (same : A → A → Bool) where
    pub first_between : (x : A) (lo end : ℕ) (l : List X) → Rising place_of lo end l → (lo ≤ first_of place_of key_of same x end l) × (first_of place_of key_of same x end l ≤ end)
    unfolding first_of
    first_between x lo end [] r = (r, omega arith)
    first_between x lo end (y ∷ l) r = go (same x (key_of y)) (first_between x (suc (place_of y)) end l r.2)
      where
        first : ℕ
        first = first_of place_of key_of same x end l

        go : (b : Bool) → (suc (place_of y) ≤ first) × (first ≤ end) → (lo ≤ elim b [ true ↦ place_of y | false ↦ first ]) × (elim b [ true ↦ place_of y | false ↦ first ] ≤ end)
        go true h = (r.0, (let z : place_of y < end = r.1 in omega arith))
        go false h = let z : lo ≤ place_of y = r.0 in let w : suc (place_of y) ≤ first = h.0 in (omega arith, h.1)

    pub among_first : (x : A) (lo end : ℕ) (l : List X) → Rising place_of lo end l → is_among same x (keys place_of key_of l) ≡ ltb (first_of place_of key_of same x end l) end
    unfolding first_of keys is_among any_of
    among_first x lo end [] r = sym (le-ltb end end (omega arith))
    among_first x lo end (y ∷ l) r = go (same x (key_of y)) (among_first x (suc (place_of y)) end l r.2)
      where
        go : (b : Bool) → is_among same x (keys place_of key_of l) ≡ ltb (first_of place_of key_of same x end l) end →
            (b || is_among same x (keys place_of key_of l)) ≡ ltb (elim b [ true ↦ place_of y | false ↦ first_of place_of key_of same x end l ]) end
        go true h = sym (lt-ltb (place_of y) end r.1)
        go false h = h

    keys_more : (pre : List X) (x : X) → keys place_of key_of (pre ++ (x ∷ [])) ≡ keys place_of key_of pre ++ (key_of x ∷ [])
    unfolding keys
    keys_more [] x = refl
    keys_more (y ∷ pre) x = ap (λ (l : List A). key_of y ∷ l) (keys_more pre x)

    module _ (same_refl : (x : A) → T (same x x)) (same_means : (x y : A) → T (same x y) → x ≡ y) where
      pub first_own : (lo end : ℕ) (pre post : List X) (x : X) → Rising place_of lo end (pre ++ (x ∷ post)) →
          eqb (first_of place_of key_of same (key_of x) end (pre ++ (x ∷ post))) (place_of x) ≡ not (is_among same (key_of x) (keys place_of key_of pre))
      unfolding first_of keys is_among any_of
      first_own lo end [] post x r =
          ap (λ (b : Bool). eqb (elim b [ true ↦ place_of x | false ↦ first_of place_of key_of same (key_of x) end post ]) (place_of x)) (is_true (same (key_of x) (key_of x)) (same_refl (key_of x)))
          ∙ is_true (eqb (place_of x) (place_of x)) (eqb_refl (place_of x))
      first_own lo end (y ∷ pre) post x r = go (same (key_of x) (key_of y)) (first_own (suc (place_of y)) end pre post x r.2)
        where
          first : ℕ
          first = first_of place_of key_of same (key_of x) end (pre ++ (x ∷ post))

          go : (b : Bool) → eqb first (place_of x) ≡ not (is_among same (key_of x) (keys place_of key_of pre)) →
              eqb (elim b [ true ↦ place_of y | false ↦ first ]) (place_of x) ≡ not (b || is_among same (key_of x) (keys place_of key_of pre))
          go true h = let k : suc (place_of y) ≤ place_of x = rising_behind (suc (place_of y)) end pre post x r.2 in ne_eqb (place_of y) (place_of x) (λ d. omega arith)
          go false h = h

      count_more : (end : ℕ) (pre post : List X) (x : X) → Rising place_of 0 end (pre ++ (x ∷ post)) →
          length (once same [] (keys place_of key_of (pre ++ (x ∷ []))))
          ≡ length (once same [] (keys place_of key_of pre)) + one_if (eqb (first_of place_of key_of same (key_of x) end (pre ++ (x ∷ post))) (place_of x))
      unfolding one_if
      count_more end pre post x r =
          ap (λ (l : List A). length (once same [] l)) (keys_more pre x)
          ∙ once_after same same_means (key_of x) (keys place_of key_of pre)
          ∙ ap (λ (n : ℕ). length (once same [] (keys place_of key_of pre)) + n)
          (new (is_among same (key_of x) (keys place_of key_of pre)) ∙ ap (λ (b : Bool). elim b [ true ↦ 1 | false ↦ 0 ]) (sym (first_own 0 end pre post x r)))
        where
          new : (a : Bool) → ◌≡◌ {A = ℕ} (elim a [ true ↦ 0 | false ↦ 1 ]) (elim (not a) [ true ↦ 1 | false ↦ 0 ])
          new true = refl
          new false = refl

      ----------------------------------------------------------------------------------------------
      -- The number of a key

      -- the first of a list, kept or not
      once_first : (n y : A) (seen rest rest' : List A) → same n y ≡ false → is_among same n seen ≡ false →
          ((seen : List A) → is_among same n seen ≡ false → place same n (once same seen rest) ≡ length (once same seen rest')) →
          place same n (once same seen (y ∷ rest)) ≡ length (once same seen (y ∷ rest'))
      unfolding once
      once_first n y seen rest rest' d e f = go (is_among same y seen)
        where
          go : (b : Bool) →
              place same n (elim b [ true ↦ once same seen rest | false ↦ once same (seen ++ (y ∷ [])) rest ])
              ≡ length {A = A} (elim b [ true ↦ once same seen rest' | false ↦ once same (seen ++ (y ∷ [])) rest' ])
          go true = f seen e
          go false = f (seen ++ (y ∷ [])) (among_last same n y seen ∙ ap₂ (λ (a b : Bool). a || (b || false)) e d)

      -- a key that comes first
      once_own : (n y : A) (seen rest : List A) → T (same n y) → is_among same n seen ≡ false → place same n (once same seen (y ∷ rest)) ≡ length seen
      unfolding once
      once_own n y seen rest t e =
          ap (λ (b : Bool). place same n (elim b [ true ↦ once same seen rest | false ↦ once same (seen ++ (y ∷ [])) rest ]))
          (ap (λ (z : A). is_among same z seen) (sym (same_means n y t)) ∙ e)
          ∙ place_once same n y rest seen e t

      -- the keys before the first that is n, where those of `seen` came before
      seen_count : (n : A) (lo end : ℕ) (l : List X) → Rising place_of lo end l → (seen : List A) → is_among same n seen ≡ false →
          place same n (once same seen (keys place_of key_of l)) ≡ length (once same seen (keys place_of key_of (before place_of (first_of place_of key_of same n end l) l)))
      unfolding keys before first_of once
      seen_count n lo end [] r seen e = place_none same n seen e
      seen_count n lo end (x ∷ l) r seen e = go (same n (key_of x)) refl (seen_count n (suc (place_of x)) end l r.2)
        where
          first : ℕ
          first = first_of place_of key_of same n end l

          go : (c : Bool) → same n (key_of x) ≡ c →
              ((seen : List A) → is_among same n seen ≡ false → place same n (once same seen (keys place_of key_of l)) ≡ length (once same seen (keys place_of key_of (before place_of first l)))) →
              place same n (once same seen (key_of x ∷ keys place_of key_of l)) ≡ length (once same seen (keys place_of key_of (before place_of (elim c [ true ↦ place_of x | false ↦ first ]) (x ∷ l))))
          go true d f =
              once_own n (key_of x) seen (keys place_of key_of l) (subst T (sym d) tt) e
              ∙ sym (ap (λ (b : Bool). length (once same seen (keys place_of key_of (elim b [ true ↦ x ∷ before place_of (place_of x) l | false ↦ [] ])))) (le-ltb (place_of x) (place_of x) (omega arith)))
          go false d f =
              once_first n (key_of x) seen (keys place_of key_of l) (keys place_of key_of (before place_of first l)) d e f
              ∙ sym (ap (λ (k : List X). length (once same seen (keys place_of key_of k))) (before_take first x l (first_between n (suc (place_of x)) end l r.2).0))

      pub place_count : (n : A) (end : ℕ) (l : List X) → Rising place_of 0 end l →
          place same n (once same [] (keys place_of key_of l)) ≡ different_before place_of key_of same (first_of place_of key_of same n end l) l
      unfolding different_before is_among any_of
      place_count n end l r = seen_count n 0 end l r [] refl

      pub count_all : (end : ℕ) (l : List X) → Rising place_of 0 end l → different_before place_of key_of same end l ≡ length (once same [] (keys place_of key_of l))
      unfolding different_before
      count_all end l r = ap (λ (k : List X). length (once same [] (keys place_of key_of k))) (before_all 0 end l r)

      ----------------------------------------------------------------------------------------------
      -- One by one; `at` is the byte that was reached

      pub record Counting (all : List X) (limit at count : ℕ) (rest : List X) : Type 0 where
        pub few : count ≤ at
        pub own : List X
        pub split : all ≡ own ++ rest
        pub cut : before place_of limit all ≡ own ++ before place_of limit rest
        pub many : count ≡ length (once same [] (keys place_of key_of own))

      pub counting_start : (all rest : List X) (limit : ℕ) → all ≡ rest → Counting all limit 0 0 rest
      unfolding keys once
      counting_start all rest limit e = record {
        few = omega arith;
        own = [];
        split = e;
        cut = ap (before place_of limit) e;
        many = refl;
      }

      -- what is left has nothing to add
      pub counted : (all : List X) (limit at count : ℕ) (rest : List X) → Counting all limit at count rest → before place_of limit rest ≡ [] → count ≡ different_before place_of key_of same limit all
      unfolding different_before
      counted all limit at count rest c e =
          c.many ∙ ap (λ (l : List X). length (once same [] (keys place_of key_of l))) (sym (c.cut ∙ ap (λ (l : List X). c.own ++ l) e ∙ append-nil c.own))

      once_grows : (l seen : List A) → length seen ≤ length (once same seen l)
      unfolding once
      once_grows [] seen = omega arith
      once_grows (x ∷ l) seen = go (is_among same x seen) (once_grows l seen) (once_grows l (seen ++ (x ∷ [])))
        where
          go : (b : Bool) → length seen ≤ length (once same seen l) → length (seen ++ (x ∷ [])) ≤ length (once same (seen ++ (x ∷ [])) l) →
              length seen ≤ length {A = A} (elim b [ true ↦ once same seen l | false ↦ once same (seen ++ (x ∷ [])) l ])
          go true h k = h
          go false h k = let e : length (seen ++ (x ∷ [])) ≡ length seen + 1 = length-append seen (x ∷ []) in omega arith

      keys_both : (pre post : List X) → keys place_of key_of (pre ++ post) ≡ keys place_of key_of pre ++ keys place_of key_of post
      unfolding keys
      keys_both [] post = refl
      keys_both (y ∷ pre) post = ap (λ (l : List A). key_of y ∷ l) (keys_both pre post)

      -- what was counted is no more than all
      pub counted_le : (all : List X) (limit at count : ℕ) (rest : List X) → Counting all limit at count rest → count ≤ different_before place_of key_of same limit all
      unfolding different_before
      counted_le all limit at count rest c =
          let l : List A = keys place_of key_of c.own in
          let m : List A = keys place_of key_of (before place_of limit rest) in
          let e : length (once same [] (keys place_of key_of (before place_of limit all))) ≡ length (once same (once same [] l) m) =
          ap (λ (k : List X). length (once same [] (keys place_of key_of k))) c.cut ∙ ap (λ (k : List A). length (once same [] k)) (keys_both c.own (before place_of limit rest)) ∙ ap length (once_append same l m []) in
          let g : length (once same [] l) ≤ length (once same (once same [] l) m) = once_grows m (once same [] l) in
          let n : count ≡ length (once same [] l) = c.many in
          omega arith

      pub counting_idle : (all : List X) (limit at count to : ℕ) (rest next : List X) → Counting all limit at count rest → rest ≡ next → at ≤ to → Counting all limit to (count + one_if false) next
      unfolding one_if
      counting_idle all limit at count to rest next c e h = record {
        few = (let x : count ≤ at = c.few in omega arith);
        own = c.own;
        split = c.split ∙ ap (λ (k : List X). c.own ++ k) e;
        cut = c.cut ∙ ap (λ (k : List X). c.own ++ before place_of limit k) e;
        many = (let z : count + 0 ≡ count = omega arith in z) ∙ c.many;
      }

      pub counting_next : (all : List X) (limit at count to end : ℕ) (rest next : List X) (x : X) → Rising place_of 0 end all → Counting all limit at count rest → rest ≡ x ∷ next → place_of x < limit → at < to →
          Counting all limit to (count + one_if (eqb (first_of place_of key_of same (key_of x) end all) (place_of x))) next
      counting_next all limit at count to end rest next x r c e p h =
          let d : all ≡ c.own ++ (x ∷ next) = c.split ∙ ap (λ (k : List X). c.own ++ k) e in
          let first : List X → ℕ = first_of place_of key_of same (key_of x) end in record {
            few = (let f : count ≤ at = c.few in let o = one_if_le (eqb (first all) (place_of x)) in omega arith);
            own = c.own ++ (x ∷ []);
            split = d ∙ append_one c.own x next;
            cut =
                c.cut ∙ ap (λ (k : List X). c.own ++ before place_of limit k) e ∙ ap (λ (k : List X). c.own ++ k) (before_take limit x next p)
                ∙ append_one c.own x (before place_of limit next);
            many =
                ap₂ (λ (n : ℕ) (k : List X). n + one_if (eqb (first k) (place_of x))) c.many d
                ∙ sym (count_more end c.own next x (subst (Rising place_of 0 end) d r));
          }
