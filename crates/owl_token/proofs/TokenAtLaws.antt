-- Laws of one token: what the code finds at a position is what the definitions say stands there.
--
--   is_open, opens_here        == the look-ahead to `(`
--   end_kind, end_end          == no token is left
--   word_token, other_token    == the token is a run: a listed word, or another
--   full_kind_lem, full_size_lem, open_kind, open_size == it begins with `<`, closed or not
--   mark_kind, mark_size       == it is one byte
use Rattle.std.proofs.Common.{◌≡◌, refl, sym, ap, subst, ◌∙◌, true, false, List, ◌∷◌, ℕ, ◌+◌, ◌-◌, ◌≤◌, ◌<◌, arith, eqb, ltb, length, get_or, take, drop, Option, Some, None, drop_of_length-le, length-take, length-drop, get_or-drop}
use lib.Seq.{take_all}
use Rattle.std.proofs.Math.Seq.{drop-drop}
use Rattle.std.specs.Borrow.{Bor}
use Rattle.std.specs.Option.{option_eq, option_map, unwrap_or}
use borrow.Author.Tests.{lt-ltb, le-ltb}
use Rattle.owl.specs.Token.{byte_class, blank, run_length, shape, run_kind, up_to_close, opens_after, full_kind, full_size, mark_kinds, kind_of, size_of, place_at, kind_at, end_at}
use Rattle.owl.specs.TokenLaws.{drop_cons, run_length_le}
use Rattle.owl_token.specs.Keyword.{run_of, keyword_kind, IsListed, other_kind}
use Rattle.owl_token.proofs.KeywordLaws.{listed_kind, other_kind_lem}

----------------------------------------------------------------------------------------------------
-- The look-ahead

-- a byte that may be there, asked whether it is this one
pub is_open : (o : Option (Bor ℕ)) (b : Bor ℕ) → b.now ≡ 40 → option_eq (λ (x y : Bor ℕ). eqb x.now y.now) o (Some b) ≡ eqb (unwrap_or (option_map (λ (x : Bor ℕ). x.now) o) 0) 40
is_open None b e = refl
is_open (Some x) b e = ap (eqb x.now) e

opens_at : (s : List ℕ) (at p : ℕ) → p ≡ place_at s at → opens_after (drop at s) ≡ eqb (get_or s p 0) 40
unfolding opens_after place_at
opens_at s at p e = ap (λ (b : ℕ). eqb b 40) (get_or-drop at s (blank 0 (drop at s)) 0 ∙ ap (λ (k : ℕ). get_or s k 0) (sym e))

pub opens_here : (s : List ℕ) (at p : ℕ) → p ≡ place_at s at → eqb (get_or s p 0) 40 ≡ opens_after (drop at s)
opens_here s at p e = sym (opens_at s at p e)

----------------------------------------------------------------------------------------------------
-- The token after a byte

module _ (s : List ℕ) (at p : ℕ) (e : p ≡ place_at s at) where
  kind_from : kind_of (drop p s) ≡ kind_at s at
  unfolding kind_at
  kind_from = ap (λ (k : ℕ). kind_of (drop k s)) e

  end_from : p + size_of (drop p s) ≡ end_at s at
  unfolding end_at
  end_from = ap (λ (k : ℕ). k + size_of (drop k s)) e

  pub end_kind : length s ≤ p → 0 ≡ kind_at s at
  unfolding kind_of
  end_kind h = ap kind_of (sym (drop_of_length-le s {i = p} h)) ∙ kind_from

  pub end_end : length s ≤ p → p ≡ end_at s at
  unfolding size_of
  end_end h = (let z : p ≡ p + 0 = omega arith in z) ∙ ap (λ (l : List ℕ). p + size_of l) (sym (drop_of_length-le s {i = p} h)) ∙ end_from

  module _ (h : p < length s) where
    abbrev here : ℕ
    here = get_or s p 0

    kind_here : kind_of (here ∷ drop (p + 1) s) ≡ kind_at s at
    kind_here = ap kind_of (sym (drop_cons s p h)) ∙ kind_from

    end_here : p + size_of (here ∷ drop (p + 1) s) ≡ end_at s at
    end_here = ap (λ (l : List ℕ). p + size_of l) (sym (drop_cons s p h)) ∙ end_from

    module _ (f : ltb (byte_class here) 5 ≡ true) where
      -- the token is a run, which ends at q
      run_kind_lem : (q : ℕ) → q ≡ p + run_length (drop p s) → run_kind (run_of (drop p s)) (opens_after (drop q s)) ≡ kind_at s at
      unfolding kind_of
      run_kind_lem q d =
          ap (λ (l : List ℕ). run_kind (run_of (drop p s)) (opens_after l)) (ap (λ (k : ℕ). drop k s) d ∙ sym (drop-drop (run_length (drop p s)) p s))
          ∙ ap (λ (l : List ℕ). run_kind (run_of l) (opens_after (drop (run_length l) l))) (drop_cons s p h)
          ∙ (let y : run_kind (run_of (here ∷ drop (p + 1) s)) (opens_after (drop (run_length (here ∷ drop (p + 1) s)) (here ∷ drop (p + 1) s))) ≡ kind_of (here ∷ drop (p + 1) s) = rw (f, kind_of) in y)
          ∙ kind_here

      pub run_size : p + run_length (drop p s) ≡ end_at s at
      unfolding size_of
      run_size =
          ap (λ (k : ℕ). p + k) (ap run_length (drop_cons s p h) ∙ (let y : run_length (here ∷ drop (p + 1) s) ≡ size_of (here ∷ drop (p + 1) s) = rw (f, size_of) in y))
          ∙ end_here

      -- what was sought among the listed words is the run at p
      front : run_of (take (length s - p) (drop p s)) ≡ run_of (drop p s)
      front = ap (λ (l : List ℕ). run_of l) (take_all (length s - p) (drop p s) (let z : length (drop p s) ≡ length s - p = length-drop p s in omega arith))

      pub word_token : (k n : ℕ) → IsListed (run_of (take (length s - p) (drop p s))) k n → (k ≡ kind_at s at) × (p + n ≡ end_at s at) × (p + n ≤ length s)
      word_token k n is =
          let is' = subst (λ (w : List ℕ). IsListed w k n) front is in
          let l : run_length (drop p s) ≤ length (drop p s) = run_length_le (drop p s) in
          let d : length (drop p s) ≡ length s - p = length-drop p s in
          let t = length-take (run_length (drop p s)) (drop p s) in
          let m : n ≡ length (run_of (drop p s)) = is'.2 in
          let r : n ≡ run_length (drop p s) = omega arith in (
            listed_kind (run_of (drop p s)) (opens_after (drop (p + run_length (drop p s)) s)) k is'.0 is'.1 is'.3 ∙ run_kind_lem (p + run_length (drop p s)) refl,
            ap (λ (j : ℕ). p + j) r ∙ run_size,
            omega arith,
          )

      pub other_token : keyword_kind (run_of (take (length s - p) (drop p s))) ≡ 0 → (m q : ℕ) → m ≡ shape 0 (run_of (drop p s)) → q ≡ p + run_length (drop p s) → other_kind m (opens_after (drop q s)) ≡ kind_at s at
      other_token z m q g d =
          ap (λ (j : ℕ). other_kind j (opens_after (drop q s))) g
          ∙ other_kind_lem (run_of (drop p s)) (opens_after (drop q s)) (sym z ∙ ap keyword_kind front) ∙ run_kind_lem q d

    module _ (not_run : ltb (byte_class here) 5 ≡ false) where
      at_full : eqb (byte_class here) 11 ≡ true → full_kind (drop (p + 1) s) ≡ kind_at s at
      unfolding kind_of
      at_full f = (let y : full_kind (drop (p + 1) s) ≡ kind_of (here ∷ drop (p + 1) s) = rw (not_run, f, kind_of) in y) ∙ kind_here

      to_full : eqb (byte_class here) 11 ≡ true → p + full_size (drop (p + 1) s) ≡ end_at s at
      unfolding size_of
      to_full f = ap (λ (k : ℕ). p + k) (let y : full_size (drop (p + 1) s) ≡ size_of (here ∷ drop (p + 1) s) = rw (not_run, f, size_of) in y) ∙ end_here

      -- the first `>` is at q
      module _ (f : eqb (byte_class here) 11 ≡ true) (q : ℕ) (g : q ≡ p + 1 + up_to_close (drop (p + 1) s)) where
        left : length (drop (p + 1) s) ≡ length s - (p + 1)
        left = length-drop (p + 1) s

        pub full_kind_lem : q < length s → 14 ≡ kind_at s at
        unfolding full_kind
        full_kind_lem l =
            let a : length (drop (p + 1) s) ≡ length s - (p + 1) = left in
            let b : up_to_close (drop (p + 1) s) < length (drop (p + 1) s) = omega arith in
            (let y : 14 ≡ full_kind (drop (p + 1) s) = rw (lt-ltb (up_to_close (drop (p + 1) s)) (length (drop (p + 1) s)) b, full_kind) in y) ∙ at_full f

        pub full_size_lem : q < length s → q + 1 ≡ end_at s at
        unfolding full_size
        full_size_lem l =
            let a : length (drop (p + 1) s) ≡ length s - (p + 1) = left in
            let b : up_to_close (drop (p + 1) s) < length (drop (p + 1) s) = omega arith in
            (let x : q + 1 ≡ p + (up_to_close (drop (p + 1) s) + 2) = omega arith in x)
            ∙ ap (λ (k : ℕ). p + k) (let y : up_to_close (drop (p + 1) s) + 2 ≡ full_size (drop (p + 1) s) = rw (lt-ltb (up_to_close (drop (p + 1) s)) (length (drop (p + 1) s)) b, full_size) in y)
            ∙ to_full f

        pub open_kind : length s ≤ q → 17 ≡ kind_at s at
        unfolding full_kind
        open_kind l =
            let a : length (drop (p + 1) s) ≡ length s - (p + 1) = left in
            let b : length (drop (p + 1) s) ≤ up_to_close (drop (p + 1) s) = omega arith in
            (let y : 17 ≡ full_kind (drop (p + 1) s) = rw (le-ltb (up_to_close (drop (p + 1) s)) (length (drop (p + 1) s)) b, full_kind) in y) ∙ at_full f

        pub open_size : length s ≤ q → p + 1 ≡ end_at s at
        unfolding full_size
        open_size l =
            let a : length (drop (p + 1) s) ≡ length s - (p + 1) = left in
            let b : length (drop (p + 1) s) ≤ up_to_close (drop (p + 1) s) = omega arith in
            ap (λ (k : ℕ). p + k) (let y : 1 ≡ full_size (drop (p + 1) s) = rw (le-ltb (up_to_close (drop (p + 1) s)) (length (drop (p + 1) s)) b, full_size) in y) ∙ to_full f

      pub mark_kind : eqb (byte_class here) 11 ≡ false → get_or mark_kinds (byte_class here) 17 ≡ kind_at s at
      unfolding kind_of
      mark_kind f = (let y : get_or mark_kinds (byte_class here) 17 ≡ kind_of (here ∷ drop (p + 1) s) = rw (not_run, f, kind_of) in y) ∙ kind_here

      pub mark_size : eqb (byte_class here) 11 ≡ false → p + 1 ≡ end_at s at
      unfolding size_of
      mark_size f = ap (λ (k : ℕ). p + k) (let y : 1 ≡ size_of (here ∷ drop (p + 1) s) = rw (not_run, f, size_of) in y) ∙ end_here
