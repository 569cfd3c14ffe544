-- The conjuncts of a class expression, all of them and one by its number.
--
--   start_left, start_last == what is left at the start
--   all_counted            == how many are given until there is none
--   one_found, one_named   == the one that is given after so many others
use Rattle.std.specs.Prelude.{◌≡◌, List, [], ◌∷◌, ℕ, suc, ◌+◌, ◌≤◌, length, get_or, Option, Some, None}
use Rattle.std.specs.Iterator.{Yields, Drains, SkipsThenYields}
use Rattle.std.proofs.Common.{sym, ap, ap₂, subst, ◌∙◌, arith}
use Rattle.owl.specs.Tree.{short}
use Rattle.owl.specs.Conjunct.{Conjunct, a_class, conjuncts_by, conjuncts_in}
use Rattle.owl_name.specs.Walk.{does_number}
use Rattle.owl_class.specs.declared.spread.Conjunct as code
use Rattle.owl_class.specs.declared.spread.Conjunct.TheVariants as found
use Rattle.owl_class.specs.declared.spread.Conjuncts.{Conjuncts}
use Rattle.owl_class.specs.declared.spread.Inside.{Inside}
use Rattle.owl_class.specs.Ends.{rest_tokens, HasConjuncts}
use Rattle.owl_class.specs.Conjuncts.{conjuncts_at, conjunct_at, Reached, NameAt, RoleAt, ConjunctIs, found_kind, found_byte, IsNamed}
use Rattle.owl_class.specs.Spread.{left_in, left_of, LastOf, Starts, IsFirst, Gives}

abbrev none : Conjunct
none = a_class (short [])

module _ (s : List ℕ) (from : ℕ) (c : Conjuncts) (h : Starts s from c) where
  pub start_left : (n : ℕ) → conjuncts_at s from n ≡ left_of c n
  unfolding conjuncts_in
  start_left n =
      let does : 3 ≡ does_number c.walk.does = sym (ap does_number h.does) in
      ap₂ (λ (i j : ℕ). conjuncts_by 0 0 i n (rest_tokens s j)) does (sym h.at)
      ∙ ap (λ (t : List ℕ). conjuncts_by 0 0 (does_number c.walk.does) n (rest_tokens t c.walk.at)) (sym h.text)
      ∙ ap (λ (o : Option Inside). left_in o c.walk n) (sym h.inside)

  pub start_last : (n : ℕ) → Reached s from 3 n → LastOf c n
  start_last n r =
      subst (λ (t : List ℕ). Reached t c.walk.at (does_number c.walk.does) n) (sym h.text)
      (subst (λ (i : ℕ). Reached s i (does_number c.walk.does) n) (sym h.at) (subst (λ (q : ℕ). Reached s from q n) (sym (ap does_number h.does)) r))

-- so many are given, and then none
counted : (c : Conjuncts) (xs : List code.Conjunct) (t u : Conjuncts) → Yields Gives c xs t → Gives t None u → (n : ℕ) → length xs ≡ length (left_of c n)
counted c [] t u y g n = ap length (sym (ap (λ (d : Conjuncts). left_of d n) y ∙ g n))
counted c (x ∷ xs) t u y g n =
    let b = y.1.1 n in
    let l : length (left_of c n) ≡ suc (length (left_of y.0 b.number)) = ap length b.left in
    let m : length xs ≡ length (left_of y.0 b.number) = counted y.0 xs t u y.2 g b.number in
    omega arith

pub all_counted : (s : List ℕ) (from : ℕ) (c : Conjuncts) (r : ℕ) → Starts s from c → (xs : List code.Conjunct) × Drains Gives c xs × (r ≡ length xs) → HasConjuncts s from r
unfolding HasConjuncts
all_counted s from c r h d n = d.2 ∙ counted c d.0 d.1.1.0 d.1.0 d.1.1.1 d.1.1.2 n ∙ ap length (sym (start_left s from c h n))

-- those that are left behind so many
record Beyond (c : Conjuncts) (k : ℕ) (t : Conjuncts) (n : ℕ) : Type 0 where
  number : ℕ
  at : (i : ℕ) → get_or (left_of c n) (k + i) none ≡ get_or (left_of t number) i none
  long : length (left_of c n) ≡ k + length (left_of t number)
  last : LastOf c n → LastOf t number

text_kept : (c : Conjuncts) (xs : List code.Conjunct) (t : Conjuncts) → Yields Gives c xs t → t.walk.text.now ≡ c.walk.text.now
text_kept c [] t y = ap (λ (d : Conjuncts). d.walk.text.now) (sym y)
text_kept c (x ∷ xs) t y = text_kept y.0 xs t y.2 ∙ y.1.0

beyond : (c : Conjuncts) (xs : List code.Conjunct) (t : Conjuncts) → Yields Gives c xs t → (n : ℕ) → Beyond c (length xs) t n
beyond c [] t y n = subst (λ (d : Conjuncts). Beyond c 0 d n) y (record {
  number = n;
  at = λ i. ap (λ (k : ℕ). get_or (left_of c n) k none) (let z : 0 + i ≡ i = omega arith in z);
  long = (let z : length (left_of c n) ≡ 0 + length (left_of c n) = omega arith in z);
  last = λ r. r;
})
beyond c (x ∷ xs) t y n =
    let b = y.1.1 n in
    let m = beyond y.0 xs t y.2 b.number in record {
      number = m.number;
      at = λ i. ap₂ (λ (l : List Conjunct) (k : ℕ). get_or l k none) b.left (let z : suc (length xs) + i ≡ suc (length xs + i) = omega arith in z) ∙ m.at i;
      long = (let l : length (left_of c n) ≡ suc (length (left_of y.0 b.number)) = ap length b.left in let k : length (left_of y.0 b.number) ≡ length xs + length (left_of t m.number) = m.long in omega arith);
      last = λ r. m.last (b.last r);
    }

module _ (s : List ℕ) (from i : ℕ) (c : Conjuncts) (h : Starts s from c) where
  pub one_found : (r : Option code.Conjunct) (u : Conjuncts) → SkipsThenYields Gives c i r u → ConjunctIs s from i (found_kind r) (found_byte r)
  unfolding ConjunctIs NameAt RoleAt
  one_found None u d = (
    (λ e. absurd (let z : ⊥ = omega arith in z)),
    (λ e. absurd (let z : ⊥ = omega arith in z)),
    (λ e n. let b = beyond c d.0 d.1.0 d.1.1 n in
        let l : length (left_of c n) ≡ length d.0 + length (left_of d.1.0 b.number) = b.long in
        let z : length (left_of d.1.0 b.number) ≡ 0 = ap length (d.1.2 b.number) in
        let k : length (conjuncts_at s from n) ≡ length (left_of c n) = ap length (start_left s from c h n) in
        let w : length d.0 ≤ i = d.2 in
        omega arith),
    omega arith,
    omega arith,
  )
  one_found (Some (found.Name at)) u d =
      let text : d.1.0.walk.text.now ≡ s = text_kept c d.0 d.1.0 d.1.1 ∙ h.text in
      let is = λ (n : ℕ). subst (λ (t : List ℕ). IsFirst t (found.Name at) (LastOf d.1.0 n) (d.1.2.1 n).first) text (d.1.2.1 n).is in (
        (λ e. ((is 0).2, λ n. let b = beyond c d.0 d.1.0 d.1.1 n in given n b ∙ (is b.number).3)),
        (λ e. absurd (let z : ⊥ = omega arith in z)),
        (λ e. absurd (let z : ⊥ = omega arith in z)),
        (is 0).0,
        omega arith,
      )
    where
      given : (n : ℕ) (b : Beyond c (length d.0) d.1.0 n) → conjunct_at s from n i ≡ (d.1.2.1 b.number).first
      given n b =
          ap₂ (λ (l : List Conjunct) (k : ℕ). get_or l k none) (start_left s from c h n) (let e : length d.0 ≡ i = d.2 in let z : i ≡ length d.0 + 0 = omega arith in z)
          ∙ b.at 0 ∙ ap (λ (l : List Conjunct). get_or l 0 none) (d.1.2.1 b.number).left
  one_found (Some (found.Restriction at)) u d =
      let text : d.1.0.walk.text.now ≡ s = text_kept c d.0 d.1.0 d.1.1 ∙ h.text in
      let is = λ (n : ℕ). subst (λ (t : List ℕ). IsFirst t (found.Restriction at) (LastOf d.1.0 n) (d.1.2.1 n).first) text (d.1.2.1 n).is in (
        (λ e. absurd (let z : ⊥ = omega arith in z)),
        (λ e n r. let b = beyond c d.0 d.1.0 d.1.1 n in
            let there = (is b.number).1 (b.last (start_last s from c h n r)) in
            (there.0, there.1, there.2, there.3, given n b ∙ there.4)),
        (λ e. absurd (let z : ⊥ = omega arith in z)),
        (is 0).0,
        omega arith,
      )
    where
      given : (n : ℕ) (b : Beyond c (length d.0) d.1.0 n) → conjunct_at s from n i ≡ (d.1.2.1 b.number).first
      given n b =
          ap₂ (λ (l : List Conjunct) (k : ℕ). get_or l k none) (start_left s from c h n) (let e : length d.0 ≡ i = d.2 in let z : i ≡ length d.0 + 0 = omega arith in z)
          ∙ b.at 0 ∙ ap (λ (l : List Conjunct). get_or l 0 none) (d.1.2.1 b.number).left

  pub one_named : (r : Option code.Conjunct) (u : Conjuncts) → SkipsThenYields Gives c i r u → IsNamed s r
  one_named None u d = tt
  one_named (Some (found.Name at)) u d =
      let text : d.1.0.walk.text.now ≡ s = text_kept c d.0 d.1.0 d.1.1 ∙ h.text in
      (subst (λ (t : List ℕ). IsFirst t (found.Name at) (LastOf d.1.0 0) (d.1.2.1 0).first) text (d.1.2.1 0).is).1
  one_named (Some (found.Restriction at)) u d = tt
