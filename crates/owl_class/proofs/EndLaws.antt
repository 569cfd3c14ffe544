-- Laws of the end of a class expression.
--
--   deeper_left, deeper_other, deeper_right == a bracket, or another token
--   tokens_fuel, rest_start, rest_end, rest_turn == the tokens from a byte on
--   jumps_start, jumps_turn, jumps_first, jumps_le, end_behind == bytes behind some tokens, token by token
--   skip_nothing, skip_on, skip_stop == what is left behind, token by token
--   skip_class, skip_classes  == brackets in a class expression are closed in it
--   ends_name, ends_word      == where it ends
--   name_kind, other_kind     == whether the first token is a name, by its kind
use mathlib.Core.Path.{◌≡◌, refl, sym, ap, ap₂, subst, ◌∙◌}
use mathlib.Core.Bool.{Bool, true, false, ◌||◌}
use mathlib.Core.Logic.{◌⊎◌, inl, inr}
use mathlib.Core.List.{List, [], ◌∷◌}
use Prim.Native.Nat.{ℕ, zero, suc, ◌+◌, ◌-◌, ◌≤◌, ◌<◌}
use native.Mathlib.Omega.{arith}
use lib.Dec.{T, eqb, eqb→eq}
use lib.ListN.{length}
use borrow.Author.Tests.{eq-eqb, ne_eqb, eqb-false}
use Rattle.owl.specs.Tree.{short, full, Class, named, intersection_of, some_values_from, Classes, last, more}
use Rattle.owl.specs.Token.{kind_at, end_at}
use Rattle.owl.specs.TokenLaws.{end_after}
use Rattle.owl.specs.Written.{Token, text, kind, ‹ObjectIntersectionOf›, ‹ObjectSomeValuesFrom›, token_at, tokens_from, tokens, ‹left›, ‹right›, written, writtens}
use Rattle.owl.specs.Grammar.{is_name}
use Rattle.owl.specs.TextLaws.{kind_at_lem}
use Rattle.owl_token.specs.declared.Kind.{Kind}
use Rattle.owl_token.specs.declared.Kind.TheVariants.{Short, Full}
use Rattle.owl_token.specs.Kind.{kind_number, kind_number_injective}
use Rattle.owl_name.proofs.RestLaws.{goes, AtToken}
use Rattle.owl_class.specs.Ends.{rest_tokens, deeper, skip, JumpsBy, Jumps, EndsAt}

----------------------------------------------------------------------------------------------------
-- Depth

pub deeper_left : (k depth : ℕ) → k ≡ 1 → depth + 1 ≡ deeper k depth
unfolding deeper
deeper_left k depth e = sym (ap (λ (b : Bool). elim b [ true ↦ depth + 1 | false ↦ elim (eqb k 2) [ true ↦ depth - 1 | false ↦ depth ] ]) (eq-eqb k 1 e))

pub deeper_other : (k depth : ℕ) → (k ≡ 1 → ⊥) → (k ≡ 2 → ⊥) → depth ≡ deeper k depth
unfolding deeper
deeper_other k depth h l = sym (ap₂ (λ (a b : Bool). elim a [ true ↦ depth + 1 | false ↦ elim b [ true ↦ depth - 1 | false ↦ depth ] ]) (ne_eqb k 1 h) (ne_eqb k 2 l))

pub deeper_right : (k depth : ℕ) → (k ≡ 1 → ⊥) → k ≡ 2 → depth - 1 ≡ deeper k depth
unfolding deeper
deeper_right k depth h e = sym (ap₂ (λ (a b : Bool). elim a [ true ↦ depth + 1 | false ↦ elim b [ true ↦ depth - 1 | false ↦ depth ] ]) (ne_eqb k 1 h) (eq-eqb k 2 e))

pub deeper_le : (k depth : ℕ) → deeper k depth ≤ depth + 1
unfolding deeper
deeper_le k depth = go (eqb k 1) (eqb k 2)
  where
    go : (a b : Bool) → elim a [ true ↦ depth + 1 | false ↦ elim b [ true ↦ depth - 1 | false ↦ depth ] ] ≤ depth + 1
    go true b = omega arith
    go false true = omega arith
    go false false = omega arith

----------------------------------------------------------------------------------------------------
-- Tokens from a byte on

tokens_fuel : (s : List ℕ) (f g at : ℕ) → at ≤ length s → length s < at + f → length s < at + g → tokens_from s f at ≡ tokens_from s g at
unfolding tokens_from
tokens_fuel s zero g at h l m = absurd (let z : ⊥ = omega arith in z)
tokens_fuel s (suc f) zero at h l m = absurd (let z : ⊥ = omega arith in z)
tokens_fuel s (suc f) (suc g) at h l m = go (eqb (kind_at s at) 0) refl (tokens_fuel s f g (end_at s at))
  where
    go : (b : Bool) → eqb (kind_at s at) 0 ≡ b → (end_at s at ≤ length s → length s < end_at s at + f → length s < end_at s at + g → tokens_from s f (end_at s at) ≡ tokens_from s g (end_at s at)) →
        ◌≡◌ {A = List Token} (elim b [ true ↦ [] | false ↦ token_at s at ∷ tokens_from s f (end_at s at) ]) (elim b [ true ↦ [] | false ↦ token_at s at ∷ tokens_from s g (end_at s at) ])
    go true e ih = refl
    go false e ih =
        let d = goes s at h e in
        let on : at < end_at s at = d.0 in
        let u : length s < end_at s at + f = omega arith in
        let v : length s < end_at s at + g = omega arith in
        ap (λ (l : List Token). token_at s at ∷ l) (ih d.1 u v)

pub rest_start : (s : List ℕ) → tokens s ≡ rest_tokens s 0
unfolding tokens rest_tokens
rest_start s = ap (λ (n : ℕ). tokens_from s (suc n) 0) (let z : length s ≡ length s - 0 = omega arith in z)

pub rest_end : (s : List ℕ) (at : ℕ) → kind_at s at ≡ 0 → rest_tokens s at ≡ []
unfolding rest_tokens tokens_from
rest_end s at e = ap (λ (b : Bool). elim b [ true ↦ [] | false ↦ token_at s at ∷ tokens_from s (length s - at) (end_at s at) ]) (eq-eqb (kind_at s at) 0 e)

tokens_turn : (s : List ℕ) (f at : ℕ) → eqb (kind_at s at) 0 ≡ false → tokens_from s (suc f) at ≡ token_at s at ∷ tokens_from s f (end_at s at)
unfolding tokens_from
tokens_turn s f at e = ap (λ (b : Bool). elim b [ true ↦ [] | false ↦ token_at s at ∷ tokens_from s f (end_at s at) ]) e

pub rest_turn : (s : List ℕ) (at : ℕ) → at ≤ length s → (kind_at s at ≡ 0 → ⊥) → rest_tokens s at ≡ token_at s at ∷ rest_tokens s (end_at s at)
unfolding rest_tokens
rest_turn s at h k =
    let e : eqb (kind_at s at) 0 ≡ false = ne_eqb (kind_at s at) 0 k in
    let d = goes s at h e in
    let on : at < end_at s at = d.0 in
    let far : end_at s at ≤ length s = d.1 in
    let u : length s < end_at s at + (length s - at) = omega arith in
    let v : length s < end_at s at + suc (length s - end_at s at) = omega arith in
    tokens_turn s (length s - at) at e ∙ ap (λ (l : List Token). token_at s at ∷ l) (tokens_fuel s (length s - at) (suc (length s - end_at s at)) (end_at s at) far u v)

pub jumps_start : (s : List ℕ) (at : ℕ) → Jumps s at at
unfolding Jumps
jumps_start s at = (zero, refl)

pub jumps_turn : (s : List ℕ) (from at k p e : ℕ) → AtToken s at k p e → (k ≡ 0 → ⊥) → Jumps s from at → Jumps s from e
unfolding Jumps
jumps_turn s from at k p e t z j = (suc j.0, (at, j.1, (λ y. z (t.0 ∙ y)), t.2))

-- a token before them
before_by : (s : List ℕ) (at r i : ℕ) → (kind_at s at ≡ 0 → ⊥) → JumpsBy s (end_at s at) i r → JumpsBy s at (suc i) r
before_by s at r zero z j = (at, refl, z, j)
before_by s at r (suc i) z j = (j.0, before_by s at j.0 i z j.1, j.2, j.3)

pub jumps_first : (s : List ℕ) (at k p e r : ℕ) → AtToken s at k p e → (k ≡ 0 → ⊥) → Jumps s e r → Jumps s at r
unfolding Jumps
jumps_first s at k p e r t z j = (suc j.0, before_by s at r j.0 (λ y. z (t.0 ∙ y)) (subst (λ (x : ℕ). JumpsBy s x j.0 r) t.2 j.1))

by_le : (s : List ℕ) (at i e : ℕ) → JumpsBy s at i e → at ≤ e
by_le s at zero e j = omega arith
by_le s at (suc i) e j =
    let a : at ≤ j.0 = by_le s at i j.0 j.1 in
    let b : j.0 ≤ end_at s j.0 = end_after s j.0 in
    let c : e ≡ end_at s j.0 = j.3 in
    omega arith

pub jumps_le : (s : List ℕ) (at e : ℕ) → Jumps s at e → at ≤ e
unfolding Jumps
jumps_le s at e j = by_le s at j.0 e j.1

pub end_behind : (s : List ℕ) (at k p e : ℕ) → AtToken s at k p e → at ≤ e
end_behind s at k p e t = let a : at ≤ end_at s at = end_after s at in let b : e ≡ end_at s at = t.2 in omega arith

----------------------------------------------------------------------------------------------------
-- Skipping, token by token

skip_turn : (s : List ℕ) (at depth k p e : ℕ) → AtToken s at k p e → at ≤ length s → (k ≡ 0 → ⊥) →
    skip depth (rest_tokens s at) ≡ elim (eqb (deeper k depth) 0) [ true ↦ rest_tokens s e | false ↦ skip (deeper k depth) (rest_tokens s e) ]
unfolding skip
skip_turn s at depth k p e t h z =
    ap (skip depth) (rest_turn s at h (λ y. z (t.0 ∙ y)))
    ∙ ap₂ (λ (j : ℕ) (l : List Token). elim (eqb (deeper j depth) 0) [ true ↦ l | false ↦ skip (deeper j depth) l ]) (kind_at_lem s at ∙ sym t.0) (ap (rest_tokens s) (sym t.2))

pub skip_nothing : (s : List ℕ) (at depth : ℕ) → kind_at s at ≡ 0 → skip depth (rest_tokens s at) ≡ rest_tokens s at
unfolding skip
skip_nothing s at depth z = let y = rest_end s at z in ap (skip depth) y ∙ sym y

pub skip_stop : (s : List ℕ) (at depth k p e d : ℕ) → AtToken s at k p e → at ≤ length s → (k ≡ 0 → ⊥) → d ≡ deeper k depth → d ≡ 0 → skip depth (rest_tokens s at) ≡ rest_tokens s e
skip_stop s at depth k p e d t h z c y =
    skip_turn s at depth k p e t h z ∙ ap (λ (b : Bool). elim b [ true ↦ rest_tokens s e | false ↦ skip (deeper k depth) (rest_tokens s e) ]) (eq-eqb (deeper k depth) 0 (sym c ∙ y))

pub skip_on : (s : List ℕ) (at depth k p e d : ℕ) → AtToken s at k p e → at ≤ length s → (k ≡ 0 → ⊥) → d ≡ deeper k depth → (d ≡ 0 → ⊥) → skip depth (rest_tokens s at) ≡ skip d (rest_tokens s e)
skip_on s at depth k p e d t h z c y =
    skip_turn s at depth k p e t h z ∙ ap (λ (b : Bool). elim b [ true ↦ rest_tokens s e | false ↦ skip (deeper k depth) (rest_tokens s e) ]) (ne_eqb (deeper k depth) 0 (λ x. y (c ∙ x)))
    ∙ ap (λ (j : ℕ). skip j (rest_tokens s e)) (sym c)

----------------------------------------------------------------------------------------------------
-- Class expressions

-- a token that is no bracket
skip_over : (t : Token) (ts : List Token) (depth : ℕ) → (kind t ≡ 1 → ⊥) → (kind t ≡ 2 → ⊥) → skip (suc depth) (t ∷ ts) ≡ skip (suc depth) ts
unfolding skip
skip_over t ts depth h l =
    ap (λ (d : ℕ). elim (eqb d 0) [ true ↦ ts | false ↦ skip d ts ]) (sym (deeper_other (kind t) (suc depth) h l))
    ∙ ap (λ (b : Bool). elim b [ true ↦ ts | false ↦ skip (suc depth) ts ]) (ne_eqb (suc depth) 0 (λ e. omega arith))

skip_left : (ts : List Token) (depth : ℕ) → skip depth (‹left› ∷ ts) ≡ skip (suc depth) ts
unfolding skip
skip_left ts depth =
    ap (λ (d : ℕ). elim (eqb d 0) [ true ↦ ts | false ↦ skip d ts ]) (sym (deeper_left 1 depth refl) ∙ (let z : depth + 1 ≡ suc depth = omega arith in z))
    ∙ ap (λ (b : Bool). elim b [ true ↦ ts | false ↦ skip (suc depth) ts ]) (ne_eqb (suc depth) 0 (λ e. omega arith))

skip_right : (ts : List Token) (depth : ℕ) → skip (suc (suc depth)) (‹right› ∷ ts) ≡ skip (suc depth) ts
unfolding skip
skip_right ts depth =
    ap (λ (d : ℕ). elim (eqb d 0) [ true ↦ ts | false ↦ skip d ts ]) (sym (deeper_right 2 (suc (suc depth)) (λ e. omega arith) refl) ∙ (let z : suc (suc depth) - 1 ≡ suc depth = omega arith in z))
    ∙ ap (λ (b : Bool). elim b [ true ↦ ts | false ↦ skip (suc depth) ts ]) (ne_eqb (suc depth) 0 (λ e. omega arith))

skip_last : (ts : List Token) → skip 1 (‹right› ∷ ts) ≡ ts
unfolding skip
skip_last ts = ap (λ (d : ℕ). elim (eqb d 0) [ true ↦ ts | false ↦ skip d ts ]) (sym (deeper_right 2 1 (λ e. omega arith) refl))

mutual
  skip_class : (C : Class) (rest : List Token) (d : ℕ) → skip (suc d) (written C rest) ≡ skip (suc d) rest
  skip_class (named (short w)) rest d = skip_over (text 13 w) rest d (λ e. omega arith) (λ e. omega arith)
  skip_class (named (full w)) rest d = skip_over (text 14 w) rest d (λ e. omega arith) (λ e. omega arith)
  skip_class (intersection_of C Cs) rest d =
      skip_over ‹ObjectIntersectionOf› (‹left› ∷ written C (writtens Cs (‹right› ∷ rest))) d (λ e. omega arith) (λ e. omega arith)
      ∙ skip_left (written C (writtens Cs (‹right› ∷ rest))) (suc d)
      ∙ skip_class C (writtens Cs (‹right› ∷ rest)) (suc d)
      ∙ skip_classes Cs (‹right› ∷ rest) (suc d)
      ∙ skip_right rest d
  skip_class (some_values_from (short w) C) rest d =
      skip_over ‹ObjectSomeValuesFrom› (‹left› ∷ text 13 w ∷ written C (‹right› ∷ rest)) d (λ e. omega arith) (λ e. omega arith)
      ∙ skip_left (text 13 w ∷ written C (‹right› ∷ rest)) (suc d)
      ∙ skip_over (text 13 w) (written C (‹right› ∷ rest)) (suc d) (λ e. omega arith) (λ e. omega arith)
      ∙ skip_class C (‹right› ∷ rest) (suc d)
      ∙ skip_right rest d
  skip_class (some_values_from (full w) C) rest d =
      skip_over ‹ObjectSomeValuesFrom› (‹left› ∷ text 14 w ∷ written C (‹right› ∷ rest)) d (λ e. omega arith) (λ e. omega arith)
      ∙ skip_left (text 14 w ∷ written C (‹right› ∷ rest)) (suc d)
      ∙ skip_over (text 14 w) (written C (‹right› ∷ rest)) (suc d) (λ e. omega arith) (λ e. omega arith)
      ∙ skip_class C (‹right› ∷ rest) (suc d)
      ∙ skip_right rest d

  skip_classes : (Cs : Classes) (rest : List Token) (d : ℕ) → skip (suc d) (writtens Cs rest) ≡ skip (suc d) rest
  skip_classes (last C) rest d = skip_class C rest d
  skip_classes (more C Cs) rest d = skip_class C (writtens Cs rest) d ∙ skip_classes Cs rest d

-- the brackets of a word
both_closed : (C : Class) (Cs : Classes) (rest : List Token) → skip 0 (‹left› ∷ written C (writtens Cs (‹right› ∷ rest))) ≡ rest
both_closed C Cs rest =
    skip_left (written C (writtens Cs (‹right› ∷ rest))) 0 ∙ skip_class C (writtens Cs (‹right› ∷ rest)) 0 ∙ skip_classes Cs (‹right› ∷ rest) 0 ∙ skip_last rest

some_closed : (t : Token) (C : Class) (rest : List Token) → (kind t ≡ 1 → ⊥) → (kind t ≡ 2 → ⊥) → skip 0 (‹left› ∷ t ∷ written C (‹right› ∷ rest)) ≡ rest
some_closed t C rest h l =
    skip_left (t ∷ written C (‹right› ∷ rest)) 0 ∙ skip_over t (written C (‹right› ∷ rest)) 0 h l ∙ skip_class C (‹right› ∷ rest) 0 ∙ skip_last rest

----------------------------------------------------------------------------------------------------
-- Where a class expression ends

abbrev pub first : List Token → ℕ
first [] = 0
first (t ∷ ts) = kind t

abbrev pub behind : List Token → List Token
behind [] = []
behind (t ∷ ts) = ts

-- the first token, and those behind it
pub rest_first : (s : List ℕ) (at k p e : ℕ) → AtToken s at k p e → at ≤ length s → (first (rest_tokens s at) ≡ k) × ((k ≡ 0 → ⊥) → behind (rest_tokens s at) ≡ rest_tokens s e)
rest_first s at k p e t h = (go (eqb (kind_at s at) 0) refl, λ z. ap behind (rest_turn s at h (λ y. z (t.0 ∙ y))) ∙ ap (rest_tokens s) (sym t.2))
  where
    go : (b : Bool) → eqb (kind_at s at) 0 ≡ b → first (rest_tokens s at) ≡ k
    go true d = let z : kind_at s at ≡ 0 = eqb→eq (kind_at s at) 0 (subst T (sym d) tt) in ap first (rest_end s at z) ∙ sym (t.0 ∙ z)
    go false d = ap first (rest_turn s at h (eqb-false (kind_at s at) 0 d)) ∙ kind_at_lem s at ∙ sym t.0

-- a token of kind j begins the class expression
begins : (s : List ℕ) (at k p e j : ℕ) (ts : List Token) → AtToken s at k p e → at ≤ length s → rest_tokens s at ≡ ts → first ts ≡ j → k ≡ j
begins s at k p e j ts t h d f = sym (rest_first s at k p e t h).0 ∙ ap first d ∙ f

not_name : (k j : ℕ) → k ≡ j → is_name k ≡ true → is_name j ≡ false → ⊥
not_name k j e d f = subst T (sym d ∙ ap is_name e ∙ f) tt

pub ends_name : (s : List ℕ) (at k p e : ℕ) → AtToken s at k p e → at ≤ length s → is_name k ≡ true → EndsAt s at e
unfolding EndsAt is_name
ends_name s at k p e t h d (named n) rest c =
    let z : k ≡ 0 → ⊥ = λ z. not_name k 0 z d refl in
    (sym ((rest_first s at k p e t h).1 z) ∙ ap behind c, jumps_turn s at at k p e t z (jumps_start s at))
ends_name s at k p e t h d (intersection_of C Cs) rest c = absurd (not_name k 11 (begins s at k p e 11 (written (intersection_of C Cs) rest) t h c refl) d refl)
ends_name s at k p e t h d (some_values_from r C) rest c = absurd (not_name k 12 (begins s at k p e 12 (written (some_values_from r C) rest) t h c refl) d refl)

pub ends_word : (s : List ℕ) (at k p e r : ℕ) → AtToken s at k p e → at ≤ length s → is_name k ≡ false → rest_tokens s r ≡ skip 0 (rest_tokens s e) → Jumps s e r → EndsAt s at r
unfolding EndsAt is_name
ends_word s at k p e r t h d f y (named (short w)) rest c = absurd (not_name 13 k (sym (begins s at k p e 13 (text 13 w ∷ rest) t h c refl)) refl d)
ends_word s at k p e r t h d f y (named (full w)) rest c = absurd (not_name 14 k (sym (begins s at k p e 14 (text 14 w ∷ rest) t h c refl)) refl d)
ends_word s at k p e r t h d f y (intersection_of C Cs) rest c =
    let j : k ≡ 11 = begins s at k p e 11 (written (intersection_of C Cs) rest) t h c refl in
    let z : k ≡ 0 → ⊥ = λ z. omega arith in
    (f ∙ ap (skip 0) (sym ((rest_first s at k p e t h).1 z) ∙ ap behind c) ∙ both_closed C Cs rest, jumps_first s at k p e r t z y)
ends_word s at k p e r t h d f y (some_values_from (short w) C) rest c =
    let j : k ≡ 12 = begins s at k p e 12 (written (some_values_from (short w) C) rest) t h c refl in
    let z : k ≡ 0 → ⊥ = λ z. omega arith in
    (f ∙ ap (skip 0) (sym ((rest_first s at k p e t h).1 z) ∙ ap behind c) ∙ some_closed (text 13 w) C rest (λ z. omega arith) (λ z. omega arith), jumps_first s at k p e r t z y)
ends_word s at k p e r t h d f y (some_values_from (full w) C) rest c =
    let j : k ≡ 12 = begins s at k p e 12 (written (some_values_from (full w) C) rest) t h c refl in
    let z : k ≡ 0 → ⊥ = λ z. omega arith in
    (f ∙ ap (skip 0) (sym ((rest_first s at k p e t h).1 z) ∙ ap behind c) ∙ some_closed (text 14 w) C rest (λ z. omega arith) (λ z. omega arith), jumps_first s at k p e r t z y)

-- by the kind of the first token
pub name_kind : (k : Kind) → (k ≡ Short) ⊎ (k ≡ Full) → is_name (kind_number k) ≡ true
unfolding is_name
name_kind k (inl e) = ap (λ (j : Kind). is_name (kind_number j)) e
name_kind k (inr e) = ap (λ (j : Kind). is_name (kind_number j)) e

pub other_kind : (k : Kind) → (k ≡ Short → ⊥) → (k ≡ Full → ⊥) → is_name (kind_number k) ≡ false
unfolding is_name
other_kind k f g = ap₂ ◌||◌ (ne_eqb (kind_number k) 13 (λ e. f (kind_number_injective k Short e))) (ne_eqb (kind_number k) 14 (λ e. g (kind_number_injective k Full e)))
