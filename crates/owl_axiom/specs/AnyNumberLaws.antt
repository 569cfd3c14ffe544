-- The fillers from a byte on, where a number says what the next name does: of one that is no use the definitions say what they say of 5.
--
--   finds_any == the first of them
use Rattle.std.specs.Prelude.{◌≡◌, Bool, true, false, ◌&&◌, List, [], ◌∷◌, ◌++◌, ℕ, ◌+◌, min, eqb, Option, Some, None}
use Rattle.std.proofs.Common.{refl, sym, ap, ◌∙◌, arith}
use Rattle.owl.specs.Written.{Token, kind}
use Rattle.owl.specs.Grammar.{is_name}
use Rattle.owl.specs.Mention.{sort_after}
use Rattle.owl.specs.Said.{own_of}
use Rattle.owl.specs.Restriction.{Standing}
use Rattle.owl.specs.Conjunct.{is_zero, number_after, conjuncts_in}
use Rattle.owl.specs.Equation.{Owned, owned, owned_at, owned_by}
use Rattle.owl_name.specs.AnyNumberLaws.{cut_test, after_use}
use Rattle.owl_row.specs.AnyNumberLaws.{rest_any}
use Rattle.owl_class.specs.Ends.{rest_tokens}
use Rattle.owl_class.specs.Conjuncts.{Reached}
use Rattle.owl_axiom.specs.Fillers.{NextFiller, FindsFiller}

owned_any : (ts : List Token) (q n : ℕ) → owned_by (min q 5) n ts ≡ owned_by q n ts
unfolding owned_by owned_at number_after
owned_any [] q n = refl
owned_any (t ∷ ts) q n =
    ap (λ (b : Bool). turned b (sort_after (min q 5) (kind t))) (cut_test q 5 4 (omega arith))
    ∙ ap (turned (eqb q 4)) (after_use q (kind t))
    ∙ ap (λ (l : List Owned). owned_at q n t ts ++ l) (owned_any ts (sort_after q (kind t)) (number_after q n (kind t) ts))
  where
    turned : Bool → ℕ → List Owned
    turned b r =
        elim (is_name (kind t) && b) [ true ↦ elim (is_zero (own_of ts)) [ true ↦ [] | false ↦ owned n (conjuncts_in (n + 1) ts) ∷ [] ] | false ↦ [] ]
        ++ owned_by r (elim (is_name (kind t) && b) [ true ↦ n + own_of ts | false ↦ n ]) ts

reached_any : (s : List ℕ) (at q n : ℕ) → Reached s at q n → Reached s at (min q 5) n
unfolding Reached
reached_any s at q n r = (r.0, r.1 ∙ ap (λ (l : List Standing). r.0 ++ l) (sym (rest_any s at q n)))

next_any : (s : List ℕ) (from q : ℕ) (found : Bool) (at : ℕ) → NextFiller s from (min q 5) found at → NextFiller s from q found at
unfolding NextFiller
next_any s from q found at f n r =
    let g = f n (reached_any s from q n r) in
    let e : owned_by q n (rest_tokens s from) ≡ owned_by (min q 5) n (rest_tokens s from) = sym (owned_any (rest_tokens s from) q n) in
    ((λ h. e ∙ g.0 h), (λ h. (e ∙ (g.1 h).0, (g.1 h).1)))

pub finds_any : (s : List ℕ) (from q : ℕ) (o : Option ℕ) → FindsFiller s from (min q 5) o → FindsFiller s from q o
finds_any s from q None f = next_any s from q false from f
finds_any s from q (Some at) f = (next_any s from q true at f.0, f.1, f.2)
