-- Laws of passing tokens.
--
--   gone_last      == one token more
--   class_gone     == a class expression passed
--   stands_step, stands_jump == the same at the bytes of a text
--   class_past     == behind the end of a class expression that stands in a text
use Rattle.std.specs.Prelude.{◌≡◌, refl, List, ◌∷◌, ℕ, zero, suc, ◌+◌, length}
use Rattle.std.proofs.Common.{sym, ap, subst, ◌∙◌, arith}
use Rattle.owl.specs.Tree.{short, full, Class, named, intersection_of, some_values_from, Classes, last, more}
use Rattle.owl.specs.Naming.{Names}
use Rattle.owl.specs.Token.{kind_at, end_at}
use Rattle.owl.specs.TokenLaws.{end_le}
use Rattle.owl.specs.Grammar.{is_name}
use Rattle.owl.specs.Mention.{word_sorts, sort_after}
use Rattle.owl.specs.Written.{Token, kind, token_at, ‹right›, written, writtens}
use Rattle.owl.specs.TextLaws.{kind_at_lem}
use Rattle.owl.specs.Said.{own_of}
use Rattle.owl.specs.Flattening.{name_of, concept_of, concepts_of, own, fresh}
use Rattle.owl.specs.RestrictionLaws.{plus_none, plus_three, name_flat, part_class}
use Rattle.owl.specs.Conjunct.{number_after}
use Rattle.owl_class.specs.Ends.{rest_tokens, JumpsBy, Jumps, EndsAt}
use Rattle.owl_class.proofs.EndLaws.{rest_turn}
use Rattle.owl_class.proofs.TurnLaws.{reached_turn}
use Rattle.owl_axiom.specs.Passing.{Passing, passing, step_over, step, gone, tokens_in, tokens_of, Stands}

pub gone_last : (i : ℕ) (x : Passing) → gone (suc i) x ≡ step (gone i x)
gone_last zero x = refl
gone_last (suc i) x = gone_last i (step x)

----------------------------------------------------------------------------------------------------
-- Class expressions

-- how many tokens they have
mutual
  in_more : (C : Class) (i : ℕ) → tokens_in C i ≡ tokens_in C 0 + i
  in_more (named n) i = omega arith
  in_more (intersection_of C Cs) i =
      let a : tokens_in C (tokens_of Cs (suc i)) ≡ tokens_in C 0 + tokens_of Cs (suc i) = in_more C (tokens_of Cs (suc i)) in
      let b : tokens_in C (tokens_of Cs 1) ≡ tokens_in C 0 + tokens_of Cs 1 = in_more C (tokens_of Cs 1) in
      let c : tokens_of Cs (suc i) ≡ tokens_of Cs 0 + suc i = of_more Cs (suc i) in
      let d : tokens_of Cs 1 ≡ tokens_of Cs 0 + 1 = of_more Cs 1 in
      omega arith
  in_more (some_values_from r C) i =
      let a : tokens_in C (suc i) ≡ tokens_in C 0 + suc i = in_more C (suc i) in
      let b : tokens_in C 1 ≡ tokens_in C 0 + 1 = in_more C 1 in
      omega arith

  of_more : (Cs : Classes) (i : ℕ) → tokens_of Cs i ≡ tokens_of Cs 0 + i
  of_more (last C) i = in_more C i
  of_more (more C Cs) i =
      let a : tokens_in C (tokens_of Cs i) ≡ tokens_in C 0 + tokens_of Cs i = in_more C (tokens_of Cs i) in
      let b : tokens_in C (tokens_of Cs 0) ≡ tokens_in C 0 + tokens_of Cs 0 = in_more C (tokens_of Cs 0) in
      let c : tokens_of Cs i ≡ tokens_of Cs 0 + i = of_more Cs i in
      omega arith

mutual
  class_length : (C : Class) (rest : List Token) → length (written C rest) ≡ tokens_in C (length rest)
  class_length (named n) rest = refl
  class_length (intersection_of C Cs) rest = ap (λ (i : ℕ). suc (suc i)) (class_length C (writtens Cs (‹right› ∷ rest)) ∙ ap (tokens_in C) (classes_length Cs (‹right› ∷ rest)))
  class_length (some_values_from r C) rest = ap (λ (i : ℕ). suc (suc (suc i))) (class_length C (‹right› ∷ rest))

  classes_length : (Cs : Classes) (rest : List Token) → length (writtens Cs rest) ≡ tokens_of Cs (length rest)
  classes_length (last C) rest = class_length C rest
  classes_length (more C Cs) rest = class_length C (writtens Cs rest) ∙ ap (tokens_in C) (classes_length Cs rest)

module _ (d : Names) where
  -- fresh variables of a restriction and of its filler
  inner_fresh : (C : Class) (n : ℕ) (rest : List Token) → n + own_of (written C rest) + fresh (concept_of d C) ≡ n + (own (concept_of d C) + fresh (concept_of d C))
  inner_fresh C n rest = ap (λ (k : ℕ). n + k + fresh (concept_of d C)) (part_class d 0 C n rest).1 ∙ plus_three n (own (concept_of d C)) (fresh (concept_of d C))

  mutual
    unfolding is_name sort_after word_sorts number_after

    pub class_gone : (C : Class) (n i : ℕ) (rest : List Token) → gone (tokens_in C i) (passing 3 n (written C rest)) ≡ gone i (passing 3 (n + fresh (concept_of d C)) rest)
    class_gone (named (short w)) n i rest = ap (λ (m : ℕ). gone i (passing 3 m rest)) (plus_none n (fresh (name_of d (short w))) (name_flat d 0 (short w) 0).1)
    class_gone (named (full w)) n i rest = ap (λ (m : ℕ). gone i (passing 3 m rest)) (plus_none n (fresh (name_of d (full w))) (name_flat d 0 (full w) 0).1)
    class_gone (intersection_of C Cs) n i rest =
        class_gone C n (tokens_of Cs (suc i)) (writtens Cs (‹right› ∷ rest))
        ∙ classes_gone Cs (n + fresh (concept_of d C)) (suc i) (‹right› ∷ rest)
        ∙ ap (λ (m : ℕ). gone i (passing 3 m rest)) (plus_three n (fresh (concept_of d C)) (fresh (concepts_of d Cs)))
    class_gone (some_values_from (short w) C) n i rest =
        class_gone C (n + own_of (written C (‹right› ∷ rest))) (suc i) (‹right› ∷ rest)
        ∙ ap (λ (m : ℕ). gone i (passing 3 m rest)) (inner_fresh C n (‹right› ∷ rest))
    class_gone (some_values_from (full w) C) n i rest =
        class_gone C (n + own_of (written C (‹right› ∷ rest))) (suc i) (‹right› ∷ rest)
        ∙ ap (λ (m : ℕ). gone i (passing 3 m rest)) (inner_fresh C n (‹right› ∷ rest))

    classes_gone : (Cs : Classes) (n i : ℕ) (rest : List Token) → gone (tokens_of Cs i) (passing 3 n (writtens Cs rest)) ≡ gone i (passing 3 (n + fresh (concepts_of d Cs)) rest)
    classes_gone (last C) n i rest = class_gone C n i rest
    classes_gone (more C Cs) n i rest =
        class_gone C n (tokens_of Cs i) (writtens Cs rest)
        ∙ classes_gone Cs (n + fresh (concept_of d C)) i rest
        ∙ ap (λ (m : ℕ). gone i (passing 3 m rest)) (plus_three n (fresh (concept_of d C)) (fresh (concepts_of d Cs)))

----------------------------------------------------------------------------------------------------
-- At the bytes of a text

tail_is : (t : Token) (ts us : List Token) → (t ∷ ts) ≡ us → (k : ℕ) (q n : ℕ) → kind t ≡ k → step_over q n us ≡ passing (sort_after q k) (number_after q n k ts) ts
tail_is t ts us e k q n d = ap (step_over q n) (sym e) ∙ ap (λ (j : ℕ). passing (sort_after q j) (number_after q n j ts) ts) d

pub stands_step : (s : List ℕ) (at : ℕ) (x : Passing) → Stands s at x → (kind_at s at ≡ 0 → ⊥) → Stands s (end_at s at) (step x)
stands_step s at x c z =
    let ts : List Token = rest_tokens s (end_at s at) in
    let e : step_over x.does x.number x.left ≡ passing (sort_after x.does (kind_at s at)) (number_after x.does x.number (kind_at s at) ts) ts =
    tail_is (token_at s at) ts x.left (sym (rest_turn s at c.within z) ∙ c.left) (kind_at s at) x.does x.number (kind_at_lem s at) in
    subst (Stands s (end_at s at)) (sym e) (record {
      within = end_le s at c.within;
      left = refl;
      reached = reached_turn s at x.does x.number c.within z c.reached;
    })

stands_by : (s : List ℕ) (at i e : ℕ) (x : Passing) → Stands s at x → JumpsBy s at i e → Stands s e (gone i x) × (length (rest_tokens s at) ≡ i + length (rest_tokens s e))
stands_by s at zero e x c j =
    let h : length (rest_tokens s at) ≡ length (rest_tokens s e) = ap (λ (b : ℕ). length (rest_tokens s b)) (sym j) in
    (subst (λ (b : ℕ). Stands s b x) (sym j) c, omega arith)
stands_by s at (suc i) e x c j =
    let m : ℕ = j.0 in
    let before = stands_by s at i m x c j.1 in
    let own : Stands s m (gone i x) = before.0 in
    let a : length (rest_tokens s at) ≡ i + length (rest_tokens s m) = before.1 in
    let b : length (rest_tokens s m) ≡ suc (length (rest_tokens s (end_at s m))) = ap length (rest_turn s m own.within j.2) in
    let d : length (rest_tokens s (end_at s m)) ≡ length (rest_tokens s e) = ap (λ (b : ℕ). length (rest_tokens s b)) (sym j.3) in (
      subst (λ (b : ℕ). Stands s b (gone (suc i) x)) (sym j.3) (subst (Stands s (end_at s m)) (sym (gone_last i x)) (stands_step s m (gone i x) own j.2)),
      omega arith,
    )

-- a byte behind some tokens is told by how many are left
pub stands_jump : (s : List ℕ) (at e i : ℕ) (x : Passing) → Stands s at x → Jumps s at e → length x.left ≡ i + length (rest_tokens s e) → Stands s e (gone i x)
unfolding Jumps
stands_jump s at e i x c j h =
    let w = stands_by s at j.0 e x c j.1 in
    let a : length (rest_tokens s at) ≡ j.0 + length (rest_tokens s e) = w.1 in
    let b : length (rest_tokens s at) ≡ length x.left = ap length c.left in
    subst (λ (k : ℕ). Stands s e (gone k x)) (let z : j.0 ≡ i = omega arith in z) w.0

-- behind a class expression
pub class_past : (d : Names) (s : List ℕ) (at e n : ℕ) (C : Class) (rest : List Token) → Stands s at (passing 3 n (written C rest)) → EndsAt s at e → Stands s e (passing 3 (n + fresh (concept_of d C)) rest)
unfolding EndsAt
class_past d s at e n C rest c ends =
    let w = ends C rest c.left in
    let a : length (written C rest) ≡ tokens_in C (length rest) = class_length C rest in
    let b : tokens_in C (length rest) ≡ tokens_in C 0 + length rest = in_more C (length rest) in
    let f : length (rest_tokens s e) ≡ length rest = ap length w.0 in
    subst (Stands s e) (class_gone d C n 0 rest) (stands_jump s at e (tokens_in C 0) (passing 3 n (written C rest)) c w.1 (omega arith))
