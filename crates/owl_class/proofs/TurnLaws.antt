-- What one token does to the conjuncts of a class expression, and to the restrictions behind it.
--
--   conjunct_of s at q m == the conjunct that a token is, if it is one
--   bring, turn         == what a token brings, before what stands behind it
--   filler              == the filler of a role, on the text and on its tokens
--   reached_turn, reached_role == the restrictions behind a token are the last ones too; a role's is one of the text's
use mathlib.Core.Path.{◌≡◌, refl, sym, ap, ap₂, ◌∙◌}
use mathlib.Core.Bool.{Bool, true, false, ◌&&◌, not}
use mathlib.Core.List.{List, [], ◌∷◌, ◌++◌}
use Prim.Native.Nat.{ℕ, suc, ◌+◌, ◌-◌, ◌≤◌}
use native.Mathlib.Omega.{arith}
use lib.Dec.{eqb}
use lib.ListN.{length}
use Rattle.owl.specs.Tree.{Name}
use Rattle.owl.specs.Naming.{is_thing}
use Rattle.owl.specs.Token.{kind_at, end_at}
use Rattle.owl.specs.Written.{Token, kind, token_at}
use Rattle.owl.specs.Grammar.{is_name}
use Rattle.owl.specs.TextLaws.{kind_at_lem}
use Rattle.owl.specs.Mention.{sort_after, name_by, name_at}
use Rattle.owl.specs.MentionLaws.{name_at_lem}
use Rattle.owl.specs.Said.{bytes_of, part_of, own_of}
use Rattle.owl.specs.Restriction.{restricted, part_at, own_at, Standing, standing_at, standing}
use Rattle.owl.specs.RestrictionLaws.{part_said}
use Rattle.owl.specs.TokenLaws.{end_le}
use Rattle.owl.specs.Conjunct.{Conjunct, a_class, a_restriction, is_zero, is_one, class_of, onwards, here, ends_here, outer_after, inner_after, number_after, conjuncts_by}
use Rattle.owl_row.specs.Rows.{rest_of}
use Rattle.owl_row.proofs.StandLaws as stand
use Rattle.owl_class.specs.Ends.{rest_tokens, is_conjunct}
use Rattle.owl_class.specs.Conjuncts.{Reached}
use Rattle.owl_class.proofs.EndLaws.{rest_turn}
use Rattle.owl_name.proofs.OrderedLaws.{append_one}

-- the conjunct that a token is, if it is one
abbrev pub conjunct_of : List ℕ → ℕ → ℕ → ℕ → Conjunct
conjunct_of s at q m = elim (eqb q 4) [ true ↦ a_restriction (restricted (name_at s at) (part_of m (rest_tokens s (end_at s at)))) | false ↦ a_class (name_at s at) ]

-- by the tests
by_tests : (a b c d th : Bool) (R N : Conjunct) →
    ◌≡◌ {A = List Conjunct}
    (elim a [ true ↦ elim b [ true ↦ elim c [ true ↦ R ∷ [] | false ↦ [] ] | false ↦ elim d [ true ↦ elim th [ true ↦ [] | false ↦ N ∷ [] ] | false ↦ [] ] ] | false ↦ [] ])
    (elim (a && elim b [ true ↦ c | false ↦ d && not th ]) [ true ↦ elim b [ true ↦ R | false ↦ N ] ∷ [] | false ↦ [] ])
by_tests true true true d th R N = refl
by_tests true true false d th R N = refl
by_tests true false c true true R N = refl
by_tests true false c true false R N = refl
by_tests true false c false th R N = refl
by_tests false b c d th R N = refl

pub bring : (s : List ℕ) (at inner q m : ℕ) →
    here inner q m (token_at s at) (rest_tokens s (end_at s at)) ≡ elim (is_conjunct inner q (kind_at s at) (name_at s at)) [ true ↦ conjunct_of s at q m ∷ [] | false ↦ [] ]
unfolding here class_of is_conjunct
bring s at inner q m =
    ap (λ (j : ℕ). F (is_name j) (name_by (kind (token_at s at)) (bytes_of (token_at s at)))) (kind_at_lem s at)
    ∙ go (is_name (kind_at s at)) refl
    ∙ by_tests (is_name (kind_at s at)) (eqb q 4) (is_one inner) (is_zero inner) (is_thing (name_at s at)) (a_restriction (restricted (name_at s at) (part_of m (rest_tokens s (end_at s at))))) (a_class (name_at s at))
  where
    F : Bool → Name → List Conjunct
    F a x =
        elim a [
          | true ↦ elim (eqb q 4) [
            | true ↦ elim (is_one inner) [ true ↦ a_restriction (restricted x (part_of m (rest_tokens s (end_at s at)))) ∷ [] | false ↦ [] ]
            | false ↦ elim (is_zero inner) [ true ↦ elim (is_thing x) [ true ↦ [] | false ↦ a_class x ∷ [] ] | false ↦ [] ]
          ]
          | false ↦ []
        ]

    go : (a : Bool) → is_name (kind_at s at) ≡ a → F a (name_by (kind (token_at s at)) (bytes_of (token_at s at))) ≡ F a (name_at s at)
    go true e = ap (F true) (sym (name_at_lem s at e))
    go false e = refl

-- one token, and the rest
pub turn : (s : List ℕ) (at outer inner q m : ℕ) → at ≤ length s → (kind_at s at ≡ 0 → ⊥) →
    conjuncts_by outer inner q m (rest_tokens s at)
    ≡ elim (is_conjunct inner q (kind_at s at) (name_at s at)) [ true ↦ conjunct_of s at q m ∷ [] | false ↦ [] ]
    ++ onwards (ends_here outer inner q (kind_at s at))
    (conjuncts_by (outer_after outer inner q (kind_at s at)) (inner_after inner q (kind_at s at)) (sort_after q (kind_at s at)) (number_after q m (kind_at s at) (rest_tokens s (end_at s at))) (rest_tokens s (end_at s at)))
unfolding conjuncts_by
turn s at outer inner q m h z =
    let ts : List Token = rest_tokens s (end_at s at) in
    ap (conjuncts_by outer inner q m) (rest_turn s at h z)
    ∙ ap₂ (λ (l : List Conjunct) (j : ℕ). l ++ onwards (ends_here outer inner q j) (conjuncts_by (outer_after outer inner q j) (inner_after inner q j) (sort_after q j) (number_after q m j ts) ts))
    (bring s at inner q m) (kind_at_lem s at)

----------------------------------------------------------------------------------------------------
-- The restrictions behind a token

-- the filler of a role, on the text and on its tokens
pub filler : (s : List ℕ) (at m : ℕ) → at ≤ length s → (part_at s (end_at s at) m ≡ part_of m (rest_tokens s (end_at s at))) × (own_at s (end_at s at) ≡ own_of (rest_tokens s (end_at s at)))
unfolding rest_tokens
filler s at m h =
    let e : end_at s at ≤ length s = end_le s at h in
    part_said s (suc (length s - end_at s at)) (end_at s at) m e (omega arith)

pub reached_turn : (s : List ℕ) (at q m : ℕ) → at ≤ length s → (kind_at s at ≡ 0 → ⊥) → Reached s at q m →
    Reached s (end_at s at) (sort_after q (kind_at s at)) (number_after q m (kind_at s at) (rest_tokens s (end_at s at)))
unfolding Reached number_after
reached_turn s at q m h z r = go (is_name (kind_at s at) && eqb q 4) (r.1 ∙ ap (λ (l : List Standing). r.0 ++ l) (stand.rest_turn s at q m h z))
  where
    rest : ℕ → List Standing
    rest k = rest_of s (end_at s at) (sort_after q (kind_at s at)) k

    go : (b : Bool) → standing s ≡ r.0 ++ elim b [ true ↦ standing_at s at m ∷ rest (m + own_at s (end_at s at)) | false ↦ rest m ] →
        (pre : List Standing) × (standing s ≡ pre ++ rest (elim b [ true ↦ m + own_of (rest_tokens s (end_at s at)) | false ↦ m ]))
    go true d = (
      r.0 ++ (standing_at s at m ∷ []),
      d ∙ append_one r.0 (standing_at s at m) (rest (m + own_at s (end_at s at))) ∙ ap (λ (k : ℕ). (r.0 ++ (standing_at s at m ∷ [])) ++ rest (m + k)) (filler s at m h).1,
    )
    go false d = (r.0, d)

-- a role's restriction is one of the text's
pub reached_role : (s : List ℕ) (at q m : ℕ) → at ≤ length s → (kind_at s at ≡ 0 → ⊥) → is_name (kind_at s at) ≡ true → eqb q 4 ≡ true → Reached s at q m →
    (pre : List Standing) × (post : List Standing) × (standing s ≡ pre ++ (standing_at s at m ∷ post))
unfolding Reached
reached_role s at q m h z i f r =
    let rest : ℕ → List Standing = rest_of s (end_at s at) (sort_after q (kind_at s at)) in (
      r.0,
      rest (m + own_at s (end_at s at)),
      r.1 ∙ ap (λ (l : List Standing). r.0 ++ l)
          (stand.rest_turn s at q m h z ∙ ap₂ (λ (a b : Bool). elim (a && b) [ true ↦ standing_at s at m ∷ rest (m + own_at s (end_at s at)) | false ↦ rest m ]) i f),
    )
