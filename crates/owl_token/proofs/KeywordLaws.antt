-- Laws of the listed words.
--
--   listed, unlisted        == a run is this listed word, or none of them
--   listed_kind, other_kind_lem == the kind of a run that is listed, and of one that is not
use mathlib.Core.Path.{◌≡◌, refl, sym, ap, ap₂, subst, ◌∙◌}
use mathlib.Core.Bool.{Bool, true, false, ◌&&◌, ◌||◌}
use mathlib.Core.List.{[], List, ◌∷◌}
use Prim.Native.Nat.{ℕ, ◌+◌, ◌<◌}
use native.Mathlib.Omega.{arith}
use lib.Dec.{T, eqb, eqb→eq}
use lib.ListN.{length, get_or}
use Rattle.el.specs.Test.{all_below, any_of}
use Rattle.el.specs.TestLaws.{true_is, and_left, and_right, all_below_at}
use Rattle.owl.specs.Once.{is_among, place}
use Rattle.owl.specs.Naming.{same_bytes}
use Rattle.owl.specs.NamingLaws.{same_bytes_means}
use Rattle.owl.specs.Token.{is_plain, byte_class, shapes, shaped, shape, keywords, prefix_word, ontology_word, declaration_word, class_word, property_word, sub_class_word, equivalent_word, intersection_word, some_values_word, word_kind, run_kind}
use Rattle.owl_token.specs.Keyword.{keyword_kind, IsListed, other_kind}

-- each listed word has the kind of its place, and is of shape 2
words_right : T (all_below 9 (λ i. eqb (keyword_kind (get_or keywords i [])) (4 + i) && eqb (shape 0 (get_or keywords i [])) 2))
unfolding all_below keyword_kind keywords prefix_word ontology_word declaration_word class_word property_word sub_class_word equivalent_word intersection_word some_values_word is_among any_of place same_bytes shape shaped shapes byte_class is_plain
words_right = tt

pub listed : (i : ℕ) (w : List ℕ) → i < 9 → same_bytes w (get_or keywords i []) ≡ true → IsListed w (4 + i) (length (get_or keywords i []))
listed i w h e =
    let k : List ℕ = get_or keywords i [] in
    let t = all_below_at 9 i (λ i. eqb (keyword_kind (get_or keywords i [])) (4 + i) && eqb (shape 0 (get_or keywords i [])) 2) words_right h in
    subst (λ (w : List ℕ). IsListed w (4 + i) (length k)) (sym (same_bytes_means w k (true_is (same_bytes w k) e))) (
      sym (eqb→eq (keyword_kind k) (4 + i) (and_left (eqb (keyword_kind k) (4 + i)) (eqb (shape 0 k) 2) t)),
      omega arith,
      refl,
      eqb→eq (shape 0 k) 2 (and_right (eqb (keyword_kind k) (4 + i)) (eqb (shape 0 k) 2) t),
    )

abbrev pub NoneSame : List ℕ → List (List ℕ) → Type 0
NoneSame w [] = Unit {0}
NoneSame w (k ∷ ks) = (same_bytes w k ≡ false) × NoneSame w ks

none_among : (w : List ℕ) (ks : List (List ℕ)) → NoneSame w ks → is_among same_bytes w ks ≡ false
unfolding is_among any_of
none_among w [] h = refl
none_among w (k ∷ ks) h = ap₂ ◌||◌ h.0 (none_among w ks h.1)

pub unlisted : (w : List ℕ) → NoneSame w keywords → keyword_kind w ≡ 0
unfolding keyword_kind
unlisted w h = ap (λ (b : Bool). elim b [ true ↦ 4 + place same_bytes w keywords | false ↦ 0 ]) (none_among w keywords h)

pub listed_kind : (w : List ℕ) (o : Bool) (k : ℕ) → k ≡ keyword_kind w → 0 < k → shape 0 w ≡ 2 → k ≡ run_kind w o
unfolding keyword_kind word_kind run_kind
listed_kind w o k e h g =
    go (is_among same_bytes w keywords) e
    ∙ sym (ap (λ (m : ℕ). elim (eqb m 3) [ true ↦ 15 | false ↦ elim (eqb m 4) [ true ↦ 13 | false ↦ elim (eqb m 5) [ true ↦ 17 | false ↦ word_kind w o ] ] ]) g)
  where
    go : (b : Bool) → ◌≡◌ {A = ℕ} k (elim b [ true ↦ 4 + place same_bytes w keywords | false ↦ 0 ]) →
        ◌≡◌ {A = ℕ} k (elim b [ true ↦ 4 + place same_bytes w keywords | false ↦ elim o [ true ↦ 16 | false ↦ 17 ] ])
    go true e = e
    go false e = absurd (let z : k ≡ 0 = e in let y : ⊥ = omega arith in y)

pub other_kind_lem : (w : List ℕ) (o : Bool) → 0 ≡ keyword_kind w → other_kind (shape 0 w) o ≡ run_kind w o
unfolding keyword_kind word_kind run_kind other_kind
other_kind_lem w o e =
    ap (λ (k : ℕ). elim (eqb (shape 0 w) 3) [ true ↦ 15 | false ↦ elim (eqb (shape 0 w) 4) [ true ↦ 13 | false ↦ elim (eqb (shape 0 w) 5) [ true ↦ 17 | false ↦ k ] ] ])
    (go (is_among same_bytes w keywords) e)
  where
    go : (b : Bool) → ◌≡◌ {A = ℕ} 0 (elim b [ true ↦ 4 + place same_bytes w keywords | false ↦ 0 ]) →
        ◌≡◌ {A = ℕ} (elim o [ true ↦ 16 | false ↦ 17 ]) (elim b [ true ↦ 4 + place same_bytes w keywords | false ↦ elim o [ true ↦ 16 | false ↦ 17 ] ])
    go true e = absurd (let z : 0 ≡ 4 + place same_bytes w keywords = e in let y : ⊥ = omega arith in y)
    go false e = refl
