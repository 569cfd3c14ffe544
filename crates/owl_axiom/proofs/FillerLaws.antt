-- The fillers that are no names, token by token.
--
--   Filling        == those from byte `from` on are those from byte `at` on
--   filling_start, filling_turn, filling_end, filling_found == token by token
--   Walked, walk_start, walk_turn, walk_end, walk_found == the same for a walk
use mathlib.Core.Path.{◌≡◌, refl, sym, ap, ap₂, subst, ◌∙◌}
use mathlib.Core.Bool.{Bool, true, false, ◌&&◌, ◌||◌, not}
use mathlib.Core.List.{List, [], ◌∷◌, ◌++◌}
use Prim.Native.Nat.{ℕ, ◌+◌, ◌≤◌, ◌<◌}
use native.Mathlib.Omega.{arith}
use lib.Dec.{T, eqb, eqb→eq}
use lib.ListN.{length}
use Rattle.owl.specs.Token.{kind_at, end_at}
use Rattle.owl.specs.Written.{Token}
use Rattle.owl.specs.TextLaws.{kind_at_lem}
use Rattle.owl.specs.Grammar.{is_name}
use Rattle.owl.specs.Mention.{sort_after}
use Rattle.owl.specs.Said.{own_of}
use Rattle.owl.specs.Restriction.{own_at}
use Rattle.owl.specs.Conjunct.{is_zero, number_after, conjuncts_in}
use Rattle.owl.specs.Equation.{Owned, owned, owned_at, owned_by}
use Rattle.std.specs.Prelude.{Some, None}
use Rattle.owl_token.specs.Kind.{kind_number}
use Rattle.owl_name.specs.declared.walks.Does.{Does}
use Rattle.owl_name.specs.declared.walks.Stop.{Stop}
use Rattle.owl_name.specs.declared.walks.Walk.{Walk}
use Rattle.owl_name.specs.Walk.{does_number, passes, StopAt, Goes}
use Rattle.owl_name.proofs.RestLaws.{AtToken, stop_in, end_in, passes_is}
use Rattle.owl_row.specs.Rows.{own_in}
use Rattle.owl_class.specs.Ends.{rest_tokens}
use Rattle.owl_class.specs.Conjuncts.{conjuncts_at, Reached}
use Rattle.owl_class.proofs.EndLaws.{rest_end, rest_turn}
use Rattle.owl_class.proofs.TurnLaws.{filler, reached_turn}
use Rattle.owl_axiom.specs.Fillers.{NextFiller, FindsFiller}

unfoldable pub Filling : List ℕ → ℕ → ℕ → ℕ → ℕ → Type 0
Filling s from does at q = (n : ℕ) → Reached s from does n → Reached s at q n × (owned_by does n (rest_tokens s from) ≡ owned_by q n (rest_tokens s at))

pub filling_start : (s : List ℕ) (from does : ℕ) → Filling s from does from does
unfolding Filling
filling_start s from does n r = (r, refl)

pub filling_end : (s : List ℕ) (from does at q b : ℕ) → Filling s from does at q → kind_at s at ≡ 0 → NextFiller s from does false b
unfolding Filling NextFiller owned_by
filling_end s from does at q b c z n r =
    ((λ y. (c n r).1 ∙ ap (owned_by q n) (rest_end s at z)), (λ y. absurd (subst T (sym y) tt)))

-- one token, and the rest, by the tests on it
abbrev brought : Bool → Bool → ℕ → ℕ → List Token → List Owned
brought a b o n ts = elim (a && b) [ true ↦ elim (is_zero o) [ true ↦ [] | false ↦ owned n (conjuncts_in (n + 1) ts) ∷ [] ] | false ↦ [] ]

abbrev numbered : Bool → Bool → ℕ → ℕ → ℕ
numbered a b o n = elim (a && b) [ true ↦ n + o | false ↦ n ]

abbrev own_number : Bool → ℕ
own_number b = elim b [ true ↦ 0 | false ↦ 1 ]

turn : (s : List ℕ) (at q n : ℕ) → at ≤ length s → (kind_at s at ≡ 0 → ⊥) →
    (owned_by q n (rest_tokens s at)
    ≡ brought (is_name (kind_at s at)) (eqb q 4) (own_number (is_name (kind_at s (end_at s at)))) n (rest_tokens s (end_at s at))
    ++ owned_by (sort_after q (kind_at s at)) (numbered (is_name (kind_at s at)) (eqb q 4) (own_number (is_name (kind_at s (end_at s at)))) n) (rest_tokens s (end_at s at)))
    × (number_after q n (kind_at s at) (rest_tokens s (end_at s at)) ≡ numbered (is_name (kind_at s at)) (eqb q 4) (own_number (is_name (kind_at s (end_at s at)))) n)
unfolding owned_by owned_at number_after own_at
turn s at q n h z =
    let ts : List Token = rest_tokens s (end_at s at) in
    let o : own_of ts ≡ own_number (is_name (kind_at s (end_at s at))) = sym (filler s at n h).1 in (
      ap (owned_by q n) (rest_turn s at h z)
          ∙ ap₂ (λ (k i : ℕ). brought (is_name k) (eqb q 4) i n ts ++ owned_by (sort_after q k) (numbered (is_name k) (eqb q 4) i n) ts) (kind_at_lem s at) o,
      ap (λ (i : ℕ). numbered (is_name (kind_at s at)) (eqb q 4) i n) o,
    )

-- what is read at a stop
asked : (s : List ℕ) (at q : ℕ) (x : Stop) (b : Bool) → StopAt s at q x → passes (own_in s x.end) x ≡ b → (is_name (kind_at s at) && (eqb q 4 && not (is_name (kind_at s (end_at s at))))) ≡ b
asked s at q x b t d = ap (λ (j : ℕ). is_name (kind_at s at) && (eqb q 4 && not (is_name (kind_at s j)))) (sym t.end) ∙ sym (passes_is (own_in s x.end) s at q x t) ∙ d

-- behind a role a class stands
sort_role : (q k : ℕ) → is_name k ≡ true → eqb q 4 ≡ true → sort_after q k ≡ 3
unfolding is_name sort_after
sort_role q k u v = go (eqb k 13) (eqb k 14) refl refl u
  where
    go : (a b : Bool) → eqb k 13 ≡ a → eqb k 14 ≡ b → (a || b) ≡ true → sort_after q k ≡ 3
    go true b x y w = ap (sort_after q) (eqb→eq k 13 (subst T (sym x) tt)) ∙ ap (λ (c : Bool). elim c [ true ↦ 3 | false ↦ q ]) v
    go false true x y w = ap (sort_after q) (eqb→eq k 14 (subst T (sym y) tt)) ∙ ap (λ (c : Bool). elim c [ true ↦ 3 | false ↦ q ]) v
    go false false x y w = absurd (subst T (sym w) tt)

pub filling_turn : (s : List ℕ) (from does at q k p e r : ℕ) → Filling s from does at q → at ≤ length s → AtToken s at k p e → (k ≡ 0 → ⊥) → (is_name (kind_at s at) && (eqb q 4 && not (is_name (kind_at s (end_at s at))))) ≡ false → r ≡ sort_after q k → Filling s from does e r
unfolding Filling
filling_turn s from does at q k p e r c h a z d g n x =
    let w = c n x in
    let t = turn s at q n h (λ y. z (a.0 ∙ y)) in
    let g' : sort_after q (kind_at s at) ≡ r = ap (sort_after q) (sym a.0) ∙ sym g in
    let i = idle (is_name (kind_at s at)) (eqb q 4) (is_name (kind_at s (end_at s at))) d in (
      subst (λ (y : ℕ). Reached s e y n) g'
          (subst (λ (y : ℕ). Reached s y (sort_after q (kind_at s at)) n) (sym a.2) (subst (Reached s (end_at s at) (sort_after q (kind_at s at))) (t.1 ∙ i.1) (reached_turn s at q n h (λ y. z (a.0 ∙ y)) w.0))),
      w.1 ∙ t.0
          ∙ ap₂ (λ (l : List Owned) (m : ℕ). l ++ owned_by (sort_after q (kind_at s at)) m (rest_tokens s (end_at s at))) i.0 i.1
          ∙ ap₂ (λ (y b : ℕ). owned_by y n (rest_tokens s b)) g' (sym a.2),
    )
  where
    idle : (a b o : Bool) → (a && (b && not o)) ≡ false → (brought a b (own_number o) n (rest_tokens s (end_at s at)) ≡ []) × (numbered a b (own_number o) n ≡ n)
    idle true true true y = (refl, (let z : n + 0 ≡ n = omega arith in z))
    idle true true false y = absurd (subst T y tt)
    idle true false o y = (refl, refl)
    idle false b o y = (refl, refl)

pub filling_found : (s : List ℕ) (from does at q k p e : ℕ) → Filling s from does at q → at ≤ length s → AtToken s at k p e → (k ≡ 0 → ⊥) → (is_name (kind_at s at) && (eqb q 4 && not (is_name (kind_at s (end_at s at))))) ≡ true → NextFiller s from does true e
unfolding Filling NextFiller
filling_found s from does at q k p e c h a z d n x =
    let w = c n x in
    let t = turn s at q n h (λ y. z (a.0 ∙ y)) in
    let i = own (is_name (kind_at s at)) (eqb q 4) (is_name (kind_at s (end_at s at))) refl refl d in (
      (λ y. absurd (subst T y tt)),
      (λ y. (
        w.1 ∙ t.0
            ∙ ap₂ (λ (l : List Owned) (m : ℕ). l ++ owned_by (sort_after q (kind_at s at)) m (rest_tokens s (end_at s at))) i.0 i.1
            ∙ ap₂ (λ (y b : ℕ). owned n (conjuncts_at s b (n + 1)) ∷ owned_by y (n + 1) (rest_tokens s b)) i.2 (sym a.2),
        subst (λ (y : ℕ). Reached s e y (n + 1)) i.2
            (subst (λ (y : ℕ). Reached s y (sort_after q (kind_at s at)) (n + 1)) (sym a.2) (subst (Reached s (end_at s at) (sort_after q (kind_at s at))) (t.1 ∙ i.1) (reached_turn s at q n h (λ y. z (a.0 ∙ y)) w.0))),
      )),
    )
  where
    own : (a b o : Bool) → is_name (kind_at s at) ≡ a → eqb q 4 ≡ b → (a && (b && not o)) ≡ true →
        (brought a b (own_number o) n (rest_tokens s (end_at s at)) ≡ owned n (conjuncts_at s (end_at s at) (n + 1)) ∷ []) × (numbered a b (own_number o) n ≡ n + 1) × (sort_after q (kind_at s at) ≡ 3)
    own true true true u v y = absurd (subst T (sym y) tt)
    own true true false u v y = (refl, refl, sort_role q (kind_at s at) u v)
    own true false o u v y = absurd (subst T (sym y) tt)
    own false b o u v y = absurd (subst T (sym y) tt)

----------------------------------------------------------------------------------------------------
-- Stop by stop

pub record Walked (s : List ℕ) (from does : ℕ) (w : Walk) : Type 0 where
  pub text : w.text.now ≡ s
  pub within : w.at ≤ length s
  pub far : from ≤ w.at
  pub left : Filling s from does w.at (does_number w.does)

pub walk_start : (s : List ℕ) (from : ℕ) (q : Does) (u w : Walk) → from ≤ length s → u.text.now ≡ s → u.at ≡ from → u.does ≡ q → w ≡ u → Walked s from (does_number q) w
walk_start s from q u w h t a d e = subst (Walked s from (does_number q)) (sym e) (record {
  text = t;
  within = omega arith;
  far = omega arith;
  left = subst (λ (r : Does). Filling s from (does_number q) u.at (does_number r)) (sym d) (subst (λ (b : ℕ). Filling s from (does_number q) b (does_number q)) (sym a) (filling_start s from (does_number q)));
})

module _ (s : List ℕ) (from does : ℕ) (w v : Walk) (c : Walked s from does w) where
  pub walk_end : Goes w None v → FindsFiller s from does None
  walk_end g = filling_end s from does w.at (does_number w.does) from c.left (end_in s w v c.text g)

  module _ (x : Stop) (g : Goes w (Some x) v) where
    t : StopAt s w.at (does_number w.does) x
    t = stop_in s w v x c.text g

    some : kind_number x.kind ≡ 0 → ⊥
    some z = t.some (sym t.kind ∙ z)

    pub walk_found : passes (own_in s x.end) x ≡ true → FindsFiller s from does (Some x.end)
    walk_found d =
        let far : from ≤ w.at = c.far in
        let goes : w.at < x.end = t.goes in (
          filling_found s from does w.at (does_number w.does) (kind_number x.kind) x.place x.end c.left c.within (t.kind, t.place, t.end) some
              (asked s w.at (does_number w.does) x true t d),
          omega arith,
          t.within,
        )

    pub walk_turn : passes (own_in s x.end) x ≡ false → Walked s from does v
    walk_turn d =
        let far : from ≤ w.at = c.far in
        let goes : w.at < x.end = t.goes in
        let a : v.at ≡ x.end = g.2 in
        let within : x.end ≤ length s = t.within in record {
          text = g.1 ∙ c.text;
          within = omega arith;
          far = omega arith;
          left =
              subst (λ (b : ℕ). Filling s from does b (does_number v.does)) (sym a)
              (filling_turn s from does w.at (does_number w.does) (kind_number x.kind) x.place x.end (does_number v.does) c.left c.within (t.kind, t.place, t.end) some
              (asked s w.at (does_number w.does) x false t d) g.3);
        }
