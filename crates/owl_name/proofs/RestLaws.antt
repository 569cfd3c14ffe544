-- The mentions of a text, token by token.
--
--   placed_fuel    == any number of tokens that is enough gives the same mentions
--   rest_start     == from byte 0 on they are all
--   rest_end       == at the end of the text there are none
--   rest_turn      == at a token, that of the token, if it is a name that does something, and those behind it
--   AtToken        == the token after byte `at` has this kind and lies there
--   token_name     == the name between its bytes
--   named_at       == so with what may be a name
--   stop_in, end_in == the next stop of a walk over a text
--   named_is, passes_is == what passes at a stop of a walk
--   first_end, first_hit, first_miss == the first mention that passes a test, stop by stop
--   Seeking, seek_start, seek_hit, seek_miss, seek_end == the same for a walk
use Rattle.std.specs.Prelude.{Option, Some, None}
use mathlib.Core.Path.{◌≡◌, refl, sym, ap, ap₂, subst, ◌∙◌}
use mathlib.Core.Bool.{Bool, true, false, ◌&&◌}
use mathlib.Core.List.{List, [], ◌∷◌}
use Prim.Native.Nat.{ℕ, zero, suc, ◌+◌, ◌-◌, ◌≤◌, ◌<◌}
use native.Mathlib.Omega.{arith}
use lib.Dec.{eqb, ltb}
use lib.ListN.{length, take, drop}
use borrow.Author.Tests.{eq-eqb, ne_eqb, eqb-false, lt-ltb}
use Rattle.owl.specs.Tree as tree
use Rattle.owl.specs.Token.{size_of, place_at, kind_at, end_at}
use Rattle.owl.specs.TokenLaws.{end_le, progress, more}
use Rattle.owl.specs.Grammar.{is_name}
use Rattle.owl.specs.Mention.{sort_after, name_by, bytes_at, name_at, Mention, Placed, mentioned, placed_at, placed_from, placed, first_place}
use denote.Enum.Bare.{sameb, same_false}
use Rattle.owl_token.specs.declared.Kind.TheVariants.{End}
use Rattle.owl_token.specs.declared.Token.{Token}
use Rattle.owl_token.specs.contracts.Kind as kinds
use Rattle.owl_token.specs.Kind.{kind_number, kind_number_injective}
use Rattle.owl_name.specs.declared.walks.Does.{Does}
use Rattle.owl_name.specs.declared.walks.Does.TheVariants.{Nothing}
use Rattle.owl_name.specs.declared.walks.Walk.{Walk}
use Rattle.owl_name.specs.declared.names.Name.{Name}
use Rattle.owl_name.specs.declared.walks.Stop.{Stop}
use Rattle.owl_name.specs.Walk.{does_number, named_and, passes, IsNamedBy, IsNamed, StopAt, Goes}
use Rattle.owl_name.specs.Declarations.{rest_of}

----------------------------------------------------------------------------------------------------
-- From a byte on

-- reading goes on
pub goes : (s : List ℕ) (at : ℕ) → at ≤ length s → eqb (kind_at s at) 0 ≡ false → (at < end_at s at) × (end_at s at ≤ length s)
goes s at h e = (progress s at (more s at h (eqb-false (kind_at s at) 0 e)), end_le s at h)

placed_fuel : (s : List ℕ) (f g at q : ℕ) → at ≤ length s → length s < at + f → length s < at + g → placed_from s f at q ≡ placed_from s g at q
unfolding placed_from
placed_fuel s zero g at q h l m = absurd (let z : ⊥ = omega arith in z)
placed_fuel s (suc f) zero at q h l m = absurd (let z : ⊥ = omega arith in z)
placed_fuel s (suc f) (suc g) at q h l m = go (eqb (kind_at s at) 0) refl (placed_fuel s f g (end_at s at) (sort_after q (kind_at s at)))
  where
    x : List Placed
    x = placed_from s f (end_at s at) (sort_after q (kind_at s at))

    y : List Placed
    y = placed_from s g (end_at s at) (sort_after q (kind_at s at))

    go : (b : Bool) → eqb (kind_at s at) 0 ≡ b → (end_at s at ≤ length s → length s < end_at s at + f → length s < end_at s at + g → x ≡ y) →
        ◌≡◌ {A = List Placed} (elim b [ true ↦ [] | false ↦ elim (is_name (kind_at s at) && ltb 0 q) [ true ↦ placed_at s at q ∷ x | false ↦ x ] ])
        (elim b [ true ↦ [] | false ↦ elim (is_name (kind_at s at) && ltb 0 q) [ true ↦ placed_at s at q ∷ y | false ↦ y ] ])
    go true e ih = refl
    go false e ih =
        let d = goes s at h e in
        let on : at < end_at s at = d.0 in
        let u : length s < end_at s at + f = omega arith in
        let v : length s < end_at s at + g = omega arith in
        ap (λ (l : List Placed). elim (is_name (kind_at s at) && ltb 0 q) [ true ↦ placed_at s at q ∷ l | false ↦ l ]) (ih d.1 u v)

pub rest_start : (s : List ℕ) → placed s ≡ rest_of s 0 0
unfolding placed rest_of
rest_start s = ap (λ (n : ℕ). placed_from s (suc n) 0 0) (let z : length s ≡ length s - 0 = omega arith in z)

pub rest_end : (s : List ℕ) (at q : ℕ) → kind_at s at ≡ 0 → rest_of s at q ≡ []
unfolding rest_of placed_from
rest_end s at q e =
    ap (λ (b : Bool). elim b [
      | true ↦ []
      | false ↦ elim (is_name (kind_at s at) && ltb 0 q) [
        | true ↦ placed_at s at q ∷ placed_from s (length s - at) (end_at s at) (sort_after q (kind_at s at))
        | false ↦ placed_from s (length s - at) (end_at s at) (sort_after q (kind_at s at))
      ]
    ]) (eq-eqb (kind_at s at) 0 e)

-- the mention of a token, if it has one, before those behind it
abbrev pub turned : List ℕ → ℕ → ℕ → List Placed → List Placed
turned s at q l = elim (is_name (kind_at s at) && ltb 0 q) [ true ↦ placed_at s at q ∷ l | false ↦ l ]

placed_turn : (s : List ℕ) (f at q : ℕ) → eqb (kind_at s at) 0 ≡ false → placed_from s (suc f) at q ≡ turned s at q (placed_from s f (end_at s at) (sort_after q (kind_at s at)))
unfolding placed_from
placed_turn s f at q e = ap (λ (b : Bool). elim b [ true ↦ [] | false ↦ turned s at q (placed_from s f (end_at s at) (sort_after q (kind_at s at))) ]) e

pub rest_turn : (s : List ℕ) (at q : ℕ) → at ≤ length s → (kind_at s at ≡ 0 → ⊥) → rest_of s at q ≡ turned s at q (rest_of s (end_at s at) (sort_after q (kind_at s at)))
unfolding rest_of
rest_turn s at q h k =
    let e : eqb (kind_at s at) 0 ≡ false = ne_eqb (kind_at s at) 0 k in
    let d = goes s at h e in
    let on : at < end_at s at = d.0 in
    let far : end_at s at ≤ length s = d.1 in
    let u : length s < end_at s at + (length s - at) = omega arith in
    let v : length s < end_at s at + suc (length s - end_at s at) = omega arith in
    placed_turn s (length s - at) at q e
    ∙ ap (turned s at q) (placed_fuel s (length s - at) (suc (length s - end_at s at)) (end_at s at) (sort_after q (kind_at s at)) far u v)

----------------------------------------------------------------------------------------------------
-- A token

abbrev pub AtToken : List ℕ → ℕ → ℕ → ℕ → ℕ → Type 0
AtToken s at k p e = (k ≡ kind_at s at) × (p ≡ place_at s at) × (e ≡ end_at s at)

pub token_bytes : (s : List ℕ) (at k p e : ℕ) → AtToken s at k p e → take (e - p) (drop p s) ≡ bytes_at s at
unfolding bytes_at
token_bytes s at k p e t = ap₂ (λ (a b : ℕ). take (b - a) (drop a s)) t.1 t.2

pub token_name : (s : List ℕ) (at k p e : ℕ) → AtToken s at k p e → name_by k (take (e - p) (drop p s)) ≡ name_at s at
token_name s at k p e t = ap₂ (λ (a : ℕ) (w : List ℕ). name_by a w) t.0 (token_bytes s at k p e t)

pub token_order : (s : List ℕ) (at k p e : ℕ) → AtToken s at k p e → p ≤ e
unfolding end_at
token_order s at k p e t =
    let a : p ≡ place_at s at = t.1 in
    let b : e ≡ place_at s at + size_of (drop (place_at s at) s) = t.2 in
    omega arith

pub token_goes : (s : List ℕ) (at k p e : ℕ) → AtToken s at k p e → at ≤ length s → (k ≡ 0 → ⊥) → at < e
token_goes s at k p e t h n =
    let d : at < end_at s at = (goes s at h (ne_eqb (kind_at s at) 0 (λ z. n (t.0 ∙ z)))).0 in
    let b : e ≡ end_at s at = t.2 in
    omega arith

----------------------------------------------------------------------------------------------------
-- A stop of a walk

pub named_at : (s : List ℕ) (at k p e : ℕ) (o : Option Name) → AtToken s at k p e → IsNamedBy k (take (e - p) (drop p s)) o → IsNamed s at o
named_at s at k p e o t h = subst (λ (w : List ℕ). IsNamedBy (kind_at s at) w o) (token_bytes s at k p e t) (subst (λ (j : ℕ). IsNamedBy j (take (e - p) (drop p s)) o) t.0 h)

no_end : (t : Token) {b : Bool} → b ≡ sameb kinds.the_type t.kind End → b ≡ false → kind_number t.kind ≡ 0 → ⊥
no_end t e f z = same_false kinds.the_type t.kind End (sym e ∙ f) (kind_number_injective t.kind End z)

pub goes_on : (s : List ℕ) (at : ℕ) → at ≤ length s → (t : Token) → AtToken s at (kind_number t.kind) t.place t.end → {b : Bool} → b ≡ sameb kinds.the_type t.kind End → b ≡ false → at < t.end
goes_on s at h t a e f = token_goes s at (kind_number t.kind) t.place t.end a h (no_end t e f)

-- a token that is not the end
pub stop_at : (s : List ℕ) (at : ℕ) (q : Does) → at ≤ length s → (t : Token) (o : Option Name) → AtToken s at (kind_number t.kind) t.place t.end → t.end ≤ length s →
    {b : Bool} → b ≡ sameb kinds.the_type t.kind End → b ≡ false → IsNamedBy (kind_number t.kind) (take (t.end - t.place) (drop t.place s)) o →
    StopAt s at (does_number q) (record { at = at; does = q; kind = t.kind; place = t.place; end = t.end; name = o })
stop_at s at q h t o a w e f n = record {
  at_byte = refl;
  does = refl;
  kind = a.0;
  place = a.1;
  end = a.2;
  some = λ z. no_end t e f (a.0 ∙ z);
  within = w;
  goes = goes_on s at h t a e f;
  named = named_at s at (kind_number t.kind) t.place t.end o a n;
}

pub starts_within : (s : List ℕ) (at q : ℕ) (x : Stop) → StopAt s at q x → at ≤ length s
starts_within s at q x t = let g : at < x.end = t.goes in let w : x.end ≤ length s = t.within in omega arith

-- of a walk over the text s
pub stop_in : (s : List ℕ) (w v : Walk) (x : Stop) → w.text.now ≡ s → Goes w (Some x) v → StopAt s w.at (does_number w.does) x
stop_in s w v x e g = subst (λ (t : List ℕ). StopAt t w.at (does_number w.does) x) e g.0

pub end_in : (s : List ℕ) (w v : Walk) → w.text.now ≡ s → Goes w None v → kind_at s w.at ≡ 0
end_in s w v e g = ap (λ (t : List ℕ). kind_at t w.at) (sym e) ∙ g

-- what passes there
pub named_is : (p : tree.Name → Bool) (s : List ℕ) (at : ℕ) (o : Option Name) → IsNamed s at o → named_and p o ≡ (is_name (kind_at s at) && p (name_at s at))
named_is p s at None h = sym (ap (λ (b : Bool). b && p (name_at s at)) h)
named_is p s at (Some n) h = ap p h.1 ∙ sym (ap (λ (b : Bool). b && p (name_at s at)) h.0)

pub passes_is : (p : Mention → Bool) (s : List ℕ) (at q : ℕ) (x : Stop) → StopAt s at q x → passes p x ≡ (is_name (kind_at s at) && p (mentioned q (name_at s at)))
passes_is p s at q x t = ap (λ (j : ℕ). named_and (λ n. p (mentioned j n)) x.name) t.does ∙ named_is (λ n. p (mentioned q n)) s at x.name t.named

----------------------------------------------------------------------------------------------------
-- The first that passes; a name that does nothing does not

module _ (p : Mention → Bool) (end : ℕ) where
  -- a walk reached a place from which the first is that of all
  pub record Seeking (all : ℕ) (s : List ℕ) (w : Walk) : Type 0 where
    pub text : w.text.now ≡ s
    pub left : all ≡ first_place p end (rest_of s w.at (does_number w.does))

  pub seek_within : (all : ℕ) (s : List ℕ) (w v : Walk) (x : Stop) → Seeking all s w → Goes w (Some x) v → x.place ≤ length s
  seek_within all s w v x k g =
      let order : x.place ≤ x.end = token_order w.text.now w.at (kind_number x.kind) x.place x.end (g.0.kind, g.0.place, g.0.end) in
      let end : x.end ≤ length w.text.now = g.0.within in
      let same : length w.text.now ≡ length s = ap length k.text in
      omega arith

  module _ (none : (n : tree.Name) → p (mentioned 0 n) ≡ false) where
    pub first_end : (s : List ℕ) (at q : ℕ) → kind_at s at ≡ 0 → first_place p end (rest_of s at q) ≡ end
    unfolding first_place
    first_end s at q z = ap (first_place p end) (rest_end s at q z)

    -- what a token does to the answer
    first_turn : (s : List ℕ) (at q : ℕ) (l : List Placed) (b : Bool) → (is_name (kind_at s at) && p (mentioned q (name_at s at))) ≡ b →
        first_place p end (turned s at q l) ≡ elim b [ true ↦ place_at s at | false ↦ first_place p end l ]
    unfolding first_place
    first_turn s at q l b d = go (is_name (kind_at s at)) q d
      where
        go : (i : Bool) (q : ℕ) → (i && p (mentioned q (name_at s at))) ≡ b →
            first_place p end (elim (i && ltb 0 q) [ true ↦ placed_at s at q ∷ l | false ↦ l ]) ≡ elim b [ true ↦ place_at s at | false ↦ first_place p end l ]
        go false q d = ap (λ (b : Bool). elim b [ true ↦ place_at s at | false ↦ first_place p end l ]) d
        go true zero d = ap (λ (b : Bool). elim b [ true ↦ place_at s at | false ↦ first_place p end l ]) (sym (none (name_at s at)) ∙ d)
        go true (suc q) d =
            ap (λ (z : Bool). first_place p end (elim z [ true ↦ placed_at s at (suc q) ∷ l | false ↦ l ])) (lt-ltb 0 (suc q) (omega arith))
            ∙ ap (λ (b : Bool). elim b [ true ↦ place_at s at | false ↦ first_place p end l ]) d

    pub first_hit : (s : List ℕ) (at q : ℕ) (x : Stop) → StopAt s at q x → passes p x ≡ true → first_place p end (rest_of s at q) ≡ x.place
    first_hit s at q x t d =
        ap (first_place p end) (rest_turn s at q (starts_within s at q x t) t.some)
        ∙ first_turn s at q (rest_of s (end_at s at) (sort_after q (kind_at s at))) true (sym (passes_is p s at q x t) ∙ d)
        ∙ sym t.place

    pub first_miss : (s : List ℕ) (at q : ℕ) (x : Stop) (e r : ℕ) → StopAt s at q x → passes p x ≡ false → e ≡ x.end → r ≡ sort_after q (kind_number x.kind) →
        first_place p end (rest_of s at q) ≡ first_place p end (rest_of s e r)
    first_miss s at q x e r t d f c =
        ap (first_place p end) (rest_turn s at q (starts_within s at q x t) t.some)
        ∙ first_turn s at q (rest_of s (end_at s at) (sort_after q (kind_at s at))) false (sym (passes_is p s at q x t) ∙ d)
        ∙ ap₂ (λ (a b : ℕ). first_place p end (rest_of s a b)) (sym (f ∙ t.end)) (sym (c ∙ ap (sort_after q) t.kind))

    pub seek_start : (all : ℕ) (s : List ℕ) (u w : Walk) → u.text.now ≡ s → u.at ≡ 0 → u.does ≡ Nothing → w ≡ u → all ≡ first_place p end (placed s) → Seeking all s w
    seek_start all s u w t a d e f = subst (Seeking all s) (sym e) (record {
      text = t;
      left = f ∙ ap (first_place p end) (rest_start s) ∙ ap₂ (λ (i : ℕ) (q : Does). first_place p end (rest_of s i (does_number q))) (sym a) (sym d);
    })

    pub seek_hit : (all : ℕ) (s : List ℕ) (w v : Walk) (x : Stop) → Seeking all s w → Goes w (Some x) v → passes p x ≡ true → x.place ≡ all
    seek_hit all s w v x k g d =
        sym (k.left ∙ ap (λ (l : List ℕ). first_place p end (rest_of l w.at (does_number w.does))) (sym k.text) ∙ first_hit w.text.now w.at (does_number w.does) x g.0 d)

    pub seek_miss : (all : ℕ) (s : List ℕ) (w v : Walk) (x : Stop) → Seeking all s w → Goes w (Some x) v → passes p x ≡ false → Seeking all s v
    seek_miss all s w v x k g d = record {
      text = g.1 ∙ k.text;
      left =
          k.left ∙ ap (λ (l : List ℕ). first_place p end (rest_of l w.at (does_number w.does))) (sym k.text)
          ∙ first_miss w.text.now w.at (does_number w.does) x v.at (does_number v.does) g.0 d g.2 g.3
          ∙ ap (λ (l : List ℕ). first_place p end (rest_of l v.at (does_number v.does))) k.text;
    }

    pub seek_end : (all : ℕ) (s : List ℕ) (w v : Walk) → Seeking all s w → Goes w None v → end ≡ all
    seek_end all s w v k g =
        sym (k.left ∙ ap (λ (l : List ℕ). first_place p end (rest_of l w.at (does_number w.does))) (sym k.text) ∙ first_end w.text.now w.at (does_number w.does) g)
