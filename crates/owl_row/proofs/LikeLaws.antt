-- The first restriction with a role and a name for a filler, stop by stop.
--
--   alike_by, filler_is         == whether a stop is the role of such a restriction
--   like_standing               == such a restriction is the one that stands there
--   Seeking, like_start, like_end, like_hit, like_miss == the first one, stop by stop
use Rattle.std.specs.Prelude.{Option, Some, None}
use mathlib.Core.Path.{◌≡◌, refl, sym, ap, ap₂, subst, ◌∙◌}
use mathlib.Core.Bool.{Bool, true, false, ◌&&◌}
use mathlib.Core.List.{List, ◌∷◌}
use Prim.Native.Nat.{ℕ, ◌+◌}
use lib.Dec.{eqb}
use lib.ListN.{length}
use Rattle.owl.specs.Tree.{Name}
use Rattle.owl.specs.Naming.{same_name}
use Rattle.owl.specs.Token.{place_at, kind_at, end_at}
use Rattle.owl.specs.Grammar.{is_name}
use Rattle.owl.specs.Mention.{sort_after, name_at, mentioned}
use Rattle.owl.specs.Restriction.{by_name, by_number, restricted, part_at, own_at, Standing, standing_at, same_part, same_restriction}
use Rattle.owl_name.specs.Ordered.{first_of}
use Rattle.owl_name.specs.declared.names.Name as names
use Rattle.owl_name.specs.declared.walks.Does.{Does}
use Rattle.owl_name.specs.declared.walks.Does.TheVariants.{Nothing}
use Rattle.owl_name.specs.declared.walks.Stop.{Stop}
use Rattle.owl_name.specs.declared.walks.Walk.{Walk}
use Rattle.owl_name.specs.Walk.{does_number, named_and, passes, role_of, IsNamed, Goes}
use Rattle.owl_name.proofs.NameLaws.{role_passes}
use Rattle.owl_name.proofs.RestLaws.{starts_within, stop_in, end_in, named_is, passes_is}
use Rattle.owl_row.specs.Rows.{place_in, key_in, rest_of, first_row, named_at, alike_in}
use Rattle.owl_row.proofs.StandLaws.{turned, rest_start, rest_end, rest_turn}

module _ (s : List ℕ) (r f : Name) where
  -- whether a stop is the role of such a restriction
  pub alike_by : (x : Stop) (e : ℕ) (b : Bool) → named_and (same_name r) (role_of x) ≡ b → passes (alike_in s r f e) x ≡ (b && named_at s e f)
  alike_by x e b h = sym (role_passes (λ n. same_name r n && named_at s e f) x) ∙ go (role_of x) ∙ ap (λ (c : Bool). c && named_at s e f) h
    where
      go : (o : Option names.Name) → named_and (λ n. same_name r n && named_at s e f) o ≡ (named_and (same_name r) o && named_at s e f)
      go None = refl
      go (Some n) = refl

  pub filler_is : (e : ℕ) (o : Option names.Name) → IsNamed s e o → named_and (same_name f) o ≡ named_at s e f
  unfolding named_at
  filler_is e o h = named_is (same_name f) s e o h

  -- the restriction that stands at a token
  like_standing : (at n : ℕ) → same_restriction (restricted r (by_name f)) (standing_at s at n).restriction ≡ (same_name r (name_at s at) && named_at s (end_at s at) f)
  unfolding same_restriction part_at named_at
  like_standing at n = ap (λ (b : Bool). same_name r (name_at s at) && b) (go (is_name (kind_at s (end_at s at))))
    where
      go : (b : Bool) → same_part (by_name f) (elim b [ true ↦ by_name (name_at s (end_at s at)) | false ↦ by_number n ]) ≡ (b && same_name f (name_at s (end_at s at)))
      go true = refl
      go false = refl

  abbrev first : List Standing → ℕ
  first l = first_of place_in key_in same_restriction (restricted r (by_name f)) (length s) l

  -- what a token does to the answer
  like_turn : (at q n : ℕ) (rest : ℕ → List Standing) →
      (m : ℕ) × (first (turned s at q n rest) ≡ elim (is_name (kind_at s at) && alike_in s r f (end_at s at) (mentioned q (name_at s at))) [ true ↦ place_at s at | false ↦ first (rest m) ])
  unfolding first_of
  like_turn at q n rest = go (is_name (kind_at s at)) (eqb q 4)
    where
      go : (a b : Bool) →
          (m : ℕ) × (first (elim (a && b) [ true ↦ standing_at s at n ∷ rest (n + own_at s (end_at s at)) | false ↦ rest n ])
          ≡ elim (a && (b && (same_name r (name_at s at) && named_at s (end_at s at) f))) [ true ↦ place_at s at | false ↦ first (rest m) ])
      go true true = (n + own_at s (end_at s at), ap (λ (b : Bool). elim b [ true ↦ place_at s at | false ↦ first (rest (n + own_at s (end_at s at))) ]) (like_standing at n))
      go true false = (n, refl)
      go false b = (n, refl)

  -- a walk reached a place from which the first is that of all, whatever number comes next
  pub record Seeking (w : Walk) : Type 0 where
    pub text : w.text.now ≡ s
    pub number : ℕ
    pub left : first_row s (restricted r (by_name f)) ≡ first (rest_of s w.at (does_number w.does) number)

  pub like_start : (u w : Walk) → u.text.now ≡ s → u.at ≡ 0 → u.does ≡ Nothing → w ≡ u → Seeking w
  unfolding first_row
  like_start u w t a d e = subst Seeking (sym e) (record {
    text = t;
    number = 0;
    left = ap first (rest_start s) ∙ ap₂ (λ (i : ℕ) (q : Does). first (rest_of s i (does_number q) 0)) (sym a) (sym d);
  })

  pub like_end : (w v : Walk) → Seeking w → Goes w None v → length s ≡ first_row s (restricted r (by_name f))
  unfolding first_of
  like_end w v k g = sym (k.left ∙ ap first (rest_end s w.at (does_number w.does) k.number (end_in s w v k.text g)))

  -- behind a stop
  next : (w v : Walk) (x : Stop) (k : Seeking w) → Goes w (Some x) v → (b : Bool) → passes (alike_in s r f x.end) x ≡ b →
      (m : ℕ) × (first_row s (restricted r (by_name f)) ≡ elim b [ true ↦ x.place | false ↦ first (rest_of s v.at (does_number v.does) m) ])
  next w v x k g b d =
      let here = stop_in s w v x k.text g in
      let turn = like_turn w.at (does_number w.does) k.number (rest_of s (end_at s w.at) (sort_after (does_number w.does) (kind_at s w.at))) in
      let asked : (is_name (kind_at s w.at) && alike_in s r f (end_at s w.at) (mentioned (does_number w.does) (name_at s w.at))) ≡ b =
      sym (passes_is (alike_in s r f (end_at s w.at)) s w.at (does_number w.does) x here) ∙ ap (λ (e : ℕ). passes (alike_in s r f e) x) (sym here.end) ∙ d
      in (
        turn.0,
        k.left ∙ ap first (rest_turn s w.at (does_number w.does) k.number (starts_within s w.at (does_number w.does) x here) here.some) ∙ turn.1
            ∙ ap₂ (λ (c : Bool) (p : ℕ). elim c [ true ↦ p | false ↦ first (rest_of s (end_at s w.at) (sort_after (does_number w.does) (kind_at s w.at)) turn.0) ]) asked (sym here.place)
            ∙ ap₂ (λ (i j : ℕ). elim b [ true ↦ x.place | false ↦ first (rest_of s i j turn.0) ]) (sym (g.2 ∙ here.end)) (sym (g.3 ∙ ap (sort_after (does_number w.does)) here.kind)),
      )

  pub like_hit : (w v : Walk) (x : Stop) → Seeking w → Goes w (Some x) v → passes (alike_in s r f x.end) x ≡ true → x.place ≡ first_row s (restricted r (by_name f))
  like_hit w v x k g d = sym (next w v x k g true d).1

  pub like_miss : (w v : Walk) (x : Stop) → Seeking w → Goes w (Some x) v → passes (alike_in s r f x.end) x ≡ false → Seeking v
  like_miss w v x k g d = let n = next w v x k g false d in record { text = g.1 ∙ k.text; number = n.0; left = n.1 }
