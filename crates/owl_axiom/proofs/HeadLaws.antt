-- Where the items of a text begin.
--
--   Named         == behind names of the head, others of the head and the items stand
--   named_start, named_turn, named_end == name by name
--   Heading, heading_start, heading_turn, heading_stop, heading_end == the same for a walk
--   Prefixed      == behind Prefix lines, others and the Ontology stand
--   prefixed_start, prefixed_turn, prefixed_end == line by line
use mathlib.Core.Path.{◌≡◌, refl, sym, ap, subst, ◌∙◌}
use mathlib.Core.Bool.{true, false}
use mathlib.Core.List.{List, [], ◌∷◌}
use Prim.Native.Nat.{ℕ}
use native.Mathlib.Omega.{arith}
use lib.Dec.{T}
use lib.ListN.{length}
use Rattle.owl.specs.Tree.{Name, short, full, sub_class_of, equivalent_classes, Item, declaration, stated, Head, no_name, one_name, two_names, PrefixLine, File}
use Rattle.owl.specs.Written.{Token, kind, text, ‹left›, ‹right›, ‹equals›, ‹Prefix›, ‹Ontology›, ‹name›, written_items, written_head, written_prefixes, Says}
use Rattle.owl.specs.Grammar.{is_name}
use Rattle.owl.specs.Mention.{word_sorts, sort_after}
use Rattle.owl.specs.Conjunct.{number_after}
use Rattle.std.specs.Prelude.{Option, Some, None, is_some, ◌≤◌}
use Rattle.owl.specs.Token.{place_at, kind_at, end_at}
use Rattle.owl_token.specs.Kind.{kind_number}
use Rattle.owl_name.specs.declared.names.Name as code
use Rattle.owl_name.specs.declared.walks.Stop.{Stop}
use Rattle.owl_name.specs.declared.walks.Walk.{Walk}
use Rattle.owl_name.specs.Walk.{does_number, IsNamed, StopAt, Goes}
use Rattle.owl_name.proofs.RestLaws.{AtToken, stop_in, end_in}
use Rattle.owl_row.proofs.StandLaws as stand
use Rattle.owl_class.specs.Ends.{rest_tokens, deeper, skip, Jumps}
use Rattle.owl_class.specs.Conjuncts.{Reached}
use Rattle.owl_class.proofs.EndLaws.{rest_start}
use Rattle.owl_axiom.specs.Passing.{passing, Stands}
use Rattle.owl_axiom.specs.PassingLaws.{stands_jump}
use Rattle.owl_axiom.specs.Axioms.{ItemsAt, FirstItem, BehindNames}
use Rattle.owl_axiom.proofs.AxiomLaws.{stands_kind, stands_on, beginning, items_kind}

----------------------------------------------------------------------------------------------------
-- Names of the head

unfoldable pub Named : List ℕ → ℕ → ℕ → Type 0
Named s from at = (h : Head) (items : List Item) → Stands s from (passing 0 0 (written_head h (written_items items (‹right› ∷ [])))) → (l : Head) × Stands s at (passing 0 0 (written_head l (written_items items (‹right› ∷ []))))

pub named_start : (s : List ℕ) (at : ℕ) → Named s at at
unfolding Named
named_start s at h items c = (h, c)

name_kind : (n : Name) → is_name (kind (‹name› n)) ≡ true
unfolding is_name
name_kind (short w) = refl
name_kind (full w) = refl

pub name_some : (k : ℕ) → is_name k ≡ true → k ≡ 0 → ⊥
unfolding is_name
name_some k d z = subst T (sym d ∙ ap is_name z) tt

-- items begin with no name
no_name_lem : (items : List Item) (k : ℕ) → beginning items ≡ k → is_name k ≡ true → ⊥
unfolding is_name
no_name_lem items k e d = subst T (sym d ∙ sym (ap is_name e) ∙ go items) tt
  where
    go : (items : List Item) → is_name (beginning items) ≡ false
    go [] = refl
    go (declaration E ∷ items) = refl
    go (stated (sub_class_of C D) ∷ items) = refl
    go (stated (equivalent_classes C D) ∷ items) = refl

pub named_turn : (s : List ℕ) (from at k p e : ℕ) → Named s from at → AtToken s at k p e → is_name k ≡ true → Named s from e
unfolding Named sort_after number_after is_name
named_turn s from at k p e c a d h items b = let w = c h items b in go w.0 w.1
  where
    nonzero : k ≡ 0 → ⊥
    nonzero = name_some k d

    go : (l : Head) → Stands s at (passing 0 0 (written_head l (written_items items (‹right› ∷ [])))) → (m : Head) × Stands s e (passing 0 0 (written_head m (written_items items (‹right› ∷ []))))
    go no_name x = absurd (no_name_lem items k (items_kind s at 0 0 k p e items x a) d)
    go (one_name (short w)) x = (no_name, stands_on s at k p e (passing 0 0 (written_head (one_name (short w)) (written_items items (‹right› ∷ [])))) x a nonzero)
    go (one_name (full w)) x = (no_name, stands_on s at k p e (passing 0 0 (written_head (one_name (full w)) (written_items items (‹right› ∷ [])))) x a nonzero)
    go (two_names (short w) m) x = (one_name m, stands_on s at k p e (passing 0 0 (written_head (two_names (short w) m) (written_items items (‹right› ∷ [])))) x a nonzero)
    go (two_names (full w) m) x = (one_name m, stands_on s at k p e (passing 0 0 (written_head (two_names (full w) m) (written_items items (‹right› ∷ [])))) x a nonzero)

pub named_end : (s : List ℕ) (from at k p e : ℕ) → Named s from at → AtToken s at k p e → is_name k ≡ false → BehindNames s from at
unfolding Named BehindNames
named_end s from at k p e c a d h items b = let w = c h items b in go w.0 w.1
  where
    tail : List Token
    tail = written_items items (‹right› ∷ [])

    not : (n : Name) → kind (‹name› n) ≡ k → ⊥
    not n i = subst T (sym (name_kind n) ∙ ap is_name i ∙ d) tt

    go : (l : Head) → Stands s at (passing 0 0 (written_head l tail)) → ItemsAt s at 0 0 items
    go no_name x = x
    go (one_name n) x = absurd (not n (stands_kind s at 0 0 k p e (‹name› n) tail x a))
    go (two_names n m) x = absurd (not n (stands_kind s at 0 0 k p e (‹name› n) (‹name› m ∷ tail) x a))

-- a walk over them
pub record Heading (s : List ℕ) (from end : ℕ) (w : Walk) : Type 0 where
  pub text : w.text.now ≡ s
  pub at : end ≡ w.at
  pub within : w.at ≤ length s
  pub left : Named s from w.at

pub heading_start : (s : List ℕ) (from : ℕ) (u w : Walk) → from ≤ length s → u.text.now ≡ s → u.at ≡ from → w ≡ u → Heading s from from w
heading_start s from u w h t a e = subst (Heading s from from) (sym e) (record {
  text = t;
  at = sym a;
  within = omega arith;
  left = subst (Named s from) (sym a) (named_start s from);
})

-- whether the token at a stop is a name
named_some : (s : List ℕ) (at : ℕ) (o : Option code.Name) → IsNamed s at o → is_some o ≡ true → is_name (kind_at s at) ≡ true
named_some s at None h e = absurd (subst T (sym e) tt)
named_some s at (Some n) h e = h.0

named_none : (s : List ℕ) (at : ℕ) (o : Option code.Name) → IsNamed s at o → is_some o ≡ false → is_name (kind_at s at) ≡ false
named_none s at None h e = h
named_none s at (Some n) h e = absurd (subst T e tt)

module _ (s : List ℕ) (from at : ℕ) (w v : Walk) (c : Heading s from at w) where
  behind_here : is_name (kind_at s w.at) ≡ false → BehindNames s from at × (at ≤ length s)
  behind_here d =
      let e : at ≡ w.at = c.at in
      let h : w.at ≤ length s = c.within in
      (subst (BehindNames s from) (sym e) (named_end s from w.at (kind_at s w.at) (place_at s w.at) (end_at s w.at) c.left (refl, refl, refl) d), omega arith)

  pub heading_end : Goes w None v → BehindNames s from at × (at ≤ length s)
  unfolding is_name
  heading_end g = behind_here (ap is_name (end_in s w v c.text g))

  module _ (x : Stop) (g : Goes w (Some x) v) where
    t : StopAt s w.at (does_number w.does) x
    t = stop_in s w v x c.text g

    pub heading_stop : is_some x.name ≡ false → BehindNames s from at × (at ≤ length s)
    heading_stop e = behind_here (named_none s w.at x.name t.named e)

    pub heading_turn : is_some x.name ≡ true → Heading s from x.end v
    heading_turn e =
        let a : v.at ≡ x.end = g.2 in
        let within : x.end ≤ length s = t.within in record {
          text = g.1 ∙ c.text;
          at = sym a;
          within = omega arith;
          left =
              subst (Named s from) (sym a)
              (named_turn s from w.at (kind_number x.kind) x.place x.end c.left (t.kind, t.place, t.end) (ap is_name t.kind ∙ named_some s w.at x.name t.named e));
        }

----------------------------------------------------------------------------------------------------
-- Prefix lines

abbrev body : File → List Token
body f = ‹Ontology› ∷ ‹left› ∷ written_head f.head (written_items f.items (‹right› ∷ []))

unfoldable pub Prefixed : List ℕ → ℕ → Type 0
Prefixed s at = (f : File) → Says s f → (ps : List PrefixLine) × Stands s at (passing 0 0 (written_prefixes ps (body f)))

pub prefixed_start : (s : List ℕ) → Prefixed s 0
unfolding Prefixed Says Reached
prefixed_start s f e = (f.prefixes, record { within = omega arith; left = sym (rest_start s) ∙ e; reached = ([], stand.rest_start s) })

pub prefixed_turn : (s : List ℕ) (at k p e r : ℕ) → Prefixed s at → AtToken s at k p e → k ≡ 4 → rest_tokens s r ≡ skip 0 (rest_tokens s e) → Jumps s e r → Prefixed s r
unfolding Prefixed skip deeper sort_after word_sorts number_after is_name
prefixed_turn s at k p e r c a h d j f says = let w = c f says in go w.0 w.1
  where
    go : (ps : List PrefixLine) → Stands s at (passing 0 0 (written_prefixes ps (body f))) → (qs : List PrefixLine) × Stands s r (passing 0 0 (written_prefixes qs (body f)))
    go [] x = absurd (let i : 5 ≡ k = stands_kind s at 0 0 k p e ‹Ontology› (‹left› ∷ written_head f.head (written_items f.items (‹right› ∷ []))) x a in let z : ⊥ = omega arith in z)
    go (l ∷ ps) x =
        let line : List Token = ‹left› ∷ text 15 l.label ∷ ‹equals› ∷ text 14 l.target ∷ ‹right› ∷ written_prefixes ps (body f) in
        let y : Stands s e (passing 0 0 line) = stands_on s at k p e (passing 0 0 (written_prefixes (l ∷ ps) (body f))) x a (λ z. omega arith) in
        let g : length (rest_tokens s r) ≡ length (written_prefixes ps (body f)) = ap length (d ∙ ap (skip 0) y.left) in
        (ps, stands_jump s e r 5 (passing 0 0 line) y j (omega arith))

pub prefixed_end : (s : List ℕ) (at k p e i o m r : ℕ) → Prefixed s at → AtToken s at k p e → (k ≡ 4 → ⊥) → AtToken s e i o m → BehindNames s m r → FirstItem s r
unfolding Prefixed BehindNames FirstItem sort_after word_sorts number_after is_name
prefixed_end s at k p e i o m r c a h b n f says = let w = c f says in go w.0 w.1
  where
    tail : List Token
    tail = written_head f.head (written_items f.items (‹right› ∷ []))

    go : (ps : List PrefixLine) → Stands s at (passing 0 0 (written_prefixes ps (body f))) → ItemsAt s r 0 0 f.items
    go [] x =
        let j : 5 ≡ k = stands_kind s at 0 0 k p e ‹Ontology› (‹left› ∷ tail) x a in
        let y : Stands s e (passing 0 0 (‹left› ∷ tail)) = stands_on s at k p e (passing 0 0 (body f)) x a (λ z. omega arith) in
        let l : 1 ≡ i = stands_kind s e 0 0 i o m ‹left› tail y b in
        n f.head f.items (stands_on s e i o m (passing 0 0 (‹left› ∷ tail)) y b (λ z. omega arith))
    go (l ∷ ps) x = absurd (h (sym (stands_kind s at 0 0 k p e ‹Prefix› (‹left› ∷ text 15 l.label ∷ ‹equals› ∷ text 14 l.target ∷ ‹right› ∷ written_prefixes ps (body f)) x a)))
