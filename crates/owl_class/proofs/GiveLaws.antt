-- The conjuncts of a class expression, one after another.
--
--   stop_turn              == what a stop brings, and what is left behind it
--   Same c d, same_start   == the same conjuncts are left
--   same_turn, same_found, same_end, same_ended == stop by stop
--   few_behind             == no more brackets are open than bytes were read
use Rattle.std.specs.Prelude.{◌≡◌, Bool, true, false, ◌&&◌, not, List, [], ◌∷◌, ◌++◌, ℕ, ◌≤◌, ◌<◌, eqb, length, Option, Some, None, is_some}
use Rattle.std.proofs.Common.{refl, sym, ap, ap₂, subst, ◌∙◌, arith}
use Rattle.std.specs.Bool.{then_some}
use Rattle.el.specs.TestLaws.{is_true, true_is, and_left}
use Rattle.owl.specs.Naming.{is_thing}
use Rattle.owl.specs.Token.{kind_at, end_at}
use Rattle.owl.specs.Written.{Token}
use Rattle.owl.specs.Grammar.{is_name}
use Rattle.owl.specs.Mention.{mentioned, sort_after, name_at}
use Rattle.owl.specs.Said.{part_of}
use Rattle.owl.specs.Restriction.{Part, restricted}
use Rattle.owl.specs.Conjunct.{Conjunct, a_class, a_restriction, is_zero, is_one, onwards, ends_here, outer_after, inner_after, number_after, conjuncts_by}
use Rattle.owl_token.specs.Kind.{kind_number}
use Rattle.owl_name.specs.declared.walks.Stop.{Stop}
use Rattle.owl_name.specs.declared.walks.Walk.{Walk}
use Rattle.owl_name.specs.Walk.{does_number, passes, StopAt, Goes}
use Rattle.owl_name.proofs.RestLaws.{passes_is, starts_within}
use Rattle.owl_class.specs.declared.spread.Conjunct as code
use Rattle.owl_class.specs.declared.spread.Conjunct.TheVariants as found
use Rattle.owl_class.specs.declared.spread.Conjuncts.{Conjuncts}
use Rattle.owl_class.specs.declared.spread.Inside.{Inside}
use Rattle.owl_class.specs.Ends.{rest_tokens, is_conjunct}
use Rattle.owl_class.specs.Conjuncts.{Reached}
use Rattle.owl_class.specs.Spread.{wanted, conjunct_by, left_in, left_of, LastOf, IsFirst, Gives}
use Rattle.owl_class.proofs.EndLaws.{rest_end}
use Rattle.owl_class.proofs.BracketLaws.{outer_le, inner_le}
use Rattle.owl_class.proofs.TurnLaws.{conjunct_of, turn, filler, reached_turn, reached_role}

left_none : (o : Option Inside) (w : Walk) (n : ℕ) → rest_tokens w.text.now w.at ≡ [] → left_in o w n ≡ []
unfolding conjuncts_by
left_none None w n e = refl
left_none (Some i) w n e = ap (λ (ts : List Token). conjuncts_by i.outer i.inner (does_number w.does) n ts) e

-- the brackets that are open behind a token; none where the class expression ends with it
abbrev going : Bool → Inside → Option Inside
going true i = None
going false i = Some i

pub going_is : (b e : Bool) (i : Inside) (o : Option Inside) → e ≡ b → o ≡ then_some (not e) i → o ≡ going b i
going_is true true i o p h = h
going_is false false i o p h = h
going_is true false i o p h = absurd (cc)
going_is false true i o p h = absurd (cc)

onwards_in : (b : Bool) (i : Inside) (w : Walk) (n : ℕ) → onwards b (conjuncts_by i.outer i.inner (does_number w.does) n (rest_tokens w.text.now w.at)) ≡ left_in (going b i) w n
onwards_in true i w n = refl
onwards_in false i w n = refl

-- the token at a stop of a walk behind c, and what is left behind it as d
pub record Behind (i : Inside) (c : Conjuncts) (x : Stop) (d : Conjuncts) : Type 0 where
  pub on : c.inside ≡ Some i
  pub goes : Goes c.walk (Some x) d.walk
  pub after : Inside
  pub inside : d.inside ≡ going (ends_here i.outer i.inner (does_number x.does) (kind_number x.kind)) after
  pub outer : after.outer ≡ outer_after i.outer i.inner (does_number x.does) (kind_number x.kind)
  pub inner : after.inner ≡ inner_after i.inner (does_number x.does) (kind_number x.kind)

pub few_behind : (c : Conjuncts) (x : Stop) (v : Walk) (i j : Inside) → c.inside ≡ Some i → Goes c.walk (Some x) v → j.outer ≡ outer_after i.outer i.inner (does_number x.does) (kind_number x.kind) →
    j.inner ≡ inner_after i.inner (does_number x.does) (kind_number x.kind) → (b : Bool) (o : Option Inside) → o ≡ then_some (not b) j → (k : Inside) → o ≡ Some k → (k.outer ≤ v.at) × (k.inner ≤ v.at)
few_behind c x v i j z g o n true p e k f = absurd (cc)
few_behind c x v i j z g o n false p e k f =
    let few = c.few i z in
    let goes : c.walk.at < x.end = g.0.goes in
    let far : v.at ≡ x.end = g.2 in
    let u = outer_le i.outer i.inner (does_number x.does) (kind_number x.kind) in
    let w = inner_le i.inner (does_number x.does) (kind_number x.kind) in
    let same : j ≡ k = cc in
    subst (λ (k : Inside). (k.outer ≤ v.at) × (k.inner ≤ v.at)) same (omega arith, omega arith)

module _ (i : Inside) (c : Conjuncts) (x : Stop) (d : Conjuncts) (b : Behind i c x d) where
  abbrev s : List ℕ
  s = c.walk.text.now

  abbrev at : ℕ
  at = c.walk.at

  abbrev q : ℕ
  q = does_number c.walk.does

  t : StopAt s at q x
  t = b.goes.0

  within : at ≤ length s
  within = starts_within s at q x t

  -- the number behind the stop
  abbrev behind : ℕ → ℕ
  behind n = number_after q n (kind_at s at) (rest_tokens s (end_at s at))

  wants : passes (wanted i.inner) x ≡ is_conjunct i.inner q (kind_at s at) (name_at s at)
  unfolding is_conjunct
  wants = passes_is (wanted i.inner) s at q x t

  stop_left : (n : ℕ) →
      left_of c n ≡ elim (is_conjunct i.inner q (kind_at s at) (name_at s at)) [ true ↦ conjunct_of s at q n ∷ [] | false ↦ [] ] ++ left_of d (behind n)
  stop_left n =
      let does : does_number x.does ≡ q = t.does in
      let kind : kind_number x.kind ≡ kind_at s at = t.kind in
      let end : d.walk.at ≡ end_at s at = b.goes.2 ∙ t.end in
      let text : d.walk.text.now ≡ s = b.goes.1 in
      let after : does_number d.walk.does ≡ sort_after q (kind_at s at) = b.goes.3 ∙ ap (sort_after q) kind in
      let ended : ends_here i.outer i.inner q (kind_at s at) ≡ ends_here i.outer i.inner (does_number x.does) (kind_number x.kind) =
      sym (ap₂ (ends_here i.outer i.inner) does kind) in
      let outer : outer_after i.outer i.inner q (kind_at s at) ≡ b.after.outer =
      sym (b.outer ∙ ap₂ (outer_after i.outer i.inner) does kind) in
      let inner : inner_after i.inner q (kind_at s at) ≡ b.after.inner =
      sym (b.inner ∙ ap₂ (inner_after i.inner) does kind) in
      let rest : conjuncts_by (outer_after i.outer i.inner q (kind_at s at)) (inner_after i.inner q (kind_at s at)) (sort_after q (kind_at s at)) (behind n) (rest_tokens s (end_at s at))
      ≡ conjuncts_by b.after.outer b.after.inner (does_number d.walk.does) (behind n) (rest_tokens d.walk.text.now d.walk.at) =
      ap₂ (λ (k j : ℕ). conjuncts_by k j (sort_after q (kind_at s at)) (behind n) (rest_tokens s (end_at s at))) outer inner
      ∙ ap₂ (λ (k j : ℕ). conjuncts_by b.after.outer b.after.inner k (behind n) (rest_tokens s j)) (sym after) (sym end)
      ∙ ap (λ (l : List ℕ). conjuncts_by b.after.outer b.after.inner (does_number d.walk.does) (behind n) (rest_tokens l d.walk.at)) (sym text) in
      ap (λ (o : Option Inside). left_in o c.walk n) b.on
      ∙ turn s at i.outer i.inner q n within t.some
      ∙ ap₂ (λ (b : Bool) (l : List Conjunct). elim (is_conjunct i.inner q (kind_at s at) (name_at s at)) [ true ↦ conjunct_of s at q n ∷ [] | false ↦ [] ] ++ onwards b l) ended rest
      ∙ ap (λ (l : List Conjunct). elim (is_conjunct i.inner q (kind_at s at) (name_at s at)) [ true ↦ conjunct_of s at q n ∷ [] | false ↦ [] ] ++ l)
      (onwards_in (ends_here i.outer i.inner (does_number x.does) (kind_number x.kind)) b.after d.walk (behind n) ∙ ap (λ (o : Option Inside). left_in o d.walk (behind n)) (sym b.inside))

  stop_last : (n : ℕ) → LastOf c n → LastOf d (behind n)
  stop_last n r =
      let after : does_number d.walk.does ≡ sort_after q (kind_at s at) = b.goes.3 ∙ ap (sort_after q) t.kind in
      subst (λ (l : List ℕ). Reached l d.walk.at (does_number d.walk.does) (behind n)) (sym b.goes.1)
      (subst (λ (j : ℕ). Reached s d.walk.at j (behind n)) (sym after)
      (subst (λ (j : ℕ). Reached s j (sort_after q (kind_at s at)) (behind n)) (sym (b.goes.2 ∙ t.end)) (reached_turn s at q n within t.some r)))

  -- a token that is a conjunct
  module _ (w : is_conjunct i.inner q (kind_at s at) (name_at s at) ≡ true) where
    is_named : is_name (kind_at s at) ≡ true
    unfolding is_conjunct
    is_named =
        is_true (is_name (kind_at s at))
        (and_left (is_name (kind_at s at)) (wanted i.inner (mentioned q (name_at s at))) (true_is (is_name (kind_at s at) && wanted i.inner (mentioned q (name_at s at))) w))

    no_thing : eqb q 4 ≡ false → is_thing (name_at s at) ≡ false
    unfolding is_conjunct
    no_thing e =
        go (is_name (kind_at s at)) (is_zero i.inner) (is_thing (name_at s at))
        (sym (ap (λ (b : Bool). is_name (kind_at s at) && elim b [ true ↦ is_one i.inner | false ↦ is_zero i.inner && not (is_thing (name_at s at)) ]) e) ∙ w)
      where
        go : (a b c : Bool) → (a && (b && not c)) ≡ true → c ≡ false
        go a b false e = refl
        go true true true e = sym e
        go true false true e = sym e
        go false b true e = sym e

    first_is : (n : ℕ) (y : code.Conjunct) → y ≡ elim (eqb (does_number x.does) 4) [ true ↦ found.Restriction x.at | false ↦ found.Name x.at ] → IsFirst s y (LastOf c n) (conjunct_of s at q n)
    first_is n y e =
        subst (λ (y : code.Conjunct). IsFirst s y (LastOf c n) (conjunct_of s at q n))
        (sym (e ∙ ap₂ (λ (k i : ℕ). elim (eqb k 4) [ true ↦ found.Restriction i | false ↦ found.Name i ]) t.does t.at_byte)) (go (eqb q 4) refl)
      where
        go : (a : Bool) → eqb q 4 ≡ a →
            IsFirst s (elim a [ true ↦ found.Restriction at | false ↦ found.Name at ]) (LastOf c n)
            (elim a [ true ↦ a_restriction (restricted (name_at s at) (part_of n (rest_tokens s (end_at s at)))) | false ↦ a_class (name_at s at) ])
        go true e = (
          within,
          λ r. let there = reached_role s at q n within t.some is_named e r in
              (n, there.0, there.1, there.2, ap (λ (z : Part). a_restriction (restricted (name_at s at) z)) (sym (filler s at n within).0)),
        )
        go false e = (within, is_named, no_thing e, refl)

-- the same conjuncts are left
pub record Same (c d : Conjuncts) : Type 0 where
  pub text : d.walk.text.now ≡ c.walk.text.now
  pub left : (n : ℕ) → (m : ℕ) × (left_of c n ≡ left_of d m) × (LastOf c n → LastOf d m)

pub same_start : (c : Conjuncts) → Same c c
same_start c = record { text = refl; left = λ n. (n, refl, λ r. r) }

first_from : (s : List ℕ) (y : code.Conjunct) (P Q : Type 0) (z : Conjunct) → (Q → P) → IsFirst s y P z → IsFirst s y Q z
first_from s (found.Name b) P Q z f h = h
first_from s (found.Restriction b) P Q z f h = (h.0, λ r. h.1 (f r))

lift : (c d : Conjuncts) (o : Option code.Conjunct) (e : Conjuncts) → Same c d → Gives d o e → Gives c o e
lift c d None e same g = λ n. (same.left n).1 ∙ g (same.left n).0
lift c d (Some y) e same g = (
  g.0 ∙ same.text,
  λ n. let l = same.left n in
      let b = g.1 l.0 in record {
        first = b.first;
        number = b.number;
        left = l.1 ∙ b.left;
        is = subst (λ (t : List ℕ). IsFirst t y (LastOf c n) b.first) same.text (first_from d.walk.text.now y (LastOf d l.0) (LastOf c n) b.first l.2 b.is);
        last = λ r. b.last (l.2 r);
      },
)

module _ (c d : Conjuncts) (same : Same c d) where
  pub same_ended : (e : Conjuncts) → d.inside ≡ None → Gives c None e
  same_ended e z = lift c d None e same (λ n. ap (λ (o : Option Inside). left_in o d.walk n) z)

  pub same_end : (v : Walk) (e : Conjuncts) → Goes d.walk None v → Gives c None e
  same_end v e g = lift c d None e same (λ n. left_none d.inside d.walk n (rest_end d.walk.text.now d.walk.at g))

  module _ (x : Stop) (e : Conjuncts) (i : Inside) (b : Behind i d x e) (o : Option code.Conjunct) (f : o ≡ conjunct_by i.inner x) where
    pub same_turn : is_some o ≡ false → Same c e
    same_turn z = record {
      text = b.goes.1 ∙ same.text;
      left = λ n. let l = same.left n in (
        behind i d x e b l.0,
        l.1 ∙ stop_left i d x e b l.0 ∙ ap (λ (a : Bool). elim a [ true ↦ conjunct_of d.walk.text.now d.walk.at (does_number d.walk.does) l.0 ∷ [] | false ↦ [] ] ++ left_of e (behind i d x e b l.0)) (sym (wants i d x e b) ∙ none (passes (wanted i.inner) x) o f z),
        λ r. stop_last i d x e b l.0 (l.2 r),
      );
    }
      where
        none : (a : Bool) (o : Option code.Conjunct) → o ≡ elim a [ true ↦ Some (elim (eqb (does_number x.does) 4) [ true ↦ found.Restriction x.at | false ↦ found.Name x.at ]) | false ↦ None ] → is_some o ≡ false → a ≡ false
        none false o f z = refl
        none true None f z = absurd (cc)
        none true (Some y) f z = absurd (cc)

    pub same_found : is_some o ≡ true → Gives c o e
    same_found z = lift c d o e same (go (passes (wanted i.inner) x) o refl f z)
      where
        go : (a : Bool) (o : Option code.Conjunct) → passes (wanted i.inner) x ≡ a → o ≡ elim a [ true ↦ Some (elim (eqb (does_number x.does) 4) [ true ↦ found.Restriction x.at | false ↦ found.Name x.at ]) | false ↦ None ] → is_some o ≡ true → Gives d o e
        go a None h f z = absurd (cc)
        go false (Some y) h f z = absurd (cc)
        go true (Some y) h f z =
            let w : is_conjunct i.inner (does_number d.walk.does) (kind_at d.walk.text.now d.walk.at) (name_at d.walk.text.now d.walk.at) ≡ true = sym (wants i d x e b) ∙ h in (
              b.goes.1,
              λ n. record {
                first = conjunct_of d.walk.text.now d.walk.at (does_number d.walk.does) n;
                number = behind i d x e b n;
                left = stop_left i d x e b n ∙ ap (λ (a : Bool). elim a [ true ↦ conjunct_of d.walk.text.now d.walk.at (does_number d.walk.does) n ∷ [] | false ↦ [] ] ++ left_of e (behind i d x e b n)) w;
                is = first_is i d x e b w n y (let k : y ≡ elim (eqb (does_number x.does) 4) [ true ↦ found.Restriction x.at | false ↦ found.Name x.at ] = cc in k);
                last = stop_last i d x e b n;
              },
            )
