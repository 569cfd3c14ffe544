-- A stop that is made of numbers, those too that are no use and no kind of token: what is told of it is what the definitions say of the numbers.
--
--   adds_any == whether it is the role of a restriction that stands nowhere before
--   own_any  == whether it is the role of a restriction whose filler is no name
--   rest_any == which restrictions stand behind it
use Rattle.std.specs.Prelude.{◌≡◌, Bool, true, false, ◌&&◌, ◌||◌, not, List, [], ◌∷◌, ℕ, zero, suc, ◌+◌, ◌-◌, min, eqb, length, Option, Some, None}
use Rattle.std.proofs.Common.{refl, sym, ap, ap₂, ◌∙◌, arith}
use Rattle.owl.specs.Tree as tree
use Rattle.owl.specs.Token.{kind_at, end_at}
use Rattle.owl.specs.Grammar.{is_name}
use Rattle.owl.specs.Mention.{sort_after, Mention, mentioned, name_by, name_at}
use Rattle.owl.specs.Restriction.{by_name, restricted, own_at, Standing, standing_at, standing_from}
use Rattle.owl_name.specs.declared.names.Name.{Name}
use Rattle.owl_name.specs.declared.walks.Stop.{Stop}
use Rattle.owl_name.specs.Walk.{does_number, named_and, passes, IsNamedBy}
use Rattle.owl_name.specs.AnyNumberLaws.{cut_test, kind_any, name_any, after_use}
use Rattle.owl_row.specs.Rows.{rest_of, first_row, row_in, own_in, adds_row, own_here}

-- what passes at a token of kind k with the bytes w
named_by : (p : tree.Name → Bool) (k : ℕ) (w : List ℕ) (o : Option Name) → IsNamedBy k w o → named_and p o ≡ (is_name k && p (name_by k w))
named_by p k w None h = sym (ap (λ (b : Bool). b && p (name_by k w)) h)
named_by p k w (Some n) h = ap p h.1 ∙ sym (ap (λ (b : Bool). b && p (name_by k w)) h.0)

passes_any : (p : Mention → Bool) (d k : ℕ) (w : List ℕ) (x : Stop) → does_number x.does ≡ min d 5 → IsNamedBy (min k 17) w x.name → passes p x ≡ (is_name k && p (mentioned (min d 5) (name_by k w)))
passes_any p d k w x e h =
    ap (λ (q : ℕ). named_and (λ n. p (mentioned q n)) x.name) e
    ∙ named_by (λ n. p (mentioned (min d 5) n)) (min k 17) w x.name h
    ∙ ap₂ (λ (b : Bool) (n : tree.Name). b && p (mentioned (min d 5) n)) (kind_any k) (name_any k w)

pub adds_any : (s : List ℕ) (d p k e : ℕ) (w : List ℕ) (x : Stop) → does_number x.does ≡ min d 5 → IsNamedBy (min k 17) w x.name → passes (row_in s p e) x ≡ adds_row s d p k (name_by k w) e
unfolding adds_row
adds_any s d p k e w x f h =
    passes_any (row_in s p e) d k w x f h
    ∙ ap (λ (b : Bool). is_name k && (b && (not (is_name (kind_at s e)) || eqb (first_row s (restricted (name_by k w) (by_name (name_at s e)))) p))) (cut_test d 5 4 (omega arith))

pub own_any : (s : List ℕ) (d k e : ℕ) (w : List ℕ) (x : Stop) → does_number x.does ≡ min d 5 → IsNamedBy (min k 17) w x.name → passes (own_in s e) x ≡ own_here s d k e
unfolding own_here
own_any s d k e w x f h = passes_any (own_in s e) d k w x f h ∙ ap (λ (b : Bool). is_name k && (b && not (is_name (kind_at s e)))) (cut_test d 5 4 (omega arith))

standing_any : (s : List ℕ) (f at q n : ℕ) → standing_from s f at (min q 5) n ≡ standing_from s f at q n
unfolding standing_from
standing_any s zero at q n = refl
standing_any s (suc f) at q n =
    ap (λ (b : Bool). turned b (sort_after (min q 5) (kind_at s at))) (cut_test q 5 4 (omega arith))
    ∙ ap (turned (eqb q 4)) (after_use q (kind_at s at))
    ∙ behind (λ m. standing_any s f (end_at s at) (sort_after q (kind_at s at)) m)
  where
    turned : Bool → ℕ → List Standing
    turned b r =
        elim (eqb (kind_at s at) 0) [
          | true ↦ []
          | false ↦ elim (is_name (kind_at s at) && b) [
            | true ↦ standing_at s at n ∷ standing_from s f (end_at s at) r (n + own_at s (end_at s at))
            | false ↦ standing_from s f (end_at s at) r n
          ]
        ]

    behind : ((m : ℕ) → standing_from s f (end_at s at) (min (sort_after q (kind_at s at)) 5) m ≡ standing_from s f (end_at s at) (sort_after q (kind_at s at)) m) →
        turned (eqb q 4) (min (sort_after q (kind_at s at)) 5) ≡ turned (eqb q 4) (sort_after q (kind_at s at))
    behind same =
        ap₂ (λ (u v : List Standing). elim (eqb (kind_at s at) 0) [ true ↦ [] | false ↦ elim (is_name (kind_at s at) && eqb q 4) [ true ↦ standing_at s at n ∷ u | false ↦ v ] ])
        (same (n + own_at s (end_at s at))) (same n)

pub rest_any : (s : List ℕ) (at q n : ℕ) → rest_of s at (min q 5) n ≡ rest_of s at q n
unfolding rest_of
rest_any s at q n = standing_any s (suc (length s - at)) at q n
