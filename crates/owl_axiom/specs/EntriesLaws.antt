-- The entries of a class expression of a text are those of the table of the file that the text says.
--
--   conjuncts_known == the conjuncts of tokens whose restrictions are known are known
--   reached_known   == those of a byte that is reached as the machine reaches it are known
--   reached_entries == so their entries are those of the file's table
--   side_entries    == THE ENTRIES of a class expression that stands in a text
use Rattle.std.specs.Prelude.{◌≡◌, Bool, ◌&&◌, length}
use Rattle.std.proofs.Math.Path.{refl, ap₂, subst}
use Rattle.std.proofs.Common.{sym, ap, ◌∙◌, arith}
use Rattle.std.proofs.Math.Bool.{true, false}
use mathlib.Core.List.{List, [], ◌∷◌, ◌++◌, map, map-append}
use Prim.Native.Nat.{ℕ, suc, ◌+◌, ◌-◌, ◌≤◌}
use Rattle.std.proofs.Math.Dec.{T, eqb}
use Rattle.el.specs.Test.{every_of}
use Rattle.el.specs.TestLaws.{and_make, and_left, and_right}
use Rattle.el.specs.Table.{Entry, restriction}
use Rattle.owl.specs.OnceLaws.{every_second}
use Rattle.owl.specs.Tree.{Name, Class, File}
use Rattle.owl.specs.Naming.{is_thing, Names, names_of, all_known}
use Rattle.owl.specs.Written.{Token, kind, Says}
use Rattle.owl.specs.Grammar.{is_name}
use Rattle.owl.specs.Mention.{sort_after, name_by}
use Rattle.owl.specs.Flattening.{concept_of, conjuncts}
use Rattle.owl.specs.Said.{bytes_of, part_of, own_of, said_by}
use Rattle.owl.specs.Restriction.{Restriction, restricted, Standing, restrictions_of, is_known_in, rows_of_file}
use Rattle.owl.specs.RestrictionLaws.{standing_said}
use Rattle.owl.specs.RowLaws.{restrictions_known, row_place}
use Rattle.owl.specs.Conjunct.{Conjunct, a_class, a_restriction, is_zero, is_one, class_of, onwards, here, ends_here, outer_after, inner_after, number_after, conjuncts_by, conjuncts_in, entry_for}
use Rattle.owl.specs.ConjunctLaws.{conjuncts_said}
use Rattle.owl_row.specs.Rows.{rest_of}
use Rattle.owl_class.specs.Ends.{rest_tokens}
use Rattle.owl_class.specs.Conjuncts.{conjuncts_at, Reached, entry_of}
use Rattle.owl_class.specs.EntryTheorem.{class_entry}
use Rattle.owl_axiom.specs.Passing.{SideAt}
use Rattle.owl_axiom.specs.Entries.{entries_at, conjunct_known}

module _ (d : Names) where
  every_both : (l m : List Conjunct) → T (every_of (conjunct_known d) l) → T (every_of (conjunct_known d) m) → T (every_of (conjunct_known d) (l ++ m))
  unfolding every_of
  every_both [] m a b = b
  every_both (c ∷ l) m a b =
      and_make (conjunct_known d c) (every_of (conjunct_known d) (l ++ m)) (and_left (conjunct_known d c) (every_of (conjunct_known d) l) a)
      (every_both l m (and_right (conjunct_known d c) (every_of (conjunct_known d) l) a) b)

  onwards_known : (b : Bool) (l : List Conjunct) → T (every_of (conjunct_known d) l) → T (every_of (conjunct_known d) (onwards b l))
  unfolding every_of
  onwards_known true l h = tt
  onwards_known false l h = h

  -- the restrictions of a token, and of those behind it
  abbrev Said : Bool → Restriction → List Restriction → List Restriction → List Restriction
  Said b r l m = elim b [ true ↦ r ∷ l | false ↦ m ]

  here_known : (inner q n : ℕ) (t : Token) (ts : List Token) (l m : List Restriction) →
      T (every_of (is_known_in d) (Said (is_name (kind t) && eqb q 4) (restricted (name_by (kind t) (bytes_of t)) (part_of n ts)) l m)) → T (every_of (conjunct_known d) (here inner q n t ts))
  unfolding here class_of every_of
  here_known inner q n t ts l m = go (is_name (kind t)) (eqb q 4) (is_one inner) (is_zero inner) (is_thing (name_by (kind t) (bytes_of t)))
    where
      x : Name
      x = name_by (kind t) (bytes_of t)

      r : Restriction
      r = restricted x (part_of n ts)

      go : (a b o z th : Bool) → T (every_of (is_known_in d) (elim (a && b) [ true ↦ r ∷ l | false ↦ m ])) →
          T (every_of (conjunct_known d) (elim a [
            | true ↦ elim b [
              | true ↦ elim o [ true ↦ a_restriction r ∷ [] | false ↦ [] ]
              | false ↦ elim z [ true ↦ elim th [ true ↦ [] | false ↦ a_class x ∷ [] ] | false ↦ [] ]
            ]
            | false ↦ []
          ]))
      go true true true z th h = and_make (is_known_in d r) true (and_left (is_known_in d r) (every_of (is_known_in d) l) h) tt
      go true true false z th h = tt
      go true false o true true h = tt
      go true false o true false h = tt
      go true false o false th h = tt
      go false b o z th h = tt

  -- those behind it
  behind_known : (q n : ℕ) (t : Token) (ts : List Token) → T (every_of (is_known_in d) (said_by q n (t ∷ ts))) → T (every_of (is_known_in d) (said_by (sort_after q (kind t)) (number_after q n (kind t) ts) ts))
  unfolding said_by number_after every_of
  behind_known q n t ts = go (is_name (kind t) && eqb q 4)
    where
      r : Restriction
      r = restricted (name_by (kind t) (bytes_of t)) (part_of n ts)

      go : (b : Bool) → T (every_of (is_known_in d) (elim b [ true ↦ r ∷ said_by (sort_after q (kind t)) (n + own_of ts) ts | false ↦ said_by (sort_after q (kind t)) n ts ])) →
          T (every_of (is_known_in d) (said_by (sort_after q (kind t)) (elim b [ true ↦ n + own_of ts | false ↦ n ]) ts))
      go true h = and_right (is_known_in d r) (every_of (is_known_in d) (said_by (sort_after q (kind t)) (n + own_of ts) ts)) h
      go false h = h

  pub conjuncts_known : (ts : List Token) (outer inner q n : ℕ) → T (every_of (is_known_in d) (said_by q n ts)) → T (every_of (conjunct_known d) (conjuncts_by outer inner q n ts))
  unfolding conjuncts_by said_by every_of
  conjuncts_known [] outer inner q n h = tt
  conjuncts_known (t ∷ ts) outer inner q n h =
      let q' : ℕ = sort_after q (kind t) in
      let n' : ℕ = number_after q n (kind t) ts in
      let o : ℕ = outer_after outer inner q (kind t) in
      let i : ℕ = inner_after inner q (kind t) in
      every_both (here inner q n t ts) (onwards (ends_here outer inner q (kind t)) (conjuncts_by o i q' n' ts))
      (here_known inner q n t ts (said_by q' (n + own_of ts) ts) (said_by q' n ts) h)
      (onwards_known (ends_here outer inner q (kind t)) (conjuncts_by o i q' n' ts) (conjuncts_known ts o i q' n' (behind_known q n t ts h)))

module _ (s : List ℕ) (f : File) (e : Says s f) (known : T (all_known f)) where
  abbrev names : Names
  names = names_of f.items

  rest_said : (at q n : ℕ) → at ≤ length s → restrictions_of (rest_of s at q n) ≡ said_by q n (rest_tokens s at)
  unfolding rest_of rest_tokens
  rest_said at q n h = standing_said s (suc (length s - at)) at q n h (omega arith)

  pub reached_known : (at n : ℕ) → at ≤ length s → Reached s at 3 n → T (every_of (conjunct_known names) (conjuncts_at s at n))
  unfolding Reached conjuncts_in
  reached_known at n h r =
      let p = is_known_in names in
      let all : T (every_of p (restrictions_of r.0 ++ restrictions_of (rest_of s at 3 n))) =
      subst (λ (l : List Restriction). T (every_of p l)) (ap restrictions_of r.1 ∙ map-append (λ (y : Standing). y.restriction) r.0 (rest_of s at 3 n)) (restrictions_known s f e known) in
      conjuncts_known names (rest_tokens s at) 0 0 3 n
      (subst (λ (l : List Restriction). T (every_of p l)) (rest_said at 3 n h) (every_second p (restrictions_of r.0) (restrictions_of (rest_of s at 3 n)) all))

  entry_known : (c : Conjunct) → T (conjunct_known names c) → entry_of s c ≡ entry_for names (length names.opens) (rows_of_file f) c
  entry_known (a_class m) k = class_entry s f e m
  entry_known (a_restriction r) k = ap restriction (sym (row_place s f e known r k))

  entries_known : (l : List Conjunct) → T (every_of (conjunct_known names) l) → map (entry_of s) l ≡ map (entry_for names (length names.opens) (rows_of_file f)) l
  unfolding every_of
  entries_known [] k = refl
  entries_known (c ∷ l) k =
      ap₂ (λ (x : Entry) (xs : List Entry). x ∷ xs) (entry_known c (and_left (conjunct_known names c) (every_of (conjunct_known names) l) k))
      (entries_known l (and_right (conjunct_known names c) (every_of (conjunct_known names) l) k))

  pub reached_entries : (at n : ℕ) → at ≤ length s → Reached s at 3 n → entries_at s at n ≡ map (entry_for names (length names.opens) (rows_of_file f)) (conjuncts_at s at n)
  unfolding entries_at
  reached_entries at n h r = entries_known (conjuncts_at s at n) (reached_known at n h r)

  pub side_entries : (at n : ℕ) (C : Class) → SideAt s at C n → entries_at s at n ≡ conjuncts (rows_of_file f) (length names.opens + n) (concept_of names C)
  side_entries at n C c =
      reached_entries at n c.stands.within c.stands.reached
      ∙ ap (λ (ts : List Token). map (entry_for names (length names.opens) (rows_of_file f)) (conjuncts_in n ts)) c.stands.left
      ∙ conjuncts_said names (length names.opens) (rows_of_file f) C n c.behind
