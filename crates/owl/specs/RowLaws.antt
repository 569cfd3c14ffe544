-- Equal rows once: where all names are declared, two restrictions have one row exactly if they are written alike.
--
--   thing_one        == two names that are written owl:Thing are the same
--   apart            == two names of which a test says different things are different
--   filler_alike     == two fillers of a table are equal exactly if they are written alike, or are one filler
--   row_alike        == so for rows
--   restrictions_known == the restrictions of a text whose file's names are known are known
--   rows_once        == the rows of a file are those of the different restrictions of its text
--   rows_length      == so they are as many
--   row_place        == and a restriction's row has the place of the restriction
use Rattle.std.specs.Prelude.{◌≡◌, Bool, ◌||◌, ℕ, ◌+◌, ◌<◌, eqb}
use Rattle.std.proofs.Math.Path.{refl, ap₂, subst}
use Rattle.std.proofs.Common.{sym, ap, ◌∙◌, arith, eqb→eq}
use Rattle.std.proofs.Math.Bool.{true, false, ◌&&◌}
use mathlib.Core.List.{List, [], ◌∷◌}
use Rattle.std.proofs.Math.Dec.{T, eqb_refl}
use Rattle.std.proofs.Math.ListN.{length}
use Rattle.std.proofs.lemmas.List.{length-map}
use borrow.Author.Tests.{ne_eqb}
use Rattle.el.specs.Test.{every_of}
use Rattle.el.specs.TestLaws.{is_true, is_false, true_is, same_test, and_make, and_left, and_right}
use Rattle.el.specs.Table.{Filler, top_f, constant_f, variable_f}
use Rattle.owl.specs.Once.{is_among, place, once}
use Rattle.owl.specs.OnceLaws.{place_lt, once_every}
use Rattle.owl.specs.DistinctLaws.{place_map, once_map, place_eq}
use Rattle.owl.specs.Tree.{Name, short, full, Class, named, intersection_of, some_values_from, Classes, last, more, sub_class_of, equivalent_classes, class, object_property, Item, declaration, stated, File, axioms_of}
use Rattle.owl.specs.Naming.{same_name, thing_bytes, is_thing, is_open, Names, names_of, constant_number, open_number, role_number, class_known, role_known, all_in, all_of, axiom_known, all_known}
use Rattle.owl.specs.NamingLaws.{same_bytes_means, same_name_refl, same_name_means}
use Rattle.owl.specs.Written.{Token, ‹right›, written, writtens, written_items, Says}
use Rattle.owl.specs.Grammar.{is_name}
use Rattle.owl.specs.Mention.{word_sorts, sort_after, name_by}
use Rattle.owl.specs.Flattening.{same_filler, same_row, rows_all}
use Rattle.owl.specs.Restriction.{Part, by_name, by_number, Restriction, restricted, standing, restrictions_of, same_part, same_restriction, name_filler, filler_for, row_for, rows_for, part_known, is_known_in, rows_of_file}
use Rattle.owl.specs.RestrictionLaws.{text_said, rows_said}
use Rattle.owl.specs.Said.{part_by, part_of, own_of, said_by}

----------------------------------------------------------------------------------------------------
-- Names

thing_means : (n : Name) → is_thing n ≡ true → n ≡ short thing_bytes
thing_means (short w) e = ap short (same_bytes_means w thing_bytes (true_is (is_thing (short w)) e))
thing_means (full w) e = absurd (subst T (sym e) tt)

thing_one : (n m : Name) → is_thing n ≡ true → is_thing m ≡ true → true ≡ same_name n m
thing_one n m e d = sym (is_true (same_name n m) (subst (λ (k : Name). T (same_name n k)) (thing_means n e ∙ sym (thing_means m d)) (same_name_refl n)))

apart : (p : Name → Bool) (n m : Name) (a b : Bool) → p n ≡ a → p m ≡ b → (a ≡ b → ⊥) → false ≡ same_name n m
apart p n m a b e d h = sym (is_false (same_name n m) (λ t. h (sym e ∙ ap p (same_name_means n m t) ∙ d)))

known_open : (d : Names) (n : Name) → is_thing n ≡ false → is_open n ≡ true → T (class_known d n) → T (is_among same_name n d.opens)
unfolding class_known
known_open d n e o t = subst T (ap₂ (λ (a b : Bool). a || elim b [ true ↦ is_among same_name n d.opens | false ↦ is_among same_name n d.constants ]) e o) t

known_constant : (d : Names) (n : Name) → is_thing n ≡ false → is_open n ≡ false → T (class_known d n) → T (is_among same_name n d.constants)
unfolding class_known
known_constant d n e o t = subst T (ap₂ (λ (a b : Bool). a || elim b [ true ↦ is_among same_name n d.opens | false ↦ is_among same_name n d.constants ]) e o) t

----------------------------------------------------------------------------------------------------
-- Fillers and rows

module _ (d : Names) where
  -- the filler of a name, by what it is
  abbrev filler : Bool → Bool → Name → Filler
  filler a b n = elim a [ true ↦ top_f | false ↦ elim b [ true ↦ variable_f (open_number d n) | false ↦ constant_f (constant_number d n) ] ]

  names_alike : (n m : Name) → T (class_known d n) → T (class_known d m) → same_filler (name_filler d n) (name_filler d m) ≡ same_name n m
  unfolding name_filler open_number constant_number
  names_alike n m h k = go (is_thing n) (is_open n) (is_thing m) (is_open m) refl refl refl refl
    where
      go : (a b a' b' : Bool) → is_thing n ≡ a → is_open n ≡ b → is_thing m ≡ a' → is_open m ≡ b' → same_filler (filler a b n) (filler a' b' m) ≡ same_name n m
      go true b true b' p q p' q' = thing_one n m p p'
      go true b false true p q p' q' = apart is_thing n m true false p p' (λ z. subst T z tt)
      go true b false false p q p' q' = apart is_thing n m true false p p' (λ z. subst T z tt)
      go false true true b' p q p' q' = apart is_thing n m false true p p' (λ z. subst T (sym z) tt)
      go false false true b' p q p' q' = apart is_thing n m false true p p' (λ z. subst T (sym z) tt)
      go false true false true p q p' q' = place_eq same_name same_name_refl same_name_means n m d.opens (known_open d n p q h) (known_open d m p' q' k)
      go false true false false p q p' q' = apart is_open n m true false q q' (λ z. subst T z tt)
      go false false false true p q p' q' = apart is_open n m false true q q' (λ z. subst T (sym z) tt)
      go false false false false p q p' q' = place_eq same_name same_name_refl same_name_means n m d.constants (known_constant d n p q h) (known_constant d m p' q' k)

  -- the fresh variables come behind the open names
  fresh_apart : (n : Name) (k : ℕ) → T (class_known d n) → (same_filler (name_filler d n) (variable_f (length d.opens + k)) ≡ false) × (same_filler (variable_f (length d.opens + k)) (name_filler d n) ≡ false)
  unfolding name_filler open_number
  fresh_apart n k h = go (is_thing n) (is_open n) refl refl
    where
      go : (a b : Bool) → is_thing n ≡ a → is_open n ≡ b →
          (same_filler (filler a b n) (variable_f (length d.opens + k)) ≡ false) × (same_filler (variable_f (length d.opens + k)) (filler a b n) ≡ false)
      go true b p q = (refl, refl)
      go false true p q =
          let z : place same_name n d.opens < length d.opens = place_lt same_name n d.opens (known_open d n p q h) in
          (ne_eqb (place same_name n d.opens) (length d.opens + k) (λ e. omega arith), ne_eqb (length d.opens + k) (place same_name n d.opens) (λ e. omega arith))
      go false false p q = (refl, refl)

  numbers_alike : (v k j : ℕ) → eqb (v + k) (v + j) ≡ eqb k j
  numbers_alike v k j =
      same_test (eqb (v + k) (v + j)) (eqb k j)
      (λ t. let e : v + k ≡ v + j = eqb→eq (v + k) (v + j) t in subst (λ (i : ℕ). T (eqb k i)) (let z : k ≡ j = omega arith in z) (eqb_refl k))
      (λ t. subst (λ (i : ℕ). T (eqb (v + k) (v + i))) (eqb→eq k j t) (eqb_refl (v + k)))

  filler_alike : (p q : Part) → T (part_known d p) → T (part_known d q) → same_filler (filler_for d (length d.opens) p) (filler_for d (length d.opens) q) ≡ same_part p q
  filler_alike (by_name n) (by_name m) h k = names_alike n m h k
  filler_alike (by_name n) (by_number j) h k = (fresh_apart n j h).0
  filler_alike (by_number i) (by_name m) h k = (fresh_apart m i k).1
  filler_alike (by_number i) (by_number j) h k = numbers_alike (length d.opens) i j

  row_alike : (a b : Restriction) → T (is_known_in d a) → T (is_known_in d b) → same_row (row_for d (length d.opens) a) (row_for d (length d.opens) b) ≡ same_restriction a b
  unfolding same_row row_for same_restriction role_number role_known
  row_alike a b h k =
      ap₂ ◌&&◌
      (place_eq same_name same_name_refl same_name_means a.role b.role d.roles (and_left (role_known d a.role) (part_known d a.part) h) (and_left (role_known d b.role) (part_known d b.part) k))
      (filler_alike a.part b.part (and_right (role_known d a.role) (part_known d a.part) h) (and_right (role_known d b.role) (part_known d b.part) k))

  --------------------------------------------------------------------------------------------------
  -- The restrictions of a known file

  part_in : (C : Class) (n : ℕ) (rest : List Token) → T (all_in d C) → T (part_known d (part_of n (written C rest)))
  unfolding part_of part_by is_name name_by
  part_in (named (short w)) n rest h = h
  part_in (named (full w)) n rest h = h
  part_in (intersection_of C Cs) n rest h = tt
  part_in (some_values_from r C) n rest h = tt

  -- a restriction before those of its filler
  some_in : (r : Name) (C : Class) (n : ℕ) (rest : List Token) (l : List Restriction) → T (role_known d r && all_in d C) → T (every_of (is_known_in d) l) →
      T (every_of (is_known_in d) (restricted r (part_of n (written C rest)) ∷ l))
  unfolding every_of
  some_in r C n rest l h k =
      and_make (is_known_in d (restricted r (part_of n (written C rest)))) (every_of (is_known_in d) l)
      (and_make (role_known d r) (part_known d (part_of n (written C rest))) (and_left (role_known d r) (all_in d C) h) (part_in C n rest (and_right (role_known d r) (all_in d C) h))) k

  mutual
    unfolding said_by is_name sort_after word_sorts name_by

    class_in : (C : Class) (n : ℕ) (rest : List Token) → T (all_in d C) → ((m : ℕ) → T (every_of (is_known_in d) (said_by 3 m rest))) → T (every_of (is_known_in d) (said_by 3 n (written C rest)))
    class_in (named (short w)) n rest h k = k n
    class_in (named (full w)) n rest h k = k n
    class_in (intersection_of C Cs) n rest h k =
        class_in C n (writtens Cs (‹right› ∷ rest)) (and_left (all_in d C) (all_of d Cs) h) (λ m. classes_in Cs m (‹right› ∷ rest) (and_right (all_in d C) (all_of d Cs) h) k)
    class_in (some_values_from (short w) C) n rest h k =
        some_in (short w) C n (‹right› ∷ rest) (said_by 3 (n + own_of (written C (‹right› ∷ rest))) (written C (‹right› ∷ rest))) h
        (class_in C (n + own_of (written C (‹right› ∷ rest))) (‹right› ∷ rest) (and_right (role_known d (short w)) (all_in d C) h) k)
    class_in (some_values_from (full w) C) n rest h k =
        some_in (full w) C n (‹right› ∷ rest) (said_by 3 (n + own_of (written C (‹right› ∷ rest))) (written C (‹right› ∷ rest))) h
        (class_in C (n + own_of (written C (‹right› ∷ rest))) (‹right› ∷ rest) (and_right (role_known d (full w)) (all_in d C) h) k)

    classes_in : (Cs : Classes) (n : ℕ) (rest : List Token) → T (all_of d Cs) → ((m : ℕ) → T (every_of (is_known_in d) (said_by 3 m rest))) → T (every_of (is_known_in d) (said_by 3 n (writtens Cs rest)))
    classes_in (last C) n rest h k = class_in C n rest h k
    classes_in (more C Cs) n rest h k = class_in C n (writtens Cs rest) (and_left (all_in d C) (all_of d Cs) h) (λ m. classes_in Cs m rest (and_right (all_in d C) (all_of d Cs) h) k)

  two_in : (C D : Class) (n : ℕ) (rest : List Token) → T (all_in d C && all_in d D) → ((m : ℕ) → T (every_of (is_known_in d) (said_by 3 m rest))) →
      T (every_of (is_known_in d) (said_by 3 n (written C (written D (‹right› ∷ rest)))))
  unfolding said_by is_name sort_after
  two_in C D n rest h k = class_in C n (written D (‹right› ∷ rest)) (and_left (all_in d C) (all_in d D) h) (λ m. class_in D m (‹right› ∷ rest) (and_right (all_in d C) (all_in d D) h) k)

  items_in : (items : List Item) (q n : ℕ) → T (every_of (axiom_known d) (axioms_of items)) → T (every_of (is_known_in d) (said_by q n (written_items items (‹right› ∷ []))))
  unfolding said_by is_name sort_after word_sorts name_by every_of axioms_of
  items_in [] q n h = tt
  items_in (declaration (class (short w)) ∷ items) q n h = items_in items 1 n h
  items_in (declaration (class (full w)) ∷ items) q n h = items_in items 1 n h
  items_in (declaration (object_property (short w)) ∷ items) q n h = items_in items 2 n h
  items_in (declaration (object_property (full w)) ∷ items) q n h = items_in items 2 n h
  items_in (stated (sub_class_of C D) ∷ items) q n h =
      two_in C D n (written_items items (‹right› ∷ [])) (and_left (all_in d C && all_in d D) (every_of (axiom_known d) (axioms_of items)) h)
      (λ m. items_in items 3 m (and_right (all_in d C && all_in d D) (every_of (axiom_known d) (axioms_of items)) h))
  items_in (stated (equivalent_classes C D) ∷ items) q n h =
      two_in C D n (written_items items (‹right› ∷ [])) (and_left (all_in d C && all_in d D) (every_of (axiom_known d) (axioms_of items)) h)
      (λ m. items_in items 3 m (and_right (all_in d C && all_in d D) (every_of (axiom_known d) (axioms_of items)) h))

pub restrictions_known : (s : List ℕ) (f : File) → Says s f → T (all_known f) → T (every_of (is_known_in (names_of f.items)) (restrictions_of (standing s)))
unfolding all_known
restrictions_known s f e h = subst (λ (l : List Restriction). T (every_of (is_known_in (names_of f.items)) l)) (sym (text_said s f e)) (items_in (names_of f.items) f.items 0 0 h)

----------------------------------------------------------------------------------------------------
-- Equal rows once

pub rows_once : (s : List ℕ) (f : File) → Says s f → T (all_known f) →
    rows_of_file f ≡ rows_for (names_of f.items) (length (names_of f.items).opens) (once same_restriction [] (restrictions_of (standing s)))
unfolding rows_all every_of
rows_once s f e h =
    let d : Names = names_of f.items in
    let v : ℕ = length d.opens in
    ap (once same_row []) (sym (rows_said d v s f e))
    ∙ once_map same_restriction same_row (row_for d v) (is_known_in d) (row_alike d) (restrictions_of (standing s)) [] tt (restrictions_known s f e h)

pub rows_length : (s : List ℕ) (f : File) → Says s f → T (all_known f) → length (once same_restriction [] (restrictions_of (standing s))) ≡ length (rows_of_file f)
rows_length s f e h =
    let d : Names = names_of f.items in
    sym (ap length (rows_once s f e h) ∙ length-map (once same_restriction [] (restrictions_of (standing s))) (row_for d (length d.opens)))

pub row_place : (s : List ℕ) (f : File) → Says s f → T (all_known f) → (r : Restriction) → T (is_known_in (names_of f.items) r) →
    place same_row (row_for (names_of f.items) (length (names_of f.items).opens) r) (rows_of_file f) ≡ place same_restriction r (once same_restriction [] (restrictions_of (standing s)))
unfolding every_of
row_place s f e h r k =
    let d : Names = names_of f.items in
    let v : ℕ = length d.opens in
    let l : List Restriction = restrictions_of (standing s) in
    ap (place same_row (row_for d v r)) (rows_once s f e h)
    ∙ place_map same_restriction same_row (row_for d v) (is_known_in d) (row_alike d) r (once same_restriction [] l) k
    (once_every same_restriction (is_known_in d) l [] tt (restrictions_known s f e h))
