-- The rows of a file are those of its text's restrictions, in the order of the text.
--
--   standing_said  == those of a text's tokens are the text's
--   class_rows, item-rows, .. == the rows of a construct, before those of what stands behind it
--   rows_said      == the rows of a text's restrictions are those of the file that it says
--   fresh_said     == the fillers that are no names are as many as the file's fresh variables
use Rattle.std.specs.Prelude.{◌≡◌, ◌&&◌, ℕ, zero, suc, ◌+◌, ◌≤◌, ◌<◌, T, eqb, length}
use Rattle.std.proofs.Math.Path.{refl, sym, ap, ap₂}
use Rattle.std.proofs.Common.{subst, ◌∙◌, arith, eqb→eq}
use Rattle.std.proofs.Math.Bool.{Bool, true, false}
use mathlib.Core.List.{List, [], ◌∷◌, ◌++◌, append_assoc}
use Rattle.std.proofs.lemmas.Bool.{eqb-false}
use Rattle.el.specs.Table.{Filler, top_f, constant_f, variable_f, Row}
use Rattle.owl.specs.Tree.{Name, short, full, Class, named, intersection_of, some_values_from, Classes, last, more, sub_class_of, equivalent_classes, class, object_property, Item, declaration, stated, Head, no_name, one_name, two_names, PrefixLine, File, axioms_of}
use Rattle.owl.specs.Naming.{is_thing, is_open, Names, constant_number, open_number, role_number}
use Rattle.owl.specs.Token.{kind_at, end_at}
use Rattle.owl.specs.TokenLaws.{end_le, progress, more as more_bytes}
use Rattle.owl.specs.Written.{Token, kind, token_at, tokens_from, tokens, ‹left›, ‹right›, ‹Ontology›, written, writtens, written_items, written_head, written_prefixes, written_file, Says}
use Rattle.owl.specs.Grammar.{is_name}
use Rattle.owl.specs.TextLaws.{kind_at_lem}
use Rattle.owl.specs.Mention.{word_sorts, sort_after, name_by, name_at}
use Rattle.owl.specs.MentionLaws.{name_at_lem}
use Rattle.owl.specs.Said.{bytes_of, part_by, part_of, own_of, said_by}
use Rattle.owl.specs.Flattening.{Concept, top_c, constant_c, variable_c, name_of, concept_of, concepts_of, own, fresh, filler_of, row_of, rows_of, Statement, statements_of, rows_in, each_of, fresh_all}
use Rattle.owl.specs.Restriction.{by_name, by_number, Restriction, restricted, part_at, own_at, Standing, standing_at, standing_from, standing, restrictions_of, own_one, owns_of, name_filler, filler_for, row_for, rows_for}

----------------------------------------------------------------------------------------------------
-- The restrictions of tokens

-- what a token says of a filler
part_token : (s : List ℕ) (at n : ℕ) (ts : List Token) → (part_at s at n ≡ part_of n (token_at s at ∷ ts)) × (own_at s at ≡ own_of (token_at s at ∷ ts))
unfolding part_at own_at part_of own_of part_by
part_token s at n ts = (
  go (is_name (kind_at s at)) refl ∙ ap (λ (k : ℕ). part_by n (is_name k) (name_by (kind (token_at s at)) (bytes_of (token_at s at)))) (sym (kind_at_lem s at)),
  ap (λ (k : ℕ). elim (is_name k) [ true ↦ 0 | false ↦ 1 ]) (sym (kind_at_lem s at)),
)
  where
    go : (b : Bool) → is_name (kind_at s at) ≡ b → part_by n b (name_at s at) ≡ part_by n b (name_by (kind (token_at s at)) (bytes_of (token_at s at)))
    go true e = ap by_name (name_at_lem s at e)
    go false e = refl

-- at the end of the text no filler begins
part_end : (s : List ℕ) (at n : ℕ) → kind_at s at ≡ 0 → (part_at s at n ≡ part_of n []) × (own_at s at ≡ own_of [])
unfolding part_at own_at part_of own_of is_name
part_end s at n e = (
  ap (λ (k : ℕ). elim (is_name k) [ true ↦ by_name (name_at s at) | false ↦ by_number n ]) e,
  ap (λ (k : ℕ). elim (is_name k) [ true ↦ 0 | false ↦ 1 ]) e,
)

pub part_said : (s : List ℕ) (f at n : ℕ) → at ≤ length s → length s < at + f → (part_at s at n ≡ part_of n (tokens_from s f at)) × (own_at s at ≡ own_of (tokens_from s f at))
unfolding tokens_from
part_said s zero at n h l = absurd (let z : ⊥ = omega arith in z)
part_said s (suc f) at n h l = go (eqb (kind_at s at) 0) refl
  where
    go : (b : Bool) → eqb (kind_at s at) 0 ≡ b →
        (part_at s at n ≡ part_of n (elim b [ true ↦ [] | false ↦ token_at s at ∷ tokens_from s f (end_at s at) ])) × (own_at s at ≡ own_of (elim b [ true ↦ [] | false ↦ token_at s at ∷ tokens_from s f (end_at s at) ]))
    go true e = part_end s at n (eqb→eq (kind_at s at) 0 (subst T (sym e) tt))
    go false e = part_token s at n (tokens_from s f (end_at s at))

pub standing_said : (s : List ℕ) (f at q n : ℕ) → at ≤ length s → length s < at + f → restrictions_of (standing_from s f at q n) ≡ said_by q n (tokens_from s f at)
unfolding standing_from tokens_from said_by
standing_said s zero at q n h l = refl
standing_said s (suc f) at q n h l = go (eqb (kind_at s at) 0) refl (λ m. standing_said s f (end_at s at) (sort_after q (kind_at s at)) m)
  where
    next : ℕ
    next = sort_after q (kind_at s at)

    ts : List Token
    ts = tokens_from s f (end_at s at)

    rest : ℕ → List Standing
    rest m = standing_from s f (end_at s at) next m

    -- the restriction of a token, if it has one
    here : (b : Bool) → is_name (kind_at s at) ≡ b → end_at s at ≤ length s → length s < end_at s at + f → ((m : ℕ) → restrictions_of (rest m) ≡ said_by next m ts) →
        restrictions_of (elim (b && eqb q 4) [ true ↦ standing_at s at n ∷ rest (n + own_at s (end_at s at)) | false ↦ rest n ])
        ≡ elim (b && eqb q 4) [ true ↦ restricted (name_by (kind (token_at s at)) (bytes_of (token_at s at))) (part_of n ts) ∷ said_by next (n + own_of ts) ts | false ↦ said_by next n ts ]
    here false e u v ih = ih n
    here true e u v ih = used (eqb q 4)
      where
        used : (c : Bool) →
            restrictions_of (elim c [ true ↦ standing_at s at n ∷ rest (n + own_at s (end_at s at)) | false ↦ rest n ])
            ≡ elim c [ true ↦ restricted (name_by (kind (token_at s at)) (bytes_of (token_at s at))) (part_of n ts) ∷ said_by next (n + own_of ts) ts | false ↦ said_by next n ts ]
        used true =
            let p = part_said s f (end_at s at) n u v in
            ap₂ (λ (r : Restriction) (l : List Restriction). r ∷ l) (ap₂ restricted (name_at_lem s at e) p.0) (ih (n + own_at s (end_at s at)) ∙ ap (λ (k : ℕ). said_by next (n + k) ts) p.1)
        used false = ih n

    go : (b : Bool) → eqb (kind_at s at) 0 ≡ b → ((m : ℕ) → end_at s at ≤ length s → length s < end_at s at + f → restrictions_of (rest m) ≡ said_by next m ts) →
        restrictions_of (elim b [ true ↦ [] | false ↦ elim (is_name (kind_at s at) && eqb q 4) [ true ↦ standing_at s at n ∷ rest (n + own_at s (end_at s at)) | false ↦ rest n ] ])
        ≡ said_by q n (elim b [ true ↦ [] | false ↦ token_at s at ∷ ts ])
    go true e ih = refl
    go false e ih =
        let on : at < end_at s at = progress s at (more_bytes s at h (eqb-false (kind_at s at) 0 e)) in
        let u : end_at s at ≤ length s = end_le s at h in
        let v : length s < end_at s at + f = omega arith in
        here (is_name (kind_at s at)) refl u v (λ m. ih m u v)
        ∙ ap (λ (k : ℕ). elim (is_name k && eqb q 4) [
          | true ↦ restricted (name_by (kind (token_at s at)) (bytes_of (token_at s at))) (part_of n ts) ∷ said_by (sort_after q k) (n + own_of ts) ts
          | false ↦ said_by (sort_after q k) n ts
        ]) (sym (kind_at_lem s at))

----------------------------------------------------------------------------------------------------
-- The rows of a tree

pub plus_none : (n k : ℕ) → k ≡ 0 → n ≡ n + k
plus_none n k e = omega arith

pub plus_three : (a b c : ℕ) → a + b + c ≡ a + (b + c)
plus_three a b c = omega arith

head_said : (h : Head) (rest : List Token) → said_by 0 0 (written_head h rest) ≡ said_by 0 0 rest
unfolding said_by is_name sort_after
head_said no_name rest = refl
head_said (one_name (short w)) rest = refl
head_said (one_name (full w)) rest = refl
head_said (two_names (short w) (short u)) rest = refl
head_said (two_names (short w) (full u)) rest = refl
head_said (two_names (full w) (short u)) rest = refl
head_said (two_names (full w) (full u)) rest = refl

prefixes_said : (ps : List PrefixLine) (rest : List Token) → said_by 0 0 (written_prefixes ps rest) ≡ said_by 0 0 rest
unfolding said_by is_name sort_after word_sorts
prefixes_said [] rest = refl
prefixes_said (p ∷ ps) rest = prefixes_said ps rest

file_said : (f : File) → said_by 0 0 (written_file f) ≡ said_by 0 0 (written_items f.items (‹right› ∷ []))
unfolding said_by is_name sort_after word_sorts
file_said f =
    prefixes_said f.prefixes (‹Ontology› ∷ ‹left› ∷ written_head f.head (written_items f.items (‹right› ∷ [])))
    ∙ head_said f.head (written_items f.items (‹right› ∷ []))

pub text_said : (s : List ℕ) (f : File) → Says s f → restrictions_of (standing s) ≡ said_by 0 0 (written_items f.items (‹right› ∷ []))
unfolding Says tokens standing
text_said s f e = standing_said s (suc (length s)) 0 0 0 (omega arith) (omega arith) ∙ ap (said_by 0 0) e ∙ file_said f

module _ (d : Names) (v : ℕ) where
  -- a name is a concept without rows
  pub name_flat : (m : Name) (n : ℕ) → (rows_of n (name_of d m) ≡ []) × (fresh (name_of d m) ≡ 0) × (own (name_of d m) ≡ 0) × (filler_of n (name_of d m) ≡ name_filler d m)
  unfolding name_of name_filler
  name_flat m n = go (is_thing m) (is_open m)
    where
      C : Bool → Bool → Concept
      C a b = elim a [ true ↦ top_c | false ↦ elim b [ true ↦ variable_c (open_number d m) | false ↦ constant_c (constant_number d m) ] ]

      go : (a b : Bool) → (rows_of n (C a b) ≡ []) × (fresh (C a b) ≡ 0) × (own (C a b) ≡ 0)
          × (filler_of n (C a b) ≡ elim a [ true ↦ top_f | false ↦ elim b [ true ↦ variable_f (open_number d m) | false ↦ constant_f (constant_number d m) ] ])
      go true b = (refl, refl, refl, refl)
      go false true = (refl, refl, refl, refl)
      go false false = (refl, refl, refl, refl)

  -- a filler is told by its first token
  pub part_class : (C : Class) (n : ℕ) (rest : List Token) →
      (filler_for d v (part_of n (written C rest)) ≡ filler_of (v + n) (concept_of d C)) × (own_of (written C rest) ≡ own (concept_of d C)) × (own_one (part_of n (written C rest)) ≡ own (concept_of d C))
  unfolding part_of own_of part_by is_name name_by
  part_class (named (short w)) n rest = let f = name_flat (short w) (v + n) in (sym f.3, sym f.2, sym f.2)
  part_class (named (full w)) n rest = let f = name_flat (full w) (v + n) in (sym f.3, sym f.2, sym f.2)
  part_class (intersection_of C Cs) n rest = (refl, refl, refl)
  part_class (some_values_from r C) n rest = (refl, refl, refl)

  abbrev rows : List Restriction → List Row
  rows l = rows_for d v l

  -- a construct's rows, before those of what stands behind it
  abbrev Rows : Concept → ℕ → List Restriction → (ℕ → List Restriction) → Type 0
  Rows C n l rest = (rows l ≡ rows_of (v + n) C ++ rows (rest (n + fresh C))) × (owns_of l ≡ fresh C + owns_of (rest (n + fresh C)))

  name_rows : (m : Name) (n : ℕ) (l : List Restriction) (rest : ℕ → List Restriction) → l ≡ rest n → Rows (name_of d m) n l rest
  name_rows m n l rest e =
      let f = name_flat m (v + n) in
      let z : n ≡ n + fresh (name_of d m) = plus_none n (fresh (name_of d m)) f.1 in (
        ap rows (e ∙ ap rest z) ∙ ap (λ (k : List Row). k ++ rows (rest (n + fresh (name_of d m)))) (sym f.0),
        (let a : owns_of l ≡ owns_of (rest (n + fresh (name_of d m))) = ap owns_of (e ∙ ap rest z) in let b : fresh (name_of d m) ≡ 0 = f.1 in omega arith),
      )

  both_rows : (C D : Concept) (n : ℕ) (l : List Restriction) (middle rest : ℕ → List Restriction) → Rows C n l middle → Rows D (n + fresh C) (middle (n + fresh C)) rest →
      (rows l ≡ (rows_of (v + n) C ++ rows_of (v + n + fresh C) D) ++ rows (rest (n + (fresh C + fresh D)))) × (owns_of l ≡ fresh C + fresh D + owns_of (rest (n + (fresh C + fresh D))))
  both_rows C D n l middle rest a b = (
    a.0
        ∙ ap (λ (k : List Row). rows_of (v + n) C ++ k)
        (b.0 ∙ ap₂ (λ (i j : ℕ). rows_of i D ++ rows (rest j)) (sym (plus_three v n (fresh C))) (plus_three n (fresh C) (fresh D)))
        ∙ sym (append_assoc (rows_of (v + n) C) (rows_of (v + n + fresh C) D) (rows (rest (n + (fresh C + fresh D))))),
    a.1 ∙ ap (λ (k : ℕ). fresh C + k) (b.1 ∙ ap (λ (j : ℕ). fresh D + owns_of (rest j)) (plus_three n (fresh C) (fresh D)))
        ∙ sym (plus_three (fresh C) (fresh D) (owns_of (rest (n + (fresh C + fresh D))))),
  )

  -- a restriction, its filler's rows behind its own
  some_rows : (r : Name) (C : Class) (n : ℕ) (inner : ℕ → List Restriction) (ts : List Token) (rest : ℕ → List Restriction) →
      ((m : ℕ) → Rows (concept_of d C) m (inner m) rest) →
      (rows (restricted r (part_of n (written C ts)) ∷ inner (n + own_of (written C ts)))
      ≡ row_of (role_number d r) (filler_of (v + n) (concept_of d C)) ∷ rows_of (v + n + own (concept_of d C)) (concept_of d C) ++ rows (rest (n + (own (concept_of d C) + fresh (concept_of d C)))))
      × (owns_of (restricted r (part_of n (written C ts)) ∷ inner (n + own_of (written C ts))) ≡ own (concept_of d C) + fresh (concept_of d C) + owns_of (rest (n + (own (concept_of d C) + fresh (concept_of d C)))))
  unfolding row_for owns_of
  some_rows r C n inner ts rest h =
      let K : Concept = concept_of d C in
      let p = part_class C n ts in
      let i = h (n + own K) in (
        ap₂ (λ (f : Filler) (k : ℕ). row_of (role_number d r) f ∷ rows (inner (n + k))) p.0 p.1
            ∙ ap (λ (l : List Row). row_of (role_number d r) (filler_of (v + n) K) ∷ l)
            (i.0 ∙ ap₂ (λ (a b : ℕ). rows_of a K ++ rows (rest b)) (sym (plus_three v n (own K))) (plus_three n (own K) (fresh K))),
        ap₂ (λ (a b : ℕ). a + owns_of (inner (n + b))) p.2 p.1
            ∙ ap (λ (k : ℕ). own K + k) (i.1 ∙ ap (λ (j : ℕ). fresh K + owns_of (rest j)) (plus_three n (own K) (fresh K)))
            ∙ sym (plus_three (own K) (fresh K) (owns_of (rest (n + (own K + fresh K))))),
      )

  mutual
    unfolding said_by is_name sort_after word_sorts name_by

    class_rows : (C : Class) (n : ℕ) (rest : List Token) → Rows (concept_of d C) n (said_by 3 n (written C rest)) (λ m. said_by 3 m rest)
    class_rows (named (short w)) n rest = name_rows (short w) n (said_by 3 n rest) (λ m. said_by 3 m rest) refl
    class_rows (named (full w)) n rest = name_rows (full w) n (said_by 3 n rest) (λ m. said_by 3 m rest) refl
    class_rows (intersection_of C Cs) n rest =
        both_rows (concept_of d C) (concepts_of d Cs) n (said_by 3 n (written C (writtens Cs (‹right› ∷ rest)))) (λ m. said_by 3 m (writtens Cs (‹right› ∷ rest))) (λ m. said_by 3 m rest)
        (class_rows C n (writtens Cs (‹right› ∷ rest))) (classes_rows Cs (n + fresh (concept_of d C)) (‹right› ∷ rest))
    class_rows (some_values_from (short w) C) n rest =
        some_rows (short w) C n (λ m. said_by 3 m (written C (‹right› ∷ rest))) (‹right› ∷ rest) (λ m. said_by 3 m rest) (λ m. class_rows C m (‹right› ∷ rest))
    class_rows (some_values_from (full w) C) n rest =
        some_rows (full w) C n (λ m. said_by 3 m (written C (‹right› ∷ rest))) (‹right› ∷ rest) (λ m. said_by 3 m rest) (λ m. class_rows C m (‹right› ∷ rest))

    classes_rows : (Cs : Classes) (n : ℕ) (rest : List Token) → Rows (concepts_of d Cs) n (said_by 3 n (writtens Cs rest)) (λ m. said_by 3 m rest)
    classes_rows (last C) n rest = class_rows C n rest
    classes_rows (more C Cs) n rest =
        both_rows (concept_of d C) (concepts_of d Cs) n (said_by 3 n (written C (writtens Cs rest))) (λ m. said_by 3 m (writtens Cs rest)) (λ m. said_by 3 m rest)
        (class_rows C n (writtens Cs rest)) (classes_rows Cs (n + fresh (concept_of d C)) rest)

  abbrev statements : List Item → List Statement
  statements items = statements_of d (axioms_of items)

  -- the rows of an axiom, before those of the items behind it
  axiom_rows : (C D : Class) (mutually : Bool) (n : ℕ) (items : List Item) →
      ((m : ℕ) → (rows (said_by 3 m (written_items items (‹right› ∷ []))) ≡ each_of rows_in (v + m) (statements items)) × (owns_of (said_by 3 m (written_items items (‹right› ∷ []))) ≡ fresh_all (statements items))) →
      (rows (said_by 3 n (written C (written D (‹right› ∷ written_items items (‹right› ∷ [])))))
      ≡ each_of rows_in (v + n) (record { less = concept_of d C; greater = concept_of d D; mutually = mutually } ∷ statements items))
      × (owns_of (said_by 3 n (written C (written D (‹right› ∷ written_items items (‹right› ∷ [])))))
      ≡ fresh_all (record { less = concept_of d C; greater = concept_of d D; mutually = mutually } ∷ statements items))
  unfolding said_by is_name sort_after
  axiom_rows C D mutually n items ih =
      let K : Concept = concept_of d C in
      let L : Concept = concept_of d D in
      let tail : List Token = written_items items (‹right› ∷ []) in
      let b =
      both_rows K L n (said_by 3 n (written C (written D (‹right› ∷ tail)))) (λ m. said_by 3 m (written D (‹right› ∷ tail))) (λ m. said_by 3 m tail)
      (class_rows C n (written D (‹right› ∷ tail))) (class_rows D (n + fresh K) (‹right› ∷ tail))
      in let i = ih (n + (fresh K + fresh L)) in (
        b.0
            ∙ ap (λ (l : List Row). (rows_of (v + n) K ++ rows_of (v + n + fresh K) L) ++ l) (i.0 ∙ ap (λ (k : ℕ). each_of rows_in k (statements items)) (sym (plus_three v n (fresh K + fresh L)))),
        b.1 ∙ ap (λ (k : ℕ). fresh K + fresh L + k) i.1,
      )

  items_rows : (items : List Item) (q n : ℕ) →
      (rows (said_by q n (written_items items (‹right› ∷ []))) ≡ each_of rows_in (v + n) (statements items)) × (owns_of (said_by q n (written_items items (‹right› ∷ []))) ≡ fresh_all (statements items))
  unfolding said_by is_name sort_after word_sorts name_by owns_of statements_of axioms_of
  items_rows [] q n = (refl, refl)
  items_rows (declaration (class (short w)) ∷ items) q n = items_rows items 1 n
  items_rows (declaration (class (full w)) ∷ items) q n = items_rows items 1 n
  items_rows (declaration (object_property (short w)) ∷ items) q n = items_rows items 2 n
  items_rows (declaration (object_property (full w)) ∷ items) q n = items_rows items 2 n
  items_rows (stated (sub_class_of C D) ∷ items) q n = axiom_rows C D false n items (items_rows items 3)
  items_rows (stated (equivalent_classes C D) ∷ items) q n = axiom_rows C D true n items (items_rows items 3)

  pub rows_said : (s : List ℕ) (f : File) → Says s f → rows_for d v (restrictions_of (standing s)) ≡ each_of rows_in v (statements_of d (axioms_of f.items))
  rows_said s f e =
      ap rows (text_said s f e) ∙ (items_rows f.items 0 0).0 ∙ ap (λ (k : ℕ). each_of rows_in k (statements f.items)) (let z : v + 0 ≡ v = omega arith in z)

  pub fresh_said : (s : List ℕ) (f : File) → Says s f → owns_of (restrictions_of (standing s)) ≡ fresh_all (statements_of d (axioms_of f.items))
  fresh_said s f e = ap owns_of (text_said s f e) ∙ (items_rows f.items 0 0).1
