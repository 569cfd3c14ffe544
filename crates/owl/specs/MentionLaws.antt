-- What a text mentions is what its file mentions.
--
--   spoken q ts   == the mentions of the tokens ts, where q is what the next name does
--   name_at_lem       == a token that is a name is the name there
--   placed_spoken == those of a text's tokens are the text's
--   file_spoken   == the mentions of a written file are those of its items
--   mentions_said == what a text mentions is what the items of its file mention, in order
--   names_said    == the names that a text declares are those of the file that it says
--   known_said    == each mention of a text is known exactly if each name of its file's axioms is
use Rattle.std.specs.Prelude.{◌≡◌, Bool, true, false, ◌&&◌, ◌||◌, not, ℕ, zero, suc, ◌+◌, ◌-◌, ◌<◌, T, eqb, ltb, length, take, drop}
use Rattle.std.proofs.Math.Path.{refl, ap}
use Rattle.std.proofs.Common.{sym, ap₂, subst, ◌∙◌, true≢false, arith, ltb→lt, ne_eqb}
use Rattle.std.proofs.Math.Bool.{and_assoc}
use mathlib.Core.List.{List, [], ◌∷◌}
use Rattle.el.specs.Test.{every_of}
use Rattle.owl.specs.Tree.{Name, short, full, Class, named, intersection_of, some_values_from, Classes, last, more, sub_class_of, equivalent_classes, class, object_property, Item, declaration, stated, Head, no_name, one_name, two_names, PrefixLine, File, axioms_of, classes_of, properties_of}
use Rattle.owl.specs.Naming.{same_name, is_thing, is_open, keep, Names, names_of, role_known, all_in, all_of, axiom_known, all_known}
use Rattle.owl.specs.Token.{size_of, place_at, kind_at, end_at}
use Rattle.owl.specs.Written.{Token, sign, text, kind, token_of, token_at, tokens_from, tokens, ‹left›, ‹right›, ‹Ontology›, written, writtens, written_item, written_items, written_head, written_prefixes, written_file, Says}
use Rattle.owl.specs.Grammar.{is_name}
use Rattle.owl.specs.TextLaws.{kind_at_lem}
use Rattle.owl.specs.Once.{once}
use Rattle.owl.specs.Said.{bytes_of}
use Rattle.owl.specs.Mentioned.{uses_in, uses_of, mentions_in, mentions_all}
use Rattle.owl.specs.Mention.{word_sorts, sort_after, name_by, bytes_at, name_at, Mention, Placed, mentioned, placed_at, placed_from, placed, mentions_of, declarations, names_in, is_known}

----------------------------------------------------------------------------------------------------
-- The mentions of tokens

heard : ℕ → ℕ → List ℕ → List Mention → List Mention
heard q k w ms = elim (is_name k && ltb 0 q) [ true ↦ mentioned q (name_by k w) ∷ ms | false ↦ ms ]

spoken : ℕ → List Token → List Mention
spoken q [] = []
spoken q (t ∷ ts) = heard q (kind t) (bytes_of t) (spoken (sort_after q (kind t)) ts)

name_bytes : (k : ℕ) (w : List ℕ) → is_name k ≡ true → bytes_of (token_of k w) ≡ w
unfolding token_of is_name
name_bytes k w n = go (ltb k 13) refl
  where
    go : (b : Bool) → ltb k 13 ≡ b → bytes_of (elim b [ true ↦ sign k | false ↦ text k w ]) ≡ w
    go true e =
        let h : k < 13 = ltb→lt k 13 (subst T (sym e) tt) in
        absurd (true≢false (sym n ∙ ap₂ ◌||◌ (ne_eqb k 13 (omega arith)) (ne_eqb k 14 (omega arith))))
    go false e = refl

bytes_at_lem : (s : List ℕ) (at : ℕ) → bytes_at s at ≡ take (size_of (drop (place_at s at) s)) (drop (place_at s at) s)
unfolding bytes_at end_at
bytes_at_lem s at =
    ap (λ (n : ℕ). take n (drop (place_at s at) s))
    (let z : place_at s at + size_of (drop (place_at s at) s) - place_at s at ≡ size_of (drop (place_at s at) s) = omega arith in z)

-- a token that is a name is the name there
pub name_at_lem : (s : List ℕ) (at : ℕ) → is_name (kind_at s at) ≡ true → name_at s at ≡ name_by (kind (token_at s at)) (bytes_of (token_at s at))
unfolding token_at
name_at_lem s at n =
    let w : List ℕ = take (size_of (drop (place_at s at) s)) (drop (place_at s at) s) in
    ap₂ name_by (sym (kind_at_lem s at)) (bytes_at_lem s at ∙ sym (name_bytes (kind_at s at) w n))

heard_at : (s : List ℕ) (at q : ℕ) (ms : List Mention) → heard q (kind_at s at) (bytes_at s at) ms ≡ heard q (kind (token_at s at)) (bytes_of (token_at s at)) ms
unfolding heard
heard_at s at q ms =
    go (is_name (kind_at s at)) refl
    ∙ ap (λ (k : ℕ). elim (is_name k && ltb 0 q) [ true ↦ mentioned q (name_by (kind (token_at s at)) (bytes_of (token_at s at))) ∷ ms | false ↦ ms ]) (sym (kind_at_lem s at))
  where
    go : (b : Bool) → is_name (kind_at s at) ≡ b →
        ◌≡◌ {A = List Mention} (elim (b && ltb 0 q) [ true ↦ mentioned q (name_at s at) ∷ ms | false ↦ ms ])
        (elim (b && ltb 0 q) [ true ↦ mentioned q (name_by (kind (token_at s at)) (bytes_of (token_at s at))) ∷ ms | false ↦ ms ])
    go true n = ap (λ (m : Name). elim (ltb 0 q) [ true ↦ mentioned q m ∷ ms | false ↦ ms ]) (name_at_lem s at n)
    go false n = refl

placed_spoken : (s : List ℕ) (f at q : ℕ) → mentions_of (placed_from s f at q) ≡ spoken q (tokens_from s f at)
unfolding placed_from mentions_of tokens_from spoken heard
placed_spoken s zero at q = refl
placed_spoken s (suc f) at q = go (eqb (kind_at s at) 0) (placed_spoken s f (end_at s at) (sort_after q (kind_at s at)))
  where
    l : List Placed
    l = placed_from s f (end_at s at) (sort_after q (kind_at s at))

    ts : List Token
    ts = tokens_from s f (end_at s at)

    here : (b : Bool) → mentions_of (elim b [ true ↦ placed_at s at q ∷ l | false ↦ l ]) ≡ elim b [ true ↦ mentioned q (name_at s at) ∷ mentions_of l | false ↦ mentions_of l ]
    here true = refl
    here false = refl

    go : (b : Bool) → mentions_of l ≡ spoken (sort_after q (kind_at s at)) ts →
        mentions_of (elim b [ true ↦ [] | false ↦ elim (is_name (kind_at s at) && ltb 0 q) [ true ↦ placed_at s at q ∷ l | false ↦ l ] ]) ≡ spoken q (elim b [ true ↦ [] | false ↦ token_at s at ∷ ts ])
    go true ih = refl
    go false ih =
        here (is_name (kind_at s at) && ltb 0 q)
        ∙ heard_at s at q (mentions_of l)
        ∙ ap (heard q (kind (token_at s at)) (bytes_of (token_at s at))) (ih ∙ ap (λ (k : ℕ). spoken (sort_after q k) ts) (sym (kind_at_lem s at)))

----------------------------------------------------------------------------------------------------
-- The mentions of a tree

mutual
  unfolding spoken heard is_name sort_after word_sorts name_by

  class_spoken : (C : Class) (rest : List Token) → spoken 3 (written C rest) ≡ uses_in C (spoken 3 rest)
  class_spoken (named (short w)) rest = refl
  class_spoken (named (full w)) rest = refl
  class_spoken (intersection_of C Cs) rest = class_spoken C (writtens Cs (‹right› ∷ rest)) ∙ ap (uses_in C) (classes_spoken Cs (‹right› ∷ rest))
  class_spoken (some_values_from (short w) C) rest = ap (λ (ms : List Mention). mentioned 4 (short w) ∷ ms) (class_spoken C (‹right› ∷ rest))
  class_spoken (some_values_from (full w) C) rest = ap (λ (ms : List Mention). mentioned 4 (full w) ∷ ms) (class_spoken C (‹right› ∷ rest))

  classes_spoken : (Cs : Classes) (rest : List Token) → spoken 3 (writtens Cs rest) ≡ uses_of Cs (spoken 3 rest)
  classes_spoken (last C) rest = class_spoken C rest
  classes_spoken (more C Cs) rest = class_spoken C (writtens Cs rest) ∙ ap (uses_in C) (classes_spoken Cs rest)

two_spoken : (C D : Class) (rest : List Token) → spoken 3 (written C (written D rest)) ≡ uses_in C (uses_in D (spoken 3 rest))
two_spoken C D rest = class_spoken C (written D rest) ∙ ap (uses_in C) (class_spoken D rest)

-- an item begins with a listed word
item_spoken : (i : Item) (rest : List Token) (q : ℕ) → (p : ℕ) × (spoken q (written_item i rest) ≡ mentions_in i (spoken p rest))
unfolding spoken heard is_name sort_after word_sorts name_by
item_spoken (declaration (class (short w))) rest q = (1, refl)
item_spoken (declaration (class (full w))) rest q = (1, refl)
item_spoken (declaration (object_property (short w))) rest q = (2, refl)
item_spoken (declaration (object_property (full w))) rest q = (2, refl)
item_spoken (stated (sub_class_of C D)) rest q = (3, two_spoken C D (‹right› ∷ rest))
item_spoken (stated (equivalent_classes C D)) rest q = (3, two_spoken C D (‹right› ∷ rest))

items_spoken : (items : List Item) (q : ℕ) → spoken q (written_items items (‹right› ∷ [])) ≡ mentions_all items
unfolding spoken heard is_name
items_spoken [] q = refl
items_spoken (i ∷ items) q = let e = item_spoken i (written_items items (‹right› ∷ [])) q in e.1 ∙ ap (mentions_in i) (items_spoken items e.0)

head_spoken : (h : Head) (rest : List Token) → spoken 0 (written_head h rest) ≡ spoken 0 rest
unfolding spoken heard is_name sort_after
head_spoken no_name rest = refl
head_spoken (one_name (short w)) rest = refl
head_spoken (one_name (full w)) rest = refl
head_spoken (two_names (short w) (short u)) rest = refl
head_spoken (two_names (short w) (full u)) rest = refl
head_spoken (two_names (full w) (short u)) rest = refl
head_spoken (two_names (full w) (full u)) rest = refl

prefixes_spoken : (ps : List PrefixLine) (rest : List Token) → spoken 0 (written_prefixes ps rest) ≡ spoken 0 rest
unfolding spoken heard is_name sort_after word_sorts
prefixes_spoken [] rest = refl
prefixes_spoken (p ∷ ps) rest = prefixes_spoken ps rest

file_spoken : (f : File) → spoken 0 (written_file f) ≡ mentions_all f.items
unfolding spoken heard is_name sort_after word_sorts
file_spoken f =
    prefixes_spoken f.prefixes (‹Ontology› ∷ ‹left› ∷ written_head f.head (written_items f.items (‹right› ∷ [])))
    ∙ head_spoken f.head (written_items f.items (‹right› ∷ []))
    ∙ items_spoken f.items 0

pub mentions_said : (s : List ℕ) (f : File) → Says s f → mentions_of (placed s) ≡ mentions_all f.items
unfolding Says tokens placed
mentions_said s f e = placed_spoken s (suc (length s)) 0 0 ∙ ap (spoken 0) e ∙ file_spoken f

----------------------------------------------------------------------------------------------------
-- The declared names of a text

mutual
  unfolding declarations

  uses_declare : (C : Class) (ms : List Mention) → declarations (uses_in C ms) ≡ declarations ms
  uses_declare (named n) ms = refl
  uses_declare (intersection_of C Cs) ms = uses_declare C (uses_of Cs ms) ∙ uses_declares Cs ms
  uses_declare (some_values_from r C) ms = uses_declare C ms

  uses_declares : (Cs : Classes) (ms : List Mention) → declarations (uses_of Cs ms) ≡ declarations ms
  uses_declares (last C) ms = uses_declare C ms
  uses_declares (more C Cs) ms = uses_declare C (uses_of Cs ms) ∙ uses_declares Cs ms

item_declares : (i : Item) (ms : List Mention) (items : List Item) → classes_of (declarations ms) ≡ classes_of items → properties_of (declarations ms) ≡ properties_of items →
    (classes_of (declarations (mentions_in i ms)) ≡ classes_of (i ∷ items)) × (properties_of (declarations (mentions_in i ms)) ≡ properties_of (i ∷ items))
unfolding declarations classes_of properties_of
item_declares (declaration (class n)) ms items e d = (ap (λ (l : List Name). n ∷ l) e, d)
item_declares (declaration (object_property n)) ms items e d = (e, ap (λ (l : List Name). n ∷ l) d)
item_declares (stated (sub_class_of C D)) ms items e d =
    let z = uses_declare C (uses_in D ms) ∙ uses_declare D ms in
    (ap classes_of z ∙ e, ap properties_of z ∙ d)
item_declares (stated (equivalent_classes C D)) ms items e d =
    let z = uses_declare C (uses_in D ms) ∙ uses_declare D ms in
    (ap classes_of z ∙ e, ap properties_of z ∙ d)

all_declare : (items : List Item) → (classes_of (declarations (mentions_all items)) ≡ classes_of items) × (properties_of (declarations (mentions_all items)) ≡ properties_of items)
unfolding declarations
all_declare [] = (refl, refl)
all_declare (i ∷ items) = let e = all_declare items in item_declares i (mentions_all items) items e.0 e.1

-- the numbers of names depend on the declarations alone
names_by : (a b : List Item) → classes_of a ≡ classes_of b → properties_of a ≡ properties_of b → names_of a ≡ names_of b
unfolding names_of
names_by a b e d =
    ap₂ (λ (c p : List Name). record {
      constants = once same_name [] (keep (λ n. not (is_thing n || is_open n)) c);
      opens = once same_name [] (keep is_open c);
      roles = once same_name [] p;
    }) e d

pub names_said : (s : List ℕ) (f : File) → Says s f → names_in s ≡ names_of f.items
unfolding names_in
names_said s f e =
    let d = all_declare f.items in
    ap (λ (ms : List Mention). names_of (declarations ms)) (mentions_said s f e) ∙ names_by (declarations (mentions_all f.items)) f.items d.0 d.1

----------------------------------------------------------------------------------------------------
-- Each name known

module _ (d : Names) where
  mutual
    unfolding every_of is_known

    class_known_lem : (C : Class) (ms : List Mention) → every_of (is_known d) (uses_in C ms) ≡ all_in d C && every_of (is_known d) ms
    class_known_lem (named n) ms = refl
    class_known_lem (intersection_of C Cs) ms =
        class_known_lem C (uses_of Cs ms) ∙ ap (λ (b : Bool). all_in d C && b) (classes_known Cs ms) ∙ sym (and_assoc (all_in d C) (all_of d Cs) (every_of (is_known d) ms))
    class_known_lem (some_values_from r C) ms = ap (λ (b : Bool). role_known d r && b) (class_known_lem C ms) ∙ sym (and_assoc (role_known d r) (all_in d C) (every_of (is_known d) ms))

    classes_known : (Cs : Classes) (ms : List Mention) → every_of (is_known d) (uses_of Cs ms) ≡ all_of d Cs && every_of (is_known d) ms
    classes_known (last C) ms = class_known_lem C ms
    classes_known (more C Cs) ms =
        class_known_lem C (uses_of Cs ms) ∙ ap (λ (b : Bool). all_in d C && b) (classes_known Cs ms) ∙ sym (and_assoc (all_in d C) (all_of d Cs) (every_of (is_known d) ms))

  two_known : (C D : Class) (ms : List Mention) → every_of (is_known d) (uses_in C (uses_in D ms)) ≡ (all_in d C && all_in d D) && every_of (is_known d) ms
  two_known C D ms =
      class_known_lem C (uses_in D ms) ∙ ap (λ (b : Bool). all_in d C && b) (class_known_lem D ms) ∙ sym (and_assoc (all_in d C) (all_in d D) (every_of (is_known d) ms))

  uses_known : (items : List Item) → every_of (is_known d) (mentions_all items) ≡ every_of (axiom_known d) (axioms_of items)
  unfolding every_of is_known axioms_of
  uses_known [] = refl
  uses_known (declaration (class n) ∷ items) = uses_known items
  uses_known (declaration (object_property n) ∷ items) = uses_known items
  uses_known (stated (sub_class_of C D) ∷ items) = two_known C D (mentions_all items) ∙ ap (λ (b : Bool). (all_in d C && all_in d D) && b) (uses_known items)
  uses_known (stated (equivalent_classes C D) ∷ items) = two_known C D (mentions_all items) ∙ ap (λ (b : Bool). (all_in d C && all_in d D) && b) (uses_known items)

pub known_said : (s : List ℕ) (f : File) → Says s f → every_of (is_known (names_in s)) (mentions_of (placed s)) ≡ all_known f
unfolding all_known
known_said s f e =
    ap₂ (λ (d : Names) (ms : List Mention). every_of (is_known d) ms) (names_said s f e) (mentions_said s f e) ∙ uses_known (names_of f.items) f.items
