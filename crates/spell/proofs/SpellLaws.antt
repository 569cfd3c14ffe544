-- Laws that carry the writers of names, restrictions and sets to their text.
--
--   atoms_filter           == the atoms of a set
--   atoms_are              == how many atoms a table has
--   row_text_lem           == a restriction
--   filler_fits, fits_variable == a code that is a filler is written as that filler, and its variable is one of the table
--   filler_top, filler_constant, filler_variable, filler_other == a filler by the kind of its code; a code that is no filler is written as nothing
--   atom_constant, atom_row == an atom
--   variable_named, variable_flat, variable_deep  == a variable as a filler
--   atom_of .. s i later   == atom i, where the set s has it, with ` & ` before it if it is a later one
--   set_more, atoms_none, atoms_there, atoms_out, set_text_lem == the loop over the atoms of a set
--   variable_line_lem, lines_none, lines_turn, lines_all_lem == the lines of the variables
use Rattle.std.proofs.Common.{◌≡◌, refl, sym, ap, ap₂, subst, ◌∙◌, Bool, true, false, not, cond, List, [], ◌∷◌, ◌++◌, map, filter, ℕ, zero, suc, ◌+◌, ◌-◌, ◌≤◌, ◌<◌, T, ltb, length, arith, add-one, append-nil, lt-ltb, le-ltb, ◌⊎◌, inl, inr}
use mathlib.Core.Bool.{◌||◌, or-true, or-false}
use Rattle.std.specs.List.{range_with_len}
use Rattle.std.proofs.lemmas.List.{map-append, map-id, length-map}
use Rattle.std.proofs.lemmas.List.FromFn.{filter_of_map_range_with_len_more}
use Rattle.bounds.specs.Bounds.{max_atoms}
use Rattle.el.specs.Test.{bit}
use Rattle.el.specs.Table.{Filler, Table, row_at, atoms}
use Rattle.table.specs.declared.Header.{Header}
use Rattle.table.specs.declared.Kind.{Kind}
use Rattle.table.specs.declared.Kind.TheVariants.{Top, Constant, Restriction, Variable, Other}
use Rattle.table.specs.Code.{kind_of, WritesFiller, fills_top, fills_constant, fills_variable}
use Rattle.table.specs.CodeLaws.{filler_writes}
use Rattle.table.specs.Reading.{reading, table_of, is_readable, header_of}
use Rattle.table.specs.Layout.{IsRowFiller}
use Rattle.table.specs.LayoutLaws.{layout}
use Rattle.text.specs.Text.{space, newline, joined, behind, any}
use Rattle.text.specs.Listing.{ampersand, atoms_in}
use Rattle.text.proofs.Laws.{joined_more}
use Rattle.owl.specs.Naming.{Names, thing_bytes}
use Rattle.owl.specs.Token.{some_values_word}
use Rattle.spell.specs.declared.Sheet.{Sheet}
use Rattle.spell.specs.declared.Span.{Span}
use Rattle.spell.specs.Penned.{Penned}
use Rattle.spell.specs.PennedLaws.{penned_none, penned_then, penned_as}
use Rattle.spell.specs.Spelling.{name_of, opening, closing, some_text, joined_text, enclosed, variable_text, filler_text, row_text, atom_text, atom_texts, spelt_to, set_text, variable_line, variable_lines}
use Rattle.spell.specs.Given.{span_text, SpansOf}
use Rattle.spell.specs.Step.{code_text, kind_fits, FillerFits}
use Rattle.spell.proofs.PutLaws.{name_is}

----------------------------------------------------------------------------------------------------
-- How many atoms there are

-- the atoms of a set are the numbers that it has
pub atoms_filter : (s n : ℕ) → filter (λ i. bit i s) (range_with_len 0 n) ≡ atoms_in n s
unfolding atoms_in
atoms_filter s n = ap (filter (λ i. bit i s)) (sym (map-id (range_with_len 0 n))) ∙ go n
  where
    one_more : (b : Bool) (l : List ℕ) (i : ℕ) → l ++ cond b (i ∷ []) [] ≡ elim b [ true ↦ l ++ (i ∷ []) | false ↦ l ]
    one_more true l i = refl
    one_more false l i = append-nil l

    go : (n : ℕ) → filter (λ i. bit i s) (map (λ i. i) (range_with_len 0 n)) ≡ atoms_in n s
    go zero = refl
    go (suc n) =
        ap (λ (k : ℕ). filter (λ i. bit i s) (map (λ i. i) (range_with_len 0 k))) (sym (add-one n))
        ∙ filter_of_map_range_with_len_more (λ i. bit i s) (λ i. i) 0 n n (omega arith)
        ∙ ap (λ (l : List ℕ). l ++ cond (bit n s) (n ∷ []) []) (go n)
        ∙ one_more (bit n s) (atoms_in n s) n

module _ (s : List ℕ) (ok : T (is_readable (reading s))) where
  pub atoms_are : (h : Header) (c e : ℕ) → h ≡ header_of s → c ≡ h.c → e ≡ h.e → (c + e ≡ atoms (table_of s)) × (c + e ≡ (header_of s).c + (header_of s).e) × (c + e ≤ max_atoms)
  unfolding atoms
  atoms_are h c e q p o =
      let x = ap (λ (x : Header). x.c) q in let y = ap (λ (x : Header). x.e) q in
      (omega (arith, (layout s ok).constants, (layout s ok).rows), omega arith, omega (arith, (layout s ok).few_atoms))

----------------------------------------------------------------------------------------------------
-- Restrictions

-- `owl:Thing`, as the code writes it
abbrev pub thing : List ℕ
thing = 111 ∷ 119 ∷ 108 ∷ 58 ∷ 84 ∷ 104 ∷ 105 ∷ 110 ∷ 103 ∷ []

-- `ObjectSomeValuesFrom(`
abbrev pub some_open : List ℕ
some_open = 79 ∷ 98 ∷ 106 ∷ 101 ∷ 99 ∷ 116 ∷ 83 ∷ 111 ∷ 109 ∷ 101 ∷ 86 ∷ 97 ∷ 108 ∷ 117 ∷ 101 ∷ 115 ∷ 70 ∷ 114 ∷ 111 ∷ 109 ∷ 40 ∷ []

module _ (d : Names) (t : Table) (spelt : ℕ → List ℕ) where
  -- a code that is a filler is written as that filler
  code_filler : {c v b : ℕ} {f : Filler} → WritesFiller c v b f → code_text d t spelt (kind_of b) ≡ filler_text d t spelt f
  unfolding code_text filler_text
  code_filler (fills_top i) = ap (code_text d t spelt) i
  code_filler (fills_constant k i l) = ap (code_text d t spelt) i
  code_filler (fills_variable k i l) = ap (code_text d t spelt) i

  -- by the kind of the code
  module _ {kind : Kind} {p q : Sheet} where
    pub filler_top : Top ≡ kind → Penned p thing q → Penned p (code_text d t spelt kind) q
    unfolding code_text thing_bytes
    filler_top i x = penned_as x (ap (code_text d t spelt) i)

    pub filler_constant : {text : List ℕ} {spans : List Span} → SpansOf text d.constants spans → {k : ℕ} (n : ℕ) → Constant k ≡ kind → n ≡ k → Penned p (span_text text spans n) q → Penned p (code_text d t spelt kind) q
    unfolding code_text
    filler_constant is n i e x = penned_as x (name_is is n ∙ ap (name_of d.constants) e ∙ ap (code_text d t spelt) i)

    pub filler_variable : {k : ℕ} (n : ℕ) → Variable k ≡ kind → n ≡ k → Penned p (variable_text d t spelt n) q → Penned p (code_text d t spelt kind) q
    unfolding code_text
    filler_variable n i e x = penned_as x (ap (variable_text d t spelt) e ∙ ap (code_text d t spelt) i)

  -- a code that is no filler is written as nothing
  pub filler_other : (p : Sheet) {is kind : Kind} → ((k : ℕ) × (is ≡ Restriction k)) ⊎ (is ≡ Other) → is ≡ kind → Penned p (code_text d t spelt kind) p
  unfolding code_text
  filler_other p (inl r) e = penned_as (penned_none p) (ap (code_text d t spelt) (sym r.1 ∙ e))
  filler_other p (inr o) e = penned_as (penned_none p) (ap (code_text d t spelt) (sym o ∙ e))

module _ (d : Names) (s : List ℕ) (spelt : ℕ → List ℕ) where
  pub row_text_lem : {text : List ℕ} {spans : List Span} → SpansOf text d.roles spans → {p q₁ q₂ q₃ q₄ q : Sheet} (k role r b : ℕ) → role ≡ r → r ≡ (row_at (table_of s).rows k).role → IsRowFiller s k b
      → Penned p some_open q₁ → Penned q₁ (span_text text spans role) q₂ → Penned q₂ space q₃ → Penned q₃ (code_text d (table_of s) spelt (kind_of b)) q₄ → Penned q₄ closing q
      → Penned p (row_text d (table_of s) spelt (row_at (table_of s).rows k)) q
  unfolding row_text some_text some_values_word IsRowFiller
  row_text_lem is k role r b e g w x₁ x₂ x₃ x₄ x₅ =
      penned_as (penned_then x₁ (penned_then x₂ (penned_then x₃ (penned_then x₄ x₅))))
      (ap₂ (λ (y z : List ℕ). some_open ++ (y ++ (space ++ (z ++ closing)))) (name_is is role ∙ ap (name_of d.roles) (e ∙ g)) (code_filler d (table_of s) spelt (filler_writes (header_of s).c (header_of s).v b _ w)))

module _ (d : Names) (s : List ℕ) (ok : T (is_readable (reading s))) (spelt : ℕ → List ℕ) where
  pub atom_constant : {text : List ℕ} {spans : List Span} → SpansOf text d.constants spans → {p q : Sheet} (i : ℕ) (h : Header) (c : ℕ) → h ≡ header_of s → c ≡ h.c → i < c → Penned p (span_text text spans i) q → Penned p (atom_text d (table_of s) spelt i) q
  unfolding atom_text
  atom_constant is i h c e g l x = penned_as x (name_is is i ∙ rw (lt-ltb i (table_of s).constants (omega (arith, (layout s ok).constants, ap (λ (x : Header). x.c) e)), atom_text))

  pub atom_row : {p q : Sheet} (i : ℕ) (h : Header) (c : ℕ) → h ≡ header_of s → c ≡ h.c → c ≤ i → Penned p (row_text d (table_of s) spelt (row_at (table_of s).rows (i - c))) q → Penned p (atom_text d (table_of s) spelt i) q
  unfolding atom_text
  atom_row i h c e g l x =
      penned_as x (rw (le-ltb i (table_of s).constants (omega (arith, (layout s ok).constants, ap (λ (x : Header). x.c) e)), atom_text)
      (ap (λ (k : ℕ). row_text d (table_of s) spelt (row_at (table_of s).rows (i - k))) (g ∙ ap (λ (x : Header). x.c) e ∙ sym (layout s ok).constants)))

pub fits_variable : (s : List ℕ) (b x y : ℕ) → FillerFits s b → Variable x ≡ kind_of b → y ≡ x → y < (header_of s).v
unfolding FillerFits
fits_variable s b x y f i e = let l : x < (header_of s).v = subst (kind_fits (header_of s).v) (sym i) f in omega arith

pub filler_fits : (s : List ℕ) (k b : ℕ) → IsRowFiller s k b → FillerFits s b
unfolding IsRowFiller FillerFits
filler_fits s k b w = go (filler_writes (header_of s).c (header_of s).v b _ w)
  where
    go : {f : Filler} → WritesFiller (header_of s).c (header_of s).v b f → kind_fits (header_of s).v (kind_of b)
    go (fills_top i) = subst (kind_fits (header_of s).v) (sym i) tt
    go (fills_constant k i l) = subst (kind_fits (header_of s).v) (sym i) tt
    go (fills_variable k i l) = subst (kind_fits (header_of s).v) (sym i) l

----------------------------------------------------------------------------------------------------
-- Variables

-- in parentheses where there are several
enclosed_is : (ts : List (List ℕ)) (b : Bool) → b ≡ ltb 1 (length ts) → cond b opening [] ++ (joined_text ts ++ cond b closing []) ≡ enclosed ts
unfolding enclosed joined_text joined behind
enclosed_is [] b e = rw e (append-nil thing_bytes)
enclosed_is (t ∷ []) b e = rw e (append-nil (t ++ []) ∙ append-nil t)
enclosed_is (t ∷ u ∷ ts) b e = rw (e ∙ lt-ltb 1 (suc (suc (length ts))) (omega arith))

module _ (d : Names) (t : Table) (sets : ℕ → ℕ) {text : List ℕ} {spans : List Span} (is : SpansOf text d.opens spans) where
  pub variable_named : {p q : Sheet} (n x : ℕ) → x < length spans → Penned p (span_text text spans x) q → Penned p (variable_text d t (spelt_to d t sets n) x) q
  unfolding variable_text
  variable_named n x h z =
      let m : length spans ≡ length d.opens = is.many in
      penned_as z (name_is is x ∙ rw (lt-ltb x (length d.opens) (omega arith), variable_text))

  -- a fresh one
  fresh_is : (n x : ℕ) → length spans ≤ x → spelt_to d t sets n x ≡ variable_text d t (spelt_to d t sets n) x
  unfolding variable_text
  fresh_is n x h = let m : length spans ≡ length d.opens = is.many in rw (le-ltb x (length d.opens) (omega arith), variable_text)

  pub variable_flat : {p q : Sheet} (n x : ℕ) → length spans ≤ x → n ≡ 0 → Penned p thing q → Penned p (variable_text d t (spelt_to d t sets n) x) q
  unfolding spelt_to thing_bytes
  variable_flat n x h e z = penned_as z (sym (ap (λ (k : ℕ). spelt_to d t sets k x) e) ∙ fresh_is n x h)

  pub variable_deep : {p q₁ q₂ q : Sheet} (n x set count many : ℕ) → length spans ≤ x → (n ≡ 0 → ⊥)
      → set ≡ sets x → many ≡ atoms t → count ≡ length (atoms_in many set)
      → Penned p (cond (ltb 1 count) opening []) q₁ → Penned q₁ (set_text d t sets (n - 1) set) q₂ → Penned q₂ (cond (ltb 1 count) closing []) q
      → Penned p (variable_text d t (spelt_to d t sets n) x) q
  unfolding set_text spelt_to
  variable_deep n x set count many h o e g c y z w =
      let texts : List (List ℕ) = atom_texts d t (spelt_to d t sets (n - 1)) set (atoms t) in
      let long : ltb 1 count ≡ ltb 1 (length texts) = ap (ltb 1) (c ∙ ap (λ (k : ℕ). length (atoms_in k set)) g ∙ sym (length-map (atoms_in (atoms t) set) (atom_text d t (spelt_to d t sets (n - 1))))) in
      let deep : n ≡ suc (n - 1) = omega arith in
      penned_as (penned_then y (penned_then z w))
      (enclosed_is texts (ltb 1 count) long
      ∙ ap (λ (k : ℕ). enclosed (atom_texts d t (spelt_to d t sets (n - 1)) k (atoms t))) e
      ∙ ap (λ (k : ℕ). spelt_to d t sets k x) (sym deep)
      ∙ fresh_is n x h)

----------------------------------------------------------------------------------------------------
-- Sets

module _ (d : Names) (t : Table) (spelt : ℕ → List ℕ) (s : ℕ) where
  -- atom i, where the set s has it, behind those that stand before it
  unfoldable atom_of : ℕ → Bool → List ℕ
  atom_of i later = elim (bit i s) [ true ↦ cond later ampersand [] ++ atom_text d t spelt i | false ↦ [] ]

module _ (d : Names) (t : Table) (spelt : ℕ → List ℕ) (s : ℕ) where
  atom_out : (i : ℕ) (later : Bool) → bit i s ≡ false → [] ≡ atom_of d t spelt s i later
  unfolding atom_of
  atom_out i later e = rw (e, atom_of) refl

  atom_there : (i : ℕ) (later : Bool) → bit i s ≡ true → cond later ampersand [] ++ atom_text d t spelt i ≡ atom_of d t spelt s i later
  unfolding atom_of
  atom_there i later e = rw (e, atom_of) refl

  -- the text of one atom more, and whether there is one
  set_more : (i : ℕ) → (joined ampersand (atom_texts d t spelt s i) ++ atom_of d t spelt s i (any (atom_texts d t spelt s i)) ≡ joined ampersand (atom_texts d t spelt s (i + 1)))
      × ((any (atom_texts d t spelt s i) || bit i s) ≡ any (atom_texts d t spelt s (i + 1)))
  unfolding any atom_of atoms_in
  set_more i = rw add-one (go (bit i s))
    where
      texts : List (List ℕ)
      texts = atom_texts d t spelt s i

      any_last : (ts : List (List ℕ)) (x : List ℕ) → any (ts ++ (x ∷ [])) ≡ true
      any_last [] x = refl
      any_last (y ∷ ts) x = refl

      go : (b : Bool) → (joined ampersand texts ++ elim b [ true ↦ cond (any texts) ampersand [] ++ atom_text d t spelt i | false ↦ [] ] ≡ joined ampersand (map (atom_text d t spelt) (elim b [ true ↦ atoms_in i s ++ (i ∷ []) | false ↦ atoms_in i s ])))
          × ((any texts || b) ≡ any (map (atom_text d t spelt) (elim b [ true ↦ atoms_in i s ++ (i ∷ []) | false ↦ atoms_in i s ])))
      go true = rw map-append (joined_more ampersand texts (atom_text d t spelt i), or-true (any texts) ∙ sym (any_last texts (atom_text d t spelt i)))
      go false = (append-nil (joined ampersand texts), or-false (any texts))

  pub atoms_none : (p : Sheet) → (false ≡ any (atom_texts d t spelt s 0)) × Penned p (joined ampersand (atom_texts d t spelt s 0)) p
  unfolding joined atoms_in any
  atoms_none p = (refl, penned_none p)

  pub atoms_there : {p q₁ q₂ q : Sheet} {later : Bool} (i : ℕ) → bit i s ≡ true → later ≡ any (atom_texts d t spelt s i) → Penned p (joined ampersand (atom_texts d t spelt s i)) q₁
      → Penned q₁ (cond later ampersand []) q₂ → Penned q₂ (atom_text d t spelt i) q → (true ≡ any (atom_texts d t spelt s (i + 1))) × Penned p (joined ampersand (atom_texts d t spelt s (i + 1))) q
  atoms_there {later = later} i e l x y z = (
    sym (or-true (any (atom_texts d t spelt s i))) ∙ ap (λ (b : Bool). any (atom_texts d t spelt s i) || b) (sym e) ∙ (set_more i).1,
    penned_as (penned_then x (penned_then y z))
        (ap (λ (w : List ℕ). joined ampersand (atom_texts d t spelt s i) ++ w) (atom_there i later e) ∙ ap (λ (b : Bool). joined ampersand (atom_texts d t spelt s i) ++ atom_of d t spelt s i b) l ∙ (set_more i).0),
  )

  pub atoms_out : {p q : Sheet} {later : Bool} (i : ℕ) → bit i s ≡ false → later ≡ any (atom_texts d t spelt s i) → Penned p (joined ampersand (atom_texts d t spelt s i)) q
      → (later ≡ any (atom_texts d t spelt s (i + 1))) × Penned p (joined ampersand (atom_texts d t spelt s (i + 1))) q
  atoms_out i e l x = (
    l ∙ sym (or-false (any (atom_texts d t spelt s i))) ∙ ap (λ (b : Bool). any (atom_texts d t spelt s i) || b) (sym e) ∙ (set_more i).1,
    penned_as x (sym (append-nil _) ∙ ap (λ (w : List ℕ). joined ampersand (atom_texts d t spelt s i) ++ w) (atom_out i (any (atom_texts d t spelt s i)) e) ∙ (set_more i).0),
  )

  -- the atoms that are written are the set's text, with `owl:Thing` behind them where there are none
  all_joined : (ts : List (List ℕ)) (later : Bool) → later ≡ any ts → joined ampersand ts ++ cond (not later) thing_bytes [] ≡ joined_text ts
  unfolding any joined_text joined
  all_joined [] later e = rw e
  all_joined (x ∷ ts) later e = rw e (append-nil (joined ampersand (x ∷ ts)))

module _ (d : Names) (t : Table) (sets : ℕ → ℕ) where
  pub set_text_lem : {p q₁ q : Sheet} {i : ℕ} {later : Bool} (n s : ℕ) → i ≡ atoms t → later ≡ any (atom_texts d t (spelt_to d t sets n) s i) → Penned p (joined ampersand (atom_texts d t (spelt_to d t sets n) s i)) q₁
      → Penned q₁ (cond (not later) thing []) q → Penned p (set_text d t sets n s) q
  unfolding set_text thing_bytes
  set_text_lem {i = i} {later = later} n s e l x y =
      penned_as (penned_then x y) (all_joined d t (spelt_to d t sets n) s (atom_texts d t (spelt_to d t sets n) s i) later l ∙ ap (λ (k : ℕ). joined_text (atom_texts d t (spelt_to d t sets n) s k)) e)

----------------------------------------------------------------------------------------------------
-- Lines

module _ (d : Names) (s : List ℕ) (ok : T (is_readable (reading s))) (sets : ℕ → ℕ) {text : List ℕ} {spans : List Span} (is : SpansOf text d.opens spans) where
  pub variable_line_lem : {p q₁ q₂ q₃ q : Sheet} (x set : ℕ) (h : Header) (n : ℕ) → set ≡ sets x → h ≡ header_of s → n ≡ h.v
      → Penned p (span_text text spans x) q₁ → Penned q₁ (0x3A ∷ 0x20 ∷ []) q₂ → Penned q₂ (set_text d (table_of s) sets n set) q₃ → Penned q₃ newline q
      → Penned p (variable_line d (table_of s) sets x) q
  unfolding variable_line
  variable_line_lem x set h n o e g i j k l =
      let deep : n ≡ (table_of s).variables = g ∙ ap (λ (x : Header). x.v) e ∙ sym (layout s ok).variables in
      penned_as (penned_then i (penned_then j (penned_then k l)))
      (ap (λ (w : List ℕ). w ++ (0x3A ∷ 0x20 ∷ (set_text d (table_of s) sets n set ++ newline))) (name_is is x)
      ∙ ap₂ (λ (y z : ℕ). name_of d.opens x ++ (0x3A ∷ 0x20 ∷ (set_text d (table_of s) sets y z ++ newline))) deep o)

module _ (d : Names) (t : Table) (sets : ℕ → ℕ) where
  pub lines_none : (p : Sheet) → Penned p (variable_lines d t sets 0) p
  unfolding variable_lines
  lines_none p = penned_none p

  pub lines_turn : {p q₁ q : Sheet} (x : ℕ) → Penned p (variable_lines d t sets x) q₁ → Penned q₁ (variable_line d t sets x) q → Penned p (variable_lines d t sets (x + 1)) q
  unfolding variable_lines
  lines_turn x h k = penned_as (penned_then h k) (sym (ap (variable_lines d t sets) (add-one x)))

  pub lines_all_lem : {s : List ℕ} {spans : List Span} → SpansOf s d.opens spans → {p q : Sheet} (x : ℕ) → x ≤ length spans → length spans ≤ x
      → Penned p (variable_lines d t sets x) q → Penned p (variable_lines d t sets (length d.opens)) q
  lines_all_lem {s} {spans} is x h l z = let m : length spans ≡ length d.opens = is.many in penned_as z (ap (variable_lines d t sets) (let e : x ≡ length d.opens = omega arith in e))
