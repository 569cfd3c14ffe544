-- Laws that carry the writers of the listing to its text.
--
--   filler_text_lem, filler_none == a code that is a filler is written as that filler, another as nothing
--   row_text_lem, atom_constant, atom_row_lem == an atom
--   atoms_are, variables_are == how many there are
--   atom_of t s i later    == atom i, where the set s has it, with ` & ` before it if it is a later one
--   set_more, atoms_none, atoms_there, atoms_out, set_text_lem == the loop over the atoms of a set
--   variable_line_lem, lines_none, lines_turn == the lines of the variables
--   solved_refused, solved_short, solved_all == the lines of all variables
--   listing_other, listing_solved == the whole text
use Rattle.std.proofs.Common.{◌≡◌, refl, sym, ap, ap₂, ◌∙◌, Bool, true, false, not, cond, List, [], ◌∷◌, ◌++◌, map, ℕ, zero, suc, ◌+◌, ◌*◌, ◌-◌, ◌≤◌, ◌<◌, T, length, arith, add-one, append-nil, lt-ltb, le-ltb, ◌⊎◌, inl, inr}
use Rattle.std.proofs.lemmas.List.{map-append}
use mathlib.Core.Bool.{◌||◌, or-true, or-false}
use Rattle.bounds.specs.Bounds.{max_atoms, set_bytes}
use Rattle.el.specs.Test.{bit}
use Rattle.el.specs.Table.{Filler, Table, row_at, atoms}
use Rattle.answer.specs.declared.Answer.{Answer}
use Rattle.answer.specs.declared.Handed.{Handed}
use Rattle.table.specs.declared.Header.{Header}
use Rattle.table.specs.declared.Kind.{Kind}
use Rattle.table.specs.declared.Kind.TheVariants.{Restriction, Other}
use Rattle.table.specs.Code.{kind_of, WritesFiller, fills_top, fills_constant, fills_variable}
use Rattle.table.specs.Reading.{Reading, refusal, reading, the_table, table_of, is_readable, header_of}
use Rattle.table.specs.Layout.{IsRowFiller}
use Rattle.table.specs.CodeLaws.{filler_writes}
use Rattle.table.specs.LayoutLaws.{layout}
use Rattle.output.specs.Written.{set_in}
use Rattle.text.specs.declared.Writer.{Writer}
use Rattle.text.specs.Wrote.{Wrote}
use Rattle.text.specs.Text.{newline, decimal, joined, any, answer_text}
use Rattle.text.specs.Listing.{top_text, constant_text, variable_text, filler_text, code_text, row_text, atom_text, atoms_in, atom_texts, ampersand, conjunction_text, set_text, variable_line, variable_lines, solved_text, under_number, first_line, listing_text}
use Rattle.text.proofs.WroteLaws.{wrote_none, wrote_then, wrote_as}
use Rattle.text.proofs.Laws.{joined_more}

------------------------------------------------------------------ fillers, rows and atoms

-- a code that is a filler is written as that filler
filler_text_lem : {c v b : ℕ} {f : Filler} → WritesFiller c v b f → code_text (kind_of b) ≡ filler_text f
unfolding code_text filler_text
filler_text_lem (fills_top i) = ap code_text i
filler_text_lem (fills_constant k i l) = ap code_text i
filler_text_lem (fills_variable k i l) = ap code_text i

-- a code that is no filler is written as nothing
pub filler_none : {kind : Kind} → ((k : ℕ) × (kind ≡ Restriction k)) ⊎ (kind ≡ Other) → [] ≡ code_text kind
unfolding code_text
filler_none (inl r) = sym (ap code_text r.1)
filler_none (inr o) = sym (ap code_text o)

module _ (s : List ℕ) (ok : T (is_readable (reading s))) where
  pub row_text_lem : (k role r code : ℕ) → role ≡ r → r ≡ (row_at (table_of s).rows k).role → IsRowFiller s k code
      → (0x72 ∷ decimal role) ++ ((0x2E ∷ []) ++ code_text (kind_of code)) ≡ row_text (row_at (table_of s).rows k)
  unfolding row_text IsRowFiller
  row_text_lem k role r code p q w =
      ap₂ (λ (d f : List ℕ). 0x72 ∷ (d ++ (0x2E ∷ f))) (ap decimal (p ∙ q)) (filler_text_lem (filler_writes (header_of s).c (header_of s).v code _ w))

  pub atom_constant : (i : ℕ) (h : Header) (c : ℕ) → h ≡ header_of s → c ≡ h.c → i < c → constant_text i ≡ atom_text (table_of s) i
  unfolding atom_text
  atom_constant i h c e q l = rw (lt-ltb i (table_of s).constants (omega (arith, (layout s ok).constants, ap (λ (x : Header). x.c) e)), atom_text)

  pub atom_row_lem : (i : ℕ) (h : Header) (c : ℕ) → h ≡ header_of s → c ≡ h.c → c ≤ i → row_text (row_at (table_of s).rows (i - c)) ≡ atom_text (table_of s) i
  unfolding atom_text
  atom_row_lem i h c e q l =
      rw (le-ltb i (table_of s).constants (omega (arith, (layout s ok).constants, ap (λ (x : Header). x.c) e)), atom_text)
      (ap (λ (k : ℕ). row_text (row_at (table_of s).rows (i - k))) (q ∙ ap (λ (x : Header). x.c) e ∙ sym (layout s ok).constants))

  -- how many atoms there are
  pub atoms_are : (h : Header) (c e : ℕ) → h ≡ header_of s → c ≡ h.c → e ≡ h.e → (c + e ≡ atoms (table_of s)) × (c + e ≤ max_atoms)
  unfolding atoms
  atoms_are h c e q p o =
      let x = ap (λ (x : Header). x.c) q in let y = ap (λ (x : Header). x.e) q in
      (omega (arith, (layout s ok).constants, (layout s ok).rows), omega (arith, (layout s ok).few_atoms))

------------------------------------------------------------------ sets

-- atom i, where the set s has it, behind those that stand before it
unfoldable atom_of : Table → ℕ → ℕ → Bool → List ℕ
atom_of t s i later = elim (bit i s) [ true ↦ cond later ampersand [] ++ atom_text t i | false ↦ [] ]

module _ (t : Table) (s : ℕ) where
  atom_out : (i : ℕ) (later : Bool) → bit i s ≡ false → [] ≡ atom_of t s i later
  unfolding atom_of
  atom_out i later e = rw (e, atom_of) refl

  atom_there : (i : ℕ) (later : Bool) → bit i s ≡ true → cond later ampersand [] ++ atom_text t i ≡ atom_of t s i later
  unfolding atom_of
  atom_there i later e = rw (e, atom_of) refl

  -- the text of one atom more, and whether there is one
  set_more : (i : ℕ) → (joined ampersand (atom_texts t s i) ++ atom_of t s i (any (atom_texts t s i)) ≡ joined ampersand (atom_texts t s (i + 1)))
      × ((any (atom_texts t s i) || bit i s) ≡ any (atom_texts t s (i + 1)))
  unfolding any atom_of atoms_in
  set_more i = rw add-one (go (bit i s))
    where
      any_last : (ts : List (List ℕ)) (x : List ℕ) → any (ts ++ (x ∷ [])) ≡ true
      any_last [] x = refl
      any_last (y ∷ ts) x = refl

      go : (b : Bool) → (joined ampersand (atom_texts t s i) ++ elim b [ true ↦ cond (any (atom_texts t s i)) ampersand [] ++ atom_text t i | false ↦ [] ] ≡ joined ampersand (map (atom_text t) (elim b [ true ↦ atoms_in i s ++ (i ∷ []) | false ↦ atoms_in i s ])))
          × ((any (atom_texts t s i) || b) ≡ any (map (atom_text t) (elim b [ true ↦ atoms_in i s ++ (i ∷ []) | false ↦ atoms_in i s ])))
      go true = rw map-append (joined_more ampersand (atom_texts t s i) (atom_text t i), or-true (any (atom_texts t s i)) ∙ sym (any_last (atom_texts t s i) (atom_text t i)))
      go false = (append-nil (joined ampersand (atom_texts t s i)), or-false (any (atom_texts t s i)))

  pub atoms_none : (w : Writer) → (false ≡ any (atom_texts t s 0)) × Wrote w (joined ampersand (atom_texts t s 0)) w
  unfolding joined atoms_in any
  atoms_none w = (refl, wrote_none w)

  pub atoms_there : {w m n v : Writer} {later : Bool} (i : ℕ) → bit i s ≡ true → later ≡ any (atom_texts t s i) → Wrote w (joined ampersand (atom_texts t s i)) m
      → Wrote m (cond later ampersand []) n → Wrote n (atom_text t i) v → (true ≡ any (atom_texts t s (i + 1))) × Wrote w (joined ampersand (atom_texts t s (i + 1))) v
  atoms_there {w} {m} {n} {v} {later} i e l x y z = (
    sym (or-true (any (atom_texts t s i))) ∙ ap (λ (b : Bool). any (atom_texts t s i) || b) (sym e) ∙ (set_more i).1,
    wrote_as (wrote_then x (wrote_then y z))
        (ap (λ (w : List ℕ). joined ampersand (atom_texts t s i) ++ w) (atom_there i later e) ∙ ap (λ (b : Bool). joined ampersand (atom_texts t s i) ++ atom_of t s i b) l ∙ (set_more i).0),
  )

  pub atoms_out : {w v : Writer} {later : Bool} (i : ℕ) → bit i s ≡ false → later ≡ any (atom_texts t s i) → Wrote w (joined ampersand (atom_texts t s i)) v
      → (later ≡ any (atom_texts t s (i + 1))) × Wrote w (joined ampersand (atom_texts t s (i + 1))) v
  atoms_out {later = later} i e l x = (
    l ∙ sym (or-false (any (atom_texts t s i))) ∙ ap (λ (b : Bool). any (atom_texts t s i) || b) (sym e) ∙ (set_more i).1,
    wrote_as x (sym (append-nil _) ∙ ap (λ (w : List ℕ). joined ampersand (atom_texts t s i) ++ w) (atom_out i (any (atom_texts t s i)) e) ∙ (set_more i).0),
  )

  -- the atoms that are written are the set's text, with `top` behind them where there are none
  conjunction : (ts : List (List ℕ)) (later : Bool) → later ≡ any ts → joined ampersand ts ++ cond (not later) top_text [] ≡ conjunction_text ts
  unfolding any conjunction_text joined
  conjunction [] later e = rw e
  conjunction (x ∷ ts) later e = rw e (append-nil (joined ampersand (x ∷ ts)))

  pub set_text_lem : {w m v : Writer} {i : ℕ} {later : Bool} → i ≡ atoms t → later ≡ any (atom_texts t s i) → Wrote w (joined ampersand (atom_texts t s i)) m → Wrote m (cond (not later) top_text []) v → Wrote w (set_text t s) v
  unfolding set_text
  set_text_lem {w} {m} {v} {i} {later} q l x y = wrote_as (wrote_then x y) (conjunction (atom_texts t s i) later l ∙ ap (λ (k : ℕ). conjunction_text (atom_texts t s k)) q)

------------------------------------------------------------------ lines

module _ (t : Table) (out : List ℕ) where
  pub variable_line_lem : {w k m n v : Writer} {set : ℕ} (x : ℕ) → set ≡ set_in out x → Wrote w (variable_text x) k → Wrote k (0x3A ∷ 0x20 ∷ []) m → Wrote m (set_text t set) n → Wrote n newline v
      → Wrote w (variable_line t (set_in out x) x) v
  unfolding variable_line
  variable_line_lem x q h i j k = wrote_as (wrote_then h (wrote_then i (wrote_then j k))) (ap (λ (y : ℕ). variable_text x ++ (0x3A ∷ 0x20 ∷ (set_text t y ++ newline))) q)

  pub lines_none : (w : Writer) → Wrote w (variable_lines t (set_in out) 0) w
  unfolding variable_lines
  lines_none w = wrote_none w

  pub lines_turn : {w m v : Writer} (x : ℕ) → Wrote w (variable_lines t (set_in out) x) m → Wrote m (variable_line t (set_in out x) x) v → Wrote w (variable_lines t (set_in out) (x + 1)) v
  unfolding variable_lines
  lines_turn x h k = wrote_as (wrote_then h k) (sym (ap (variable_lines t (set_in out)) (add-one x)))

  pub lines_all : {w v : Writer} (x : ℕ) {n : ℕ} → x ≡ n → Wrote w (variable_lines t (set_in out) x) v → Wrote w (variable_lines t (set_in out) n) v
  lines_all x e h = wrote_as h (ap (variable_lines t (set_in out)) e)

  pub solved_short : (w : Writer) (n : ℕ) → t.variables ≡ n → length out < set_bytes * n → Wrote w (solved_text t out) w
  unfolding solved_text
  solved_short w n e h = rw (lt-ltb (length out) (set_bytes * t.variables) (omega arith), solved_text) (wrote_none w)

  pub solved_all : {w v : Writer} (n : ℕ) → t.variables ≡ n → set_bytes * n ≤ length out → Wrote w (variable_lines t (set_in out) n) v → Wrote w (solved_text t out) v
  unfolding solved_text
  solved_all n e h x = rw (le-ltb (length out) (set_bytes * t.variables) (omega arith), solved_text) (wrote_as x (ap (variable_lines t (set_in out)) (sym e)))

module _ (s : List ℕ) where
  pub solved_refused : (w : Writer) (why : Answer) (out : List ℕ) → reading s ≡ refusal why → Wrote w (solved_text (table_of s) out) w
  unfolding table_of
  solved_refused w why out e = solved_all (table_of s) out 0 (ap (λ (r : Reading). (the_table r).variables) e) (omega arith) (lines_none (table_of s) out w)

  pub variables_are : (h : Header) (v : ℕ) → T (is_readable (reading s)) → h ≡ header_of s → v ≡ h.v → (table_of s).variables ≡ v
  variables_are h v ok e o = (layout s ok).variables ∙ sym (o ∙ ap (λ (x : Header). x.v) e)

  module _ (h : Handed) (out : List ℕ) where
    pub listing_other : {w m v : Writer} → (h.number ≡ 0 → ⊥) → Wrote w (answer_text h) m → Wrote m newline v → Wrote w (listing_text s h out) v
    unfolding listing_text first_line
    listing_other n x y = wrote_as (wrote_then x y) (sym (append-nil _) ∙ ap (λ (z : List ℕ). (answer_text h ++ newline) ++ z) (go h.number n))
      where
        go : (k : ℕ) → (k ≡ 0 → ⊥) → [] ≡ under_number k (solved_text (table_of s) out)
        go zero n = absurd (n refl)
        go (suc k) n = refl

    pub listing_solved : {w m n v : Writer} → h.number ≡ 0 → Wrote w (answer_text h) m → Wrote m newline n → Wrote n (solved_text (table_of s) out) v → Wrote w (listing_text s h out) v
    unfolding listing_text first_line
    listing_solved n x y z = wrote_as (wrote_then (wrote_then x y) z) (ap (λ (w : List ℕ). (answer_text h ++ newline) ++ w) (sym (ap (λ (k : ℕ). under_number k (solved_text (table_of s) out)) n)))
