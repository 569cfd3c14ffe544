-- Laws of one side: how many entries it has, and their codes.
--
--   count_fresh, count_class    == how many
--   code_fresh, code_class, code_none == the code of one
--   PuttingEntries, entries_start, entries_turn, entries_end == the bytes of all, one by one
use mathlib.Core.Path.{◌≡◌, refl, sym, ap, ap₂, subst, ◌∙◌}
use mathlib.Core.Bool.{Bool, true, false}
use mathlib.Core.List.{List, [], ◌∷◌, ◌++◌, append_assoc, append-nil, map, flat_map}
use Prim.Native.Nat.{ℕ, zero, suc, ◌+◌, ◌≤◌, ◌<◌}
use native.Mathlib.Omega.{arith}
use native.Mathlib.Numerals.{add-one}
use lib.Dec.{T, eqb, ltb→lt}
use lib.ListN.{length, get_or, take, length-map}
use lib.Seq.{take-suc, take_all}
use Rattle.el.specs.Test.{every_of}
use Rattle.el.specs.TestLaws.{every_of_at}
use Rattle.el.specs.Table.{Entry, constant, restriction, variable}
use Rattle.table.specs.Bytes.{entry_code, written_entry}
use Rattle.text.specs.Append.{Appended}
use Rattle.text.specs.AppendLaws.{appended_none, appended_then, appended_as}
use Rattle.owl.specs.Conjunct.{a_class}
use Rattle.owl.specs.Tree.{short}
use Rattle.owl_class.specs.Ends.{HasConjuncts}
use Rattle.std.specs.Prelude.{Some, None}
use Rattle.owl_class.specs.declared.Entry as told
use Rattle.owl_class.specs.Conjuncts.{conjuncts_at, entry_of, entry_by, entry_kind, entry_index, EntryIs, NoneFrom}
use Rattle.owl_axiom.specs.Entries.{entries_at}
use Rattle.owl_line.specs.declared.parts.Side.{Side}
use Rattle.owl_line.specs.declared.parts.Side.TheVariants.{Fresh, Class}
use Rattle.owl_line.specs.Sides.{SideHas, none, small, CountIs, CodeIs, PutEntries}

pub count_fresh : (s : List ℕ) (n : ℕ) → CountIs s (Fresh n) 1
unfolding CountIs
count_fresh s n opens es h = sym (ap length h)

pub count_class : (s : List ℕ) (at r : ℕ) → HasConjuncts s at r → CountIs s (Class at) r
unfolding CountIs HasConjuncts entries_at
count_class s at r c opens es w = c w.0 ∙ sym (length-map (conjuncts_at s at w.0) (entry_of s)) ∙ sym (ap length w.2)

----------------------------------------------------------------------------------------------------
-- Codes

small_means : (e : Entry) → T (small e) → entry_code e < 128
unfolding small
small_means e t = ltb→lt (entry_code e) 128 t

pub code_fresh : (s : List ℕ) (opens n i r : ℕ) → (opens + n < 128 → r ≡ 0x60 + (opens + n)) → CodeIs s opens (Fresh n) i r
unfolding CodeIs entry_code
code_fresh s opens n i r d es one l t =
    let long : length es ≡ 1 = ap length one in
    let z : i ≡ 0 = omega arith in
    let this : get_or es i none ≡ variable (opens + n) = ap₂ (λ (x : List Entry) (k : ℕ). get_or x k none) one z in
    let c : 0x60 + (opens + n) < 128 = subst (λ (x : Entry). entry_code x < 128) this (small_means (get_or es i none) t) in
    d (omega arith) ∙ sym (ap entry_code this)

map_at : {A B : Type 0} (f : A → B) (l : List A) (i : ℕ) (d : A) (e : B) → i < length l → get_or (map f l) i e ≡ f (get_or l i d)
map_at f [] i d e h = absurd (let z : ⊥ = omega arith in z)
map_at f (x ∷ l) zero d e h = refl
map_at f (x ∷ l) (suc i) d e h = map_at f l i d e (omega arith)

-- the code of an entry, as the code tells it
abbrev base : ℕ → ℕ
base kind = elim (eqb kind 1) [ true ↦ 0x20 | false ↦ elim (eqb kind 2) [ true ↦ 0x60 | false ↦ 0x40 ] ]

by_code : (kind number : ℕ) → entry_code (entry_by kind number) ≡ base kind + number
unfolding entry_by entry_code
by_code kind number = go (eqb kind 1) (eqb kind 2)
  where
    go : (a b : Bool) → entry_code (elim a [ true ↦ constant number | false ↦ elim b [ true ↦ variable number | false ↦ restriction number ] ]) ≡ elim a [ true ↦ 0x20 | false ↦ elim b [ true ↦ 0x60 | false ↦ 0x40 ] ] + number
    go true b = refl
    go false true = refl
    go false false = refl

code_by : (s : List ℕ) (opens at i kind number r : ℕ) → EntryIs s at i kind number → (number < 128 → r ≡ base kind + number) → CodeIs s opens (Class at) i r
unfolding CodeIs EntryIs entries_at
code_by s opens at i kind number r c d es w l t =
    let n : ℕ = w.0 in
    let long : length es ≡ length (conjuncts_at s at n) = ap length w.2 ∙ length-map (conjuncts_at s at n) (entry_of s) in
    let x : i < length (conjuncts_at s at n) = omega arith in
    let this : get_or es i none ≡ entry_by kind number =
    ap (λ (y : List Entry). get_or y i none) w.2 ∙ map_at (entry_of s) (conjuncts_at s at n) i (a_class (short [])) none x ∙ sym (c n w.1 x) in
    let code : entry_code (get_or es i none) ≡ base kind + number = ap entry_code this ∙ by_code kind number in
    let small : entry_code (get_or es i none) < 128 = small_means (get_or es i none) t in
    d (omega arith) ∙ sym code

pub code_class : (s : List ℕ) (opens at i : ℕ) (o e : told.Entry) (r : ℕ) → o ≡ e → EntryIs s at i (entry_kind (Some o)) (entry_index (Some o)) →
    (entry_index (Some e) < 128 → r ≡ base (entry_kind (Some e)) + entry_index (Some e)) → CodeIs s opens (Class at) i r
code_class s opens at i o e r q c d = code_by s opens at i (entry_kind (Some e)) (entry_index (Some e)) r (subst (λ (x : told.Entry). EntryIs s at i (entry_kind (Some x)) (entry_index (Some x))) q c) d

-- there is no such entry
pub code_none : (s : List ℕ) (opens at i r : ℕ) → NoneFrom s at i None → CodeIs s opens (Class at) i r
unfolding CodeIs entries_at
code_none s opens at i r h es w l t =
    let long : length es ≡ length (conjuncts_at s at w.0) = ap length w.2 ∙ length-map (conjuncts_at s at w.0) (entry_of s) in
    let few : length (conjuncts_at s at w.0) ≤ i = h w.0 in
    absurd (let z : ⊥ = omega arith in z)

----------------------------------------------------------------------------------------------------
-- The entries of a side

pub flat_more : {A : Type 0} (f : A → List ℕ) (l m : List A) → flat_map f (l ++ m) ≡ flat_map f l ++ flat_map f m
unfolding flat_map
flat_more f [] m = refl
flat_more f (x ∷ l) m = ap (λ (k : List ℕ). f x ++ k) (flat_more f l m) ∙ sym (append_assoc (f x) (flat_map f l) (flat_map f m))

-- one more
pub flat_turn : {A : Type 0} (f : A → List ℕ) (l : List A) (i : ℕ) (d : A) → i < length l → flat_map f (take i l) ++ f (get_or l i d) ≡ flat_map f (take (i + 1) l)
unfolding flat_map
flat_turn f l i d h =
    ap (λ (k : List ℕ). flat_map f (take i l) ++ k) (sym (append-nil (f (get_or l i d))))
    ∙ sym (flat_more f (take i l) (get_or l i d ∷ []))
    ∙ ap (flat_map f) (sym (take-suc l i d h) ∙ ap (λ (k : ℕ). take k l) (sym (add-one i)))

-- the codes of the first i entries are written
unfoldable pub PuttingEntries : List ℕ → ℕ → Side → ℕ → List ℕ → ℕ → List ℕ → ℕ → ℕ → Type 0
PuttingEntries s opens side p b from a end i = (es : List Entry) → SideHas s opens side es → p ≡ length es → T (every_of small es) → Appended b from (flat_map written_entry (take i es)) a end

module _ (s : List ℕ) (opens : ℕ) (side : Side) (p : ℕ) (b : List ℕ) (from : ℕ) where
  pub entries_start : PuttingEntries s opens side p b from b from 0
  unfolding PuttingEntries flat_map
  entries_start es h e t = appended_none b from

  pub entries_turn : (a : List ℕ) (end i r : ℕ) (a' : List ℕ) (end' : ℕ) → PuttingEntries s opens side p b from a end i → i < p → CodeIs s opens side i r → Appended a end (r ∷ []) a' end' → PuttingEntries s opens side p b from a' end' (i + 1)
  unfolding PuttingEntries CodeIs written_entry
  entries_turn a end i r a' end' c l d w es h e t =
      let x : i < length es = omega arith in
      let this : r ≡ entry_code (get_or es i none) = d es h x (every_of_at small es i none t x) in
      appended_as (appended_then (c es h e t) w) (ap (λ (k : ℕ). flat_map written_entry (take i es) ++ (k ∷ [])) this ∙ flat_turn written_entry es i none x)

  pub entries_end : (a : List ℕ) (end i : ℕ) → PuttingEntries s opens side p b from a end i → p ≤ i → PutEntries s opens side p b from a end
  unfolding PuttingEntries PutEntries
  entries_end a end i c l es h e t = appended_as (c es h e t) (ap (flat_map written_entry) (take_all i es (let z : length es ≤ i = omega arith in z)))
