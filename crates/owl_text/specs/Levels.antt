-- The machine by numbers: each list of slots that one construct leaves to come has a number, its state.
--
--   states          == the slots of each state
--   slots_of q       == those of state q
--   column k        == which column of the table a kind has
--   next q k        == what a token of kind k does in state q: the state after it (of a word with a body: the state to come back to), or 80 and its refusal
--   opener k        == a token of kind k has a body
--   inner k         == the state at the start of that body
--   end_verdict s q depth == the verdict on a text that ends in state q at this depth
--   run s f at q st == the verdict from byte `at` on, in state q with the states st to come back to; f tokens at most
--
-- Level by level: the state of a level changes only by the tokens that stand directly in it, and by those that open it.
--
--   deeper k depth          == the number of the innermost level after a token of kind k
--   updated level f i mark  == the state of level i, where f changes that of `level`
--   opened k mark           == the state of the level behind a token of kind k, where it was `mark`
--   marked i depth k mark   == the state of level i after a token of kind k at this depth, where it was `mark`
--   at_token s n, depth_at s n == the byte and the number of the innermost level after n tokens
--   mark_at s i n, state_at s n == the state of level i after n tokens, and of the innermost level
--   stops s n, verdict_at s n == the text ends at the token after n tokens, or its level refuses it; the verdict there
--
-- What the code does for want of a stack: it reads the text once for each block of 4,096 levels.
--
--   Updated block level f a b == b has the states of the block's levels where a had them, but for f at this level
--   Clear s block limit     == before byte `limit` no token stops in a level of the blocks before this one
--   Refused s at v          == the token sought from byte `at` stops, with the verdict v
--   Found                   == both, and no level before that token is deeper than `most`
use Rattle.std.specs.Prelude.{◌≡◌, Bool, true, false, ◌&&◌, ◌||◌, List, [], ◌∷◌, ℕ, zero, suc, ◌+◌, ◌-◌, ◌/◌, ◌%◌, ◌≤◌, ◌<◌, eqb, ltb, length, get_or}
use Rattle.owl.specs.Token.{place_at, kind_at, end_at}
use Rattle.owl.specs.Grammar.{Slot, left_s, right_s, equals_s, label_s, target_s, name_s, role_s, entity_s, ontology_s, class_s, classes_s, no_third_s, head_s, version_s, items_s, prefixes_s, Verdict, verdict}

unfoldable pub states : List (List Slot)
states =
    (prefixes_s ∷ ontology_s ∷ [])  -- start
    ∷ []  -- the end
    ∷ (left_s ∷ label_s ∷ equals_s ∷ target_s ∷ right_s ∷ [])  -- Prefix
    ∷ (label_s ∷ equals_s ∷ target_s ∷ right_s ∷ [])  --   its prefix name
    ∷ (equals_s ∷ target_s ∷ right_s ∷ [])  --   its `=`
    ∷ (target_s ∷ right_s ∷ [])  --   its full name
    ∷ (right_s ∷ [])  --   the last `)` of a construct
    ∷ (left_s ∷ head_s ∷ items_s ∷ right_s ∷ [])  -- Ontology
    ∷ (head_s ∷ items_s ∷ right_s ∷ [])  --   its name
    ∷ (version_s ∷ items_s ∷ right_s ∷ [])  --   its version
    ∷ (items_s ∷ right_s ∷ [])  --   its items
    ∷ (left_s ∷ entity_s ∷ right_s ∷ [])  -- Declaration
    ∷ (entity_s ∷ right_s ∷ [])  --   its entity
    ∷ (left_s ∷ name_s ∷ right_s ∷ [])  -- Class, ObjectProperty
    ∷ (name_s ∷ right_s ∷ [])  --   its name
    ∷ (left_s ∷ class_s ∷ class_s ∷ right_s ∷ [])  -- SubClassOf
    ∷ (class_s ∷ class_s ∷ right_s ∷ [])  --   its first class
    ∷ (class_s ∷ right_s ∷ [])  --   the last class of a construct
    ∷ (left_s ∷ class_s ∷ class_s ∷ no_third_s ∷ right_s ∷ [])  -- EquivalentClasses
    ∷ (class_s ∷ class_s ∷ no_third_s ∷ right_s ∷ [])  --   its first class
    ∷ (class_s ∷ no_third_s ∷ right_s ∷ [])  --   its second
    ∷ (no_third_s ∷ right_s ∷ [])  --   no third, `)`
    ∷ (left_s ∷ class_s ∷ class_s ∷ classes_s ∷ right_s ∷ [])  -- ObjectIntersectionOf
    ∷ (class_s ∷ class_s ∷ classes_s ∷ right_s ∷ [])  --   its first class
    ∷ (class_s ∷ classes_s ∷ right_s ∷ [])  --   its second
    ∷ (classes_s ∷ right_s ∷ [])  --   more, or `)`
    ∷ (left_s ∷ role_s ∷ class_s ∷ right_s ∷ [])  -- ObjectSomeValuesFrom
    ∷ (role_s ∷ class_s ∷ right_s ∷ [])  --   its role
    ∷ []

unfoldable pub slots_of : ℕ → List Slot
slots_of q = get_or states q []

-- the kinds that do the same in every state have one column: 0 the end and anything else; 1 `(`; 2 `)`; 3 `=`; 4 Prefix; 5 Ontology;
-- 6 Declaration; 7 Class and ObjectProperty; 8 SubClassOf and EquivalentClasses; 9 ObjectIntersectionOf and ObjectSomeValuesFrom;
-- 10 a short name; 11 a full name; 12 a prefix name; 13 a word that is not listed, before `(`
unfoldable pub columns : List ℕ
columns = 0 ∷ 1 ∷ 2 ∷ 3 ∷ 4 ∷ 5 ∷ 6 ∷ 7 ∷ 7 ∷ 8 ∷ 8 ∷ 9 ∷ 9 ∷ 10 ∷ 11 ∷ 12 ∷ 13 ∷ 0 ∷ []

unfoldable pub column : ℕ → ℕ
column k = get_or columns k 0

-- a row for each state
unfoldable pub moves : List (List ℕ)
moves =
    (90 ∷ 90 ∷ 90 ∷ 90 ∷ 0 ∷ 1 ∷ 90 ∷ 90 ∷ 90 ∷ 90 ∷ 90 ∷ 90 ∷ 90 ∷ 90 ∷ [])  -- start
    ∷ (90 ∷ 90 ∷ 90 ∷ 90 ∷ 90 ∷ 90 ∷ 90 ∷ 90 ∷ 90 ∷ 90 ∷ 90 ∷ 90 ∷ 90 ∷ 90 ∷ [])  -- the end
    ∷ (90 ∷ 3 ∷ 90 ∷ 90 ∷ 90 ∷ 90 ∷ 90 ∷ 90 ∷ 90 ∷ 90 ∷ 90 ∷ 90 ∷ 90 ∷ 90 ∷ [])  -- Prefix
    ∷ (90 ∷ 90 ∷ 90 ∷ 90 ∷ 90 ∷ 90 ∷ 90 ∷ 90 ∷ 90 ∷ 90 ∷ 90 ∷ 90 ∷ 4 ∷ 90 ∷ [])  -- its prefix name
    ∷ (90 ∷ 90 ∷ 90 ∷ 5 ∷ 90 ∷ 90 ∷ 90 ∷ 90 ∷ 90 ∷ 90 ∷ 90 ∷ 90 ∷ 90 ∷ 90 ∷ [])  -- its `=`
    ∷ (90 ∷ 90 ∷ 90 ∷ 90 ∷ 90 ∷ 90 ∷ 90 ∷ 90 ∷ 90 ∷ 90 ∷ 90 ∷ 6 ∷ 90 ∷ 90 ∷ [])  -- its full name
    ∷ (90 ∷ 90 ∷ 1 ∷ 90 ∷ 90 ∷ 90 ∷ 90 ∷ 90 ∷ 90 ∷ 90 ∷ 90 ∷ 90 ∷ 90 ∷ 90 ∷ [])  -- the last `)` of a construct
    ∷ (90 ∷ 8 ∷ 90 ∷ 90 ∷ 90 ∷ 90 ∷ 90 ∷ 90 ∷ 90 ∷ 90 ∷ 90 ∷ 90 ∷ 90 ∷ 90 ∷ [])  -- Ontology
    ∷ (90 ∷ 90 ∷ 1 ∷ 90 ∷ 90 ∷ 90 ∷ 10 ∷ 90 ∷ 10 ∷ 90 ∷ 9 ∷ 9 ∷ 90 ∷ 91 ∷ [])  -- its name
    ∷ (90 ∷ 90 ∷ 1 ∷ 90 ∷ 90 ∷ 90 ∷ 10 ∷ 90 ∷ 10 ∷ 90 ∷ 10 ∷ 10 ∷ 90 ∷ 91 ∷ [])  -- its version
    ∷ (90 ∷ 90 ∷ 1 ∷ 90 ∷ 90 ∷ 90 ∷ 10 ∷ 90 ∷ 10 ∷ 90 ∷ 90 ∷ 90 ∷ 90 ∷ 91 ∷ [])  -- its items
    ∷ (90 ∷ 12 ∷ 90 ∷ 90 ∷ 90 ∷ 90 ∷ 90 ∷ 90 ∷ 90 ∷ 90 ∷ 90 ∷ 90 ∷ 90 ∷ 90 ∷ [])  -- Declaration
    ∷ (90 ∷ 90 ∷ 90 ∷ 90 ∷ 90 ∷ 90 ∷ 90 ∷ 6 ∷ 90 ∷ 90 ∷ 90 ∷ 90 ∷ 90 ∷ 91 ∷ [])  -- its entity
    ∷ (90 ∷ 14 ∷ 90 ∷ 90 ∷ 90 ∷ 90 ∷ 90 ∷ 90 ∷ 90 ∷ 90 ∷ 90 ∷ 90 ∷ 90 ∷ 90 ∷ [])  -- Class, ObjectProperty
    ∷ (90 ∷ 90 ∷ 90 ∷ 90 ∷ 90 ∷ 90 ∷ 90 ∷ 90 ∷ 90 ∷ 90 ∷ 6 ∷ 6 ∷ 90 ∷ 90 ∷ [])  -- its name
    ∷ (90 ∷ 16 ∷ 90 ∷ 90 ∷ 90 ∷ 90 ∷ 90 ∷ 90 ∷ 90 ∷ 90 ∷ 90 ∷ 90 ∷ 90 ∷ 90 ∷ [])  -- SubClassOf
    ∷ (90 ∷ 90 ∷ 90 ∷ 90 ∷ 90 ∷ 90 ∷ 90 ∷ 90 ∷ 90 ∷ 17 ∷ 17 ∷ 17 ∷ 90 ∷ 91 ∷ [])  -- its first class
    ∷ (90 ∷ 90 ∷ 90 ∷ 90 ∷ 90 ∷ 90 ∷ 90 ∷ 90 ∷ 90 ∷ 6 ∷ 6 ∷ 6 ∷ 90 ∷ 91 ∷ [])  -- the last class of a construct
    ∷ (90 ∷ 19 ∷ 90 ∷ 90 ∷ 90 ∷ 90 ∷ 90 ∷ 90 ∷ 90 ∷ 90 ∷ 90 ∷ 90 ∷ 90 ∷ 90 ∷ [])  -- EquivalentClasses
    ∷ (90 ∷ 90 ∷ 90 ∷ 90 ∷ 90 ∷ 90 ∷ 90 ∷ 90 ∷ 90 ∷ 20 ∷ 20 ∷ 20 ∷ 90 ∷ 91 ∷ [])  -- its first class
    ∷ (90 ∷ 90 ∷ 90 ∷ 90 ∷ 90 ∷ 90 ∷ 90 ∷ 90 ∷ 90 ∷ 21 ∷ 21 ∷ 21 ∷ 90 ∷ 91 ∷ [])  -- its second
    ∷ (90 ∷ 90 ∷ 1 ∷ 90 ∷ 90 ∷ 90 ∷ 90 ∷ 90 ∷ 90 ∷ 91 ∷ 91 ∷ 91 ∷ 90 ∷ 91 ∷ [])  -- no third, `)`
    ∷ (90 ∷ 23 ∷ 90 ∷ 90 ∷ 90 ∷ 90 ∷ 90 ∷ 90 ∷ 90 ∷ 90 ∷ 90 ∷ 90 ∷ 90 ∷ 90 ∷ [])  -- ObjectIntersectionOf
    ∷ (90 ∷ 90 ∷ 90 ∷ 90 ∷ 90 ∷ 90 ∷ 90 ∷ 90 ∷ 90 ∷ 24 ∷ 24 ∷ 24 ∷ 90 ∷ 91 ∷ [])  -- its first class
    ∷ (90 ∷ 90 ∷ 90 ∷ 90 ∷ 90 ∷ 90 ∷ 90 ∷ 90 ∷ 90 ∷ 25 ∷ 25 ∷ 25 ∷ 90 ∷ 91 ∷ [])  -- its second
    ∷ (90 ∷ 90 ∷ 1 ∷ 90 ∷ 90 ∷ 90 ∷ 90 ∷ 90 ∷ 90 ∷ 25 ∷ 25 ∷ 25 ∷ 90 ∷ 91 ∷ [])  -- more, or `)`
    ∷ (90 ∷ 27 ∷ 90 ∷ 90 ∷ 90 ∷ 90 ∷ 90 ∷ 90 ∷ 90 ∷ 90 ∷ 90 ∷ 90 ∷ 90 ∷ 90 ∷ [])  -- ObjectSomeValuesFrom
    ∷ (90 ∷ 90 ∷ 90 ∷ 90 ∷ 90 ∷ 90 ∷ 90 ∷ 90 ∷ 90 ∷ 90 ∷ 17 ∷ 17 ∷ 90 ∷ 91 ∷ [])  -- its role
    ∷ []

-- 90 and 91 refuse with 10 and 11
unfoldable pub next : ℕ → ℕ → ℕ
next q k = get_or (get_or moves q []) (column k) 90

-- the kinds of the listed words
unfoldable pub opener : ℕ → Bool
opener k = ltb 3 k && ltb k 13

unfoldable pub inners : List ℕ
inners = 1 ∷ 1 ∷ 1 ∷ 1 ∷ 2 ∷ 7 ∷ 11 ∷ 13 ∷ 13 ∷ 15 ∷ 18 ∷ 22 ∷ 26 ∷ []

unfoldable pub inner : ℕ → ℕ
inner k = get_or inners k 1

unfoldable pub end_verdict : List ℕ → ℕ → ℕ → Verdict
end_verdict s q depth = elim (eqb depth 0 && eqb q 1) [ true ↦ verdict 0 0 | false ↦ verdict 10 (length s) ]

unfoldable pub run : List ℕ → ℕ → ℕ → ℕ → List ℕ → Verdict
run s zero at q st = verdict 10 at
run s (suc f) at q st =
    elim (eqb (kind_at s at) 0) [
      | true ↦ end_verdict s q (length st)
      | false ↦ elim (ltb 79 (next q (kind_at s at))) [
        | true ↦ verdict (next q (kind_at s at) - 80) (place_at s at)
        | false ↦ elim (opener (kind_at s at)) [
          | true ↦ run s f (end_at s at) (inner (kind_at s at)) (next q (kind_at s at) ∷ st)
          | false ↦ elim (eqb (kind_at s at) 2) [
            | true ↦ elim st [ [] ↦ run s f (end_at s at) (next q (kind_at s at)) [] | p ∷ ps ↦ run s f (end_at s at) p ps ]
            | false ↦ run s f (end_at s at) (next q (kind_at s at)) st
          ]
        ]
      ]
    ]

----------------------------------------------------------------------------------------------------
-- Level by level

unfoldable pub deeper : ℕ → ℕ → ℕ
deeper k depth = elim (opener k) [ true ↦ depth + 1 | false ↦ elim (eqb k 2) [ true ↦ depth - 1 | false ↦ depth ] ]

unfoldable pub updated : ℕ → (ℕ → ℕ) → ℕ → ℕ → ℕ
updated level f i mark = elim (eqb level i) [ true ↦ f mark | false ↦ mark ]

unfoldable pub opened : ℕ → ℕ → ℕ
opened k mark = elim (opener k) [ true ↦ inner k | false ↦ mark ]

unfoldable pub marked : ℕ → ℕ → ℕ → ℕ → ℕ
marked i depth k mark = updated (depth + 1) (opened k) i (updated depth (λ m. next m k) i mark)

unfoldable pub at_token : List ℕ → ℕ → ℕ
at_token s zero = 0
at_token s (suc n) = end_at s (at_token s n)

unfoldable pub depth_at : List ℕ → ℕ → ℕ
depth_at s zero = 0
depth_at s (suc n) = deeper (kind_at s (at_token s n)) (depth_at s n)

unfoldable pub mark_at : List ℕ → ℕ → ℕ → ℕ
mark_at s i zero = 0
mark_at s i (suc n) = marked i (depth_at s n) (kind_at s (at_token s n)) (mark_at s i n)

abbrev pub state_at : List ℕ → ℕ → ℕ
state_at s n = mark_at s (depth_at s n) n

unfoldable pub stops : List ℕ → ℕ → Bool
stops s n = eqb (kind_at s (at_token s n)) 0 || ltb 79 (next (state_at s n) (kind_at s (at_token s n)))

unfoldable pub verdict_at : List ℕ → ℕ → Verdict
verdict_at s n =
    elim (eqb (kind_at s (at_token s n)) 0) [
      | true ↦ end_verdict s (state_at s n) (depth_at s n)
      | false ↦ verdict (next (state_at s n) (kind_at s (at_token s n)) - 80) (place_at s (at_token s n))
    ]

----------------------------------------------------------------------------------------------------
-- Block by block

-- of the levels of the block, f changes the state of this one alone
abbrev pub Updated : ℕ → ℕ → (ℕ → ℕ) → List ℕ → List ℕ → Type 0
Updated block level f a b = (length b ≡ 4096) × ((i : ℕ) → i / 4096 ≡ block → get_or b (i % 4096) 0 ≡ updated level f i (get_or a (i % 4096) 0))

abbrev pub Clear : List ℕ → ℕ → ℕ → Type 0
Clear s block limit = (j : ℕ) → at_token s j < limit → depth_at s j / 4096 < block → stops s j ≡ false

pub record Refused (s : List ℕ) (at : ℕ) (v : Verdict) : Type 0 where
  pub count : ℕ
  pub here : at ≡ at_token s count
  pub within : at ≤ length s
  pub first : (j : ℕ) → j < count → at_token s j < at
  pub stop : stops s count ≡ true
  pub says : verdict_at s count ≡ v

pub record Found (s : List ℕ) (block at : ℕ) (v : Verdict) (most : ℕ) : Type 0 where
  pub clear : Clear s block at
  pub refused : Refused s at v
  pub deepest : (j : ℕ) → at_token s j < at → depth_at s j ≤ most
