-- What is wrong with the bytes under each of the reader's refusals, in the order of judging.
--
--   Slot              == what stands next: a narrower role, a wider one, the role of a row, a filler, a left count, an entry, or nothing
--   Awaited x         == something stands next
--   Begins h good x   == the bytes `good` begin a table with the counts h and are right so far, and x stands next
--   Refuses h x b     == the byte b is neither declared nor allowed where x stands next
--   Over h at         == of the counts h the first that is over its bound is the one of the byte `at`
--   RefusedAt s why   == the bytes s are refused, and `why` says why and where
use Rattle.std.specs.Prelude.{◌≡◌, ℕ, ◌+◌, ◌≤◌, ◌<◌, T, length}
use mathlib.Core.List.{List, [], ◌∷◌, ◌++◌, flat_map}
use Rattle.std.proofs.Math.Option.{none}
use Rattle.el.specs.Test.{every_of}
use Rattle.el.specs.Roles.{RoleRow}
use Rattle.el.specs.Table.{Entry, Row, Line, entry_declared}
use Rattle.answer.specs.declared.Answer.{Answer}
use Rattle.answer.specs.declared.Answer.TheVariants.{EndsEarly, WrongMark, WrongVersion, OverBound, NotAllowed, BytesAfter}
use Rattle.table.specs.Code.{filler_of, entry_of}
use Rattle.bounds.specs.Bounds.{bounds, max_constants, max_restrictions, max_atoms, max_roles, max_variables, max_lines, max_left, max_role_rows}
use Rattle.table.specs.declared.Header.{Header}
use Rattle.table.specs.Reading.{constants_place, roles_place, variables_place, restrictions_place, lines_place, header_length, role_rows_place, header_end, header_of, marked, version_known, table_with}
use Rattle.table.specs.Bytes.{written_entry, bytes_with, Within, Right}

-- "rows of two roles (narrower, then wider)"; "restriction rows of two bytes: a role, less than r, and a filler code"; "lines, each a left
-- count p, p atom codes, and one right atom code. Nothing follows."
pub data Slot : Type 0 where
  a_narrower a_wider a_role a_filler a_count an_entry nothing : Slot

-- something stands next
abbrev pub Awaited : Slot → Type 0
Awaited a_narrower = Unit {0}
Awaited a_wider = Unit {0}
Awaited a_role = Unit {0}
Awaited a_filler = Unit {0}
Awaited a_count = Unit {0}
Awaited an_entry = Unit {0}
Awaited nothing = ⊥

-- "rows and lines in byte order": the role rows, rows and lines so far, and the part of a row or of a line that stands behind them
abbrev pub Begins : Header → List ℕ → Slot → Type 0
Begins h good a_narrower = (role_rows : List RoleRow) × Right h role_rows [] [] × (length role_rows < h.q) × (good ≡ bytes_with h role_rows [] [])
Begins h good a_wider =
    (role_rows : List RoleRow) × (narrower : ℕ) × Right h role_rows [] [] × (length role_rows < h.q) × (narrower < h.r)
    × (good ≡ bytes_with h role_rows [] [] ++ (narrower ∷ []))
Begins h good a_role =
    (role_rows : List RoleRow) × (rows : List Row) × Right h role_rows rows [] × (length role_rows ≡ h.q) × (length rows < h.e)
    × (good ≡ bytes_with h role_rows rows [])
Begins h good a_filler =
    (role_rows : List RoleRow) × (rows : List Row) × (role : ℕ) × Right h role_rows rows [] × (length role_rows ≡ h.q) × (length rows < h.e) × (role < h.r)
    × (good ≡ bytes_with h role_rows rows [] ++ (role ∷ []))
Begins h good a_count =
    (role_rows : List RoleRow) × (rows : List Row) × (lines : List Line) × Right h role_rows rows lines × (length role_rows ≡ h.q) × (length rows ≡ h.e)
    × (length lines < h.m) × (good ≡ bytes_with h role_rows rows lines)
Begins h good an_entry =
    (role_rows : List RoleRow) × (rows : List Row) × (lines : List Line) × (p : ℕ) × (xs : List Entry) × Right h role_rows rows lines
    × (length role_rows ≡ h.q) × (length rows ≡ h.e) × (length lines < h.m) × (p ≤ max_left) × (length xs ≤ p)
    × T (every_of (entry_declared (table_with h role_rows rows lines)) xs) × (good ≡ bytes_with h role_rows rows lines ++ (p ∷ flat_map written_entry xs))
Begins h good nothing =
    (role_rows : List RoleRow) × (rows : List Row) × (lines : List Line) × Right h role_rows rows lines × (length role_rows ≡ h.q) × (length rows ≡ h.e)
    × (length lines ≡ h.m) × (good ≡ bytes_with h role_rows rows lines)

-- "code or role not declared or not allowed there"
abbrev pub Refuses : Header → Slot → ℕ → Type 0
Refuses h a_narrower b = h.r ≤ b
Refuses h a_wider b = h.r ≤ b
Refuses h a_role b = h.r ≤ b
Refuses h a_filler b = filler_of h.c h.v b ≡ none
Refuses h a_count b = ⊥
Refuses h an_entry b = entry_of h.c h.e h.v b ≡ none
Refuses h nothing b = ⊥

-- "counts in byte order (c + e is judged at byte 8)"; "a c or e over 32 is 4 at its own byte, before the sum"; "a q over 32 is 4"
pub data Over (h : Header) : ℕ → Type 0 where
  over_constants : max_constants < h.c → Over h constants_place
  over_roles : h.c ≤ max_constants → max_roles < h.r → Over h roles_place
  over_variables : h.c ≤ max_constants → h.r ≤ max_roles → max_variables < h.v → Over h variables_place
  over_restrictions : h.c ≤ max_constants → h.r ≤ max_roles → h.v ≤ max_variables → max_restrictions < h.e → Over h restrictions_place
  over_atoms : h.c ≤ max_constants → h.r ≤ max_roles → h.v ≤ max_variables → h.e ≤ max_restrictions → max_atoms < h.c + h.e → Over h restrictions_place
  over_lines : h.c ≤ max_constants → h.r ≤ max_roles → h.v ≤ max_variables → h.e ≤ max_restrictions → h.c + h.e ≤ max_atoms → max_lines < h.m → Over h lines_place
  over_role_rows : h.c ≤ max_constants → h.r ≤ max_roles → h.v ≤ max_variables → h.e ≤ max_restrictions → h.c + h.e ≤ max_atoms → h.m ≤ max_lines → max_role_rows < h.q
      → Over h role_rows_place

pub data RefusedAt (s : List ℕ) : Answer → Type 0 where
  -- "input ends early", "input length": "fewer than 10 bytes gives 1 before anything else"
  header_cut : length s < header_length → RefusedAt s (EndsEarly (length s))
  -- "wrong mark", 0
  wrong_mark : header_length ≤ length s → (T (marked s) → ⊥) → RefusedAt s WrongMark
  -- "3 now means neither 1 nor 2", 3
  wrong_version : header_length ≤ length s → T (marked s) → (T (version_known s) → ⊥) → RefusedAt s WrongVersion
  -- "a count is over its bound", "its byte"
  over_bound : {at : ℕ} → header_length ≤ length s → T (marked s) → T (version_known s) → Over (header_of s) at → RefusedAt s (OverBound at)
  -- "a missing byte gives 1": that of q
  no_role_count : header_length ≤ length s → T (marked s) → T (version_known s) → Within bounds (header_of s) → length s < header_end (header_of s) → RefusedAt s (EndsEarly (length s))
  -- "an over-large p gives 4 before its entries are read"
  over_left : (h : Header) (good : List ℕ) (p : ℕ) (tail : List ℕ) → Begins h good a_count → s ≡ good ++ (p ∷ tail) → max_left < p → RefusedAt s (OverBound (length good))
  -- "a missing byte gives 1"
  ends_early : (h : Header) (x : Slot) → Awaited x → Begins h s x → RefusedAt s (EndsEarly (length s))
  -- "code or role not declared or not allowed there", "its byte"
  not_allowed : (h : Header) (x : Slot) (good : List ℕ) (b : ℕ) (tail : List ℕ) → Begins h good x → s ≡ good ++ (b ∷ tail) → Refuses h x b → RefusedAt s (NotAllowed (length good))
  -- "bytes after the last line", "first of them"
  bytes_after : (h : Header) (good : List ℕ) (b : ℕ) (tail : List ℕ) → Begins h good nothing → s ≡ good ++ (b ∷ tail) → RefusedAt s (BytesAfter (length good))
