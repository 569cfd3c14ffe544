-- What the line test is given, in bytes and set numbers.
--
--   filler_from b, entry_from b  == the filler, the entry that the code b writes, declared or not
--   FillerFits b, fills b      == the code b writes a filler that some table within the bounds declares
--   EntryFits c b              == the code b writes an entry that some table within the bounds with c constants declares
--   RowsGiven s p              == p has the counts of the table s; bit k of `over j` says that row k's role lies under row j's, and `inner k` is the code of row k's filler
--   Over s j n m               == the bits of m are those rows among the first n whose roles lie under row j's
--   RowsTo s n over inner      == the same as RowsGiven, of the first n rows and without the counts
--   SetsGiven a                == a has a set for each variable that a table may have
--   Asking p a                 == the prepared rows of some table within the bounds, and sets
--   LineGiven s p a at         == these are the rows of the table s, a is acyclic, a line begins at the byte `at`
use Rattle.std.specs.Prelude.{◌≡◌, Bool, true, false, ◌&&◌, List, ℕ, ◌+◌, ◌≤◌, ◌<◌, T, ltb, length, get_or}
use Rattle.std.proofs.Math.Option.{none, some}
use Rattle.bounds.specs.Bounds.{max_constants, max_restrictions, max_atoms, max_variables}
use Rattle.el.specs.Test.{bit}
use Rattle.el.specs.Table.{Filler, top_f, constant_f, variable_f, Entry, constant, restriction, variable, role_order, row_at}
use Rattle.el.specs.Assignment.{Assignment, acyclic}
use Rattle.table.specs.declared.Kind.{Kind}
use Rattle.table.specs.declared.Kind.TheVariants.{Top, Constant, Restriction, Variable, Other}
use Rattle.table.specs.Code.{kind_of, filler_of, entry_of}
use Rattle.table.specs.Reading.{table_of, header_of}
use Rattle.table.specs.Layout.{IsRowFiller, LineBegins}
use Rattle.order.specs.declared.Rows.{Rows}

abbrev pub filler_from_kind : Kind → Filler
filler_from_kind Top = top_f
filler_from_kind (Constant k) = constant_f k
filler_from_kind (Restriction k) = top_f
filler_from_kind (Variable k) = variable_f k
filler_from_kind Other = top_f

unfoldable pub filler_from : ℕ → Filler
filler_from b = filler_from_kind (kind_of b)

abbrev pub entry_from_kind : Kind → Entry
entry_from_kind Top = constant 0
entry_from_kind (Constant k) = constant k
entry_from_kind (Restriction k) = restriction k
entry_from_kind (Variable k) = variable k
entry_from_kind Other = constant 0

unfoldable pub entry_from : ℕ → Entry
entry_from b = entry_from_kind (kind_of b)

unfoldable pub FillerFits : ℕ → Type 0
FillerFits b = filler_of max_constants max_variables b ≡ some (filler_from b)

-- the same as a test
unfoldable pub fills : ℕ → Bool
fills b = elim (filler_of max_constants max_variables b) [ none ↦ false | some f ↦ true ]

unfoldable pub EntryFits : ℕ → ℕ → Type 0
EntryFits c b = (e : ℕ) × (c + e ≤ max_atoms) × (entry_of c e max_variables b ≡ some (entry_from b))

pub record RowsGiven (s : List ℕ) (p : Rows) : Type 0 where
  pub constants : p.c ≡ (header_of s).c
  pub restrictions : p.e ≡ (header_of s).e
  pub variables : p.v ≡ (header_of s).v
  pub over_many : length p.over ≡ max_restrictions
  pub inner_many : length p.inner ≡ max_restrictions
  pub over_is : (j k : ℕ) → j < (header_of s).e → k < (header_of s).e
      → bit k (get_or p.over j 0) ≡ role_order (table_of s) (row_at (table_of s).rows k).role (row_at (table_of s).rows j).role
  pub inner_is : (k : ℕ) → k < (header_of s).e → IsRowFiller s k (get_or p.inner k 0)

unfoldable pub Over : List ℕ → ℕ → ℕ → ℕ → Type 0
Over s j n m = (k : ℕ) → bit k m ≡ ltb k n && role_order (table_of s) (row_at (table_of s).rows k).role (row_at (table_of s).rows j).role

pub record RowsTo (s : List ℕ) (n : ℕ) (over inner : List ℕ) : Type 0 where
  pub over_many : length over ≡ max_restrictions
  pub inner_many : length inner ≡ max_restrictions
  pub over_each : (j : ℕ) → j < n → Over s j (header_of s).e (get_or over j 0)
  pub inner_each : (k : ℕ) → k < n → IsRowFiller s k (get_or inner k 0)

pub record SetsGiven (a : Assignment) : Type 0 where
  pub many : length a ≡ max_variables

pub record Asking (p : Rows) (a : Assignment) : Type 0 where
  pub few_atoms : p.c + p.e ≤ max_atoms
  pub few_rows : p.e ≤ max_restrictions
  pub over_many : length p.over ≡ max_restrictions
  pub inner_many : length p.inner ≡ max_restrictions
  pub sets : SetsGiven a
  pub fits : (k : ℕ) → k < p.e → T (fills (get_or p.inner k 0))

pub record LineGiven (s : List ℕ) (p : Rows) (a : Assignment) (at : ℕ) : Type 0 where
  pub sets : SetsGiven a
  pub acyclic : T (acyclic (table_of s) a)
  pub rows : RowsGiven s p
  pub line : LineBegins s at
