-- What is answered to a text and a lent buffer: number, count, place, and the buffer afterwards.
--
--   Owl             == the four of them
--   InBounds t      == the table t passes no bound
--   TableAt t out a == where a text makes the table t, a is the answer for the buffer `out`
--   OwlAt s out a   == a is the answer to the text s and the buffer `out`
--   Made s out a f  == under the answer a the buffer has the table of the file f, which the text s says, and what that table is worth
use Rattle.std.specs.Prelude.{◌≡◌, ◌↔◌, List, ◌++◌, ℕ, ◌≤◌, ◌<◌, T, leb, length, take, drop}
use Rattle.el.specs.Test.{every_of}
use Rattle.el.specs.Table.{Line, Table, role_order}
use Rattle.el.specs.Locality.{Solvable}
use Rattle.bounds.specs.Bounds.{bounds, max_left}
use Rattle.table.specs.Bytes.{counts_of, bytes_of, Within, IsTable}
use Rattle.owl.specs.Tree.{File}
use Rattle.owl.specs.Naming.{all_known}
use Rattle.owl.specs.Meaning.{Joinable}
use Rattle.owl.specs.Flattening.{flat_table}
use Rattle.owl.specs.Written.{Says}
use Rattle.owl.specs.Grammar.{checked}
use Rattle.owl.specs.Mention.{undeclared}

pub record Owl : Type 0 where
  pub number : ℕ
  pub count : ℕ
  pub place : ℕ
  pub buffer : List ℕ

abbrev pub owl : ℕ → ℕ → ℕ → List ℕ → Owl
owl n c p b = record { number = n; count = c; place = p; buffer = b }

-- "a bound of 01": those of the counts, and "p at most 8"
pub record InBounds (t : Table) : Type 0 where
  pub counts : Within bounds (counts_of 1 t)
  pub left : T (every_of (λ (l : Line). leb (length l.left) max_left) t.lines)

pub data TableAt (t : Table) (out : List ℕ) : Owl → Type 0 where
  -- "then 12 the result passes a bound of 01"
  over : (InBounds t → ⊥) → TableAt t out (owl 12 0 0 out)
  -- "then 17 the buffer is shorter than the table (place: length needed); the buffer stays"
  short : InBounds t → length out < length (bytes_of 1 t) → TableAt t out (owl 17 0 (length (bytes_of 1 t)) out)
  -- "The table goes to a lent buffer; its length is returned."
  made : InBounds t → length (bytes_of 1 t) ≤ length out → TableAt t out (owl 0 (length (bytes_of 1 t)) 0 (bytes_of 1 t ++ drop (length (bytes_of 1 t)) out))

pub data OwlAt (s out : List ℕ) : Owl → Type 0 where
  -- "10 syntax or 11 an axiom or constructor not listed (place: the first such token's byte)"
  spoiled : ((checked s).number ≡ 0 → ⊥) → OwlAt s out (owl (checked s).number 0 (checked s).place out)
  -- "then 11 a name not declared (place: the first one's byte)"
  unknown : (checked s).number ≡ 0 → (undeclared s ≡ length s → ⊥) → OwlAt s out (owl 11 0 (undeclared s) out)
  -- the text says a file, whose names are declared
  said : {a : Owl} (f : File) → Says s f → undeclared s ≡ length s → TableAt (flat_table f) out a → OwlAt s out a

pub record Made (s out : List ℕ) (a : Owl) (f : File) : Type 0 where
  pub says : Says s f
  pub known : T (all_known f)
  pub written : a.buffer ≡ bytes_of 1 (flat_table f) ++ drop a.count out
  -- the buffer's first bytes, as many as were counted, are that table
  pub table : IsTable (take a.count a.buffer) (flat_table f)
  -- "that table has a solving assignment exactly if some substitution makes all the file's axioms hold by 01's order"
  pub worth : Joinable (role_order (flat_table f)) f ↔ Solvable (role_order (flat_table f)) (flat_table f)
