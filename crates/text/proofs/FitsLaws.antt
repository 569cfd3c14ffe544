-- The texts are no longer than is said.
--
--   joined_length  == how long texts are together
--   atom_length    == an atom
--   listing_fits   == the whole text of an answer
--   read_fits, line_fits, solve_fits == the lines of the batch program
use Rattle.std.specs.Prelude.{◌≡◌, refl, Bool, T, ltb}
use Rattle.std.proofs.Common.{sym, lt-ltb, le-ltb}
use Rattle.std.proofs.Math.Path.{subst}
use Rattle.std.proofs.Math.Bool.{true, false}
use mathlib.Core.List.{List, [], ◌∷◌, ◌++◌, map, map-append}
use Prim.Native.Nat.{ℕ, zero, suc, ◌+◌, ◌*◌, ◌-◌, ◌≤◌, ◌<◌}
use native.Mathlib.Omega.{arith}
use Rattle.std.proofs.Math.Nat.{suc-mul}
use Rattle.std.proofs.Math.Decide.{dec_lt}
use Rattle.std.proofs.Math.Dec.{ltb→lt}
use Rattle.std.proofs.Math.ListN.{length, length-append, length-map}
use Rattle.bounds.specs.Bounds.{max_atoms, max_variables, set_bytes}
use Rattle.el.specs.Test.{bit}
use Rattle.el.specs.TestLaws.{and_left, and_right, every_of_at}
use Rattle.el.specs.Table.{Filler, top_f, constant_f, variable_f, Row, row_at, atoms, filler_declared, row_declared}
use Rattle.el.specs.TableLaws.{rows_declared}
use Rattle.answer.specs.declared.Handed.{Handed}
use Rattle.table.specs.Reading.{Reading, refusal, readable, reading, the_table, table_of, is_readable}
use Rattle.table.specs.LayoutLaws.{layout}
use Rattle.output.specs.Written.{set_in}
use Rattle.text.specs.Text.{space, decimal, behind, joined, numbers_text}
use Rattle.text.specs.TextLaws.{decimal_length, hex_length}
use Rattle.text.specs.Listing.{filler_text, row_text, atom_text, atoms_in, atom_texts, ampersand, conjunction_text, set_text, variable_line, variable_lines, solved_text, under_number, first_line, listing_text}
use Rattle.text.specs.Batch.{read_text, line_text, solve_text}
use Rattle.text.specs.Room.{digits, Numbers, Short, numbers_room, atom_room, set_room, variable_room, listing_room}

short_more : (k : ℕ) (ts : List (List ℕ)) (t : List ℕ) → Short k ts → length t ≤ k → Short k (ts ++ (t ∷ []))
short_more k [] t s h = (h, tt)
short_more k (u ∷ ts) t s h = (s.0, short_more k ts t s.1 h)

module _ (between : List ℕ) (k : ℕ) where
  behind_length : (ts : List (List ℕ)) → Short k ts → length (behind between ts) ≤ length ts * (k + length between)
  unfolding behind
  behind_length [] s = omega arith
  behind_length (t ∷ ts) s = simp length-append (omega (arith, s.0, behind_length ts s.1, suc-mul (length ts) (k + length between)))

  pub joined_length : (ts : List (List ℕ)) → Short k ts → length (joined between ts) ≤ length ts * (k + length between)
  unfolding joined
  joined_length [] s = omega arith
  joined_length (t ∷ ts) s = simp length-append (omega (arith, s.0, behind_length ts s.1, suc-mul (length ts) (k + length between)))

numbers_length : (ns : List ℕ) → Numbers ns → length (numbers_text ns) ≤ numbers_room (length ns)
unfolding numbers_text
numbers_length ns h = subst (λ (n : ℕ). length (joined space (map decimal ns)) ≤ numbers_room n) (length-map ns decimal) (joined_length space digits (map decimal ns) (go ns h))
  where
    go : (ns : List ℕ) → Numbers ns → Short digits (map decimal ns)
    go [] h = tt
    go (n ∷ ns) h = (decimal_length 19 n h.0, go ns h.1)

two_digits : (n : ℕ) → n < 100 → length (decimal n) ≤ 2
two_digits n h = decimal_length 1 n h

------------------------------------------------------------------ the listing

module _ (s : List ℕ) (ok : T (is_readable (reading s))) where
  few_constants : (table_of s).constants ≤ max_atoms
  few_constants = omega (arith, (layout s ok).constants, (layout s ok).few_atoms)

  few_variables : (table_of s).variables ≤ max_variables
  few_variables = omega (arith, (layout s ok).variables, (layout s ok).few_variables)

  filler_length : (f : Filler) → T (filler_declared (table_of s) f) → length (filler_text f) ≤ 3
  unfolding filler_text
  filler_length top_f d = omega arith
  filler_length (constant_f k) d = let h : k < (table_of s).constants = ltb→lt k (table_of s).constants d in omega (arith, two_digits k (omega (arith, few_constants)))
  filler_length (variable_f k) d = let h : k < (table_of s).variables = ltb→lt k (table_of s).variables d in omega (arith, two_digits k (omega (arith, few_variables)))

  row_length : (row : Row) → T (row_declared (table_of s) row) → length (row_text row) ≤ atom_room
  unfolding row_text
  row_length row d =
      let h : row.role < (table_of s).roles = ltb→lt row.role (table_of s).roles (and_left (ltb row.role (table_of s).roles) _ d) in
      let l : length (decimal row.role) ≤ 2 = two_digits row.role (omega (arith, (layout s ok).roles, (layout s ok).few_roles)) in
      simp length-append (omega (arith, filler_length row.filler (and_right (ltb row.role (table_of s).roles) _ d)))

  pub atom_length : (i : ℕ) → i < atoms (table_of s) → length (atom_text (table_of s) i) ≤ atom_room
  unfolding atom_text atoms row_at
  atom_length i h = go (dec_lt i (table_of s).constants)
    where
      go : Dec (i < (table_of s).constants) → length (atom_text (table_of s) i) ≤ atom_room
      go (yes l) = rw (lt-ltb i (table_of s).constants l, atom_text) (omega (arith, two_digits i (omega (arith, few_constants))))
      go (no n) = rw (le-ltb i (table_of s).constants (omega arith), atom_text) (row_length _ (every_of_at (row_declared (table_of s)) (table_of s).rows (i - (table_of s).constants) _ (rows_declared (table_of s) (layout s ok).all_declared) (omega arith)))

  module _ (x : ℕ) where
    -- how many, and how long each
    atoms_short : (n : ℕ) → n ≤ atoms (table_of s) → (length (atoms_in n x) ≤ n) × Short atom_room (atom_texts (table_of s) x n)
    unfolding atoms_in
    atoms_short zero h = (omega arith, tt)
    atoms_short (suc n) h = go (bit n x) (atoms_short n (omega arith))
      where
        go : (b : Bool) → (length (atoms_in n x) ≤ n) × Short atom_room (atom_texts (table_of s) x n)
            → (length {A = ℕ} (elim b [ true ↦ atoms_in n x ++ (n ∷ []) | false ↦ atoms_in n x ]) ≤ suc n) × Short atom_room (map (atom_text (table_of s)) (elim b [ true ↦ atoms_in n x ++ (n ∷ []) | false ↦ atoms_in n x ]))
        go true p = (simp length-append (omega (arith, p.0)), subst (Short atom_room) (sym (map-append (atom_text (table_of s)) (atoms_in n x) (n ∷ []))) (short_more atom_room (atom_texts (table_of s) x n) (atom_text (table_of s) n) p.1 (atom_length n (omega arith))))
        go false p = (omega (arith, p.0), p.1)

    conjunction_length : (ts : List (List ℕ)) → length (conjunction_text ts) ≤ length (joined ampersand ts) + 3
    unfolding conjunction_text
    conjunction_length [] = omega arith
    conjunction_length (t ∷ ts) = omega arith

    set_length : length (set_text (table_of s) x) ≤ set_room
    unfolding set_text atoms
    set_length =
        let a = atoms_short (atoms (table_of s)) (omega arith) in
        let r : length (atom_texts (table_of s) x (atoms (table_of s))) ≡ length (atoms_in (atoms (table_of s)) x) = length-map (atoms_in (atoms (table_of s)) x) (atom_text (table_of s)) in
        omega (arith, a.0, conjunction_length (atom_texts (table_of s) x (atoms (table_of s))), joined_length ampersand atom_room (atom_texts (table_of s) x (atoms (table_of s))) a.1, (layout s ok).constants, (layout s ok).rows, (layout s ok).few_atoms)

  lines_length : (a : ℕ → ℕ) (n : ℕ) → n ≤ max_variables → length (variable_lines (table_of s) a n) ≤ variable_room * n
  unfolding variable_lines variable_line
  lines_length a zero h = omega arith
  lines_length a (suc n) h = simp length-append (omega (arith, lines_length a n (omega arith), two_digits n (omega arith), set_length (a n)))

unreadable_none : (s : List ℕ) → is_readable (reading s) ≡ false → (table_of s).variables ≡ 0
unfolding table_of
unreadable_none s e = go (reading s) e
  where
    go : (x : Reading) → is_readable x ≡ false → (the_table x).variables ≡ 0
    go (refusal why) e = refl
    go (readable h t) e = absurd (let z : ◌≡◌ {A = ℕ} 0 1 = cc in let w : ⊥ = omega arith in w)

all_lines_length : (s : List ℕ) (a : ℕ → ℕ) (b : Bool) → is_readable (reading s) ≡ b → length (variable_lines (table_of s) a (table_of s).variables) ≤ max_variables * variable_room
unfolding variable_lines
all_lines_length s a true e = let ok : T (is_readable (reading s)) = subst T (sym e) tt in omega (arith, lines_length s ok a (table_of s).variables (few_variables s ok), few_variables s ok)
all_lines_length s a false e = subst (λ (n : ℕ). length (variable_lines (table_of s) a n) ≤ max_variables * variable_room) (sym (unreadable_none s e)) (omega arith)

solved_length : (s out : List ℕ) → length (solved_text (table_of s) out) ≤ max_variables * variable_room
unfolding solved_text
solved_length s out = go (ltb (length out) (set_bytes * (table_of s).variables))
  where
    go : (b : Bool) → length {A = ℕ} (elim b [ true ↦ [] | false ↦ variable_lines (table_of s) (set_in out) (table_of s).variables ]) ≤ max_variables * variable_room
    go true = omega arith
    go false = all_lines_length s (set_in out) (is_readable (reading s)) refl

under_length : (n : ℕ) (text : List ℕ) → length (under_number n text) ≤ length text
under_length zero text = omega arith
under_length (suc n) text = omega arith

pub listing_fits : (s : List ℕ) (a : Handed) (out : List ℕ) → Numbers (a.number ∷ a.count ∷ a.place ∷ []) → length (listing_text s a out) ≤ listing_room
unfolding listing_text first_line
listing_fits s a out n = simp length-append (omega (arith, numbers_length (a.number ∷ a.count ∷ a.place ∷ []) n, under_length a.number (solved_text (table_of s) out), solved_length s out))

------------------------------------------------------------------ the lines of the batch program

pub read_fits : (ns : List ℕ) → Numbers ns → length (read_text ns) ≤ numbers_room (length ns) + 1
unfolding read_text
read_fits ns n = simp length-append (omega (arith, numbers_length ns n))

pub line_fits : (part : List ℕ) → length (line_text part) ≤ 2 * length part + 2
unfolding line_text
line_fits part = simp length-append (omega (arith, hex_length part))

pub solve_fits : (a : Handed) (out : List ℕ) → Numbers (a.number ∷ a.count ∷ a.place ∷ []) → length (solve_text a out) ≤ numbers_room 3 + 2 * length out + 3
unfolding solve_text
solve_fits a out n = simp length-append (omega (arith, numbers_length (a.number ∷ a.count ∷ a.place ∷ []) n, hex_length out))
