-- What comes of a text.
--
--   owl_of_lem          == the answer to a text is the one that the call gives
--   owl_inside      == a table that was made lies in its buffer
--   joined_refused, joined_solved == what comes of a text that is refused, and of one whose table is made
--   joined_zero     == under 0 a table was made, and it is the one that was solved
--   solved_facts    == that table is readable and has the names of the text
--   join_long, join_short == the text of a long file, and of one that is read
--   first_bytes     == THE FIRST 65,537 BYTES OF A FILE HAVE THE TEXT OF THE WHOLE FILE
use Rattle.std.specs.Prelude.{◌≡◌, Bool, true, false, List, [], ◌++◌, ℕ, ◌+◌, ◌≤◌, ◌<◌, T, eqb, length, take, drop}
use Rattle.std.proofs.Common.{sym, ap, subst, ◌∙◌, arith, length-append, length-take, take_all, eq-eqb, ne_eqb, lt-ltb, le-ltb}
use Rattle.std.proofs.Math.Decide.{ℕ_discrete, dec_le}
use Rattle.el.specs.Table.{Table}
use Rattle.table.specs.Reading.{Reading, table_of, is_readable}
use Rattle.table.specs.Bytes.{bytes_of, IsTable}
use Rattle.table.specs.BytesLaws.{table_read}
use Rattle.makrothel.specs.Demand2.{table_is}
use Rattle.owl.specs.Tree.{File}
use Rattle.owl.specs.Naming.{Names, names_of}
use Rattle.owl.specs.Flattening as flat
use Rattle.owl.specs.Mention.{names_in}
use Rattle.owl.specs.MentionLaws.{names_said}
use Rattle.owl_answer.specs.Owl.{Owl, TableAt, over, short, made, OwlAt, spoiled, unknown, said}
use Rattle.owl_answer.specs.OwlLaws.{owl_some, owl_unique, owl_table_lem}
use Rattle.join.specs.Join.{join_most, join_table, join_output, long_text, owl_of, Join, join_as, solved_join, joined_by, joined, file_text, join_text}
use Rattle.join.specs.Part.{Solved}

pub owl_of_lem : {s : List ℕ} {a : Owl} → OwlAt s join_table a → owl_of s ≡ a
unfolding owl_of
owl_of_lem {s} x = owl_unique (owl_some s join_table).1 x

pub owl_inside : {s out : List ℕ} {a : Owl} → OwlAt s out a → a.number ≡ 0 → a.count ≤ length a.buffer
owl_inside (spoiled x) z = absurd (x z)
owl_inside (unknown e h) z = absurd (let w : ⊥ = omega arith in w)
owl_inside {s} {out} (said f h e x) z = go f x z
  where
    go : (f : File) {a : Owl} → TableAt (flat.flat_table f) out a → a.number ≡ 0 → a.count ≤ length a.buffer
    go f (over x) z = absurd (let w : ⊥ = omega arith in w)
    go f (short x k) z = absurd (let w : ⊥ = omega arith in w)
    go f (made x k) z = let b = bytes_of 1 (flat.flat_table f) in let n : length (b ++ drop (length b) out) ≡ length b + length (drop (length b) out) = length-append b (drop (length b) out) in omega arith

joined_by_lem : (a : Owl) (b : Bool) → eqb a.number 0 ≡ b → joined_by a ≡ elim b [ true ↦ solved_join (take a.count a.buffer) | false ↦ join_as a.number a.count a.place [] join_output ]
unfolding joined_by
joined_by_lem a b e = ap (λ (x : Bool). elim x [ true ↦ solved_join (take a.count a.buffer) | false ↦ join_as a.number a.count a.place [] join_output ]) e

pub joined_refused : {s : List ℕ} {a : Owl} → OwlAt s join_table a → (a.number ≡ 0 → ⊥) → joined s ≡ join_as a.number a.count a.place [] join_output
joined_refused {s} {a} x n = ap joined_by (owl_of_lem x) ∙ joined_by_lem a false (ne_eqb a.number 0 n)

pub joined_solved : {s : List ℕ} {a : Owl} → OwlAt s join_table a → a.number ≡ 0 → joined s ≡ solved_join (take a.count a.buffer)
joined_solved {s} {a} x n = ap joined_by (owl_of_lem x) ∙ joined_by_lem a true (eq-eqb a.number 0 n)

pub joined_zero : (s : List ℕ) (j : Join) → joined s ≡ j → j.number ≡ 0 → ((owl_of s).number ≡ 0) × (j.table ≡ take (owl_of s).count (owl_of s).buffer)
joined_zero s j e z = go (ℕ_discrete (owl_of s).number 0)
  where
    go : Dec ((owl_of s).number ≡ 0) → ((owl_of s).number ≡ 0) × (j.table ≡ take (owl_of s).count (owl_of s).buffer)
    go (yes n) = (n, ap (λ (x : Join). x.table) (sym e ∙ joined_by_lem (owl_of s) true (eq-eqb (owl_of s).number 0 n)))
    go (no n) = absurd (n (ap (λ (x : Join). x.number) (sym (joined_by_lem (owl_of s) false (ne_eqb (owl_of s).number 0 n)) ∙ e) ∙ z))

-- the answer to a text, and the file that it says
pub owl_is : (s : List ℕ) → OwlAt s join_table (owl_of s)
unfolding owl_of
owl_is s = (owl_some s join_table).1

table_facts : (s table : List ℕ) (f : File) → names_in s ≡ names_of f.items → IsTable table (flat.flat_table f) → Solved s table
unfolding flat.flat_table flat.table_of
table_facts s table f names is =
    let same : flat.flat_table f ≡ table_of table = table_is table (flat.flat_table f) is in record {
      ok = subst (λ (r : Reading). T (is_readable r)) (sym (table_read table (flat.flat_table f) is).1) tt;
      constants_are = ap (λ (d : Names). length d.constants) names ∙ ap (λ (t : Table). t.constants) same;
      roles_are = ap (λ (d : Names). length d.roles) names ∙ ap (λ (t : Table). t.roles) same;
      opens_are =
          (let n : length (names_in s).opens ≡ length (names_of f.items).opens = ap (λ (d : Names). length d.opens) names in
          let v : (flat.flat_table f).variables ≡ (table_of table).variables = ap (λ (t : Table). t.variables) same in omega arith);
    }

pub solved_facts : (s : List ℕ) (j : Join) → joined s ≡ j → j.number ≡ 0 → Solved s j.table
solved_facts s j e z =
    let zero = joined_zero s j e z in
    let file = owl_table_lem (owl_is s) zero.0 in
    subst (Solved s) (sym zero.1) (table_facts s (take (owl_of s).count (owl_of s).buffer) file.0 (names_said s file.0 file.1.says) file.1.table)

pub join_long : (s : List ℕ) → join_most < length s → join_text s ≡ long_text
unfolding join_text
join_long s h = rw (lt-ltb join_most (length s) h, join_text)

pub join_short : (s : List ℕ) (j : Join) → length s ≤ join_most → joined s ≡ j → join_text s ≡ file_text s j
unfolding join_text
join_short s j h e = rw (le-ltb join_most (length s) h, join_text) (ap (file_text s) e)

-- "a longer one is refused": nothing behind them is looked at
pub first_bytes : (s : List ℕ) → join_text (take (join_most + 1) s) ≡ join_text s
first_bytes s = go (dec_le (length s) join_most)
  where
    go : Dec (length s ≤ join_most) → join_text (take (join_most + 1) s) ≡ join_text s
    go (yes h) = ap join_text (take_all (join_most + 1) s (omega arith))
    go (no h) = join_long (take (join_most + 1) s) (let n : length (take (join_most + 1) s) ≡ _ = length-take (join_most + 1) s in omega arith) ∙ sym (join_long s (omega arith))
