-- What the text says of a file.
--
--   table_room    == there is room for every readable table
--   join_fits     == so the answer 17 does not come to a text that says a file
--   join_refused  == A FILE THAT IS REFUSED: number, count and place
--   join_found    == A FILE THAT IS SOLVED: the sets of the first assignment that solves its table, with its own names
--   join_spelt    == in its lines a fresh variable is spelt out by its own atoms, to the end
--   join_none     == A FILE THAT CANNOT BE JOINED
--   join_budget_lem   == a file whose walk is over the budget
--   join_holds    == under 0 the substitution that the written sets induce makes all axioms of the file hold
--   join_cannot   == under 8 no descriptions whatever make them hold
use Rattle.std.specs.Prelude.{◌≡◌, Bool, true, false, cond, ℕ, zero, suc, ◌+◌, ◌*◌, ◌^◌, ◌≤◌, ◌<◌, T, drop}
use Rattle.std.proofs.Math.Path.{refl, ap, ap₂}
use Rattle.std.proofs.Common.{sym, subst, ◌∙◌}
use mathlib.Core.List.{List, [], ◌++◌, append-nil}
use native.Mathlib.Omega.{arith}
use Rattle.std.proofs.Math.Dec.{ltb, ltb→lt}
use Rattle.std.proofs.Math.ListN.{length, get_or}
use Rattle.std.proofs.Math.Seq.{take-append_seam}
use Rattle.std.proofs.Math.Pow.{pow_mono}
use Rattle.bounds.specs.Bounds.{max_atoms, max_variables, max_role_rows, set_bytes, set_numbers}
use Rattle.el.specs.TestLaws.{every_of_at}
use Rattle.el.specs.Table.{Table, atoms, declared, role_order}
use Rattle.el.proofs.ReachLaws.{acyclic_means}
use Rattle.el.proofs.RoleLaws.{role_order_refl, role_order_trans}
use Rattle.el.specs.Assignment.{Assignment, IsAssignment, set_of, Solves, induced}
use Rattle.el.specs.Locality.{Solvable}
use Rattle.el.specs.Meaning.{Substitution}
use Rattle.answer.specs.declared.Answer.{Answer}
use Rattle.answer.specs.declared.Answer.TheVariants.{Solved, EndsEarly, WrongMark, WrongVersion, OverBound, NotAllowed, BytesAfter, OutputShort, Nothing, Budget}
use Rattle.answer.specs.Handed.{handed}
use Rattle.table.specs.Reading.{header_length, Reading, reading, is_readable, has_role_rows, header_of}
use Rattle.table.specs.Bytes.{bytes_of, IsTable, counts_of, longest_front, longest_length}
use Rattle.table.specs.BytesLaws.{table_read}
use Rattle.table.specs.LengthLaws.{longest}
use Rattle.output.specs.Written.{set_in, written}
use Rattle.output.specs.WrittenLaws.{set_back}
use Rattle.text.specs.Listing.{under_number}
use Rattle.makrothel.specs.Numbers.{FirstSolving, NoneSolves, N, Said}
use Rattle.makrothel.specs.Solve.{Answered, answered, answer}
use Rattle.makrothel.specs.Demand2.{table_is, demand_2_solved, demand_2_none, demand_2_budget, demand_2_solved_exactly, demand_2_none_exactly}
use Rattle.owl.specs.Tree.{File}
use Rattle.owl.specs.Naming.{Names, names_of, all_known}
use Rattle.owl.specs.Meaning.{file_holds, Joinable}
use Rattle.owl.specs.Flattening as flat
use Rattle.owl.specs.FlatteningLaws.{flattening_to, flat_declared, file_solvable}
use Rattle.owl.specs.Written.{Says}
use Rattle.owl.specs.TextLaws.{accepted_means}
use Rattle.owl.specs.Mention.{undeclared}
use Rattle.owl.specs.MentionLaws.{names_said}
use Rattle.owl.specs.UndeclaredLaws.{undeclared_means}
use Rattle.owl_answer.specs.Owl.{Owl, owl, InBounds, TableAt, over, short, made, OwlAt, spoiled, unknown, said}
use Rattle.owl_answer.specs.OwlLaws.{in_fits}
use Rattle.spell.specs.Spelling.{enclosed, atom_texts, spelt_to, named_lines}
use Rattle.spell.specs.SpellingLaws.{lines_sets, spelt_equation}
use Rattle.join.specs.Join.{join_most, join_budget, join_table, join_output, numbers_line, Join, join_as, answered_join, solved_join, joined, file_text, join_text}
use Rattle.join.specs.JoinLaws.{joined_refused, joined_solved, join_short}

front_room : (n : ℕ) → longest_front n ≤ header_length + 1 + 2 * max_role_rows
unfolding longest_front
front_room n = go (has_role_rows n)
  where
    go : (b : Bool) → cond b (header_length + 1 + 2 * max_role_rows) header_length ≤ header_length + 1 + 2 * max_role_rows
    go true = omega arith
    go false = omega arith

pub table_room : (s : List ℕ) → T (is_readable (reading s)) → length s ≤ length join_table
table_room s ok = let l : length s ≤ longest_length (header_of s).version = longest s ok in let f = front_room (header_of s).version in omega arith

pub join_refused : (s : List ℕ) (a : Owl) → length s ≤ join_most → OwlAt s join_table a → (a.number ≡ 0 → ⊥) → join_text s ≡ numbers_line a.number a.count a.place
join_refused s a h x n =
    join_short s (join_as a.number a.count a.place [] join_output) h (joined_refused x n)
    ∙ ap (λ (l : List ℕ). numbers_line a.number a.count a.place ++ l) (other a.number _ n)
    ∙ append-nil (numbers_line a.number a.count a.place)
  where
    other : (k : ℕ) (l : List ℕ) → (k ≡ 0 → ⊥) → under_number k l ≡ []
    other zero l z = absurd (z refl)
    other (suc k) l z = refl

-- which number belongs to "solved" and to "none"
zero_solved : (a : Answer) → (handed a).number ≡ 0 → Said Solved a
zero_solved (Solved n) z = (n, refl)
zero_solved (EndsEarly p) z = absurd (let w : ⊥ = omega arith in w)
zero_solved WrongMark z = absurd (let w : ⊥ = omega arith in w)
zero_solved WrongVersion z = absurd (let w : ⊥ = omega arith in w)
zero_solved (OverBound p) z = absurd (let w : ⊥ = omega arith in w)
zero_solved (NotAllowed p) z = absurd (let w : ⊥ = omega arith in w)
zero_solved (BytesAfter p) z = absurd (let w : ⊥ = omega arith in w)
zero_solved (OutputShort p) z = absurd (let w : ⊥ = omega arith in w)
zero_solved (Nothing n) z = absurd (let w : ⊥ = omega arith in w)
zero_solved (Budget b) z = absurd (let w : ⊥ = omega arith in w)

eight_none : (a : Answer) → (handed a).number ≡ 8 → Said Nothing a
eight_none (Solved n) z = absurd (let w : ⊥ = omega arith in w)
eight_none (EndsEarly p) z = absurd (let w : ⊥ = omega arith in w)
eight_none WrongMark z = absurd (let w : ⊥ = omega arith in w)
eight_none WrongVersion z = absurd (let w : ⊥ = omega arith in w)
eight_none (OverBound p) z = absurd (let w : ⊥ = omega arith in w)
eight_none (NotAllowed p) z = absurd (let w : ⊥ = omega arith in w)
eight_none (BytesAfter p) z = absurd (let w : ⊥ = omega arith in w)
eight_none (OutputShort p) z = absurd (let w : ⊥ = omega arith in w)
eight_none (Nothing n) z = (n, refl)
eight_none (Budget b) z = absurd (let w : ⊥ = omega arith in w)

----------------------------------------------------------------------------------------------------
-- The table of a file

module _ (f : File) (known : T (all_known f)) (within : InBounds (flat.flat_table f)) where
  flat_known : T (declared (flat.flat_table f))
  flat_known = flat_declared (role_order (flat.flat_table f)) (role_order_refl (flat.flat_table f)) (role_order_trans (flat.flat_table f)) f known

  flat_table_lem : IsTable (bytes_of 1 (flat.flat_table f)) (flat.flat_table f)
  unfolding IsTable flat.flat_table flat.table_of
  flat_table_lem = (1, refl, in_fits (flat.flat_table f) refl flat_known within)

  flat_room : length (bytes_of 1 (flat.flat_table f)) ≤ length join_table
  flat_room =
      table_room (bytes_of 1 (flat.flat_table f)) (subst (λ (r : Reading). T (is_readable r)) (sym (table_read (bytes_of 1 (flat.flat_table f)) (flat.flat_table f) flat_table_lem).1) tt)

-- THERE IS ROOM FOR THE TABLE OF EVERY FILE
pub join_fits : {s : List ℕ} {a : Owl} (f : File) → Says s f → OwlAt s join_table a → a.number ≡ 17 → ⊥
join_fits {s} f h (spoiled x) z = x ((accepted_means s).1 (f, h))
join_fits f h (unknown e k) z = let w : ⊥ = omega arith in w
join_fits {s} f h (said g k e x) z = go g ((undeclared_means s g k).0 e) x z
  where
    go : (g : File) {a : Owl} → T (all_known g) → TableAt (flat.flat_table g) join_table a → a.number ≡ 17 → ⊥
    go g known (over x) z = let w : ⊥ = omega arith in w
    go g known (short x l) z = let r = flat_room g known x in let w : ⊥ = omega arith in w
    go g known (made x l) z = let w : ⊥ = omega arith in w

----------------------------------------------------------------------------------------------------
-- A file that is read: the text says it, its names are declared, and its table passes no bound

module _ (s : List ℕ) (f : File) (small : length s ≤ join_most) (says : Says s f) (known : undeclared s ≡ length s) (within : InBounds (flat.flat_table f)) where
  abbrev t : Table
  t = flat.flat_table f

  abbrev bytes : List ℕ
  bytes = bytes_of 1 t

  all_known_lem : T (all_known f)
  all_known_lem = (undeclared_means s f says).0 known

  is_table : IsTable bytes t
  is_table = flat_table_lem f all_known_lem within

  all_declared : T (declared t)
  all_declared = flat_known f all_known_lem within

  answer_is : OwlAt s join_table (owl 0 (length bytes) 0 (bytes ++ drop (length bytes) join_table))
  answer_is = said f says known (made within (flat_room f all_known_lem within))

  joined_is : joined s ≡ solved_join bytes
  joined_is = joined_solved answer_is refl ∙ ap solved_join (take-append_seam bytes (drop (length bytes) join_table))

  enough : set_bytes * t.variables ≤ length join_output
  unfolding counts_of
  enough = let v : t.variables ≤ max_variables = within.counts.few_variables in omega arith

  text_is : (a : Answered) → answer bytes join_budget join_output ≡ a → join_text s ≡ file_text s (answered_join bytes a)
  text_is a e = join_short s (answered_join bytes a) small (joined_is ∙ ap (answered_join bytes) e)

  few_atoms : atoms t ≤ max_atoms
  unfolding counts_of atoms
  few_atoms = within.counts.few_atoms

  -- A FILE THAT IS SOLVED
  pub join_found : N t ≤ join_budget → (a : Assignment) → FirstSolving t a → join_text s ≡ numbers_line 0 (N t) 0 ++ named_lines (names_of f.items) t (set_of a)
  unfolding FirstSolving IsAssignment set_of flat.flat_table flat.table_of
  join_found l a first =
      text_is (answered (Solved (N t)) (written a join_output)) (demand_2_solved bytes t is_table join_budget join_output enough l a first)
      ∙ ap₂ (λ (d : Names) (u : Table). numbers_line 0 (N t) 0 ++ named_lines d u (set_in (written a join_output))) (names_said s f says) (sym (table_is bytes t is_table))
      ∙ ap (λ (x : List ℕ). numbers_line 0 (N t) 0 ++ x)
      (lines_sets (names_of f.items) t all_declared (set_in (written a join_output)) (set_of a)
      (λ x h. set_back set_bytes a join_output x (let e : length a ≡ t.variables = first.0.0 in omega arith) (set_number x (let e : length a ≡ t.variables = first.0.0 in omega arith)))
      (length (names_of f.items).opens) (omega arith))
    where
      set_number : (x : ℕ) → x < length a → get_or a x 0 < set_numbers
      set_number x h =
          let few : 2 ^ atoms t ≤ 2 ^ max_atoms = pow_mono few_atoms in
          let one : get_or a x 0 < 2 ^ atoms t = ltb→lt (get_or a x 0) (2 ^ atoms t) (every_of_at (λ s. ltb s (2 ^ atoms t)) a x 0 first.0.1 h) in
          omega arith

  -- A FRESH VARIABLE IS SPELT OUT BY ITS OWN ATOMS, to the end: the sets that are written are acyclic
  pub join_spelt : (a : Assignment) → FirstSolving t a → (x : ℕ) → x < t.variables
      → spelt_to (names_of f.items) t (set_of a) t.variables x ≡ enclosed (atom_texts (names_of f.items) t (spelt_to (names_of f.items) t (set_of a) t.variables) (set_of a x) (atoms t))
  unfolding FirstSolving Solves
  join_spelt a first x h = spelt_equation (names_of f.items) t all_declared a ((acyclic_means t all_declared a).1 first.1.0) x h

  -- A FILE THAT CANNOT BE JOINED
  pub join_none : N t ≤ join_budget → NoneSolves t → join_text s ≡ numbers_line 8 (N t) 0
  join_none l none = text_is (answered (Nothing (N t)) join_output) (demand_2_none bytes t is_table join_budget join_output enough l none) ∙ append-nil (numbers_line 8 (N t) 0)

  pub join_budget_lem : join_budget < N t → join_text s ≡ numbers_line 9 join_budget 0
  join_budget_lem l = text_is (answered (Budget join_budget) join_output) (demand_2_budget bytes t is_table join_budget join_output enough l) ∙ append-nil (numbers_line 9 join_budget 0)

  -- UNDER 0 WHAT IS WRITTEN JOINS: the substitution that the sets induce makes all axioms hold
  pub join_holds : (joined s).number ≡ 0
      → (a : Assignment) × FirstSolving t a × T (file_holds (role_order t) f (induced t a)) × (join_text s ≡ numbers_line 0 (N t) 0 ++ named_lines (names_of f.items) t (set_of a))
  unfolding FirstSolving Solves
  join_holds z =
      let solved : Said Solved (answer bytes join_budget join_output).says = zero_solved (answer bytes join_budget join_output).says (sym (ap (λ (j : Join). j.number) joined_is) ∙ z) in
      let w = (demand_2_solved_exactly bytes t is_table join_budget join_output enough).0 solved in
      let a : Assignment = w.1.0 in
      let first : FirstSolving t a = w.1.1 in
      (a, first, flattening_to (role_order t) (role_order_refl t) (role_order_trans t) f (induced t a) first.1.1, join_found w.0 a first)

  -- UNDER 8 NOTHING JOINS: no descriptions whatever make all axioms hold
  pub join_cannot : (joined s).number ≡ 8 → (γ : Substitution) → T (file_holds (role_order t) f γ) → ⊥
  unfolding Joinable NoneSolves Solvable
  join_cannot z γ h =
      let none : Said Nothing (answer bytes join_budget join_output).says = eight_none (answer bytes join_budget join_output).says (sym (ap (λ (j : Join). j.number) joined_is) ∙ z) in
      let w = (demand_2_none_exactly bytes t is_table join_budget join_output enough).0 none in
      let a = (file_solvable (role_order t) (role_order_refl t) (role_order_trans t) f all_known_lem).0 (γ, h) in
      w.1 a.0 a.1 a.2
