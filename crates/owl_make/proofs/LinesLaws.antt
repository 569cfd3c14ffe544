-- Laws of the lines of a text's table.
--
--   over_more              == lines that pass a bound stay so
--   done_none              == nothing is passed at first
--   both_over, both_put    == the lines of one side below another, and the reverse
--   axiom_one, axiom_both  == the lines of one axiom
--   Axioms, axioms_start, axioms_turn, axioms_over, axioms_end == axiom by axiom
--   Fillers, fillers_start, fillers_turn, fillers_over, fillers_end == fresh variable by fresh variable
--   lines_all_lem, lines_over, lines_made == all lines of the table
use Rattle.std.specs.Prelude.{Option, Some, None}
use mathlib.Core.Path.{◌≡◌, refl, sym, ap, ap₂, subst, ◌∙◌}
use mathlib.Core.Bool.{true, false}
use mathlib.Core.List.{List, [], ◌∷◌, ◌++◌, append_assoc, append-nil, map, flat_map}
use Prim.Native.Nat.{ℕ, ◌+◌, ◌≤◌}
use native.Mathlib.Omega.{arith}
use native.Mathlib.Decide.{ℕ_discrete}
use lib.Dec.{T}
use lib.ListN.{length}
use Rattle.el.specs.Test.{every_of}
use Rattle.el.specs.Table.{Entry, variable, Row, Line}
use Rattle.text.specs.Append.{Appended}
use Rattle.text.specs.AppendLaws.{appended_none}
use Rattle.owl.specs.Tree.{Class, Axiom, sub_class_of, equivalent_classes, Item, File, axioms_of}
use Rattle.owl.specs.Naming.{Names, all_known}
use Rattle.owl.specs.Written.{Says}
use Rattle.owl.specs.Mention.{names_in}
use Rattle.owl.specs.MentionLaws.{names_said}
use Rattle.owl.specs.Flattening.{concept_of, fresh, conjuncts, lines_of, both_ways, Statement, statement_of, statements_of, lines_in, equations_in, each_of, lines_all, table_of, flat_table}
use Rattle.owl.specs.Restriction.{rows_of_file}
use Rattle.owl.specs.Conjunct.{entry_for}
use Rattle.owl.specs.Equation.{Owned, owned, owned_by, equation_of, equations_for}
use Rattle.owl.specs.EquationLaws.{equations_said}
use Rattle.owl_class.specs.Ends.{rest_tokens}
use Rattle.owl_class.specs.Conjuncts.{conjuncts_at, Reached}
use Rattle.owl_axiom.specs.Passing.{SideAt}
use Rattle.owl_axiom.specs.Entries.{entries_at}
use Rattle.owl_axiom.specs.EntriesLaws.{reached_entries, side_entries}
use Rattle.owl_axiom.specs.declared.AxiomKind.{AxiomKind}
use Rattle.owl_axiom.specs.declared.AxiomKind.TheVariants.{SubClassOf, EquivalentClasses}
use Rattle.owl_axiom.specs.Axioms.{axiom_number, ItemsAt, FirstItem, fresh_in, NextAxiom}
use Rattle.owl_axiom.specs.Fillers.{NextFiller}
use Rattle.owl_line.specs.declared.parts.Side.{Side}
use Rattle.owl_line.specs.declared.parts.Side.TheVariants as side
use Rattle.owl_line.specs.declared.parts.Passed.{Passed}
use Rattle.owl_line.specs.Sides.{Few, Done, Grouped}
use Rattle.owl_line.proofs.LineLaws.{few_first}
use Rattle.owl_make.specs.Lines.{opens_in, statements_in, axiom_lines, equation_lines, BothDone, AxiomDone, AxiomsDone, FillersDone, LinesDone}

pub done_none : (b : List ℕ) (x : Passed) → x.lines ≡ 0 → x.end ≡ 0 → Done b (Some x) b []
unfolding every_of flat_map
done_none b x n e = (record { few = omega arith; short = tt }, n, (λ t. subst (λ (r : ℕ). Appended b 0 [] b r) (sym e) (appended_none b 0)))

-- lines that are too many or too long stay so
over_more : (l m : List Line) → (Few l → ⊥) → Few (l ++ m) → ⊥
over_more l m h x = h (few_first l m x)

----------------------------------------------------------------------------------------------------
-- One axiom, one fresh variable

module _ (s : List ℕ) (opens : ℕ) (left right : Side) (x : Passed) (a : List ℕ) where
  pub both_over : (a' : List ℕ) → Grouped s opens left right (Some x) a None a' → BothDone s opens left right x a None a'
  unfolding BothDone Grouped
  both_over a' g b lines ls rs h k d = subst (Done b None a') (append_assoc lines (lines_of ls rs) (lines_of rs ls)) (over_more (lines ++ lines_of ls rs) (lines_of rs ls) (g b lines ls rs h k d))

  pub both_put : (y : Passed) (a' : List ℕ) (r : Option Passed) (a'' : List ℕ) → Grouped s opens left right (Some x) a (Some y) a' → Grouped s opens right left (Some y) a' r a'' → BothDone s opens left right x a r a''
  unfolding BothDone Grouped
  both_put y a' r a'' g i b lines ls rs h k d = subst (Done b r a'') (append_assoc lines (lines_of ls rs) (lines_of rs ls)) (i b (lines ++ lines_of ls rs) rs ls k h (g b lines ls rs h k d))

module _ (s : List ℕ) (opens left right : ℕ) (x : Passed) (a : List ℕ) (r : Option Passed) (a' : List ℕ) where
  pub axiom_one : Grouped s opens (side.Class left) (side.Class right) (Some x) a r a' → AxiomDone s opens 9 left right x a r a'
  unfolding AxiomDone Grouped
  axiom_one g b lines ls rs h k d = ((λ z. g b lines ls rs h k d), (λ z. absurd (z refl)))

  pub axiom_both : BothDone s opens (side.Class left) (side.Class right) x a r a' → AxiomDone s opens 10 left right x a r a'
  unfolding AxiomDone BothDone
  axiom_both g b lines ls rs h k d = ((λ z. absurd (let e : ⊥ = omega arith in e)), (λ z. g b lines ls rs h k d))

----------------------------------------------------------------------------------------------------
-- Axiom by axiom

unfoldable pub Axioms : List ℕ → List ℕ → ℕ → Option Passed → List ℕ → Type 0
Axioms s b at r a =
    (f : File) → Says s f → T (all_known f) →
    (q : ℕ) × (n : ℕ) × (items : List Item) × (lines : List Line) × ItemsAt s at q n items
    × (axiom_lines s f ≡ lines ++ each_of (lines_in (rows_of_file f)) (opens_in s + n) (statements_in s items)) × Done b r a lines

pub axioms_start : (s b : List ℕ) (at : ℕ) (x : Passed) → FirstItem s at → x.lines ≡ 0 → x.end ≡ 0 → Axioms s b at (Some x) b
unfolding Axioms FirstItem axiom_lines
axioms_start s b at x first n e f says known =
    (0, 0, f.items, [], first f says, ap (λ (v : ℕ). each_of (lines_in (rows_of_file f)) v (statements_in s f.items)) (let z : opens_in s ≡ opens_in s + 0 = omega arith in z), done_none b x n e)

-- the entries of a side, numbered by the names of the text
side_at : (s : List ℕ) (f : File) → Says s f → T (all_known f) → (at n : ℕ) (C : Class) → SideAt s at C n → entries_at s at n ≡ conjuncts (rows_of_file f) (opens_in s + n) (concept_of (names_in s) C)
side_at s f e known at n C c =
    side_entries s f e known at n C c ∙ ap (λ (d : Names). conjuncts (rows_of_file f) (length d.opens + n) (concept_of d C)) (sym (names_said s f e))

-- the axioms behind one
behind_lines : (s : List ℕ) (f : File) (n : ℕ) (A : Statement) (As : List Statement) (lines more : List Line) (all : List Line) →
    all ≡ lines ++ each_of (lines_in (rows_of_file f)) (opens_in s + n) (A ∷ As) → lines_in (rows_of_file f) (opens_in s + n) A ≡ more →
    all ≡ (lines ++ more) ++ each_of (lines_in (rows_of_file f)) (opens_in s + (n + fresh A.less + fresh A.greater)) As
behind_lines s f n A As lines more all e d =
    let v : ℕ = opens_in s in
    let g : ℕ → Statement → List Line = lines_in (rows_of_file f) in
    e
    ∙ ap₂ (λ (l : List Line) (k : ℕ). lines ++ (l ++ each_of g k As)) d (let z : v + n + (fresh A.less + fresh A.greater) ≡ v + (n + fresh A.less + fresh A.greater) = omega arith in z)
    ∙ sym (append_assoc lines more (each_of g (v + (n + fresh A.less + fresh A.greater)) As))

-- they pass a bound
pub axioms_over : (s b : List ℕ) (at : ℕ) (a : List ℕ) → Axioms s b at None a → AxiomsDone s b None a
unfolding Axioms AxiomsDone
axioms_over s b at a c f e known =
    let w = c f e known in
    subst (Done b None a) (sym w.5) (over_more w.3 _ w.6)

-- a listed axiom has a number
pub some_axiom : (k : AxiomKind) → axiom_number k ≡ 0 → ⊥
some_axiom SubClassOf e = omega arith
some_axiom EquivalentClasses e = omega arith

module _ (s b : List ℕ) (at : ℕ) (r : Option Passed) (a : List ℕ) (c : Axioms s b at r a) where
  pub axioms_end : (left right next : ℕ) → NextAxiom s at 0 left right next → AxiomsDone s b r a
  unfolding Axioms NextAxiom AxiomsDone statements_of
  axioms_end left right next found f e known =
      let w = c f e known in
      let items : List Item = w.2 in
      let none : axioms_of items ≡ [] = (found w.0 w.1 items w.4).0 refl in
      subst (Done b r a)
      (sym (w.5 ∙ ap (λ (As : List Axiom). w.3 ++ each_of (lines_in (rows_of_file f)) (opens_in s + w.1) (statements_of (names_in s) As)) none ∙ append-nil w.3))
      w.6

module _ (s : List ℕ) (opens : ℕ) (b : List ℕ) (at : ℕ) (x : Passed) (a : List ℕ) (c : Axioms s b at (Some x) a) (kind left right next : ℕ) (found : NextAxiom s at kind left right next) where
  -- the lines of the axiom, and the axioms behind it
  pub axioms_turn : (r : Option Passed) (a' : List ℕ) → (kind ≡ 0 → ⊥) → AxiomDone s opens kind left right x a r a' → Axioms s b next r a'
  unfolding Axioms NextAxiom AxiomDone statements_of
  axioms_turn r a' z done f e known =
      let w = c f e known in
      let n : ℕ = w.1 in
      let items : List Item = w.2 in
      let lines : List Line = w.3 in
      let all = found w.0 n items w.4 in
      go w.0 n items lines w.4 w.5 w.6 (ℕ_discrete kind 9)
    where
      rows : List Row
      rows = rows_of_file f

      go : (q n : ℕ) (items : List Item) (lines : List Line) → ItemsAt s at q n items → axiom_lines s f ≡ lines ++ each_of (lines_in rows) (opens_in s + n) (statements_in s items) → Done b (Some x) a lines → Dec (kind ≡ 9) →
          (q : ℕ) × (n : ℕ) × (items : List Item) × (lines : List Line) × ItemsAt s next q n items × (axiom_lines s f ≡ lines ++ each_of (lines_in rows) (opens_in s + n) (statements_in s items)) × Done b r a' lines
      go q n items lines here said passed (yes k) =
          let u = (found q n items here).1 k in
          let C : Class = u.less in
          let D : Class = u.greater in
          let ls : List Entry = entries_at s left n in
          let rs : List Entry = entries_at s right (n + fresh_in s C) in
          let l : ls ≡ conjuncts rows (opens_in s + n) (concept_of (names_in s) C) = side_at s f e known left n C u.sides.less in
          let rr : rs ≡ conjuncts rows (opens_in s + n + fresh_in s C) (concept_of (names_in s) D) =
          side_at s f e known right (n + fresh_in s C) D u.sides.greater ∙ ap (λ (k : ℕ). conjuncts rows k (concept_of (names_in s) D)) (let y : opens_in s + (n + fresh_in s C) ≡ opens_in s + n + fresh_in s C = omega arith in y) in (
            3,
            n + fresh_in s C + fresh_in s D,
            u.behind,
            lines ++ lines_of ls rs,
            u.sides.rest,
            behind_lines s f n (statement_of (names_in s) (sub_class_of C D)) (statements_in s u.behind) lines (lines_of ls rs) (axiom_lines s f)
                (said ∙ ap (λ (As : List Axiom). lines ++ each_of (lines_in rows) (opens_in s + n) (statements_of (names_in s) As)) u.axioms) (sym (ap₂ lines_of l rr)),
            (done b lines ls rs (n, u.sides.less.stands.reached, refl) (n + fresh_in s C, u.sides.greater.stands.reached, refl) passed).0 k,
          )
      go q n items lines here said passed (no k) =
          let u = (found q n items here).2 z k in
          let C : Class = u.less in
          let D : Class = u.greater in
          let ls : List Entry = entries_at s left n in
          let rs : List Entry = entries_at s right (n + fresh_in s C) in
          let l : ls ≡ conjuncts rows (opens_in s + n) (concept_of (names_in s) C) = side_at s f e known left n C u.sides.less in
          let rr : rs ≡ conjuncts rows (opens_in s + n + fresh_in s C) (concept_of (names_in s) D) =
          side_at s f e known right (n + fresh_in s C) D u.sides.greater ∙ ap (λ (k : ℕ). conjuncts rows k (concept_of (names_in s) D)) (let y : opens_in s + (n + fresh_in s C) ≡ opens_in s + n + fresh_in s C = omega arith in y) in (
            3,
            n + fresh_in s C + fresh_in s D,
            u.behind,
            lines ++ both_ways ls rs,
            u.sides.rest,
            behind_lines s f n (statement_of (names_in s) (equivalent_classes C D)) (statements_in s u.behind) lines (both_ways ls rs) (axiom_lines s f)
                (said ∙ ap (λ (As : List Axiom). lines ++ each_of (lines_in rows) (opens_in s + n) (statements_of (names_in s) As)) u.axioms) (sym (ap₂ both_ways l rr)),
            (done b lines ls rs (n, u.sides.less.stands.reached, refl) (n + fresh_in s C, u.sides.greater.stands.reached, refl) passed).1 k,
          )

----------------------------------------------------------------------------------------------------
-- Fresh variable by fresh variable

-- `lines` are those of the fresh variables that were passed, and the others stand behind byte `at`
unfoldable pub Fillers : List ℕ → Passed → List ℕ → ℕ → ℕ → ℕ → Option Passed → List ℕ → Type 0
Fillers s x₀ a₀ at does n r a =
    (f : File) → Says s f → T (all_known f) → (b : List ℕ) (before : List Line) → Done b (Some x₀) a₀ before →
    (lines : List Line) × Reached s at does n × (equation_lines s f ≡ lines ++ equations_for (names_in s) (opens_in s) (rows_of_file f) (owned_by does n (rest_tokens s at))) × Done b r a (before ++ lines)

pub fillers_start : (s : List ℕ) (x : Passed) (a : List ℕ) (at : ℕ) → FirstItem s at → Fillers s x a at 0 0 (Some x) a
unfolding Fillers FirstItem equation_lines
fillers_start s x a at first f e known b before d =
    let here = first f e in
    let v : ℕ = opens_in s in (
      [],
      here.reached,
      sym (ap (λ (ts : List _). equations_for (names_in s) v (rows_of_file f) (owned_by 0 0 ts)) here.left
          ∙ equations_said (names_in s) v (rows_of_file f) f.items 0 0
          ∙ ap (λ (k : ℕ). each_of (equations_in (rows_of_file f)) k (statements_in s f.items)) (let z : v + 0 ≡ v = omega arith in z)),
      subst (Done b (Some x) a) (sym (append-nil before)) d,
    )

-- they pass a bound
pub fillers_over : (s : List ℕ) (x : Passed) (a₀ : List ℕ) (at does n : ℕ) (a : List ℕ) → Fillers s x a₀ at does n None a → FillersDone s x a₀ None a
unfolding Fillers FillersDone
fillers_over s x a₀ at does n a c f e known b before d =
    let w = c f e known b before d in
    subst (Done b None a) (append_assoc before w.0 _ ∙ ap (λ (l : List Line). before ++ l) (sym w.2)) (over_more (before ++ w.0) _ w.3)

module _ (s : List ℕ) (x₀ : Passed) (a₀ : List ℕ) (at does n : ℕ) where
  pub fillers_end : (r : Option Passed) (a : List ℕ) (next : ℕ) → Fillers s x₀ a₀ at does n r a → NextFiller s at does false next → FillersDone s x₀ a₀ r a
  unfolding Fillers NextFiller FillersDone
  fillers_end r a next c w f e known b before d =
      let x = c f e known b before d in
      subst (λ (l : List Line). Done b r a (before ++ l))
      (sym (x.2 ∙ ap (λ (l : List Owned). x.0 ++ equations_for (names_in s) (opens_in s) (rows_of_file f) l) ((w n x.1).0 refl) ∙ append-nil x.0)) x.3

  pub fillers_turn : (opens : ℕ) (x : Passed) (a : List ℕ) (next : ℕ) (r : Option Passed) (a' : List ℕ) → opens ≡ opens_in s → Fillers s x₀ a₀ at does n (Some x) a → NextFiller s at does true next → next ≤ length s →
      BothDone s opens (side.Fresh n) (side.Class next) x a r a' → Fillers s x₀ a₀ next 3 (n + 1) r a'
  unfolding Fillers NextFiller BothDone
  fillers_turn opens x' a next r a' o c w h done f e known b before d =
      let x = c f e known b before d in
      let y = (w n x.1).1 refl in
      let v : ℕ = opens_in s in
      let rows : List Row = rows_of_file f in
      let rs : List Entry = entries_at s next (n + 1) in
      let entries : rs ≡ map (entry_for (names_in s) v rows) (conjuncts_at s next (n + 1)) =
      reached_entries s f e known next (n + 1) h y.1 ∙ ap (λ (g : Names). map (entry_for g (length g.opens) rows) (conjuncts_at s next (n + 1))) (sym (names_said s f e)) in
      let one : List Line = both_ways (variable (opens + n) ∷ []) rs in
      let same : equation_of (names_in s) v rows (owned n (conjuncts_at s next (n + 1))) ≡ one = ap₂ (λ (k : ℕ) (l : List Entry). both_ways (variable (k + n) ∷ []) l) (sym o) (sym entries) in
      let rest : List Line = equations_for (names_in s) v rows (owned_by 3 (n + 1) (rest_tokens s next)) in (
        x.0 ++ one,
        y.1,
        x.2 ∙ ap (λ (l : List Owned). x.0 ++ equations_for (names_in s) v rows l) y.0 ∙ ap (λ (l : List Line). x.0 ++ (l ++ rest)) same ∙ sym (append_assoc x.0 one rest),
        subst (Done b r a') (append_assoc before x.0 one) (done b (before ++ x.0) (variable (opens + n) ∷ []) rs refl (n + 1, y.1, refl) x.3),
      )

----------------------------------------------------------------------------------------------------
-- All of them

table_lines : (s : List ℕ) (f : File) → Says s f → (flat_table f).lines ≡ axiom_lines s f ++ equation_lines s f
unfolding flat_table table_of lines_all axiom_lines equation_lines
table_lines s f e =
    ap (λ (d : Names). each_of (lines_in (rows_of_file f)) (length d.opens) (statements_of d (axioms_of f.items)) ++ each_of (equations_in (rows_of_file f)) (length d.opens) (statements_of d (axioms_of f.items))) (sym (names_said s f e))

-- the lines of the axioms, then those of the fresh variables, behind whatever was passed or told before
pub lines_all_lem : (s b : List ℕ) (r : Option Passed) (a : List ℕ) (r' : Option Passed) (a' : List ℕ) → AxiomsDone s b r a →
    ((f : File) → Says s f → T (all_known f) → (b : List ℕ) (lines : List Line) → Done b r a lines → Done b r' a' (lines ++ equation_lines s f)) → LinesDone s b r' a'
unfolding AxiomsDone LinesDone
lines_all_lem s b r a r' a' x y f e known = subst (Done b r' a') (sym (table_lines s f e)) (y f e known b (axiom_lines s f) (x f e known))

module _ (s b : List ℕ) where
  pub lines_over : (a : List ℕ) → AxiomsDone s b None a → LinesDone s b None a
  lines_over a x = lines_all_lem s b None a None a x (λ f e known b lines d. over_more lines (equation_lines s f) d)

  pub lines_made : (x : Passed) (a : List ℕ) (r : Option Passed) (a' : List ℕ) → AxiomsDone s b (Some x) a → FillersDone s x a r a' → LinesDone s b r a'
  unfolding FillersDone
  lines_made x a r a' c d = lines_all_lem s b (Some x) a r a' c d
