-- Laws of the small functions: what stands in the table, and which tokens open a level.
--
--   next_over, next_in       == the table of moves
--   opened_none, opened_at   == a token opens a level, or does not
use Rattle.std.proofs.Common.{◌≡◌, sym, ap, ap₂, ◌∙◌, Bool, true, false, ◌&&◌, ◌||◌, inl, inr, List, [], ℕ, ◌≤◌, ◌<◌, arith, T, eqb, eqb→eq, ltb, ltb→lt, get_or}
use Rattle.std.proofs.Math.ListN.{get_or-eq_default}
use Rattle.el.specs.Test.{all_below}
use Rattle.el.specs.TestLaws.{and_left, and_right, or_cases, all_below_at}
use Rattle.owl_text.specs.Levels.{column, moves, next, opener, inner, opened}

pub next_over : (v q k : ℕ) → v ≡ q → 28 ≤ v → 90 ≡ next q k
unfolding next moves
next_over v q k e h = sym (ap (λ (row : List ℕ). get_or row (column k) 90) (get_or-eq_default moves [] {n = q} (omega arith)))

abbrev entry : ℕ → ℕ → ℕ
entry q w = get_or (get_or moves q []) w 0

-- within the table any default will do, and an entry is a state or one of two refusals
entries : T (all_below 28 (λ q. all_below 14 (λ w. eqb (entry q w) (get_or (get_or moves q []) w 90) && (ltb (entry q w) 80 || (eqb (entry q w) 90 || eqb (entry q w) 91)))))
unfolding moves all_below
entries = tt

pub next_in : (v w q k : ℕ) → v ≡ q → w ≡ column k → q ≤ 27 → w < 14 → (entry v w ≡ next q k) × ((entry v w ≡ 90 → ⊥) → (entry v w ≡ 91 → ⊥) → entry v w < 80)
unfolding next
next_in v w q k d e h l =
    let x : ℕ = entry v w in
    let y : ℕ = get_or (get_or moves v []) w 90 in
    let both : Bool = ltb x 80 || (eqb x 90 || eqb x 91) in
    let t =
    all_below_at 14 w (λ w. eqb (entry v w) (get_or (get_or moves v []) w 90) && (ltb (entry v w) 80 || (eqb (entry v w) 90 || eqb (entry v w) 91)))
    (all_below_at 28 v (λ v. all_below 14 (λ w. eqb (entry v w) (get_or (get_or moves v []) w 90) && (ltb (entry v w) 80 || (eqb (entry v w) 90 || eqb (entry v w) 91)))) entries (let z : v < 28 = omega arith in z)) l
    in (
      eqb→eq x y (and_left (eqb x y) both t) ∙ ap₂ (λ (v w : ℕ). get_or (get_or moves v []) w 90) d e,
      λ a b. elim (or_cases (ltb x 80) (eqb x 90 || eqb x 91) (and_right (eqb x y) both t)) [
        | inl i ↦ ltb→lt x 80 i
        | inr i ↦ elim (or_cases (eqb x 90) (eqb x 91) i) [ inl j ↦ absurd (a (eqb→eq x 90 j)) | inr j ↦ absurd (b (eqb→eq x 91 j)) ]
      ],
    )

pub opened_none : (k mark : ℕ) → opener k ≡ false → opened k mark ≡ mark
unfolding opened
opened_none k mark o = ap (λ (t : Bool). elim t [ true ↦ inner k | false ↦ mark ]) o

pub opened_at : (k mark : ℕ) → opener k ≡ true → opened k mark ≡ inner k
unfolding opened
opened_at k mark o = ap (λ (t : Bool). elim t [ true ↦ inner k | false ↦ mark ]) o
