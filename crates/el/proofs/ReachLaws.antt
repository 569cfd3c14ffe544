-- Dependence over one or more steps: the tests say what the statements say.
--
--   reaches_join        == two chains make one
--   path_step           == one step is a path, whatever its inner variables may be
--   path_join           == two paths meet in a variable that may be an inner one
--   path_reaches        == a path is a chain
--   reaches_first       == the first step of a chain
--   Inner d v           == what a step leads to, and another leads on from, is below v
--   reaches_path        == a chain is a path, where inner variables are below v
--   path_same           == steps that agree give paths that agree
--   depends_declared    == what a variable depends on is declared
--   reaches_declared    == so is what it reaches
--   acyclic_says        == the test `acyclic` says so where inner variables are declared
--   reaches_means       == the test `reaches` says: over one or more steps
--   depends_reaches     == a direct dependence is one over one or more steps
--   reaches_trans       == what is reached from what is reached
--   acyclic_means       == the test `acyclic` says: no variable depends on itself over one or more steps
--   depends_same, reaches_same, acyclic_same    == assignments that give the same sets
use Rattle.std.specs.Prelude.{◌≡◌, Bool, ◌&&◌, ◌||◌, ◌⊎◌, ◌↔◌, length}
use Rattle.std.proofs.Math.Path.{ap, subst}
use Rattle.std.proofs.Common.{ap₂, arith, not-suc-le-zero, eqb→eq, ltb→lt}
use Rattle.std.proofs.Math.Bool.{not}
use Rattle.std.proofs.Math.Logic.{inl, inr}
use Prim.Native.Nat.{ℕ, zero, suc, ◌+◌, ◌<◌}
use Rattle.std.proofs.Math.Decide.{ℕ_discrete}
use Rattle.std.proofs.Math.Dec.{T, T_not, not_T}
use Rattle.el.specs.Test.{any_below, bit}
use Rattle.el.specs.TestLaws.{or_left, or_right, or_cases, and_make, and_left, and_right, any_below_found, all_below_all, all_below_at, all_below_same}
use Rattle.el.specs.Table.{Filler, top_f, constant_f, variable_f, Table, row_at, filler_declared, declared}
use Rattle.el.specs.TableLaws.{row_declared_lem}
use Rattle.el.specs.Assignment.{Assignment, set_of, is_variable, depends, Reaches, once, then, Acyclic, path, reaches, acyclic}

----------------------------------------------------------------------------------------------------
-- Chains and paths of any steps

abbrev pub Inner : (ℕ → ℕ → Bool) → ℕ → Type 0
Inner d v = (x y z : ℕ) → T (d x y) → T (d y z) → y < v

module _ (d : ℕ → ℕ → Bool) where
  pub reaches_join : {x y z : ℕ} → Reaches d x y → Reaches d y z → Reaches d x z
  reaches_join (once t) s = then t s
  reaches_join (then t r) s = then t (reaches_join r s)

  pub path_step : (j x y : ℕ) → T (d x y) → T (path d j x y)
  unfolding path
  path_step zero x y t = t
  path_step (suc j) x y t = or_left (path d j x y) (path d j x j && path d j j y) (path_step j x y t)

  path_keeps : (j x y : ℕ) → T (path d j x y) → T (path d (suc j) x y)
  unfolding path
  path_keeps j x y t = or_left (path d j x y) (path d j x j && path d j j y) t

  path_through : (j x y : ℕ) → T (path d j x j) → T (path d j j y) → T (path d (suc j) x y)
  unfolding path
  path_through j x y s t = or_right (path d j x y) (path d j x j && path d j j y) (and_make (path d j x j) (path d j j y) s t)

  path_split : (j x y : ℕ) → T (path d (suc j) x y) → T (path d j x y) ⊎ (T (path d j x j) × T (path d j j y))
  unfolding path
  path_split j x y t = go (or_cases (path d j x y) (path d j x j && path d j j y) t)
    where
      go : T (path d j x y) ⊎ T (path d j x j && path d j j y) → T (path d j x y) ⊎ (T (path d j x j) × T (path d j j y))
      go (inl s) = inl s
      go (inr s) = inr (and_left (path d j x j) (path d j j y) s, and_right (path d j x j) (path d j j y) s)

  path_into : (j x : ℕ) → T (path d (suc j) x j) → T (path d j x j)
  path_into j x t = elim (path_split j x j t) [ inl s ↦ s | inr s ↦ s.0 ]

  path_out : (j y : ℕ) → T (path d (suc j) j y) → T (path d j j y)
  path_out j y t = elim (path_split j j y t) [ inl s ↦ s | inr s ↦ s.1 ]

  pub path_join : (j x z y : ℕ) → z < j → T (path d j x z) → T (path d j z y) → T (path d j x y)
  path_join zero x z y h s t = absurd (not-suc-le-zero h)
  path_join (suc j) x z y h s t = go (ℕ_discrete z j) (λ x z y. path_join j x z y)
    where
      low : z < j → ((x z y : ℕ) → z < j → T (path d j x z) → T (path d j z y) → T (path d j x y)) →
          T (path d j x z) ⊎ (T (path d j x j) × T (path d j j z)) → T (path d j z y) ⊎ (T (path d j z j) × T (path d j j y)) → T (path d (suc j) x y)
      low k rest (inl a) (inl b) = path_keeps j x y (rest x z y k a b)
      low k rest (inl a) (inr b) = path_through j x y (rest x z j k a b.0) b.1
      low k rest (inr a) (inl b) = path_through j x y a.0 (rest j z y k a.1 b)
      low k rest (inr a) (inr b) = path_through j x y a.0 b.1

      go : Dec (z ≡ j) → ((x z y : ℕ) → z < j → T (path d j x z) → T (path d j z y) → T (path d j x y)) → T (path d (suc j) x y)
      go (yes e) rest =
          path_through j x y
          (path_into j x (subst (λ (k : ℕ). T (path d (suc j) x k)) e s))
          (path_out j y (subst (λ (k : ℕ). T (path d (suc j) k y)) e t))
      go (no e) rest = low (omega arith) rest (path_split j x z s) (path_split j z y t)

  pub path_reaches : (j x y : ℕ) → T (path d j x y) → Reaches d x y
  unfolding path
  path_reaches zero x y t = once t
  path_reaches (suc j) x y t = go (path_split j x y t) (λ x y. path_reaches j x y)
    where
      go : T (path d j x y) ⊎ (T (path d j x j) × T (path d j j y)) → ((x y : ℕ) → T (path d j x y) → Reaches d x y) → Reaches d x y
      go (inl s) rest = rest x y s
      go (inr s) rest = reaches_join (rest x j s.0) (rest j y s.1)

  pub reaches_first : {x y : ℕ} → Reaches d x y → (z : ℕ) × T (d x z)
  reaches_first {x} {y} (once t) = (y, t)
  reaches_first (then {y = z} t r) = (z, t)

  pub reaches_path : (v : ℕ) → Inner d v → {x y : ℕ} → Reaches d x y → T (path d v x y)
  reaches_path v inner {x} {y} (once t) = path_step v x y t
  reaches_path v inner {x} {y} (then {y = z} t r) =
      let f = reaches_first r in path_join v x z y (inner x z f.0 t f.1) (path_step v x z t) (reaches_path v inner r)

  -- a number that leads to itself is an inner one
  reaches_inner : (v : ℕ) → Inner d v → {x : ℕ} → Reaches d x x → x < v
  reaches_inner v inner {x} (once t) = inner x x x t t
  reaches_inner v inner {x} (then {y = z} t r) = go r
    where
      go : {y : ℕ} → Reaches d y x → x < v
      go {y} (once u) = inner y x z u t
      go (then u s) = go s

pub path_same : (d e : ℕ → ℕ → Bool) → ((x y : ℕ) → d x y ≡ e x y) → (j x y : ℕ) → path d j x y ≡ path e j x y
unfolding path
path_same d e f zero x y = f x y
path_same d e f (suc j) x y = ap₂ ◌||◌ (path_same d e f j x y) (ap₂ ◌&&◌ (path_same d e f j x j) (path_same d e f j j y))

----------------------------------------------------------------------------------------------------
-- Dependence where inner variables are declared

module _ (t : Table) (a : Assignment) (inner : Inner (depends t a) t.variables) where
  reaches_says : (x y : ℕ) → T (reaches t a x y) ↔ Reaches (depends t a) x y
  unfolding reaches
  reaches_says x y = (path_reaches (depends t a) t.variables x y, λ r. reaches_path (depends t a) t.variables inner r)

  pub acyclic_says : T (acyclic t a) ↔ Acyclic t a
  unfolding acyclic Acyclic
  acyclic_says = (
    (λ u x r. T_not (reaches t a x x) (all_below_at t.variables x (λ y. not (reaches t a y y)) u (reaches_inner (depends t a) t.variables inner r)) ((reaches_says x x).1 r)),
    λ f. all_below_all t.variables (λ y. not (reaches t a y y)) (λ x h. not_T (reaches t a x x) (λ u. f x ((reaches_says x x).0 u))),
  )

----------------------------------------------------------------------------------------------------
-- Dependence in a table whose names are declared

module _ (t : Table) (known : T (declared t)) (a : Assignment) where
  pub depends_declared : (x y : ℕ) → T (depends t a x y) → y < t.variables
  unfolding depends
  depends_declared x y u =
      let r = any_below_found (length t.rows) (λ k. bit (t.constants + k) (set_of a x) && is_variable y (row_at t.rows k).filler) u in
      let row = row_at t.rows r.0 in
      go row.filler (row_declared_lem t known r.0)
      (and_right (bit (t.constants + r.0) (set_of a x)) (is_variable y row.filler) r.2)
    where
      go : (f : Filler) → T (filler_declared t f) → T (is_variable y f) → y < t.variables
      go top_f ok is = absurd is
      go (constant_f k) ok is = absurd is
      go (variable_f k) ok is = subst (λ (z : ℕ). z < t.variables) (eqb→eq k y is) (ltb→lt k t.variables ok)

  pub reaches_declared : {x y : ℕ} → Reaches (depends t a) x y → y < t.variables
  reaches_declared {x} {y} (once u) = depends_declared x y u
  reaches_declared (then u r) = reaches_declared r

  pub reaches_means : (x y : ℕ) → T (reaches t a x y) ↔ Reaches (depends t a) x y
  reaches_means = reaches_says t a (λ x y z u w. depends_declared x y u)

  pub depends_reaches : (x y : ℕ) → T (depends t a x y) → T (reaches t a x y)
  depends_reaches x y u = (reaches_means x y).1 (once u)

  pub reaches_trans : (x y z : ℕ) → T (reaches t a x y) → T (reaches t a y z) → T (reaches t a x z)
  reaches_trans x y z u w = (reaches_means x z).1 (reaches_join (depends t a) ((reaches_means x y).0 u) ((reaches_means y z).0 w))

  pub acyclic_means : T (acyclic t a) ↔ Acyclic t a
  acyclic_means = acyclic_says t a (λ x y z u w. depends_declared x y u)

----------------------------------------------------------------------------------------------------
-- Assignments that give the same sets

module _ (t : Table) (a b : Assignment) where
  pub depends_same : (x y : ℕ) → set_of a x ≡ set_of b x → depends t a x y ≡ depends t b x y
  unfolding depends
  depends_same x y e =
      ap (λ (s : ℕ). any_below (length t.rows) (λ k. bit (t.constants + k) s && is_variable y (row_at t.rows k).filler)) e

  pub reaches_same : ((x : ℕ) → set_of a x ≡ set_of b x) → (x y : ℕ) → reaches t a x y ≡ reaches t b x y
  unfolding reaches
  reaches_same f x y = path_same (depends t a) (depends t b) (λ x y. depends_same x y (f x)) t.variables x y

  pub acyclic_same : ((x : ℕ) → set_of a x ≡ set_of b x) → acyclic t a ≡ acyclic t b
  unfolding acyclic
  acyclic_same f = all_below_same t.variables (λ x. not (reaches t a x x)) (λ x. not (reaches t b x x)) (λ x h. ap not (reaches_same f x x))
