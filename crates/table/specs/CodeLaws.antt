-- Laws of codes: the kind of a code by its range, and the code of a kind.
--
--   kind_..   == the kind of a code in each range
--   code_kind, kind_code == a code is the code of its kind, and a kind in range is the kind of its code
--   within_some, within_is == a number that was read is declared, and a declared one is read
--   filler_writes, entry_writes == the view of what a code writes
--   role_code, filler_code_lem, entry_code_lem == a role, a filler, an entry that a code writes has that code, and is declared
--   role_is, filler_is, entry_is       == a declared one is written by its code
--   role_none                          == a role that is not declared
use Rattle.std.specs.Prelude.{◌≡◌, refl, Bool, true, false, cond, ◌↔◌, ℕ, ◌+◌, ◌-◌, ◌≤◌, ◌<◌, ltb, length}
use Rattle.std.proofs.Common.{sym, subst, ◌∙◌, arith}
use Rattle.std.proofs.Math.Path.{ap}
use Rattle.std.proofs.Math.Option.{none, some, none-ne-some}
use Rattle.std.proofs.Math.Decide.{dec_le, ℕ_discrete}
use Rattle.std.proofs.Math.Dec.{T, lt→ltb, ltb→lt}
use borrow.Author.Tests.{ltb-true, ltb-false, le-ltb, le-leb, lt-leb, eq-eqb, ne_eqb}
use Rattle.el.specs.TestLaws.{is_true}
use Rattle.el.specs.Table.{Filler, top_f, constant_f, variable_f, Entry, constant, restriction, variable, Table, filler_declared, entry_declared}
use Rattle.table.specs.declared.Kind.{Kind}
use Rattle.table.specs.declared.Kind.TheVariants.{Top, Constant, Restriction, Variable, Other}
use Rattle.table.specs.Code.{kind_of, code_of, InRange, Ranged, within, role_of, filler_of_kind, filler_of, entry_of_kind, entry_of, WritesFiller, fills_top, fills_constant, fills_variable, WritesEntry, enters_constant, enters_restriction, enters_variable}
use Rattle.table.specs.Bytes.{filler_code, entry_code}

module _ (b : ℕ) where
  pub kind_top : b ≡ 0 → Top ≡ kind_of b
  unfolding kind_of
  kind_top h = simp (eq-eqb b 0 h)

  pub kind_constant : 0x20 ≤ b → b ≤ 0x3F → Constant (b - 0x20) ≡ kind_of b
  unfolding kind_of
  kind_constant h l = simp (ne_eqb b 0 (λ z. omega arith), le-leb 0x20 b h, le-leb b 0x3F l)

  pub kind_restriction : 0x40 ≤ b → b ≤ 0x5F → Restriction (b - 0x40) ≡ kind_of b
  unfolding kind_of
  kind_restriction h l = simp (ne_eqb b 0 (λ z. omega arith), le-leb 0x20 b (omega arith), lt-leb b 0x3F (omega arith), le-leb 0x40 b h, le-leb b 0x5F l)

  pub kind_variable : 0x60 ≤ b → Variable (b - 0x60) ≡ kind_of b
  unfolding kind_of
  kind_variable h =
      simp
      (ne_eqb b 0 (λ z. omega arith), le-leb 0x20 b (omega arith), lt-leb b 0x3F (omega arith), le-leb 0x40 b (omega arith), lt-leb b 0x5F (omega arith), le-leb 0x60 b h)

  pub kind_other : (b ≡ 0 → ⊥) → b < 0x20 → Other ≡ kind_of b
  unfolding kind_of
  kind_other n h = simp (ne_eqb b 0 n, lt-leb 0x20 b h, lt-leb 0x40 b (omega arith), lt-leb 0x60 b (omega arith))

------------------------------------------------------------------ the code of a kind

pub kind_code : (k : Kind) → InRange k → kind_of (code_of k) ≡ k
kind_code Top r = sym (kind_top 0 refl)
kind_code (Constant k) r = sym (kind_constant (0x20 + k) (omega arith) (omega arith)) ∙ ap Constant (let e : 0x20 + k - 0x20 ≡ k = omega arith in e)
kind_code (Restriction k) r = sym (kind_restriction (0x40 + k) (omega arith) (omega arith)) ∙ ap Restriction (let e : 0x40 + k - 0x40 ≡ k = omega arith in e)
kind_code (Variable k) r = sym (kind_variable (0x60 + k) (omega arith)) ∙ ap Variable (let e : 0x60 + k - 0x60 ≡ k = omega arith in e)
kind_code Other r = absurd r

pub code_kind : (b : ℕ) (k : Kind) → kind_of b ≡ k → Ranged k → b ≡ code_of k
code_kind b k is r = first (ℕ_discrete b 0)
  where
    of : (i : Kind) → i ≡ kind_of b → b ≡ code_of i → b ≡ code_of k
    of i e q = q ∙ ap code_of (e ∙ is)

    third : 0x40 ≤ b → Dec (b ≤ 0x5F) → b ≡ code_of k
    third l (yes u) = of _ (kind_restriction b l u) (omega arith)
    third l (no u) = of _ (kind_variable b (omega arith)) (omega arith)

    second : 0x20 ≤ b → Dec (b ≤ 0x3F) → b ≡ code_of k
    second l (yes u) = of _ (kind_constant b l u) (omega arith)
    second l (no u) = third (omega arith) (dec_le b 0x5F)

    other : (b ≡ 0 → ⊥) → Dec (0x20 ≤ b) → b ≡ code_of k
    other n (yes l) = second l (dec_le b 0x3F)
    other n (no l) = absurd (subst Ranged (sym (kind_other b n (omega arith) ∙ is)) r)

    first : Dec (b ≡ 0) → b ≡ code_of k
    first (yes z) = of Top (kind_top b z) z
    first (no n) = other n (dec_le 0x20 b)

------------------------------------------------------------------ what a code writes

pub within_some : {A : Type 0} (k n : ℕ) (a x : A) → within k n a ≡ some x → (k < n) × (a ≡ x)
unfolding within
within_some k n a x q = go (ltb k n) refl q
  where
    go : (b : Bool) → ltb k n ≡ b → cond b (some a) none ≡ some x → (k < n) × (a ≡ x)
    go true e q = (ltb-true k n e, cc)
    go false e q = absurd (none-ne-some x q)

pub within_is : {A : Type 0} (k n : ℕ) (a : A) → T (ltb k n) → within k n a ≡ some a
unfolding within
within_is k n a l = rw (is_true (ltb k n) l)

pub role_code : (r b x : ℕ) → role_of r b ≡ some x → (b ≡ x) × T (ltb x r)
unfolding role_of
role_code r b x q = let w = within_some b r b x q in (w.1, lt→ltb x r (subst (λ (k : ℕ). k < r) w.1 w.0))

pub role_none : (r b : ℕ) → (role_of r b ≡ none) ↔ (r ≤ b)
unfolding role_of within
role_none r b = ((λ q. go (ltb b r) refl q), λ w. ap (λ (k : Bool). cond k (some b) none) (le-ltb b r w))
  where
    go : (k : Bool) → ltb b r ≡ k → cond k (some b) none ≡ none → r ≤ b
    go true e q = absurd (none-ne-some b (sym q))
    go false e q = ltb-false b r e

pub role_is : (r x : ℕ) → T (ltb x r) → role_of r x ≡ some x
unfolding role_of
role_is r x l = within_is x r x l

pub filler_writes : (c v b : ℕ) (f : Filler) → filler_of c v b ≡ some f → WritesFiller c v b f
unfolding filler_of filler_of_kind
filler_writes c v b f q = go (kind_of b) refl q
  where
    go : (k : Kind) → kind_of b ≡ k → filler_of_kind c v k ≡ some f → WritesFiller c v b f
    go Top i q = let e : top_f ≡ f = cc in subst (WritesFiller c v b) e (fills_top i)
    go (Constant k) i q = let w = within_some k c (constant_f k) f q in subst (WritesFiller c v b) w.1 (fills_constant k i w.0)
    go (Restriction k) i q = absurd (none-ne-some f q)
    go (Variable k) i q = let w = within_some k v (variable_f k) f q in subst (WritesFiller c v b) w.1 (fills_variable k i w.0)
    go Other i q = absurd (none-ne-some f q)

pub entry_writes : (c e v b : ℕ) (x : Entry) → entry_of c e v b ≡ some x → WritesEntry c e v b x
unfolding entry_of entry_of_kind
entry_writes c e v b x q = go (kind_of b) refl q
  where
    go : (k : Kind) → kind_of b ≡ k → entry_of_kind c e v k ≡ some x → WritesEntry c e v b x
    go Top i q = absurd (none-ne-some x q)
    go (Constant k) i q = let w = within_some k c (constant k) x q in subst (WritesEntry c e v b) w.1 (enters_constant k i w.0)
    go (Restriction k) i q = let w = within_some k e (restriction k) x q in subst (WritesEntry c e v b) w.1 (enters_restriction k i w.0)
    go (Variable k) i q = let w = within_some k v (variable k) x q in subst (WritesEntry c e v b) w.1 (enters_variable k i w.0)
    go Other i q = absurd (none-ne-some x q)

module _ (t : Table) where
  pub filler_code_lem : (b : ℕ) (f : Filler) → filler_of t.constants t.variables b ≡ some f → (b ≡ filler_code f) × T (filler_declared t f)
  unfolding filler_code
  filler_code_lem b f q = go (filler_writes t.constants t.variables b f q)
    where
      go : {f : Filler} → WritesFiller t.constants t.variables b f → (b ≡ filler_code f) × T (filler_declared t f)
      go (fills_top i) = (code_kind b Top i tt, tt)
      go (fills_constant k i l) = (code_kind b (Constant k) i tt, lt→ltb k t.constants l)
      go (fills_variable k i l) = (code_kind b (Variable k) i tt, lt→ltb k t.variables l)

  pub entry_code_lem : (b : ℕ) (x : Entry) → entry_of t.constants (length t.rows) t.variables b ≡ some x → (b ≡ entry_code x) × T (entry_declared t x)
  unfolding entry_code
  entry_code_lem b x q = go (entry_writes t.constants (length t.rows) t.variables b x q)
    where
      go : {x : Entry} → WritesEntry t.constants (length t.rows) t.variables b x → (b ≡ entry_code x) × T (entry_declared t x)
      go (enters_constant k i l) = (code_kind b (Constant k) i tt, lt→ltb k t.constants l)
      go (enters_restriction k i l) = (code_kind b (Restriction k) i tt, lt→ltb k (length t.rows) l)
      go (enters_variable k i l) = (code_kind b (Variable k) i tt, lt→ltb k t.variables l)

  pub filler_is : t.constants ≤ 0x20 → (f : Filler) → T (filler_declared t f) → filler_of t.constants t.variables (filler_code f) ≡ some f
  unfolding filler_of filler_of_kind filler_code
  filler_is few top_f d = ap (filler_of_kind t.constants t.variables) (kind_code Top tt)
  filler_is few (constant_f k) d = ap (filler_of_kind t.constants t.variables) (kind_code (Constant k) (let l = ltb→lt k t.constants d in omega arith)) ∙ within_is k t.constants (constant_f k) d
  filler_is few (variable_f k) d = ap (filler_of_kind t.constants t.variables) (kind_code (Variable k) tt) ∙ within_is k t.variables (variable_f k) d

  pub entry_is : t.constants ≤ 0x20 → length t.rows ≤ 0x20 → (x : Entry) → T (entry_declared t x) → entry_of t.constants (length t.rows) t.variables (entry_code x) ≡ some x
  unfolding entry_of entry_of_kind entry_code
  entry_is few rows (constant k) d = ap (entry_of_kind _ _ _) (kind_code (Constant k) (let l = ltb→lt k t.constants d in omega arith)) ∙ within_is k t.constants (constant k) d
  entry_is few rows (restriction k) d = ap (entry_of_kind _ _ _) (kind_code (Restriction k) (let l = ltb→lt k (length t.rows) d in omega arith)) ∙ within_is k (length t.rows) (restriction k) d
  entry_is few rows (variable k) d = ap (entry_of_kind _ _ _) (kind_code (Variable k) tt) ∙ within_is k t.variables (variable k) d
