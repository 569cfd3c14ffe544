-- Laws of roles with an order.
--
--   reaches_role_refl, reaches_role_trans == the test is reflexive and transitive
--   reaches_role_lem                        == the test decides the statement
--   no_role_rows                        == without role rows each role reaches itself alone: version 1
--   role_order_refl, role_order_trans     == the order of a table's roles is reflexive and transitive
--   role_order_means                     == it is what a role reaches over the role rows
--   serves_roles                        == Corollary 1's second question with it: a restriction whose role reaches s over the role rows
use Rattle.std.specs.Prelude.{◌≡◌, refl, Bool, ◌&&◌, ◌||◌, ◌⊎◌, ◌↔◌, List, [], ◌∷◌, ℕ}
use Rattle.std.proofs.Common.{ap, subst, inl, inr, eqb→eq}
use Rattle.std.proofs.Math.Dec.{T}
use Rattle.el.specs.TestLaws.{or_left, or_right, or_cases, and_make, and_left, and_right}
use Rattle.el.specs.Description.{Description, same_role}
use Rattle.el.specs.Conjuncts.{Among, Restriction, restrictions, Serves}
use Rattle.el.specs.Roles.{RoleRow, ReachesRole, no_step, a_step, reaches_role}
use Rattle.el.specs.Table.{Table, role_order}
use Rattle.el.proofs.OrderLaws.{same_role_refl, same_role_trans}

pub reaches_role_refl : (rows : List RoleRow) (r : ℕ) → T (reaches_role rows r r)
unfolding reaches_role
reaches_role_refl [] r = same_role_refl r
reaches_role_refl (row ∷ rows) r = or_left (reaches_role rows r r) _ (reaches_role_refl rows r)

-- one row more keeps a relation transitive: a way takes the row not at all or once, and what lies between two takings is left out
module _ (way : ℕ → ℕ → Bool) (along : (r s u : ℕ) → T (way r s) → T (way s u) → T (way r u)) (n w : ℕ) where
  more : ℕ → ℕ → Bool
  more r s = way r s || (way r n && way w s)

  by_row : (r s : ℕ) → T (way r n) → T (way w s) → T (more r s)
  unfolding more
  by_row r s a b = or_right (way r s) (way r n && way w s) (and_make (way r n) (way w s) a b)

  more_trans : (r s u : ℕ) → T (more r s) → T (more s u) → T (more r u)
  unfolding more
  more_trans r s u h k = go (or_cases (way r s) (way r n && way w s) h) (or_cases (way s u) (way s n && way w u) k)
    where
      go : T (way r s) ⊎ T (way r n && way w s) → T (way s u) ⊎ T (way s n && way w u) → T (more r u)
      go (inl a) (inl b) = or_left (way r u) (way r n && way w u) (along r s u a b)
      go (inl a) (inr b) = by_row r u (along r s n a (and_left (way s n) (way w u) b)) (and_right (way s n) (way w u) b)
      go (inr a) (inl b) = by_row r u (and_left (way r n) (way w s) a) (along w s u (and_right (way r n) (way w s) a) b)
      go (inr a) (inr b) = by_row r u (and_left (way r n) (way w s) a) (and_right (way s n) (way w u) b)

pub reaches_role_trans : (rows : List RoleRow) (r s u : ℕ) → T (reaches_role rows r s) → T (reaches_role rows s u) → T (reaches_role rows r u)
unfolding reaches_role more
reaches_role_trans [] r s u h k = same_role_trans r s u h k
reaches_role_trans (row ∷ rows) r s u h k = more_trans (reaches_role rows) (reaches_role_trans rows) row.narrower row.wider r s u h k

----------------------------------------------------------------------------------------------------
-- The test decides the statement

weaker : (row : RoleRow) (rows : List RoleRow) {r s : ℕ} → ReachesRole rows r s → ReachesRole (row ∷ rows) r s
weaker row rows no_step = no_step
weaker row rows (a_step m h) = a_step (inr m) (weaker row rows h)

joined : {rows : List RoleRow} {r s u : ℕ} → ReachesRole rows r s → ReachesRole rows s u → ReachesRole rows r u
joined no_step k = k
joined (a_step m h) k = a_step m (joined h k)

told : (rows : List RoleRow) (r s : ℕ) → T (reaches_role rows r s) → ReachesRole rows r s
unfolding reaches_role same_role
told [] r s h = subst (λ (k : ℕ). ReachesRole [] r k) (eqb→eq r s h) no_step
told (row ∷ rows) r s h = go (told rows r s) (told rows r row.narrower) (told rows row.wider s) (or_cases (reaches_role rows r s) (reaches_role rows r row.narrower && reaches_role rows row.wider s) h)
  where
    go : (T (reaches_role rows r s) → ReachesRole rows r s) → (T (reaches_role rows r row.narrower) → ReachesRole rows r row.narrower)
        → (T (reaches_role rows row.wider s) → ReachesRole rows row.wider s)
        → T (reaches_role rows r s) ⊎ T (reaches_role rows r row.narrower && reaches_role rows row.wider s) → ReachesRole (row ∷ rows) r s
    go f g k (inl a) = weaker row rows (f a)
    go f g k (inr a) =
        joined (weaker row rows (g (and_left (reaches_role rows r row.narrower) (reaches_role rows row.wider s) a)))
        (a_step (inl refl) (weaker row rows (k (and_right (reaches_role rows r row.narrower) (reaches_role rows row.wider s) a))))

one_row : (rows : List RoleRow) (r w : ℕ) → Among (record { narrower = r; wider = w }) rows → T (reaches_role rows r w)
unfolding reaches_role
one_row [] r w m = absurd m
one_row (row ∷ rows) r w (inl e) =
    or_right (reaches_role rows r w) (reaches_role rows r row.narrower && reaches_role rows row.wider w)
    (and_make (reaches_role rows r row.narrower) (reaches_role rows row.wider w)
    (subst (λ (k : RoleRow). T (reaches_role rows r k.narrower)) e (reaches_role_refl rows r))
    (subst (λ (k : RoleRow). T (reaches_role rows k.wider w)) e (reaches_role_refl rows w)))
one_row (row ∷ rows) r w (inr m) = or_left (reaches_role rows r w) (reaches_role rows r row.narrower && reaches_role rows row.wider w) (one_row rows r w m)

tested : (rows : List RoleRow) {r s : ℕ} → ReachesRole rows r s → T (reaches_role rows r s)
tested rows {r} {s} no_step = reaches_role_refl rows r
tested rows {r} {s} (a_step {w = w} m h) = reaches_role_trans rows r w s (one_row rows r w m) (tested rows h)

pub reaches_role_lem : (rows : List RoleRow) (r s : ℕ) → T (reaches_role rows r s) ↔ ReachesRole rows r s
reaches_role_lem rows r s = (told rows r s, tested rows)

----------------------------------------------------------------------------------------------------
-- The order of a table's roles

-- version 1 is the case of no rows
pub no_role_rows : (t : Table) → t.role_rows ≡ [] → role_order t ≡ same_role
unfolding role_order reaches_role
no_role_rows t e = ap reaches_role e

pub role_order_refl : (t : Table) (r : ℕ) → T (role_order t r r)
unfolding role_order
role_order_refl t = reaches_role_refl t.role_rows

pub role_order_trans : (t : Table) (r s u : ℕ) → T (role_order t r s) → T (role_order t s u) → T (role_order t r u)
unfolding role_order
role_order_trans t = reaches_role_trans t.role_rows

pub role_order_means : (t : Table) (r s : ℕ) → T (role_order t r s) ↔ ReachesRole t.role_rows r s
unfolding role_order
role_order_means t = reaches_role_lem t.role_rows

-- "A restriction lies below another if its role reaches the other's over these rows in zero or more steps and the fillers agree as before"
pub serves_roles : (t : Table) (s : ℕ) (P : Description → Type 0) (C : Description)
    → Serves (role_order t) s P C ↔ ((q : Restriction) × Among q (restrictions C) × ReachesRole t.role_rows q.role s × P q.filler)
unfolding Serves
serves_roles t s P C = ((λ q. (q.0, q.1, (role_order_means t q.0.role s).0 q.2, q.3)), λ q. (q.0, q.1, (role_order_means t q.0.role s).1 q.2, q.3))
