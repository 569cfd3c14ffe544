-- `table::header_of` meets its contract: each count is the byte that the header names.
use mathlib.Core.Path.{◌≡◌}
use Prim.Native.Nat.{ℕ}
use Rattle.table.specs.declared.Header.{Header}
use Rattle.table.proofs.header_of.Goals as goal

-- the header, by its count of role rows
with-count : (n c r v e m q k : ℕ) → q ≡ k → ◌≡◌ {A = Header} (record { version = n; c = c; r = r; v = v; e = e; m = m; q = q }) (record { version = n; c = c; r = r; v = v; e = e; m = m; q = k })
with-count n c r v e m q k p = λ i. record { version = n; c = c; r = r; v = v; e = e; m = m; q = p i }

pub returns : goal.returns
returns c = with-count _ _ _ _ _ _ _ _ c.role_count.ensures
