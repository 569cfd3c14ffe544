-- What a code byte stands for.
--
--   kind_of b             == the kind of the code b by its range, with its number k
--   code_of k             == the code of the kind k
--   Ranged k, InRange k  == the kind k is of one of the four ranges; and its number fits there
--   within k n a         == a, where k is below n
--   role_of r b           == the role that the byte b is, where it is declared
--   filler_of c v b       == the filler that the code b writes, where it is allowed and declared
--   entry_of c e v b      == the entry that the code b writes, where it is allowed and declared
--   WritesFiller c v b f, WritesEntry c e v b x == the same as a view: the code b writes f, or x, whose number is declared
use Rattle.std.specs.Prelude.{◌≡◌, ◌&&◌, cond, ℕ, ◌+◌, ◌-◌, ◌<◌, eqb, leb, ltb}
use Rattle.std.proofs.Math.Option.{Option, none, some}
use Rattle.el.specs.Table.{Filler, top_f, constant_f, variable_f, Entry, constant, restriction, variable}
use Rattle.table.specs.declared.Kind.{Kind}
use Rattle.table.specs.declared.Kind.TheVariants.{Top, Constant, Restriction, Variable, Other}

-- "Codes fall in four ranges, and any other value is refused: 0x00 top; 0x20+k constant k; 0x40+k restriction k; 0x60+k variable k"
unfoldable pub kind_of : ℕ → Kind
kind_of b =
    cond (eqb b 0) Top
    (cond (leb 0x20 b && leb b 0x3F) (Constant (b - 0x20))
    (cond (leb 0x40 b && leb b 0x5F) (Restriction (b - 0x40))
    (cond (leb 0x60 b) (Variable (b - 0x60))
    Other)))

-- the code of a kind, where it is of one of the ranges, and its number fits there
abbrev pub code_of : Kind → ℕ
code_of Top = 0x00
code_of (Constant k) = 0x20 + k
code_of (Restriction k) = 0x40 + k
code_of (Variable k) = 0x60 + k
code_of Other = 0x01

abbrev pub InRange : Kind → Type 0
InRange Top = Unit {0}
InRange (Constant k) = k < 0x20
InRange (Restriction k) = k < 0x20
InRange (Variable k) = Unit {0}
InRange Other = ⊥

abbrev pub Ranged : Kind → Type 0
Ranged Top = Unit {0}
Ranged (Constant k) = Unit {0}
Ranged (Restriction k) = Unit {0}
Ranged (Variable k) = Unit {0}
Ranged Other = ⊥

-- "k < c", "k < e", "k < v"
unfoldable pub within {ℓ} : {A : Type ℓ} → ℕ → ℕ → A → Option A
within k n a = cond (ltb k n) (some a) none

-- "a role, less than r"
unfoldable pub role_of : ℕ → ℕ → Option ℕ
role_of r b = within b r b

-- "A filler is top, a constant or a variable."
unfoldable pub filler_of_kind : ℕ → ℕ → Kind → Option Filler
filler_of_kind c v Top = some top_f
filler_of_kind c v (Constant k) = within k c (constant_f k)
filler_of_kind c v (Restriction k) = none
filler_of_kind c v (Variable k) = within k v (variable_f k)
filler_of_kind c v Other = none

unfoldable pub filler_of : ℕ → ℕ → ℕ → Option Filler
filler_of c v b = filler_of_kind c v (kind_of b)

-- "A left or right entry is a constant, a restriction or a variable. Top is allowed as a filler only"
unfoldable pub entry_of_kind : ℕ → ℕ → ℕ → Kind → Option Entry
entry_of_kind c e v Top = none
entry_of_kind c e v (Constant k) = within k c (constant k)
entry_of_kind c e v (Restriction k) = within k e (restriction k)
entry_of_kind c e v (Variable k) = within k v (variable k)
entry_of_kind c e v Other = none

unfoldable pub entry_of : ℕ → ℕ → ℕ → ℕ → Option Entry
entry_of c e v b = entry_of_kind c e v (kind_of b)

-- the same as a view, with what is known in each case
pub data WritesFiller (c v b : ℕ) : Filler → Type 0 where
  fills_top : kind_of b ≡ Top → WritesFiller c v b top_f
  fills_constant : (k : ℕ) → kind_of b ≡ Constant k → k < c → WritesFiller c v b (constant_f k)
  fills_variable : (k : ℕ) → kind_of b ≡ Variable k → k < v → WritesFiller c v b (variable_f k)

pub data WritesEntry (c e v b : ℕ) : Entry → Type 0 where
  enters_constant : (k : ℕ) → kind_of b ≡ Constant k → k < c → WritesEntry c e v b (constant k)
  enters_restriction : (k : ℕ) → kind_of b ≡ Restriction k → k < e → WritesEntry c e v b (restriction k)
  enters_variable : (k : ℕ) → kind_of b ≡ Variable k → k < v → WritesEntry c e v b (variable k)
