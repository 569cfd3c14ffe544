-- Three of the tables with known outcome, two growths, and a substitution.
--
--   p5    == X below some r X
--   p6    == some r X below some r A
--   p12   == X below A; X below B; some r A and some r B below some r X
--   more  == p6 with one constant, one role and one variable more, and no line
--   most  == more with one row more, some s Y, and one line more, Y below B
--   deep  == a substitution over names and roles that no table here declares
use Rattle.std.specs.Prelude.{List, [], ◌∷◌, ℕ}
use Rattle.el.specs.Description.{name, meet, some}
use Rattle.el.specs.Table.{Filler, constant_f, variable_f, Entry, constant, restriction, variable, Row, Line, Table}
use Rattle.el.specs.Meaning.{Substitution}

abbrev pub row : ℕ → Filler → Row
row r f = record { role = r; filler = f }

abbrev pub line : List Entry → Entry → Line
line es e = record { left = es; right = e }

abbrev pub p5 : Table
p5 = record { constants = 0; roles = 1; variables = 1; role_rows = []; rows = row 0 (variable_f 0) ∷ []; lines = line (variable 0 ∷ []) (restriction 0) ∷ [] }

abbrev pub p6 : Table
p6 =
    record {
      constants = 1;
      roles = 1;
      variables = 1;
      role_rows = [];
      rows = row 0 (variable_f 0) ∷ row 0 (constant_f 0) ∷ [];
      lines = line (restriction 0 ∷ []) (restriction 1) ∷ [];
    }

abbrev pub p12 : Table
p12 =
    record {
      constants = 2;
      roles = 1;
      variables = 1;
      role_rows = [];
      rows = row 0 (constant_f 0) ∷ row 0 (constant_f 1) ∷ row 0 (variable_f 0) ∷ [];
      lines =
          line (variable 0 ∷ []) (constant 0)
          ∷ line (variable 0 ∷ []) (constant 1)
          ∷ line (restriction 0 ∷ restriction 1 ∷ []) (restriction 2)
          ∷ [];
    }

abbrev pub more : Table
more =
    record {
      constants = 2;
      roles = 2;
      variables = 2;
      role_rows = [];
      rows = row 0 (variable_f 0) ∷ row 0 (constant_f 0) ∷ [];
      lines = line (restriction 0 ∷ []) (restriction 1) ∷ [];
    }

abbrev pub most : Table
most =
    record {
      constants = 2;
      roles = 2;
      variables = 2;
      role_rows = [];
      rows = row 0 (variable_f 0) ∷ row 0 (constant_f 0) ∷ row 1 (variable_f 1) ∷ [];
      lines = line (restriction 0 ∷ []) (restriction 1) ∷ line (variable 1 ∷ []) (constant 1) ∷ [];
    }

abbrev pub deep : Substitution
deep x = meet (meet (name 0) (name 1)) (some 7 (some 8 (name 99)))
