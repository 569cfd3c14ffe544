-- What is readable within bounds is read as the same table within larger ones.
--
--   readable_wider == WHAT IS READABLE WITHIN b IS READ AS THE SAME TABLE WITHIN w
use Rattle.std.specs.Prelude.{◌≡◌, List, [], ◌∷◌, ℕ}
use Rattle.std.proofs.Common.{arith}
use Rattle.el.specs.Table.{Line, Table}
use Rattle.bounds.specs.Bounds.{Bounds}
use Rattle.table.specs.declared.Header.{Header}
use Rattle.table.specs.Reading.{read_line, readable, reading_within, Wider}
use Rattle.table.specs.Bytes.{Within}
use Rattle.table.specs.Standing.{Many}
use Rattle.table.specs.ReadLaws.{line_all, line_read, readable_read, readable_all}

module _ (b w : Bounds) (wider : Wider b w) (s : List ℕ) (h : Header) where
  lines_wider : (lines : List Line) (at end : ℕ) → Many (read_line b s h) lines at end → Many (read_line w s h) lines at end
  lines_wider [] at end m = m
  lines_wider (l ∷ lines) at end m =
      let r = line_read b s h at l m.0 m.1 in
      let few = r.few in
      let left = wider.left in
      (m.0, line_all w s h at l m.0 (record { inside = r.inside; few = omega arith; left_many = r.left_many; mid = r.mid; left_read = r.left_read; right_read = r.right_read }), lines_wider lines m.0 end m.2)

  within_wider : Within b h → Within w h
  within_wider i =
      record {
        few_constants = (let x = i.few_constants in let y = wider.constants in omega arith);
        few_roles = (let x = i.few_roles in let y = wider.roles in omega arith);
        few_variables = (let x = i.few_variables in let y = wider.variables in omega arith);
        few_restrictions = (let x = i.few_restrictions in let y = wider.restrictions in omega arith);
        few_atoms = (let x = i.few_atoms in let y = wider.atoms in omega arith);
        few_lines = (let x = i.few_lines in let y = wider.lines in omega arith);
        few_role_rows = (let x = i.few_role_rows in let y = wider.role_rows in omega arith);
      }

  -- WHAT IS READABLE WITHIN b IS READ AS THE SAME TABLE WITHIN w
  pub readable_wider : (t : Table) → reading_within b s ≡ readable h t → reading_within w s ≡ readable h t
  readable_wider t q =
      let r = readable_read b s h t q in
      let d = r.1 in
      readable_all w s h t (record { same = r.0.same; inside = r.0.inside; mark = r.0.mark; version = r.0.version; counts = within_wider r.0.counts })
      (record {
        role_rows = d.role_rows;
        rows = d.rows;
        lines = d.lines;
        first = d.first;
        mid = d.mid;
        end = d.end;
        same = d.same;
        all_role_rows = d.all_role_rows;
        all_rows = d.all_rows;
        all_lines = d.all_lines;
        role_rows_read = d.role_rows_read;
        rows_read = d.rows_read;
        lines_read = lines_wider d.lines d.mid d.end d.lines_read;
        nothing_left = d.nothing_left;
      })
