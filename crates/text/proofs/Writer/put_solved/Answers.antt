-- `text::Writer::put_solved` meets its contract. A law for an unreadable table, one for a short output, and one for the lines.
use Rattle.std.proofs.Common.{arith, ap, List, ℕ}
use Rattle.table.specs.Reading.{table_of}
use Rattle.text.specs.Listing.{solved_text}
use Rattle.text.proofs.WroteLaws.{wrote_as}
use Rattle.text.proofs.ListingLaws.{variables_are, solved_refused, solved_short, solved_all, lines_none, lines_turn, lines_all}
use Rattle.text.proofs.Writer.put_solved.Goals as goal

pub returns-in_default : goal.returns-in_default
returns-in_default c = solved_refused _ _ _ _ c.in_default.ensures.err

pub loop-x-init : goal.loop-x-init
loop-x-init c = lines_none _ _ _

pub loop-x-preserved : goal.loop-x-preserved
loop-x-preserved c = lines_turn _ _ _ c.loop-x.invariant c.put_variable.ensures

pub returns-after-loop-x : goal.returns-after-loop-x
returns-after-loop-x c = wrote_as
    (solved_all _ _ _ (variables_are _ _ _ c.in-Ok.table.reads c.header.ensures c.from-n.ensures) c.if-n-output.true (lines_all _ _ _ (omega arith) c.loop-x.invariant))
    (ap (λ (s : List ℕ). solved_text (table_of s) c.args.output.now) c.in-Ok.ensures.ok)

pub returns-else-n-output : goal.returns-else-n-output
returns-else-n-output c = wrote_as
    (solved_short _ _ _ _ (variables_are _ _ _ c.in-Ok.table.reads c.header.ensures c.from-n.ensures) c.if-n-output.false)
    (ap (λ (s : List ℕ). solved_text (table_of s) c.args.output.now) c.in-Ok.ensures.ok)
