-- `makrothel::line_span` meets its contract: a law for an unreadable table, one for a line number of m or more, and one for the line that is there.
use Rattle.std.proofs.Common.{◌≡◌, Some, None, length, ◌+◌, ◌<◌, sym, ap, subst, ◌∙◌, arith}
use Rattle.table.specs.declared.Header.{Header}
use Rattle.table.specs.Reading.{byte_at, header_of}
use Rattle.table.specs.LayoutLaws.{left_many}
use Rattle.makrothel.specs.Answer.{SpanIs}
use Rattle.makrothel.proofs.Laws.{refused_by, line_refused, line_over, line_room_lem, line_there}
use Rattle.makrothel.proofs.line_span.Goals as goal
use Rattle.makrothel.proofs.line_span.Goals.{After-left_count}

-- the line is there, and its left count is the byte where it begins
few : (c : After-left_count) → c.args.n < (header_of c.in-Ok.readable.bytes.now).m
few c = omega (arith, ap (λ (h : Header). h.m) c.header.ensures)

counted : (c : After-left_count) → c.left_count.result ≡ byte_at c.in-Ok.readable.bytes.now c.line_start-start.result
counted c = c.left_count.ensures c.args.n (few c) c.line_start-start.ensures ∙ sym (left_many _ c.in-Ok.readable.reads _ c.args.n (few c) c.line_start-start.ensures)

pub returns-in_default : goal.returns-in_default
unfolding SpanIs
returns-in_default c = line_refused _ _ _ (refused_by _ c.check.result c.check.ensures.err c.in_default.not-Ok).1

pub returns-then-from-n : goal.returns-then-from-n
returns-then-from-n c = subst (λ s. SpanIs s c.args.n None) c.in-Ok.ensures.ok (unfold SpanIs in line_over _ c.in-Ok.readable.reads _ _ c.header.ensures (omega arith))

pub overflow_add-result : goal.overflow_add-result
overflow_add-result c = omega (arith, ap length c.in-Ok.ensures.ok, counted (goal.at.overflow_add-result c).After-left_count, line_room_lem _ c.in-Ok.readable.reads _ _ (few (goal.at.overflow_add-result c).After-left_count) c.line_start-start.ensures)

pub returns : goal.returns
returns c =
    subst (λ s. SpanIs s c.args.n (Some (record { start = c.line_start-start.result; length = c.left_count.result + 2 }))) c.in-Ok.ensures.ok
    (unfold SpanIs in line_there _ c.in-Ok.readable.reads _ _ (few (goal.at.returns c).After-left_count) c.line_start-start.ensures _ (counted (goal.at.returns c).After-left_count))
