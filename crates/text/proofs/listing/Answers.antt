-- `text::listing` meets its contract. The first line alone, or with the lines of the variables behind it.
use Rattle.std.proofs.Common.{rules, refl}
use Rattle.text.specs.Listing.{listing_text}
use Rattle.text.specs.Wrote.{Wrote}
use Rattle.text.proofs.WroteLaws.{wrote_by, wrote_all}
use Rattle.text.proofs.ListingLaws.{listing_other, listing_solved}
use Rattle.text.proofs.listing.Goals as goal
use Rattle.text.proofs.listing.Goals.{then-a-eq0, else-a-eq0}

pub returns : goal.returns
returns c = (let a = c.args in
    let text : Wrote _ (listing_text a.table.now a.a a.output.now) c.if-a-eq0.writer = elim c.if-a-eq0.branch [
      | then-a-eq0 w ↦ wrote_by w.writer-is (listing_solved _ _ _ w.if-a-eq0.true c.put_answer.ensures c.put_byte.ensures w.put_solved.ensures)
      | else-a-eq0 w ↦ wrote_by w.writer-is (listing_other _ _ _ w.if-a-eq0.false c.put_answer.ensures c.put_byte.ensures)
    ] in
    wrote_all text refl refl (search rules))
