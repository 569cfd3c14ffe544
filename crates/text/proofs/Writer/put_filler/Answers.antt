-- `text::Writer::put_filler` meets its contract. One answer for each kind of code.
use Rattle.std.proofs.Common.{ap, ◌∙◌, ◌∷◌, ℕ}
use Rattle.text.specs.Text.{decimal}
use Rattle.text.specs.Listing.{code_text}
use Rattle.text.proofs.WroteLaws.{wrote_none, wrote_as}
use Rattle.text.proofs.ListingLaws.{filler_none}
use Rattle.text.proofs.Writer.put_filler.Goals as goal

pub returns-in-Top : goal.returns-in-Top
unfolding code_text
returns-in-Top c = wrote_as c.put_text.ensures (ap code_text c.in-Top.ensures)

pub returns-in-Constant : goal.returns-in-Constant
unfolding code_text
returns-in-Constant c = wrote_as c.put_named.ensures (ap (λ (n : ℕ). 0x63 ∷ decimal n) c.from.ensures ∙ ap code_text c.in-Constant.ensures)

pub returns-in-Variable : goal.returns-in-Variable
unfolding code_text
returns-in-Variable c = wrote_as c.put_named-in-Variable.ensures (ap (λ (n : ℕ). 0x76 ∷ decimal n) c.from-in-Variable.ensures ∙ ap code_text c.in-Variable.ensures)

pub returns-in-Restriction : goal.returns-in-Restriction
unfolding code_text
returns-in-Restriction c = wrote_as (wrote_none _) (filler_none c.in-Restriction.is ∙ ap code_text c.kind_of.ensures)
