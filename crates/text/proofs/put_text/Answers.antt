-- `text::put_text` meets its contract: a copy where there is room, nothing where there is none.
use Rattle.text.specs.AppendLaws.{appended_full}
use Rattle.text.proofs.Laws.{copied}
use Rattle.text.proofs.put_text.Goals as goal

pub returns-then-buffer-at : goal.returns-then-buffer-at
returns-then-buffer-at c = appended_full _ _ _ c.if-buffer-at.true

pub returns : goal.returns
returns c = copied _ _ _ _ _ c.if-buffer-at.false c.min-n.ensures c.copy_from_slice.ensures.after
