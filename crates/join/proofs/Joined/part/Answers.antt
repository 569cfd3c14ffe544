-- `join::part` meets its contract. A long file, a refusal or another answer than "solved", and a solved file.
use Rattle.std.proofs.Common.{refl, rules}
use Rattle.join.specs.Join.{long_text}
use Rattle.spell.specs.PennedLaws.{penned_then, penned_as, penned_prefix, penned_window}
use Rattle.join.proofs.PartLaws.{text_long, text_other, text_solved, solved_given}
use Rattle.join.proofs.Joined.part.Goals as goal

pub returns-then-self-gt-MOST-clause-prefix_len : goal.returns-then-self-gt-MOST-clause-prefix_len
returns-then-self-gt-MOST-clause-prefix_len c = penned_prefix c.put.ensures refl (search rules) refl

pub returns-then-self-gt-MOST-clause-buffer_after : goal.returns-then-self-gt-MOST-clause-buffer_after
unfolding long_text
returns-then-self-gt-MOST-clause-buffer_after c = penned_window (penned_as c.put.ensures (text_long _ c.if-self-gt-MOST.true)) refl (search rules) refl

pub returns-then-self-ne0-clause-prefix_len : goal.returns-then-self-ne0-clause-prefix_len
returns-then-self-ne0-clause-prefix_len c = penned_prefix c.put_first.ensures refl (search rules) refl

pub returns-then-self-ne0-clause-buffer_after : goal.returns-then-self-ne0-clause-buffer_after
returns-then-self-ne0-clause-buffer_after c =
    penned_window (penned_as c.put_first.ensures (text_other _ _ _ _ _ _ c.requires c.if-self-gt-MOST.false c.if-self-ne0.true)) refl (search rules) refl

pub put_named-requires : goal.put_named-requires
put_named-requires c = (solved_given _ _ _ _ _ _ c.requires c.if-self-gt-MOST.false c.if-self-ne0.false, c.args.self.now.room)

pub returns-clause-prefix_len : goal.returns-clause-prefix_len
returns-clause-prefix_len c = penned_prefix (penned_then c.put_first.ensures c.put_named.ensures) refl (search rules) refl

pub returns-clause-buffer_after : goal.returns-clause-buffer_after
returns-clause-buffer_after c =
    penned_window (penned_as (penned_then c.put_first.ensures c.put_named.ensures) (text_solved _ _ _ _ _ _ c.requires c.if-self-gt-MOST.false c.if-self-ne0.false)) refl (search rules) refl
