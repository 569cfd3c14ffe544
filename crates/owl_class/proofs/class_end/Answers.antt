-- A name, or a word and its brackets.
use Rattle.std.proofs.Common.{arith}
use Rattle.owl_token.specs.Kind.{kind_number}
use Rattle.owl_name.proofs.RestLaws.{AtToken}
use Rattle.owl_class.proofs.EndLaws as laws
use Rattle.owl_class.proofs.class_end.Goals as goal

pub returns-in-Short : goal.returns-in-Short
returns-in-Short c =
    let t : AtToken c.args.s.now c.args.at (kind_number c.token_at-token.result.kind) c.token_at-token.result.place c.token_at-token.result.end = (c.token_at-token.ensures.0, c.token_at-token.ensures.1, c.token_at-token.ensures.2) in
    (laws.ends_name _ _ _ _ _ t c.requires (laws.name_kind _ c.in-Short.is), c.token_at-token.ensures.3, laws.end_behind _ _ _ _ _ t)

pub returns-in_default : goal.returns-in_default
returns-in_default c =
    let t : AtToken c.args.s.now c.args.at (kind_number c.token_at-token.result.kind) c.token_at-token.result.place c.token_at-token.result.end = (c.token_at-token.ensures.0, c.token_at-token.ensures.1, c.token_at-token.ensures.2) in (
      laws.ends_word _ _ _ _ _ _ t c.requires (laws.other_kind _ c.in_default.not-Short c.in_default.not-Full) c.closed.ensures.0 c.closed.ensures.2,
      c.closed.ensures.1,
      (let a = laws.end_behind _ _ _ _ _ t in let b = laws.jumps_le _ _ _ c.closed.ensures.2 in omega arith),
    )
