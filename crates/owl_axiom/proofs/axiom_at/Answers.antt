-- The tokens of an axiom, one after the other.
use Rattle.std.proofs.Common.{refl, arith}
use Rattle.owl_token.specs.Kind.{kind_number}
use Rattle.owl_name.proofs.RestLaws.{AtToken}
use Rattle.owl_class.proofs.EndLaws as ends
use Rattle.owl_axiom.proofs.AxiomLaws as laws
use Rattle.owl_axiom.proofs.axiom_at.Goals as goal

pub returns : goal.returns
returns c =
    let first : AtToken c.args.s.now c.args.at (kind_number c.token_at-left.result.kind) c.token_at-left.result.place c.token_at-left.result.end =
    (c.token_at-left.ensures.0, c.token_at-left.ensures.1, c.token_at-left.ensures.2) in
    let behind : AtToken c.args.s.now c.class_end-last.result (kind_number c.token_at-end.result.kind) c.token_at-end.result.place c.token_at-end.result.end =
    (c.token_at-end.ensures.0, c.token_at-end.ensures.1, c.token_at-end.ensures.2) in
    let a = ends.end_behind _ _ _ _ _ first in
    let d = ends.end_behind _ _ _ _ _ behind in
    let l = c.class_end-right.ensures.2 in
    let r = c.class_end-last.ensures.2 in (
      refl,
      laws.word_sides _ _ _ _ _ _ _ _ _ _ first c.class_end-right.ensures.0 c.class_end-last.ensures.0 behind,
      omega arith,
      c.token_at-end.ensures.3,
      c.token_at-left.ensures.3,
      c.class_end-right.ensures.1,
    )
