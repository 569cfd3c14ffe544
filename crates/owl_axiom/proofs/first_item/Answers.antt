-- The invariant: the Prefix lines that are left and the Ontology stand here.
use Rattle.std.proofs.Common.{rules, ◌≡◌, arith}
use Rattle.owl_token.specs.Kind.{kind_number}
use Rattle.owl_name.proofs.RestLaws as rests
use Rattle.owl_name.proofs.RestLaws.{AtToken}
use Rattle.owl_class.proofs.EndLaws as ends
use Rattle.owl_axiom.proofs.HeadLaws as laws
use Rattle.owl_axiom.proofs.first_item.Goals as goal

pub loop-word-init : goal.loop-word-init
loop-word-init c = (omega arith, laws.prefixed_start _)

pub returns-then-ne : goal.returns-then-ne
returns-then-ne c =
    let word : AtToken c.args.s.now c.loop-word.at (kind_number c.token_at-word.result.kind) c.token_at-word.result.place c.token_at-word.result.end = (c.token_at-word.ensures.0, c.token_at-word.ensures.1, c.token_at-word.ensures.2) in
    let first : AtToken c.args.s.now c.token_at-word.result.end (kind_number c.token_at-open.result.kind) c.token_at-open.result.place c.token_at-open.result.end = (c.token_at-open.ensures.0, c.token_at-open.ensures.1, c.token_at-open.ensures.2) in
    let not_prefix : kind_number c.token_at-word.result.kind ≡ 4 → ⊥ = search rules in
    (laws.prefixed_end _ _ _ _ _ _ _ _ _ c.loop-word.invariant.1 word not_prefix first c.behind_names.ensures.0, c.behind_names.ensures.1)

pub loop-word-smaller : goal.loop-word-smaller
loop-word-smaller c =
    let word : AtToken c.args.s.now c.loop-word.at (kind_number c.token_at-word.result.kind) c.token_at-word.result.place c.token_at-word.result.end = (c.token_at-word.ensures.0, c.token_at-word.ensures.1, c.token_at-word.ensures.2) in
    let is : kind_number c.token_at-word.result.kind ≡ 4 = search rules in
    let goes = rests.token_goes _ _ _ _ _ word c.loop-word.invariant.0 (λ z. omega arith) in
    let on = ends.jumps_le _ _ _ c.closed-at.ensures.2 in
    omega arith

pub loop-word-preserved : goal.loop-word-preserved
loop-word-preserved c =
    let word : AtToken c.args.s.now c.loop-word.at (kind_number c.token_at-word.result.kind) c.token_at-word.result.place c.token_at-word.result.end = (c.token_at-word.ensures.0, c.token_at-word.ensures.1, c.token_at-word.ensures.2) in
    let is : kind_number c.token_at-word.result.kind ≡ 4 = search rules in
    (c.closed-at.ensures.1, laws.prefixed_turn _ _ _ _ _ _ c.loop-word.invariant.1 word is c.closed-at.ensures.0 c.closed-at.ensures.2)
