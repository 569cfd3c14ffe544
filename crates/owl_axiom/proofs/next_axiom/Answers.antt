-- The invariant: the axioms from the start on are those from here on.
use Rattle.std.proofs.Common.{◌≡◌, ap, arith}
use Rattle.owl_token.specs.Kind.{kind_number, kind_number_differs}
use Rattle.owl_name.proofs.RestLaws as rests
use Rattle.owl_name.proofs.RestLaws.{AtToken}
use Rattle.owl_class.proofs.EndLaws as ends
use Rattle.owl_axiom.proofs.AxiomLaws as laws
use Rattle.owl_axiom.proofs.next_axiom.Goals as goal

pub loop-at-init : goal.loop-at-init
loop-at-init c = (c.requires, omega arith, laws.sought_start _ _)

pub returns-in-SubClassOf : goal.returns-in-SubClassOf
returns-in-SubClassOf c =
    let word : AtToken c.args.s.now c.loop-at.at (kind_number c.token_at-word.result.kind) c.token_at-word.result.place c.token_at-word.result.end = (c.token_at-word.ensures.0, c.token_at-word.ensures.1, c.token_at-word.ensures.2) in
    let is : kind_number c.token_at-word.result.kind ≡ 9 = ap kind_number c.in-SubClassOf.is in
    let goes = rests.token_goes _ _ _ _ _ word c.loop-at.invariant.0 (λ z. omega arith) in
    let far = c.loop-at.invariant.1 in
    let on = c.axiom_at.ensures.2 in
    laws.axiom_is _ _ _ _ c.axiom_at.ensures.0 (laws.sought_sub _ _ _ _ _ _ c.loop-at.invariant.2 word _ _ _ is c.axiom_at.ensures.1) (omega arith) c.axiom_at.ensures.4 c.axiom_at.ensures.5 c.axiom_at.ensures.3

pub returns-in-EquivalentClasses : goal.returns-in-EquivalentClasses
returns-in-EquivalentClasses c =
    let word : AtToken c.args.s.now c.loop-at.at (kind_number c.token_at-word.result.kind) c.token_at-word.result.place c.token_at-word.result.end = (c.token_at-word.ensures.0, c.token_at-word.ensures.1, c.token_at-word.ensures.2) in
    let is : kind_number c.token_at-word.result.kind ≡ 10 = ap kind_number c.in-EquivalentClasses.is in
    let goes = rests.token_goes _ _ _ _ _ word c.loop-at.invariant.0 (λ z. omega arith) in
    let far = c.loop-at.invariant.1 in
    let found = c.axiom_at-in-EquivalentClasses.ensures in
    let on = found.2 in
    laws.axiom_is _ _ _ _ found.0 (laws.sought_equivalent _ _ _ _ _ _ c.loop-at.invariant.2 word _ _ _ is found.1) (omega arith) found.4 found.5 found.3

pub loop-at-smaller : goal.loop-at-smaller
loop-at-smaller c =
    let word : AtToken c.args.s.now c.loop-at.at (kind_number c.token_at-word.result.kind) c.token_at-word.result.place c.token_at-word.result.end = (c.token_at-word.ensures.0, c.token_at-word.ensures.1, c.token_at-word.ensures.2) in
    let is : kind_number c.token_at-word.result.kind ≡ 6 = ap kind_number c.in-Declaration.is in
    let goes = rests.token_goes _ _ _ _ _ word c.loop-at.invariant.0 (λ z. omega arith) in
    let on = ends.jumps_le _ _ _ c.closed-at.ensures.2 in
    let in_text = c.closed-at.ensures.1 in
    omega arith

pub loop-at-preserved : goal.loop-at-preserved
loop-at-preserved c =
    let word : AtToken c.args.s.now c.loop-at.at (kind_number c.token_at-word.result.kind) c.token_at-word.result.place c.token_at-word.result.end = (c.token_at-word.ensures.0, c.token_at-word.ensures.1, c.token_at-word.ensures.2) in
    let behind = ends.end_behind _ _ _ _ _ word in
    let on = ends.jumps_le _ _ _ c.closed-at.ensures.2 in
    let far = c.loop-at.invariant.1 in
    (c.closed-at.ensures.1, omega arith, laws.sought_turn _ _ _ _ _ _ _ c.loop-at.invariant.2 word (ap kind_number c.in-Declaration.is) c.closed-at.ensures.0 c.closed-at.ensures.2)

pub returns-in_default : goal.returns-in_default
returns-in_default c =
    let word : AtToken c.args.s.now c.loop-at.at (kind_number c.token_at-word.result.kind) c.token_at-word.result.place c.token_at-word.result.end = (c.token_at-word.ensures.0, c.token_at-word.ensures.1, c.token_at-word.ensures.2) in
    laws.sought_none _ _ _ _ _ _ c.loop-at.invariant.2 word _ _ _
    (kind_number_differs _ _ c.in_default.not-Declaration) (kind_number_differs _ _ c.in_default.not-SubClassOf) (kind_number_differs _ _ c.in_default.not-EquivalentClasses)
