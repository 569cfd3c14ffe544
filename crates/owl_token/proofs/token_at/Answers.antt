-- One token: at the end, a run, a full name, or one byte.
use Rattle.std.proofs.Common.{◌≡◌, ◌<◌, ◌≤◌, sym, ◌∙◌, length, get_or, arith}
use borrow.Author.Tests.{eq-eqb, ne_eqb}
use Rattle.owl.specs.Token.{place_at}
use Rattle.owl_token.proofs.RunLaws as runs
use Rattle.owl_token.proofs.TokenAtLaws as laws
use Rattle.owl_token.proofs.token_at.Goals as goal

pub returns-then-place-s : goal.returns-then-place-s
returns-then-place-s c =
    let s = c.args.s.now in
    let at = c.args.at in
    let p = c.skip-place.result in
    let e : p ≡ place_at s at = c.skip-place.ensures.0 in
    let h : length s ≤ p = omega arith in
    (laws.end_kind s at p e h, e, laws.end_end s at p e h, omega arith)

pub overflow_add-result : goal.overflow_add-result
overflow_add-result c =
    let s = c.args.s.now in
    let p = c.skip-place.result in
    let e = c.skip-place.ensures.0 in
    let h : p < length s = omega arith in
    let t = laws.word_token s c.args.at p e h (sym c.if-in_run.ensures) _ _ c.in-Some.ensures in
    omega arith

pub returns-in-Some : goal.returns-in-Some
returns-in-Some c =
    let s = c.args.s.now in
    let p = c.skip-place.result in
    let e = c.skip-place.ensures.0 in
    let h : p < length s = omega arith in
    let t = laws.word_token s c.args.at p e h (sym c.if-in_run.ensures) _ _ c.in-Some.ensures in
    (t.0, e, t.1, t.2)

pub returns-then-in_run : goal.returns-then-in_run
returns-then-in_run c =
    let s = c.args.s.now in
    let p = c.skip-place.result in
    let e = c.skip-place.ensures.0 in
    let h : p < length s = omega arith in
    let f = sym c.if-in_run.ensures in
    let q = c.run_at-run.result.end in (
      c.run_kind.ensures ∙ laws.other_token s c.args.at p e h f c.in_default.ensures _ q c.run_at-run.ensures.2 c.run_at-run.ensures.0,
      e,
      c.run_at-run.ensures.0 ∙ laws.run_size s c.args.at p e h f,
      c.run_at-run.ensures.1,
    )

pub returns-then-b-ne60 : goal.returns-then-b-ne60
returns-then-b-ne60 c =
    let s = c.args.s.now in
    let p = c.skip-place.result in
    let e = c.skip-place.ensures.0 in
    let h : p < length s = omega arith in
    let n = sym c.if-in_run.ensures in
    let f = sym (runs.full_byte (get_or s p 0) (omega (arith, c.type_inv.s p))) ∙ ne_eqb (get_or s p 0) 60 c.if-b-ne60.true in
    (c.mark_kind.ensures ∙ laws.mark_kind s c.args.at p e h n f, e, laws.mark_size s c.args.at p e h n f, omega arith)

pub returns-then-close-s : goal.returns-then-close-s
returns-then-close-s c =
    let s = c.args.s.now in
    let p = c.skip-place.result in
    let e = c.skip-place.ensures.0 in
    let h : p < length s = omega arith in
    let n = sym c.if-in_run.ensures in
    let f = sym (runs.full_byte (get_or s p 0) (omega (arith, c.type_inv.s p))) ∙ eq-eqb (get_or s p 0) 60 (omega arith) in
    let q = c.close_at-close.result in
    let l : length s ≤ q = omega arith in
    (laws.open_kind s c.args.at p e h n f q c.close_at-close.ensures.0 l, e, laws.open_size s c.args.at p e h n f q c.close_at-close.ensures.0 l, omega arith)

pub returns : goal.returns
returns c =
    let s = c.args.s.now in
    let p = c.skip-place.result in
    let e = c.skip-place.ensures.0 in
    let h : p < length s = omega arith in
    let n = sym c.if-in_run.ensures in
    let f = sym (runs.full_byte (get_or s p 0) (omega (arith, c.type_inv.s p))) ∙ eq-eqb (get_or s p 0) 60 (omega arith) in
    let q = c.close_at-close.result in
    let l : q < length s = omega arith in
    (laws.full_kind_lem s c.args.at p e h n f q c.close_at-close.ensures.0 l, e, laws.full_size_lem s c.args.at p e h n f q c.close_at-close.ensures.0 l, omega arith)
