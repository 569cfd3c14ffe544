-- `makrothel::read` meets its contract: a law for a refused table and one for a readable one.
use Rattle.std.proofs.Common.{◌≡◌, ℕ, subst, ◌∙◌, arith}
use Rattle.answer.specs.declared.Answer.{Answer}
use Rattle.table.specs.Reading.{reading}
use Rattle.makrothel.specs.declared.ReadAnswer.{ReadAnswer}
use Rattle.makrothel.specs.Answer.{read_as, zeros, read_answer}
use Rattle.makrothel.proofs.Laws.{read_refused, read_readable}
use Rattle.makrothel.proofs.read.Goals as goal

-- an answer whose counts are all 0
all_zero : {x : ReadAnswer} (a : Answer) (c r v e m q : ℕ) → x ≡ read_as a (record { version = 0; c = c; r = r; v = v; e = e; m = m; q = q })
    → c ≡ 0 → r ≡ 0 → v ≡ 0 → e ≡ 0 → m ≡ 0 → q ≡ 0 → x ≡ read_as a zeros
all_zero a c r v e m q p c₀ r₀ v₀ e₀ m₀ q₀ = p ∙ (λ i. read_as a (record { version = 0; c = c₀ i; r = r₀ i; v = v₀ i; e = e₀ i; m = m₀ i; q = q₀ i }))

pub returns-in-Ok : goal.returns-in-Ok
returns-in-Ok c = subst (λ s. c.read_as.result ≡ read_answer (reading s)) c.in-Ok.ensures.ok (c.read_as.ensures ∙ read_readable _ _ c.header.ensures c.in-Ok.readable.reads)

pub returns-in-Err : goal.returns-in-Err
returns-in-Err c =
    let d = c.default.ensures in
    all_zero c.in-Err.why _ _ _ _ _ _ c.read_as-in-Err.ensures (omega arith) (omega arith) (omega arith) (omega arith) (omega arith) (omega arith)
    ∙ read_refused _ _ c.in-Err.ensures.err
