-- Two results of the check that meet its promise are equal.
--
--   verdict_of_injective == a verdict stands for one result
--   Meets s r    == the result r meets the promise of `check` at the text s
--   check_unique == two such results are equal
use Rattle.std.specs.Prelude.{◌≡◌, refl, List, ℕ, Result, Ok, Err}
use Rattle.std.proofs.Common.{sym, ap, ap₂, ◌∙◌, arith}
use Rattle.owl.specs.Grammar.{Verdict, checked}
use Rattle.owl_text.specs.declared.Reason.{Reason}
use Rattle.owl_text.specs.declared.Reason.TheVariants.{Syntax, Unlisted}
use Rattle.owl_text.specs.declared.Refusal.{Refusal}
use Rattle.owl_text.specs.Verdict.{reason_number, verdict_of}

reason_number_injective : (a b : Reason) → reason_number a ≡ reason_number b → a ≡ b
reason_number_injective Syntax Syntax e = refl
reason_number_injective Syntax Unlisted e = absurd (let z : ◌≡◌ {A = ℕ} 10 11 = e in let y : ⊥ = omega arith in y)
reason_number_injective Unlisted Syntax e = absurd (let z : ◌≡◌ {A = ℕ} 11 10 = e in let y : ⊥ = omega arith in y)
reason_number_injective Unlisted Unlisted e = refl

refused : (r : Reason) → 0 ≡ reason_number r → ⊥
refused Syntax e = let z : ◌≡◌ {A = ℕ} 0 10 = e in omega arith
refused Unlisted e = let z : ◌≡◌ {A = ℕ} 0 11 = e in omega arith

pub verdict_of_injective : (a b : Result (Unit {0}) Refusal) → verdict_of a ≡ verdict_of b → a ≡ b
verdict_of_injective (Ok u) (Ok v) e = refl
verdict_of_injective (Ok u) (Err r) e = absurd (refused r.reason (ap (λ (v : Verdict). v.number) e))
verdict_of_injective (Err r) (Ok u) e = absurd (refused r.reason (sym (ap (λ (v : Verdict). v.number) e)))
verdict_of_injective (Err r) (Err t) e =
    ap₂ (λ (x : Reason) (p : ℕ). Err (record { reason = x; place = p })) (reason_number_injective r.reason t.reason (ap (λ (v : Verdict). v.number) e)) (ap (λ (v : Verdict). v.place) e)

abbrev pub Meets : List ℕ → Result (Unit {0}) Refusal → Type 0
Meets s r = verdict_of r ≡ checked s

pub check_unique : (s : List ℕ) (a b : Result (Unit {0}) Refusal) → Meets s a → Meets s b → a ≡ b
check_unique s a b h k = verdict_of_injective a b (h ∙ sym k)
