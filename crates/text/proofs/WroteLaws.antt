-- Laws of what a writer wrote.
--
--   wrote_none == nothing, where nothing was done
--   wrote_then == a text and then another are written as one
--   wrote_as   == the text may be said in another way
--   wrote_by   == the writer behind it may be told in another way
--   wrote_all  == what a writer that begins at the start of a buffer wrote is appended to the buffer
use Rattle.std.proofs.Common.{◌≡◌, refl, sym, ap₂, subst, ◌∙◌, List, [], ◌++◌, ℕ, ◌+◌, length}
use Rattle.text.specs.declared.Writer.{Writer}
use Rattle.text.specs.Append.{fitting, put, Appended}
use Rattle.text.specs.AppendLaws.{appended_none, appended_then}
use Rattle.text.specs.Wrote.{Wrote}

pub wrote_none : (w : Writer) → Wrote w [] w
wrote_none w = record { same = refl; appended = appended_none w.buffer.now w.at }

pub wrote_then : {w m v : Writer} {s t : List ℕ} → Wrote w s m → Wrote m t v → Wrote w (s ++ t) v
wrote_then h k = record { same = k.same ∙ h.same; appended = appended_then h.appended k.appended }

pub wrote_as : {w v : Writer} {s t : List ℕ} → Wrote w s v → s ≡ t → Wrote w t v
wrote_as {w} {v} h e = subst (λ (t : List ℕ). Wrote w t v) e h

-- where two ways come together
pub wrote_by : {w m v : Writer} {t : List ℕ} → v ≡ m → Wrote w t m → Wrote w t v
wrote_by {w} {m} {v} {t} e x = subst (λ (v : Writer). Wrote w t v) (sym e) x

pub wrote_all : {w v : Writer} {t b a : List ℕ} → Wrote w t v → w.buffer.now ≡ b → w.at ≡ 0 → (w.buffer.ghost_name ≡ v.buffer.ghost_name → a ≡ v.buffer.now) → Appended b 0 t a v.at
wrote_all {w} {v} {t} h e z f = record {
  bytes = f (sym h.same) ∙ h.appended.bytes ∙ ap₂ (λ (b : List ℕ) (i : ℕ). put b i t) e z;
  end = h.appended.end ∙ ap₂ (λ (b : List ℕ) (i : ℕ). i + length (fitting b i t)) e z;
}
