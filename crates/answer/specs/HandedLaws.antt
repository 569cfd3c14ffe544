-- No two answers are handed back alike.
--
--   handed_apart == where number, count and place are the same, so is the answer
use Rattle.std.specs.Prelude.{◌≡◌, refl, [], ◌∷◌, get_or}
use Rattle.std.proofs.Common.{sym, ap, ◌∙◌}
use Rattle.answer.specs.declared.Answer.{Answer}
use Rattle.answer.specs.declared.Answer.TheVariants.{Solved, EndsEarly, WrongMark, WrongVersion, OverBound, NotAllowed, BytesAfter, OutputShort, Nothing, Budget}
use Rattle.answer.specs.declared.Handed.{Handed}
use Rattle.answer.specs.Handed.{handed}

-- the answer that is handed back so
abbrev heard : Handed → Answer
heard h =
    get_or
    (Solved h.count ∷ EndsEarly h.place ∷ WrongMark ∷ WrongVersion ∷ OverBound h.place ∷ NotAllowed h.place ∷ BytesAfter h.place ∷ OutputShort h.place ∷ Nothing h.count ∷ [])
    h.number
    (Budget h.count)

heard_handed : (a : Answer) → heard (handed a) ≡ a
heard_handed (Solved n) = refl
heard_handed (EndsEarly p) = refl
heard_handed WrongMark = refl
heard_handed WrongVersion = refl
heard_handed (OverBound p) = refl
heard_handed (NotAllowed p) = refl
heard_handed (BytesAfter p) = refl
heard_handed (OutputShort p) = refl
heard_handed (Nothing n) = refl
heard_handed (Budget b) = refl

pub handed_apart : (a b : Answer) → handed a ≡ handed b → a ≡ b
handed_apart a b q = sym (heard_handed a) ∙ ap heard q ∙ heard_handed b
