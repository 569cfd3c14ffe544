-- What is written of an input whose bytes are known, by its first bytes, and what is left where a call fails.
--
--   on_known     == what holds of the text of an input's first bytes, where no more are looked at, holds of the input's text
--   on_err       == what holds in any case holds where a call failed
--   none_written == of a text that has a byte, where nothing is written not all is
use Rattle.std.specs.Prelude.{◌≡◌, List, ℕ, ◌<◌, length, take, Option, Some, None, Result, Ok, Err, OnErr, IfSome}
use Rattle.std.proofs.Common.{ap, subst, ◌∙◌}
use Rattle.std.proofs.KnownBytes.{Appends-nil}
use Rattle.input.specs.Part.{AppendsPart}

module _ (text : List ℕ → List ℕ) where
  pub on_known : (most : ℕ) → ((s : List ℕ) → text (take most s) ≡ text s) → (file : Option (List ℕ)) (front : List ℕ) (room : ℕ) → room ≡ most → IfSome file (λ xs. front ≡ take room xs)
      → (P : List ℕ → Type 0) → P (text front) → IfSome file (λ xs. P (text xs))
  on_known most first None front room m k P h = tt
  on_known most first (Some xs) front room m k P h = subst P (ap text (k ∙ ap (λ (n : ℕ). take n xs) m) ∙ first xs) h

  pub none_written : ((s : List ℕ) → 0 < length (text s)) → {A E : Type 0} (r : Result A E) (file to : Option (List ℕ)) → OnErr r (IfSome file (λ xs. AppendsPart to to (text xs)))
  none_written some (Ok x) file to = tt
  none_written some (Err e) None to = tt
  none_written some (Err e) (Some xs) to = (0, some xs, Appends-nil to)

pub on_err : {A E P : Type 0} (r : Result A E) → P → OnErr r P
on_err (Ok x) p = tt
on_err (Err e) p = p
