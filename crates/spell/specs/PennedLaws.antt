-- Laws of what was written on a sheet.
--
--   penned_none  == nothing, where nothing was done
--   penned_full  == where there is no room nothing is written
--   penned_then  == a text and then another are written as one
--   penned_as    == the text may be said in another way
--   penned_all   == what was written on a sheet is shown in the buffer that it was made of
--   penned_prefix, penned_window == at the start of a buffer the window is written
use Rattle.std.specs.Prelude.{◌≡◌, refl, List, [], ◌++◌, ℕ, ◌≤◌, length, take}
use Rattle.std.specs.Counts.{IsPrefixLen}
use Rattle.std.proofs.Common.{sym, subst, ◌∙◌}
use Rattle.spell.specs.declared.Sheet.{Sheet}
use Rattle.spell.specs.Window.{Shown, window}
use Rattle.spell.specs.WindowLaws.{shown_none, shown_full, shown_then, shown_window}
use Rattle.spell.specs.Penned.{Penned}

pub penned_none : (p : Sheet) → Penned p [] p
penned_none p = record { same = refl; shown = shown_none p.buffer.now p.pen.skip p.pen.at }

pub penned_full : (p : Sheet) (t : List ℕ) → length p.buffer.now ≤ p.pen.at → Penned p t p
penned_full p t h = record { same = refl; shown = shown_full p.buffer.now p.pen.skip p.pen.at p.pen.skip t h }

pub penned_then : {p q r : Sheet} {s t : List ℕ} → Penned p s q → Penned q t r → Penned p (s ++ t) r
penned_then h k = record { same = k.same ∙ h.same; shown = shown_then h.shown k.shown }

pub penned_as : {p q : Sheet} {s t : List ℕ} → Penned p s q → s ≡ t → Penned p t q
penned_as {p} {q} h e = subst (λ (t : List ℕ). Penned p t q) e h

module _ {p q : Sheet} {t b a : List ℕ} (h : Penned p t q) (e : p.buffer.now ≡ b) (f : p.buffer.ghost_name ≡ q.buffer.ghost_name → a ≡ q.buffer.now) where
  pub penned_all : Shown b p.pen.skip p.pen.at t a q.pen.skip q.pen.at
  penned_all =
      let s = subst (λ (x : List ℕ). Shown x p.pen.skip p.pen.at t q.buffer.now q.pen.skip q.pen.at) e h.shown in
      subst (λ (x : List ℕ). Shown b p.pen.skip p.pen.at t x q.pen.skip q.pen.at) (sym (f (sym h.same))) s

  at_start : p.pen.at ≡ 0 → Shown b p.pen.skip 0 t a q.pen.skip q.pen.at
  at_start z = subst (λ (n : ℕ). Shown b p.pen.skip n t a q.pen.skip q.pen.at) z penned_all

  pub penned_prefix : p.pen.at ≡ 0 → IsPrefixLen q.pen.at a
  penned_prefix z = let w = shown_window (at_start z) in (w.0, w.1)

  pub penned_window : p.pen.at ≡ 0 → take q.pen.at a ≡ window p.pen.skip (length b) t
  penned_window z = let w = shown_window (at_start z) in w.2
