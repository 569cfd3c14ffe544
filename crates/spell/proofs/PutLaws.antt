-- Laws that carry the small writers to what they write.
--
--   if_none                 == no text, where none is written
--   name_none, name_there   == a name by the places where it stands
--   name_is                 == it is the name of the list
use Rattle.std.proofs.Common.{◌≡◌, refl, sym, ap, ◌∙◌, Bool, false, cond, List, [], ◌∷◌, ℕ, zero, suc, ◌-◌, ◌≤◌, ◌<◌, arith, length, take, drop, lt-ltb, le-ltb}
use Rattle.std.proofs.Math.Decide.{dec_lt}
use Rattle.owl.specs.Tree.{Name}
use Rattle.spell.specs.declared.Sheet.{Sheet}
use Rattle.spell.specs.declared.Span.{Span}
use Rattle.spell.specs.Penned.{Penned}
use Rattle.spell.specs.PennedLaws.{penned_none, penned_as}
use Rattle.spell.specs.Spelling.{name_of}
use Rattle.spell.specs.Given.{span_at, span_text, SpansOf}

pub if_none : (p : Sheet) (there : Bool) (t : List ℕ) → there ≡ false → Penned p (cond there t []) p
if_none p there t e = penned_as (penned_none p) (sym (ap (λ (y : Bool). cond y t []) e))

none_there : (s : List ℕ) (spans : List Span) (k : ℕ) → length spans ≤ k → span_text s spans k ≡ []
unfolding span_text
none_there s spans k h = rw (le-ltb k (length spans) h, span_text)

pub name_none : (p : Sheet) (s : List ℕ) (spans : List Span) (k : ℕ) → length spans ≤ k → Penned p (span_text s spans k) p
name_none p s spans k h = penned_as (penned_none p) (sym (none_there s spans k h))

pub name_there : {p q : Sheet} (s : List ℕ) (spans : List Span) {k : ℕ} {span : Span} → k < length spans → span ≡ span_at spans k
    → Penned p (take (span.to - span.from) (drop span.from s)) q → Penned p (span_text s spans k) q
unfolding span_text
name_there s spans {k} {span} h e x =
    penned_as x (ap (λ (y : Span). take (y.to - y.from) (drop y.from s)) e ∙ rw (lt-ltb k (length spans) h, span_text))

name_past : (l : List Name) (k : ℕ) → length l ≤ k → name_of l k ≡ []
unfolding name_of
name_past [] k h = refl
name_past (n ∷ l) zero h = absurd (let z : ⊥ = omega arith in z)
name_past (n ∷ l) (suc k) h = name_past l k (omega arith)

pub name_is : {s : List ℕ} {l : List Name} {spans : List Span} → SpansOf s l spans → (k : ℕ) → span_text s spans k ≡ name_of l k
name_is {s} {l} {spans} is k = go (dec_lt k (length l))
  where
    go : Dec (k < length l) → span_text s spans k ≡ name_of l k
    go (yes h) = is.said k h
    go (no h) = let m : length spans ≡ length l = is.many in none_there s spans k (omega arith) ∙ sym (name_past l k (omega arith))
