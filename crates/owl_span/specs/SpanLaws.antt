-- What the places of the names of a group are worth.
--
--   span_said == a name is the text at its place
--   spans_of  == where there is room for all of them, they are the names of the group
--   spans_any == what is no group's number stands for the same group as in the definitions
use Rattle.std.specs.Prelude.{◌≡◌, List, ℕ, ◌-◌, ◌≤◌, ◌<◌, length, take, drop}
use Rattle.std.proofs.Common.{sym, subst, ◌∙◌, arith, get_or-take, length-take-le, lt-ltb}
use Rattle.owl.specs.Tree.{Name}
use Rattle.owl.specs.Mention.{names_in}
use Rattle.spell.specs.declared.Span.{Span}
use Rattle.spell.specs.Spelling.{name_of}
use Rattle.spell.specs.Given.{span_at, span_text, SpansOf}
use Rattle.owl_name.specs.Declarations.{group_of, group_names}
use Rattle.owl_name.specs.AnyNumberLaws.{group_names_any}
use Rattle.owl_span.specs.Span.{SpanAt, SpansDone}

pub span_said : (s : List ℕ) (l : List Name) (spans : List Span) (k : ℕ) → k < length spans → SpanAt s l spans k → span_text s spans k ≡ name_of l k
unfolding span_text
span_said s l spans k h x = rw (lt-ltb k (length spans) h, span_text) x.bytes

-- where a name stands may be told by another list that has it
pub span_moved : (s : List ℕ) (l : List Name) (spans spans' : List Span) (k : ℕ) → span_at spans' k ≡ span_at spans k → SpanAt s l spans k → SpanAt s l spans' k
span_moved s l spans spans' k e x =
    let P : Span → Type 0 = λ y. (y.from ≤ y.to) × (y.to ≤ length s) × (take (y.to - y.from) (drop y.from s) ≡ name_of l k) in
    let z = subst P (sym e) (x.order, x.inside, x.bytes) in record { order = z.0; inside = z.1; bytes = z.2 }

pub spans_of : (s : List ℕ) (g : ℕ) (spans : List Span) (r : ℕ) → SpansDone s g spans r → r ≤ length spans → SpansOf s (group_names (names_in s) g) (take r spans)
unfolding SpansDone
spans_of s g spans r d room = record {
  many = long ∙ d.0;
  inside = λ k h. (let x = at k (omega (arith, long)) in (x.order, x.inside));
  said = λ k h. span_said s (group_names (names_in s) g) (take r spans) k (omega (arith, long, d.0)) (at k (omega (arith, d.0)));
}
  where
    long : length (take r spans) ≡ r
    long = length-take-le r spans room

    at : (k : ℕ) → k < r → SpanAt s (group_names (names_in s) g) (take r spans) k
    at k h = span_moved s (group_names (names_in s) g) spans (take r spans) k (get_or-take r spans k _ h) (d.1 k h (omega arith))

pub spans_any : (s : List ℕ) (g : ℕ) (spans : List Span) (r : ℕ) → SpansDone s (group_of g) spans r → SpansDone s g spans r
unfolding SpansDone
spans_any s g spans r d = subst (λ (l : List Name). (r ≡ length l) × ((k : ℕ) → k < r → k < length spans → SpanAt s l spans k)) (group_names_any (names_in s) g) d
