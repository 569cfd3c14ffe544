-- Each listed word is asked for in turn.
use mathlib.Core.Path.{◌≡◌, sym, ◌∙◌}
use mathlib.Core.Bool.{false}
use mathlib.Core.List.{List, [], ◌∷◌}
use Prim.Native.Nat.{ℕ, ◌≤◌, ◌<◌}
use lib.ListN.{length, get_or}
use Rattle.std.proofs.Common.{T, subst, eqb→eq}
use native.Mathlib.Omega.{arith}
use Rattle.el.specs.Test.{every_of}
use Rattle.owl.specs.Naming.{same_bytes}
use Rattle.owl.specs.Token.{is_plain, byte_class, keywords, prefix_word, ontology_word, declaration_word, class_word, property_word, sub_class_word, equivalent_word, intersection_word, some_values_word}
use Rattle.owl_token.specs.Keyword.{run_of, keyword_kind}
use Rattle.owl_token.proofs.KeywordLaws as words
use Rattle.owl_token.proofs.RunLaws as runs
use Rattle.owl_token.proofs.listed.Goals as goal
use Rattle.owl_token.proofs.listed.Goals.{then-is_empty-via-then-is_empty, then-is_empty-via-else-is_empty+then-s-lt67}

-- a byte below all capitals that begin one
low : (s : List ℕ) → get_or s 0 0 < 67 → (w : List ℕ) → 0 < length w → 67 ≤ get_or w 0 0 → same_bytes (run_of s) w ≡ false
low [] h w l k = runs.word_short [] w 0 (omega arith) l
low (b ∷ s) h w l k = runs.word_off (b ∷ s) w 0 (omega arith) l (λ e. omega arith)

none_in : (s : List ℕ) → length s ≡ 0 → get_or s 0 0 < 67
none_in [] e = omega arith
none_in (b ∷ s) e = omega arith

none_low : (s : List ℕ) → get_or s 0 0 < 67 → keyword_kind (run_of s) ≡ 0
unfolding keywords prefix_word ontology_word declaration_word class_word property_word sub_class_word equivalent_word intersection_word some_values_word
none_low s h =
    let f : (w : List ℕ) → 0 < length w → 67 ≤ get_or w 0 0 → same_bytes (run_of s) w ≡ false = low s h in
    words.unlisted _ (f _ (omega arith) (omega arith), (f _ (omega arith) (omega arith), (f _ (omega arith) (omega arith), (f _ (omega arith) (omega arith), (f _ (omega arith) (omega arith), (f _ (omega arith) (omega arith), (f _ (omega arith) (omega arith), (f _ (omega arith) (omega arith), (f _ (omega arith) (omega arith), tt)))))))))

pub returns-then-is_empty : goal.returns-then-is_empty
returns-then-is_empty c = elim c.then-is_empty.branch [
  | then-is_empty-via-then-is_empty w ↦ none_low c.args.s.now (let e : length c.args.s.now ≡ 0 = eqb→eq (length c.args.s.now) 0 (subst T w.if-is_empty.ensures tt) in none_in c.args.s.now e)
  | then-is_empty-via-else-is_empty+then-s-lt67 w ↦ none_low c.args.s.now w.if-s-lt67.true
]

pub is_word-requires : goal.is_word-requires
unfolding every_of byte_class is_plain
is_word-requires c = tt

pub returns-then-is_word : goal.returns-then-is_word
unfolding keywords prefix_word ontology_word declaration_word class_word property_word sub_class_word equivalent_word intersection_word some_values_word
returns-then-is_word c = words.listed 0 _ (omega arith) (sym c.is_word.ensures ∙ c.if-is_word.true)

pub is_word-requires-2 : goal.is_word-requires-2
unfolding every_of byte_class is_plain
is_word-requires-2 c = tt

pub returns-then-is_word-2 : goal.returns-then-is_word-2
unfolding keywords prefix_word ontology_word declaration_word class_word property_word sub_class_word equivalent_word intersection_word some_values_word
returns-then-is_word-2 c = words.listed 1 _ (omega arith) (sym c.is_word-2.ensures ∙ c.if-is_word-2.true)

pub is_word-requires-3 : goal.is_word-requires-3
unfolding every_of byte_class is_plain
is_word-requires-3 c = tt

pub returns-then-is_word-3 : goal.returns-then-is_word-3
unfolding keywords prefix_word ontology_word declaration_word class_word property_word sub_class_word equivalent_word intersection_word some_values_word
returns-then-is_word-3 c = words.listed 2 _ (omega arith) (sym c.is_word-3.ensures ∙ c.if-is_word-3.true)

pub is_word-requires-4 : goal.is_word-requires-4
unfolding every_of byte_class is_plain
is_word-requires-4 c = tt

pub returns-then-is_word-4 : goal.returns-then-is_word-4
unfolding keywords prefix_word ontology_word declaration_word class_word property_word sub_class_word equivalent_word intersection_word some_values_word
returns-then-is_word-4 c = words.listed 3 _ (omega arith) (sym c.is_word-4.ensures ∙ c.if-is_word-4.true)

pub is_word-requires-5 : goal.is_word-requires-5
unfolding every_of byte_class is_plain
is_word-requires-5 c = tt

pub returns-then-is_word-5 : goal.returns-then-is_word-5
unfolding keywords prefix_word ontology_word declaration_word class_word property_word sub_class_word equivalent_word intersection_word some_values_word
returns-then-is_word-5 c = words.listed 4 _ (omega arith) (sym c.is_word-5.ensures ∙ c.if-is_word-5.true)

pub is_word-requires-6 : goal.is_word-requires-6
unfolding every_of byte_class is_plain
is_word-requires-6 c = tt

pub returns-then-is_word-6 : goal.returns-then-is_word-6
unfolding keywords prefix_word ontology_word declaration_word class_word property_word sub_class_word equivalent_word intersection_word some_values_word
returns-then-is_word-6 c = words.listed 5 _ (omega arith) (sym c.is_word-6.ensures ∙ c.if-is_word-6.true)

pub is_word-requires-7 : goal.is_word-requires-7
unfolding every_of byte_class is_plain
is_word-requires-7 c = tt

pub returns-then-is_word-7 : goal.returns-then-is_word-7
unfolding keywords prefix_word ontology_word declaration_word class_word property_word sub_class_word equivalent_word intersection_word some_values_word
returns-then-is_word-7 c = words.listed 6 _ (omega arith) (sym c.is_word-7.ensures ∙ c.if-is_word-7.true)

pub is_word-requires-8 : goal.is_word-requires-8
unfolding every_of byte_class is_plain
is_word-requires-8 c = tt

pub returns-then-is_word-8 : goal.returns-then-is_word-8
unfolding keywords prefix_word ontology_word declaration_word class_word property_word sub_class_word equivalent_word intersection_word some_values_word
returns-then-is_word-8 c = words.listed 7 _ (omega arith) (sym c.is_word-8.ensures ∙ c.if-is_word-8.true)

pub is_word-requires-9 : goal.is_word-requires-9
unfolding every_of byte_class is_plain
is_word-requires-9 c = tt

pub returns-then-is_word-9 : goal.returns-then-is_word-9
unfolding keywords prefix_word ontology_word declaration_word class_word property_word sub_class_word equivalent_word intersection_word some_values_word
returns-then-is_word-9 c = words.listed 8 _ (omega arith) (sym c.is_word-9.ensures ∙ c.if-is_word-9.true)

pub returns : goal.returns
unfolding keywords prefix_word ontology_word declaration_word class_word property_word sub_class_word equivalent_word intersection_word some_values_word
returns c = words.unlisted _ (sym c.is_word.ensures ∙ c.if-is_word.false, (sym c.is_word-2.ensures ∙ c.if-is_word-2.false, (sym c.is_word-3.ensures ∙ c.if-is_word-3.false, (sym c.is_word-4.ensures ∙ c.if-is_word-4.false, (sym c.is_word-5.ensures ∙ c.if-is_word-5.false, (sym c.is_word-6.ensures ∙ c.if-is_word-6.false, (sym c.is_word-7.ensures ∙ c.if-is_word-7.false, (sym c.is_word-8.ensures ∙ c.if-is_word-8.false, (sym c.is_word-9.ensures ∙ c.if-is_word-9.false, tt)))))))))
