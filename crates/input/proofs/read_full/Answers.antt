use Rattle.std.proofs.Common.{rules, ◌≡◌, ℕ, ◌+◌, ◌-◌, ◌≤◌, List, ◌++◌, length, take, drop, sym, ap, subst, ◌∙◌, le_refl, drop_at, length-take-le}
use Rattle.std.proofs.lemmas.Slice.{take-put_mid_below}
use Rattle.std.specs.Io.KnownBytes.{Consumes}
use Rattle.std.proofs.KnownBytes.{Consumes-trans}
use borrow.Rule.Slice.PartMut.{put_mid, post_of}
use Rattle.std.proofs.Math.Seq.{take-add}
use Rattle.std.proofs.lemmas.List.{take-append-le}
use Rattle.input.proofs.read_full.Goals as goal

-- a filled front grows by the n bytes that were read behind it
more : (a k n : ℕ) (xs ys : List ℕ) → a ≤ length xs → n ≤ length ys → take a xs ++ take n ys ≡ take (a + n) (put_mid a k xs ys)
more a k n xs ys within fits =
    let all = put_mid a k xs ys in
    let front = take-put_mid_below a k xs ys a (le_refl a) within in
    let part = ap (take n) (drop_at (take a xs) (ys ++ post_of a k xs) a (length-take-le a xs within)) ∙ take-append-le n ys (post_of a k xs) fits in
    sym (take-add a n all ∙ ap (λ l. l ++ take n (drop a all)) front ∙ ap (λ l. take a xs ++ l) part)

pub loop-done-preserved : goal.loop-done-preserved
loop-done-preserved g c =
    let read = c.in_ok-n.ensures in
    let before = c.loop-done.invariant in
    let grown = more c.loop-done.done (length c.loop-done.buffer - c.loop-done.done) c.in_ok-n.n c.loop-done.buffer c.read.new.buf before.0 read.bound.0 in
    (search rules, search rules, subst (Consumes _ _) grown (Consumes-trans _ _ _ _ _ before.2 read.bytes.0))
