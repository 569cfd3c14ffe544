-- Laws of what is read one after the other.
--
--   got_same                     == two readings of one thing are equal
--   if_passed, if_refused        == past a refusal, and where it is
--   refuse_got, then_got, or_got == what is known where something was read past a refusal, in two steps, from a code
--   means_got, means_if, means_or, means_then, means_many == where each way to read is a refusal, P holds of it
--   many_got           == as many as were asked for
--   many_whole, many_stopped == what `read_many` answers, the other way round
--   many_each          == where each stands, and where they end
--   stands_then        == bytes that stand at a place, and others behind them
--   many_written, many_read == things that were read stand there as they are written, and back
use Rattle.std.specs.Prelude.{◌≡◌, Bool, true, false, T, get_or}
use Rattle.std.proofs.Math.Path.{refl, sym, ap, subst}
use Rattle.std.proofs.Common.{◌∙◌, drop-drop}
use mathlib.Core.List.{List, [], ◌∷◌, ◌++◌, flat_map, append_assoc}
use Rattle.std.proofs.Math.Option.{Option, none, some}
use Prim.Native.Nat.{ℕ, zero, suc, ◌+◌, ◌<◌}
use native.Mathlib.Omega.{arith}
use Rattle.std.proofs.Math.ListN.{length, drop, length-append}
use Rattle.std.proofs.Math.Seq.{drop-append_seam}
use Rattle.el.specs.Test.{every_of}
use Rattle.el.specs.TestLaws.{and_make, and_left, and_right}
use Rattle.answer.specs.declared.Answer.{Answer}
use Rattle.answer.specs.declared.Answer.TheVariants.{NotAllowed}
use Rattle.table.specs.Reading.{Read, refused, got, refuse_if, and_then, or_refused, read_many}
use Rattle.table.specs.Standing.{Means, Many, along, Stands}

refused_got : {A : Type 0} (why : Answer) (a : A) (end : ℕ) → refused why ≡ got a end → ⊥
refused_got why a end q = let z : ◌≡◌ {A = ℕ} 0 1 = cc in omega arith

pub got_same : {A : Type 0} (a b : A) (m n : ℕ) → got a m ≡ got b n → (a ≡ b) × (m ≡ n)
got_same a b m n q = (cc, cc)

pub if_passed : {A : Type 0} (t : Bool) (why : Answer) (x : Read A) → t ≡ false → refuse_if t why x ≡ x
if_passed t why x e = ap (λ (u : Bool). refuse_if u why x) e

pub if_refused : {A : Type 0} (t : Bool) (why : Answer) (x : Read A) → t ≡ true → refuse_if t why x ≡ refused why
if_refused t why x e = ap (λ (u : Bool). refuse_if u why x) e

pub refuse_got : {A : Type 0} (t : Bool) (why : Answer) (x : Read A) (a : A) (end : ℕ) → refuse_if t why x ≡ got a end → (t ≡ false) × (x ≡ got a end)
refuse_got true why x a end q = absurd (refused_got why a end q)
refuse_got false why x a end q = (refl, q)

pub then_got : {A B : Type 0} (x : Read A) (f : A → ℕ → Read B) (b : B) (end : ℕ) → and_then x f ≡ got b end → (a : A) × (at : ℕ) × (x ≡ got a at) × (f a at ≡ got b end)
then_got (refused why) f b end q = absurd (refused_got why b end q)
then_got (got a at) f b end q = (a, at, refl, q)

pub or_got : {A : Type 0} (at : ℕ) (o : Option A) (a : A) (end : ℕ) → or_refused at o ≡ got a end → (o ≡ some a) × (end ≡ at + 1)
or_got at none a end q = absurd (refused_got (NotAllowed at) a end q)
or_got at (some b) a end q = (cc, cc)

------------------------------------------------------------------ refusals

module _ (P : Answer → Type 0) where
  pub means_got : {A : Type 0} (a : A) (at : ℕ) → Means P (got a at)
  means_got a at why q = absurd (refused_got why a at (sym q))

  means_refused : {A : Type 0} (was : Answer) → P was → Means P {A = A} (refused was)
  means_refused was r why q = let a : was ≡ why = cc in subst P a r

  pub means_if : {A : Type 0} (t : Bool) (was : Answer) (x : Read A) → (t ≡ true → P was) → (t ≡ false → Means P x) → Means P (refuse_if t was x)
  means_if true was x f g = means_refused was (f refl)
  means_if false was x f g = g refl

  pub means_or : {A : Type 0} (at : ℕ) (o : Option A) → (o ≡ none → P (NotAllowed at)) → Means P (or_refused at o)
  means_or at none f = means_refused (NotAllowed at) (f refl)
  means_or at (some a) f = means_got a (at + 1)

  pub means_then : {A B : Type 0} (x : Read A) (f : A → ℕ → Read B) → Means P x → ((a : A) (at : ℕ) → x ≡ got a at → Means P (f a at)) → Means P (and_then x f)
  means_then (refused was) f h g = means_refused was (h was refl)
  means_then (got a at) f h g = g a at refl

  pub means_many : {A : Type 0} (one : ℕ → Read A) (k at : ℕ) → ((l : List A) (mid : ℕ) → Many one l at mid → length l < k → Means P (one mid)) → Means P (read_many one k at)
  unfolding read_many
  means_many one zero at f = means_got [] at
  means_many one (suc k) at f =
      means_then (one at) _ (f [] at refl (omega arith))
      (λ a next e. means_then (read_many one k next) _ (means_many one k next (λ l mid m w. f (a ∷ l) mid (next, e, m) (omega arith))) (λ l end i. means_got (a ∷ l) end))

------------------------------------------------------------------ many

module _ {A : Type 0} (one : ℕ → Read A) where
  abbrev rest : ℕ → A → ℕ → Read (List A)
  rest k a next = and_then (read_many one k next) (λ l end. got (a ∷ l) end)

  pub many_got : (k at : ℕ) (l : List A) (end : ℕ) → read_many one k at ≡ got l end → (length l ≡ k) × Many one l at end
  unfolding read_many
  many_got zero at l end q =
      let e = got_same [] l at end q in
      subst (λ (x : List A). (length x ≡ 0) × Many one x at end) e.0 (refl, e.1)
  many_got (suc k) at l end q =
      let f = then_got (one at) (rest k) l end q in
      let g = then_got (read_many one k f.1) (λ l end. got (f.0 ∷ l) end) l end f.3 in
      let e = got_same (f.0 ∷ g.0) l g.1 end g.3 in
      let ih = many_got k f.1 g.0 g.1 g.2 in
      subst (λ (x : List A). (length x ≡ suc k) × Many one x at end) e.0
      (ap suc ih.0, (f.1, f.2, subst (Many one g.0 f.1) e.1 ih.1))

  pub many_whole : (k : ℕ) (l : List A) (at end : ℕ) → length l ≡ k → Many one l at end → read_many one k at ≡ got l end
  unfolding read_many
  many_whole zero [] at end n m = ap (got []) m
  many_whole (suc k) (a ∷ l) at end n m =
      ap (λ (x : Read A). and_then x (rest k)) m.1
      ∙ ap (λ (x : Read (List A)). and_then x (λ l end. got (a ∷ l) end)) (many_whole k l m.0 end (omega arith) m.2)
  many_whole zero (a ∷ l) at end n m = absurd (let z : ⊥ = omega arith in z)
  many_whole (suc k) [] at end n m = absurd (let z : ⊥ = omega arith in z)

  pub many_stopped : (k : ℕ) (l : List A) (at mid : ℕ) (why : Answer) → Many one l at mid → length l < k → one mid ≡ refused why → read_many one k at ≡ refused why
  unfolding read_many
  many_stopped zero l at mid why m w q = absurd (let z : ⊥ = omega arith in z)
  many_stopped (suc k) [] at mid why m w q = ap (λ (x : Read A). and_then x (rest k)) (ap one m ∙ q)
  many_stopped (suc k) (a ∷ l) at mid why m w q =
      ap (λ (x : Read A). and_then x (rest k)) m.1
      ∙ ap (λ (x : Read (List A)). and_then x (λ l end. got (a ∷ l) end)) (many_stopped k l m.0 mid why m.2 (let v : suc (length l) < suc k = w in omega arith) q)

  -- where each stands
  module _ (next : ℕ → ℕ) (next_is : (at : ℕ) (a : A) (end : ℕ) → one at ≡ got a end → end ≡ next at) (d : A) where
    along_first : (at n : ℕ) → along next (next at) n ≡ along next at (suc n)
    unfolding along
    along_first at zero = refl
    along_first at (suc n) = ap next (along_first at n)

    pub many_each : (l : List A) (at end : ℕ) → Many one l at end
        → ((j : ℕ) → j < length l → one (along next at j) ≡ got (get_or l j d) (next (along next at j))) × (end ≡ along next at (length l))
    unfolding along
    many_each [] at end m = (λ j w. absurd (let z : ⊥ = omega arith in z), sym m)
    many_each (a ∷ l) at end m = let ih = many_each l m.0 end m.2 in (each ih.0, ih.1 ∙ later (length l))
      where
        first : m.0 ≡ next at
        first = next_is at a m.0 m.1

        later : (n : ℕ) → along next m.0 n ≡ along next at (suc n)
        later n = ap (λ (p : ℕ). along next p n) first ∙ along_first at n

        each : ((j : ℕ) → j < length l → one (along next m.0 j) ≡ got (get_or l j d) (next (along next m.0 j)))
            → (j : ℕ) → j < suc (length l) → one (along next at j) ≡ got (get_or (a ∷ l) j d) (next (along next at j))
        each ih zero w = m.1 ∙ ap (got a) first
        each ih (suc j) w = subst (λ (p : ℕ). one p ≡ got (get_or l j d) (next p)) (later j) (ih j (omega arith))

------------------------------------------------------------------ as they are written

pub stands_then : (s : List ℕ) (at mid end : ℕ) (x y : List ℕ) → Stands s at x mid → Stands s mid y end → Stands s at (x ++ y) end
stands_then s at mid end x y a b = (
  a.0 ∙ ap (λ (l : List ℕ). x ++ l) b.0 ∙ sym (append_assoc x y (drop end s)),
  (let p : mid ≡ at + length x = a.1 in
      let q : end ≡ mid + length y = b.1 in
      let r : length (x ++ y) ≡ length x + length y = length-append x y in
      omega arith),
)

-- behind bytes that stand at a place
pub drop_behind : (s : List ℕ) (at : ℕ) (x y : List ℕ) → drop at s ≡ x ++ y → drop (at + length x) s ≡ y
drop_behind s at x y q = sym (drop-drop (length x) at s) ∙ ap (drop (length x)) q ∙ drop-append_seam x y

module _ (s : List ℕ) {A : Type 0} (one : ℕ → Read A) (written : A → List ℕ) (right : A → Bool) where
  module _ (one_written : (at : ℕ) (a : A) (end : ℕ) → one at ≡ got a end → Stands s at (written a) end × T (right a)) where
    pub many_written : (l : List A) (at end : ℕ) → Many one l at end → Stands s at (flat_map written l) end × T (every_of right l)
    unfolding flat_map every_of
    many_written [] at end m = ((ap (λ (p : ℕ). drop p s) m, (let e : at ≡ end = m in omega arith)), tt)
    many_written (a ∷ l) at end m =
        let first = one_written at a m.0 m.1 in
        let ih = many_written l m.0 end m.2 in (
          stands_then s at m.0 end (written a) (flat_map written l) first.0 ih.0,
          and_make (right a) (every_of right l) first.1 ih.1,
        )

  module _ (one_read : (at : ℕ) (a : A) (tail : List ℕ) → T (right a) → drop at s ≡ written a ++ tail → one at ≡ got a (at + length (written a))) where
    pub many_read : (l : List A) (at : ℕ) (tail : List ℕ) → T (every_of right l) → drop at s ≡ flat_map written l ++ tail → Many one l at (at + length (flat_map written l))
    unfolding flat_map every_of
    many_read [] at tail h q = let e : at ≡ at + 0 = omega arith in e
    many_read (a ∷ l) at tail h q =
        let here : drop at s ≡ written a ++ (flat_map written l ++ tail) = q ∙ append_assoc (written a) (flat_map written l) tail in
        let end : at + length (written a) + length (flat_map written l) ≡ at + length (written a ++ flat_map written l) =
        (let z : length (written a ++ flat_map written l) ≡ length (written a) + length (flat_map written l) = length-append (written a) (flat_map written l) in omega arith) in (
          at + length (written a),
          one_read at a (flat_map written l ++ tail) (and_left (right a) (every_of right l) h) here,
          subst (Many one l (at + length (written a))) end
              (many_read l (at + length (written a)) tail (and_right (right a) (every_of right l) h) (drop_behind s at (written a) (flat_map written l ++ tail) here)),
        )
