-- The outcome read off the list of nodes by going along it, a node at a time.
--
--   scan_end, scan_spent, scan_solved, scan_on == going along the list, by cases
--   moves_none, moves_one, moves_on == no node, one node, and some after others
--   scan_moves           == nodes of which none passes, gone along at once
--   off_in, off_out      == what is read off the whole list, within the budget and beyond
--   scan_means           == from the start it is the outcome that `up_to_first` and `first_of` give
use Rattle.std.specs.Prelude.{◌≡◌, refl, Bool, true, false, List, [], ◌∷◌, ◌++◌, ℕ, zero, suc, ◌+◌, ◌-◌, ◌≤◌, ◌<◌, leb, length}
use Rattle.std.proofs.Common.{sym, ap₂, ◌∙◌, append_assoc, arith, add-zero, zero-add, length-append, le-leb}
use Rattle.std.proofs.Math.Path.{ap}
use Rattle.std.proofs.Math.Option.{Option, some}
use Rattle.std.proofs.Math.Decide.{dec_le}
use Rattle.std.proofs.Math.Nat.{sub-zero}
use Rattle.std.proofs.lemmas.Bool.{lt-leb}
use Rattle.el.specs.Table.{Table}
use Rattle.el.specs.Walk.{Node, up_to_first, first_of, examined, count, solved, nothing, budget, ended, outcome, ends, nodes}
use Rattle.el.specs.Along.{NonePasses, Moves, scan, read_off}

pub scan_end : (p : Node → Bool) (b n : ℕ) (l : List Node) → l ≡ [] → scan p b n l ≡ nothing n
unfolding scan
scan_end p b n l e = rw e

pub scan_spent : (p : Node → Bool) (b n : ℕ) (s : Node) (l : List Node) → b ≡ 0 → scan p b n (s ∷ l) ≡ budget n
unfolding scan
scan_spent p b n s l e = rw e

pub scan_solved : (p : Node → Bool) (b n : ℕ) (s : Node) (l : List Node) → p s ≡ true → scan p (suc b) n (s ∷ l) ≡ solved (n + 1) s
unfolding scan
scan_solved p b n s l e = rw (e, scan)

pub scan_on : (p : Node → Bool) (b n : ℕ) (s : Node) (l : List Node) → p s ≡ false → scan p (suc b) n (s ∷ l) ≡ scan p b (n + 1) l
unfolding scan
scan_on p b n s l e = rw (e, scan)

-- ── nodes of which none passes ────────────────────────────────────────────
none_append : (p : Node → Bool) (l m : List Node) → NonePasses p l → NonePasses p m → NonePasses p (l ++ m)
none_append p [] m h k = k
none_append p (s ∷ l) m h k = (h.0, none_append p l m h.1 k)

module _ {p : Node → Bool} where
  pub moves_none : {l m : List Node} → l ≡ m → Moves p 0 l m
  moves_none e = record { seen = []; split = e; many = refl; none_passes = tt }

  pub moves_one : {l m : List Node} (s : Node) → l ≡ s ∷ m → p s ≡ false → Moves p 1 l m
  moves_one s e h = record { seen = s ∷ []; split = e; many = refl; none_passes = (h, tt) }

  pub moves_on : {i j : ℕ} {l m r : List Node} → Moves p i l m → Moves p j m r → Moves p (i + j) l r
  moves_on {r = r} a b =
      record {
        seen = a.seen ++ b.seen;
        split = a.split ∙ ap (λ (z : List Node). a.seen ++ z) b.split ∙ sym (append_assoc a.seen b.seen r);
        many = length-append a.seen b.seen ∙ ap₂ ◌+◌ a.many b.many;
        none_passes = none_append p a.seen b.seen a.none_passes b.none_passes;
      }

  pub scan_moves : {i : ℕ} {l m : List Node} (b n : ℕ) → Moves p i l m → i ≤ b → scan p b n l ≡ scan p (b - i) (n + i) m
  scan_moves {i} {l} {m} b n a h =
      ap (scan p b n) a.split ∙ along a.seen b n a.none_passes (let e = a.many in omega arith) ∙ ap (λ (j : ℕ). scan p (b - j) (n + j) m) a.many
    where
      along : (seen : List Node) (b n : ℕ) → NonePasses p seen → length seen ≤ b → scan p b n (seen ++ m) ≡ scan p (b - length seen) (n + length seen) m
      along [] b n q k = ap₂ (λ (x y : ℕ). scan p x y m) (sym (sub-zero b)) (sym (add-zero n))
      along (s ∷ seen) zero n q k = absurd (let z : ⊥ = omega arith in z)
      along (s ∷ seen) (suc b) n q k =
          scan_on p b n s (seen ++ m) q.0 ∙ along seen b (n + 1) q.1 (omega arith)
          ∙ ap₂ (λ (x y : ℕ). scan p x y m) (let z : b - length seen ≡ suc b - suc (length seen) = omega arith in z) (let z : n + 1 + length seen ≡ n + suc (length seen) = omega arith in z)

-- ── what is read off a list at once ───────────────────────────────────────
pub off_in : (p : Node → Bool) (b n : ℕ) (l : List Node) → length (up_to_first p l) ≤ b
    → read_off p b n l ≡ ended (n + length (up_to_first p l)) (first_of p l)
off_in p b n l h = rw (le-leb (length (up_to_first p l)) b h, read_off)

pub off_out : (p : Node → Bool) (b n : ℕ) (l : List Node) → b < length (up_to_first p l) → read_off p b n l ≡ budget (n + b)
off_out p b n l h = rw (lt-leb (length (up_to_first p l)) b h, read_off)

up_to_hit : (p : Node → Bool) (s : Node) (l : List Node) → p s ≡ true → up_to_first p (s ∷ l) ≡ s ∷ []
unfolding up_to_first
up_to_hit p s l e = rw (e, up_to_first)

up_to_miss : (p : Node → Bool) (s : Node) (l : List Node) → p s ≡ false → up_to_first p (s ∷ l) ≡ s ∷ up_to_first p l
unfolding up_to_first
up_to_miss p s l e = rw (e, up_to_first)

first_hit : (p : Node → Bool) (s : Node) (l : List Node) → p s ≡ true → first_of p (s ∷ l) ≡ some s
unfolding first_of
first_hit p s l e = rw (e, first_of)

first_miss : (p : Node → Bool) (s : Node) (l : List Node) → p s ≡ false → first_of p (s ∷ l) ≡ first_of p l
unfolding first_of
first_miss p s l e = rw (e, first_of)

some_examined : (p : Node → Bool) (s : Node) (l : List Node) → 0 < length (up_to_first p (s ∷ l))
unfolding up_to_first
some_examined p s l = omega arith

scan_off : (p : Node → Bool) (l : List Node) (b n : ℕ) → scan p b n l ≡ read_off p b n l
scan_off p [] b n =
    scan_end p b n [] refl ∙ sym (off_in p b n [] (unfold up_to_first in omega arith) ∙ (unfold up_to_first first_of in ap nothing (add-zero n)))
scan_off p (s ∷ l) zero n =
    scan_spent p 0 n s l refl ∙ sym (off_out p 0 n (s ∷ l) (some_examined p s l) ∙ ap budget (add-zero n))
scan_off p (s ∷ l) (suc b) n = go (p s) refl (scan_off p l b (n + 1))
  where
    go : (q : Bool) → p s ≡ q → scan p b (n + 1) l ≡ read_off p b (n + 1) l → scan p (suc b) n (s ∷ l) ≡ read_off p (suc b) n (s ∷ l)
    go true e ih =
        let u : length (up_to_first p (s ∷ l)) ≡ 1 = ap length (up_to_hit p s l e) in
        scan_solved p b n s l e ∙ sym (off_in p (suc b) n (s ∷ l) (omega arith) ∙ ap₂ (λ (k : ℕ) (o : Option Node). ended (n + k) o) u (first_hit p s l e))
    go false e ih = late (dec_le (length (up_to_first p l)) b)
      where
        u : length (up_to_first p (s ∷ l)) ≡ suc (length (up_to_first p l))
        u = ap length (up_to_miss p s l e)

        late : Dec (length (up_to_first p l) ≤ b) → scan p (suc b) n (s ∷ l) ≡ read_off p (suc b) n (s ∷ l)
        late (yes h) =
            scan_on p b n s l e ∙ ih ∙ off_in p b (n + 1) l h
            ∙ sym (off_in p (suc b) n (s ∷ l) (omega (arith, u))
            ∙ ap₂ (λ (k : ℕ) (o : Option Node). ended k o) (let q : n + length (up_to_first p (s ∷ l)) ≡ n + 1 + length (up_to_first p l) = omega (arith, u) in q) (first_miss p s l e))
        late (no h) =
            scan_on p b n s l e ∙ ih ∙ off_out p b (n + 1) l (omega (arith, u))
            ∙ sym (off_out p (suc b) n (s ∷ l) (omega (arith, u)) ∙ ap budget (let q : n + suc b ≡ n + 1 + b = omega (arith, u) in q))

-- THE OUTCOME IS WHAT GOING ALONG THE LIST FINDS
pub scan_means : (under : ℕ → ℕ → Bool) (t : Table) (b : ℕ) → outcome under t b ≡ scan (ends under t) b 0 (nodes under t)
unfolding outcome count examined
scan_means under t b =
    go (dec_le (length (up_to_first (ends under t) (nodes under t))) b) ∙ sym (scan_off (ends under t) (nodes under t) b 0)
  where
    n : ℕ
    n = length (up_to_first (ends under t) (nodes under t))

    go : Dec (n ≤ b) → elim (leb n b) [ true ↦ ended n (first_of (ends under t) (nodes under t)) | false ↦ budget b ] ≡ read_off (ends under t) b 0 (nodes under t)
    go (yes h) =
        rw (le-leb n b h) (sym (off_in (ends under t) b 0 (nodes under t) h ∙ ap (λ (k : ℕ). ended k (first_of (ends under t) (nodes under t))) (zero-add n)))
    go (no h) = rw (lt-leb n b (omega arith)) (sym (off_out (ends under t) b 0 (nodes under t) (omega arith) ∙ ap budget (zero-add b)))
