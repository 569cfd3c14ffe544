-- Laws of the output's bytes.
--
--   little_endian_length, bytes_length == how long a number is, and an assignment
--   bytes_more     == one set more
--   written_length == the output keeps its length
--   written_start, written_behind == the sets stand first, and what stands behind them stays
--   set_back       == WHAT WAS WRITTEN IS READ BACK
use Rattle.std.specs.Prelude.{◌≡◌, refl, get_or, take}
use Rattle.std.proofs.Math.Path.{ap, ap₂}
use Rattle.std.proofs.Common.{◌∙◌, pow-suc, length-drop}
use mathlib.Core.List.{List, [], ◌∷◌, ◌++◌, append_assoc, append-nil}
use Prim.Native.Nat.{ℕ, zero, suc, ◌<◌, ◌+◌, ◌*◌, ◌/◌, ◌%◌, ◌^◌, ◌≤◌}
use native.Mathlib.Omega.{arith}
use Rattle.std.proofs.Math.Nat.{mul-suc}
use Rattle.std.proofs.Math.ListN.{length, drop, length-append}
use Rattle.std.proofs.Math.Seq.{take_at, drop_at}
use Rattle.output.specs.Written.{little_endian, number_at, assignment_bytes, written_in, set_at}

pub little_endian_length : (k x : ℕ) → length (little_endian k x) ≡ k
unfolding little_endian
little_endian_length zero x = refl
little_endian_length (suc k) x = ap suc (little_endian_length k (x / 256))

module _ (k : ℕ) where
  pub bytes_length : (a : List ℕ) → length (assignment_bytes k a) ≡ k * length a
  unfolding assignment_bytes
  bytes_length [] = omega arith
  bytes_length (x ∷ a) = simp length-append (omega (arith, bytes_length a, little_endian_length k x, mul-suc k (length a)))

  pub bytes_more : (a : List ℕ) (x : ℕ) → assignment_bytes k (a ++ (x ∷ [])) ≡ assignment_bytes k a ++ little_endian k x
  unfolding assignment_bytes
  bytes_more [] x = append-nil (little_endian k x)
  bytes_more (y ∷ a) x = ap (λ (l : List ℕ). little_endian k y ++ l) (bytes_more a x) ∙ rw append_assoc

  pub written_length : (a out : List ℕ) → k * length a ≤ length out → length (written_in k a out) ≡ length out
  unfolding written_in
  written_length a out h = simp (length-append, bytes_length, length-drop) (omega arith)

  -- with a set for each of v variables: the bytes of the sets, and those behind
  module _ (v : ℕ) (a out : List ℕ) (e : length a ≡ v) where
    pub written_start : take (k * v) (written_in k a out) ≡ assignment_bytes k a
    unfolding written_in
    written_start = take_at (assignment_bytes k a) _ _ (bytes_length a ∙ ap (λ (n : ℕ). k * n) e)

    pub written_behind : drop (k * v) (written_in k a out) ≡ drop (k * v) out
    unfolding written_in
    written_behind = drop_at (assignment_bytes k a) _ _ (bytes_length a ∙ ap (λ (n : ℕ). k * n) e) ∙ ap (λ (n : ℕ). drop (k * n) out) e

-- ── read back ──

behind_one : (k b : ℕ) (s : List ℕ) (at : ℕ) → number_at k (b ∷ s) (suc at) ≡ number_at k s at
unfolding number_at
behind_one zero b s at = refl
behind_one (suc k) b s at = ap (λ (n : ℕ). get_or s at 0 + 256 * n) (behind_one k b s (suc at))

behind : (k : ℕ) (p s : List ℕ) (at : ℕ) → number_at k (p ++ s) (length p + at) ≡ number_at k s at
behind k [] s at = ap (number_at k s) (let z : 0 + at ≡ at = omega arith in z)
behind k (b ∷ p) s at = ap (number_at k (b ∷ (p ++ s))) (let z : suc (length p) + at ≡ suc (length p + at) = omega arith in z) ∙ behind_one k b (p ++ s) (length p + at) ∙ behind k p s at

here : (k x : ℕ) (s : List ℕ) → x < 256 ^ k → number_at k (little_endian k x ++ s) 0 ≡ x
unfolding number_at little_endian
here zero x s h = omega arith
here (suc k) x s h =
    let p : 256 ^ suc k ≡ 256 ^ k * 256 = pow-suc 256 k in
    let e : number_at k (little_endian k (x / 256) ++ s) 0 ≡ x / 256 = here k (x / 256) s (omega arith) in
    ap (λ (n : ℕ). x % 256 + 256 * n) (behind_one k (x % 256) (little_endian k (x / 256) ++ s) 0 ∙ e) ∙ (let z : x % 256 + 256 * (x / 256) ≡ x = omega arith in z)

module _ (k : ℕ) where
  bytes_back : (a l : List ℕ) (x : ℕ) → x < length a → get_or a x 0 < 256 ^ k → number_at k (assignment_bytes k a ++ l) (k * x) ≡ get_or a x 0
  unfolding assignment_bytes
  bytes_back [] l x h w = absurd (let z : ⊥ = omega arith in z)
  bytes_back (y ∷ a) l zero h w =
      ap₂ (number_at k) (append_assoc (little_endian k y) (assignment_bytes k a) l) (let z : k * zero ≡ 0 = omega arith in z) ∙ here k y (assignment_bytes k a ++ l) w
  bytes_back (y ∷ a) l (suc x) h w =
      ap₂ (number_at k) (append_assoc (little_endian k y) (assignment_bytes k a) l) (let e : k * suc x ≡ length (little_endian k y) + k * x = omega (arith, little_endian_length k y, mul-suc k x) in e)
      ∙ behind k (little_endian k y) (assignment_bytes k a ++ l) (k * x)
      ∙ bytes_back a l x (let m : suc x < suc (length a) = h in omega arith) w

  -- WHAT WAS WRITTEN IS READ BACK
  pub set_back : (a out : List ℕ) (x : ℕ) → x < length a → get_or a x 0 < 256 ^ k → set_at k (written_in k a out) x ≡ get_or a x 0
  unfolding written_in
  set_back a out x h w = bytes_back a (drop (k * length a) out) x h w
