-- Laws that carry the writers to what they write.
--
--   copied          == as much of a text as fits is copied into the buffer
--   joined_more     == one text more
--   decimal_last, decimal_then == a number of one digit, and one digit more
--   numbers_turn, bytes_turn == a turn of the loop over a slice
--   numbers_start, bytes_start == its start
--   if_none         == no text
--   hex_none, hex_some == bytes in hexadecimal
use Rattle.std.proofs.Common.{◌≡◌, ◌==◌, refl, sym, ap, ap₂, ◌∙◌, Bool, true, false, cond, List, [], ◌∷◌, ◌++◌, map, ℕ, zero, suc, ◌+◌, ◌-◌, ◌/◌, ◌%◌, ◌≤◌, ◌<◌, min, length, get_or, take, drop, ltb, arith, lt-ltb, eqb-true, append_assoc, append-nil, take_all, length-take-le, drop-drop}
use Rattle.std.proofs.lemmas.List.{take_more, map-append}
use Rattle.std.proofs.Math.Decide.{dec_le}
use borrow.Rule.Slice.PartMut.{put_mid}
use Rattle.text.specs.declared.Writer.{Writer}
use Rattle.text.specs.Append.{fitting, put, Appended}
use Rattle.text.specs.TextLaws.{decimal_short, decimal_long}
use Rattle.text.specs.Text.{space, digit, decimal, behind, joined, any, numbers_text, bytes_text, hex_text}
use Rattle.text.specs.Wrote.{Wrote}
use Rattle.text.proofs.WroteLaws.{wrote_none, wrote_then, wrote_as}

------------------------------------------------------------------ texts in a buffer

take_fitting : (t : List ℕ) (room n : ℕ) → n ≡ min (length t) room → take room t ≡ take n t
take_fitting t room n e = go (dec_le (length t) room)
  where
    go : Dec (length t ≤ room) → take room t ≡ take n t
    go (yes h) = take_all room t h ∙ sym (take_all n t (omega arith))
    go (no h) = ap (λ (k : ℕ). take k t) (let z : room ≡ n = omega arith in z)

pub copied : (b t part : List ℕ) (at n : ℕ) → at < length b → n ≡ min (length t) (length b - at) → part ≡ take n t → Appended b at t (put_mid at (at + n - at) b part) (at + n)
unfolding fitting put
copied b t part at n h e p =
    let f : take (length b - at) t ≡ take n t = take_fitting t (length b - at) n e in
    let k : length (take (length b - at) t) ≡ n = ap length f ∙ length-take-le n t (omega arith) in
    record {
      bytes =
          ap₂ (λ (l : List ℕ) (j : ℕ). take at b ++ (l ++ drop j (drop at b))) (p ∙ sym f) (let z : at + n - at ≡ n = omega arith in z)
          ∙ ap (λ (l : List ℕ). take at b ++ (take (length b - at) t ++ l)) (drop-drop n at b ∙ ap (λ (j : ℕ). drop (at + j) b) (sym k));
      end = ap (λ (j : ℕ). at + j) (sym k);
    }

------------------------------------------------------------------ texts one after the other

-- one more text behind others
behind_more : (between : List ℕ) (ts : List (List ℕ)) (t : List ℕ) → behind between ts ++ (between ++ t) ≡ behind between (ts ++ (t ∷ []))
unfolding behind
behind_more between [] t = ap (λ (x : List ℕ). between ++ x) (sym (append-nil t))
behind_more between (s ∷ ts) t =
    append_assoc between (s ++ behind between ts) (between ++ t)
    ∙ ap (λ (x : List ℕ). between ++ x) (append_assoc s (behind between ts) (between ++ t) ∙ ap (λ (x : List ℕ). s ++ x) (behind_more between ts t))

pub joined_more : (between : List ℕ) (ts : List (List ℕ)) (t : List ℕ) → joined between ts ++ (cond (any ts) between [] ++ t) ≡ joined between (ts ++ (t ∷ []))
unfolding joined any behind
joined_more between [] t = sym (append-nil t)
joined_more between (s ∷ ts) t = append_assoc s (behind between ts) (between ++ t) ∙ ap (λ (x : List ℕ). s ++ x) (behind_more between ts t)

bytes_more : (bs : List ℕ) (x : ℕ) → bytes_text bs ++ (digit (x / 16) ∷ digit (x % 16) ∷ []) ≡ bytes_text (bs ++ (x ∷ []))
unfolding bytes_text
bytes_more [] x = refl
bytes_more (b ∷ bs) x = ap (λ (t : List ℕ). digit (b / 16) ∷ digit (b % 16) ∷ t) (bytes_more bs x)

-- a number was written already where this is not the first
any_number : (ns : List ℕ) (i : ℕ) → i < length ns → ltb 0 i ≡ any (map decimal (take i ns))
unfolding any
any_number [] i h = absurd (let z : ⊥ = omega arith in z)
any_number (n ∷ ns) zero h = refl
any_number (n ∷ ns) (suc i) h = lt-ltb 0 (suc i) (omega arith)

numbers_more : (ns : List ℕ) (i : ℕ) → i < length ns → numbers_text (take i ns) ++ (cond (ltb 0 i) space [] ++ decimal (get_or ns i 0)) ≡ numbers_text (take (i + 1) ns)
unfolding numbers_text
numbers_more ns i h =
    ap (λ (b : Bool). joined space (map decimal (take i ns)) ++ (cond b space [] ++ decimal (get_or ns i 0))) (any_number ns i h)
    ∙ joined_more space (map decimal (take i ns)) (decimal (get_or ns i 0))
    ∙ ap (joined space) (sym (map-append decimal (take i ns) (get_or ns i 0 ∷ [])) ∙ ap (map decimal) (sym (take_more ns i 0 h)))

------------------------------------------------------------------ the writers

module _ {w v : Writer} where
  pub decimal_last : {d : ℕ} (n : ℕ) → n < 10 → d ≡ digit (n % 10) → Wrote w (d ∷ []) v → Wrote w (decimal n) v
  decimal_last n h e x = wrote_as x (ap (λ (k : ℕ). k ∷ []) (e ∙ ap digit (let z : n % 10 ≡ n = omega arith in z)) ∙ decimal_short n h)

  pub hex_none : (bs : List ℕ) → true ≡ (length bs == 0) → Wrote w (0x2D ∷ []) v → Wrote w (hex_text bs) v
  unfolding hex_text
  hex_none [] e x = x
  hex_none (y ∷ bs) e x = absurd (let z : ⊥ = omega (arith, eqb-true (length (y ∷ bs)) 0 (sym e)) in z)

  pub hex_some : (bs : List ℕ) → false ≡ (length bs == 0) → Wrote w (bytes_text bs) v → Wrote w (hex_text bs) v
  unfolding hex_text
  hex_some [] e x = cc
  hex_some (y ∷ bs) e x = x

  module _ {m : Writer} where
    pub decimal_then : {d : ℕ} (n : ℕ) → 10 ≤ n → Wrote w (decimal (n / 10)) m → d ≡ digit (n % 10) → Wrote m (d ∷ []) v → Wrote w (decimal n) v
    decimal_then n h x q y = wrote_as (wrote_then x y) (ap (λ (k : ℕ). decimal (n / 10) ++ (k ∷ [])) q ∙ decimal_long n h)

    module _ {p : Writer} where
      pub numbers_turn : (ns : List ℕ) (i : ℕ) → i < length ns → Wrote w (numbers_text (take i ns)) m → Wrote m (cond (ltb 0 i) space []) p → Wrote p (decimal (get_or ns i 0)) v
          → Wrote w (numbers_text (take (i + 1) ns)) v
      numbers_turn ns i h x y z = wrote_as (wrote_then x (wrote_then y z)) (numbers_more ns i h)

      pub bytes_turn : {d e : ℕ} (bs : List ℕ) (i : ℕ) → i < length bs → d ≡ digit (get_or bs i 0 / 16) → e ≡ digit (get_or bs i 0 % 16)
          → Wrote w (bytes_text (take i bs)) m → Wrote m (d ∷ []) p → Wrote p (e ∷ []) v → Wrote w (bytes_text (take (i + 1) bs)) v
      bytes_turn bs i h f g x y z =
          wrote_as (wrote_then x (wrote_then y z))
          (ap₂ (λ (j k : ℕ). bytes_text (take i bs) ++ (j ∷ k ∷ [])) f g ∙ bytes_more (take i bs) (get_or bs i 0) ∙ ap bytes_text (sym (take_more bs i 0 h)))

module _ (w : Writer) where
  pub if_none : (there : Bool) (text : List ℕ) → there ≡ false → Wrote w (cond there text []) w
  if_none there text e = wrote_as (wrote_none w) (sym (ap (λ (y : Bool). cond y text []) e))

  pub numbers_start : Wrote w (numbers_text []) w
  unfolding numbers_text joined
  numbers_start = wrote_none w

  pub bytes_start : Wrote w (bytes_text []) w
  unfolding bytes_text
  bytes_start = wrote_none w
