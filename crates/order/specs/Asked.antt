-- What the code asks, over prepared rows, set numbers and codes. AskedLaws ties it to the rule.
--
--   any_in m n q               == some number below n that is a bit of the mask m passes q
--   Lowest m k                == k is the lowest bit of the mask m
--   without m k, NextBit m r n == the mask m without its bit k; r is the lowest bit of the mask m, n the mask without it, or there is none
--   missing L R               == the atoms that R has and L has not
--   set_ask fb S j             == the conjunction of the set S lies below atom j, where fb answers for codes of fillers
--   each_ask fb L M            == the conjunction of the set L lies below every atom of M
--   filler_asked d f g         == the filler of the code f lies below the filler of the code g, where d dependences are left
--   set_asked d S j, each_asked d L M == the first two, where d dependences are left
use Rattle.std.specs.Prelude.{◌≡◌, Bool, true, false, ◌&&◌, not, ℕ, zero, suc, ◌+◌, ◌-◌, ◌*◌, ◌/◌, ◌%◌, ◌^◌, ◌<◌, ltb, get_or, Option, MatchOption}
use Rattle.std.specs.Int.Bits.{bit_and, bit_xor}
use Rattle.bounds.specs.Bounds.{set_bits, set_numbers}
use Rattle.el.specs.Test.{any_below, bit}
use Rattle.el.specs.Assignment.{Assignment}
use Rattle.order.specs.Rule.{flat_test, filler_set}
use Rattle.order.specs.Given.{filler_from}
use Rattle.order.specs.declared.Rows.{Rows}

unfoldable pub any_in : ℕ → ℕ → (ℕ → Bool) → Bool
any_in m n q = any_below n (λ i. bit i m && q i)

pub record Lowest (m k : ℕ) : Type 0 where
  pub on : bit k m ≡ true
  pub off : (i : ℕ) → i < k → bit i m ≡ false
  pub small : k < set_bits

-- the mask m without its bit k
abbrev pub without : ℕ → ℕ → ℕ
without m k = bit_xor m (1 * 2 ^ k % set_numbers)

abbrev pub missing : ℕ → ℕ → ℕ
missing L R = bit_xor R (bit_and R L)

-- a call that gives the next bit of the mask m, the lowest, and leaves n; or none, where there is none
abbrev pub NextBit : ℕ → Option ℕ → ℕ → Type 0
NextBit m bit n = MatchOption bit (m ≡ 0) (λ k. Lowest m k × (n ≡ without m k))

module _ (p : Rows) (a : Assignment) where
  unfoldable pub set_ask : (ℕ → ℕ → Bool) → ℕ → ℕ → Bool
  set_ask fb S j =
      elim (ltb j p.c) [
        | true ↦ bit j S
        | false ↦ any_in (bit_and (S / 2 ^ p.c) (get_or p.over (j - p.c) 0)) p.e (λ k. fb (get_or p.inner k 0) (get_or p.inner (j - p.c) 0))
      ]

  unfoldable pub each_ask : (ℕ → ℕ → Bool) → ℕ → ℕ → Bool
  each_ask fb L M = not (any_in M (p.c + p.e) (λ j. not (set_ask fb L j)))

  unfoldable pub filler_asked : ℕ → ℕ → ℕ → Bool
  filler_asked zero f g = flat_test (filler_from f) (filler_from g)
  filler_asked (suc d) f g = each_ask (filler_asked d) (filler_set a (filler_from f)) (missing (filler_set a (filler_from f)) (filler_set a (filler_from g)))

  abbrev pub set_asked : ℕ → ℕ → ℕ → Bool
  set_asked d = set_ask (filler_asked d)

  abbrev pub each_asked : ℕ → ℕ → ℕ → Bool
  each_asked d = each_ask (filler_asked d)
