-- What the conversions have to give, over whole numbers and all 65,536 words, without saying how it is found (data sheet 19.1 to 19.6).
-- Assumes nothing.
use Rattle.std.specs.Prelude.{ℕ, ◌*◌, ◌<◌, ◌≤◌, ◌≡◌, ◌⊎◌, ℤ, pos, nat_abs, ◌-ℤ◌, ◌*ℤ◌, ◌<ℤ◌, ◌≤ℤ◌}
use Rattle.linear11.specs.Linear11.{exponent, scaled_of}

-- ---- Linear11

-- how far the word's value is from count / 1000, times 65,536,000
unfoldable pub gap_of : ℤ → ℕ → ℕ
gap_of count word = nat_abs (pos 1000 *ℤ scaled_of word -ℤ pos 65536 *ℤ count)

-- the order in which words are preferred: the nearer; then the smaller exponent; then the smaller value (data sheet 19.1, 19.2)
unfoldable pub Before : ℤ → ℕ → ℕ → Type 0
Before count word other =
    (gap_of count word < gap_of count other)
    ⊎ ((gap_of count word ≡ gap_of count other)
    × ((exponent word <ℤ exponent other) ⊎ ((exponent word ≡ exponent other) × (scaled_of word ≤ℤ scaled_of other))))

-- no word is preferred to it
pub record Nearest (count : ℤ) (word : ℕ) : Type 0 where
  pub a_word : word < 65536
  pub first : (other : ℕ) → other < 65536 → Before count word other

-- count / 1000 is neither below the value of 7C00h nor above that of 7BFFh (data sheet 19.3)
pub record Inside (count : ℤ) : Type 0 where
  pub low : (pos 1000 *ℤ scaled_of 0x7C00) ≤ℤ (pos 65536 *ℤ count)
  pub high : (pos 65536 *ℤ count) ≤ℤ (pos 1000 *ℤ scaled_of 0x7BFF)

-- r is z / scale within half, and on the far side from zero where it is a half off (data sheet 19.4, 19.6)
pub record Halves (scale : ℕ) (z r : ℤ) : Type 0 where
  pub within : nat_abs (pos scale *ℤ r -ℤ z) * 2 ≤ scale
  pub farther : nat_abs (pos scale *ℤ r -ℤ z) * 2 ≡ scale → nat_abs z < nat_abs (pos scale *ℤ r)

-- ---- VOUT words

-- how far word / 8192 is from count / 1000, times 8,192,000
unfoldable pub vout_gap : ℤ → ℕ → ℕ
vout_gap count word = nat_abs (pos 1000 *ℤ pos word -ℤ pos 8192 *ℤ count)

-- no word is nearer; that no two are equally near is a theorem (data sheet 19.5)
pub record VoutNearest (count : ℤ) (word : ℕ) : Type 0 where
  pub a_word : word < 65536
  pub first : (other : ℕ) → other < 65536 → vout_gap count word ≤ vout_gap count other

-- count / 1000 is neither below the value of 0000h nor above that of FFFFh (data sheet 19.5)
pub record VoutInside (count : ℤ) : Type 0 where
  pub low : (pos 1000 *ℤ pos 0x0000) ≤ℤ (pos 8192 *ℤ count)
  pub high : (pos 8192 *ℤ count) ≤ℤ (pos 1000 *ℤ pos 0xFFFF)
