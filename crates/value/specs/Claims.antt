-- What the order of values means, in the papers' words and numbers: the definitions of Value and Format are held against this page.
-- Assumes nothing.
use Rattle.std.specs.Prelude.{ℕ, ◌^◌, ◌<◌, ◌≡◌, true, false, ◌↔◌, ℤ, pos, neg_ℤ, ◌+ℤ◌, ◌*ℤ◌, ◌<ℤ◌}
use Rattle.linear11.specs.Linear11.{linear_order}
use Rattle.std.specs.declared.cmp.Ordering.TheVariants.{Less, Equal, Greater}
use Rattle.value.specs.declared.ratio.Ratio.{Ratio}
use Rattle.value.specs.declared.format.Format.{Format}
use Rattle.value.specs.Value.{ratio_order}
use Rattle.value.specs.Format.{linear_format, signed_word, signed_byte, value_of, value_order, comparison}

-- Linear11 words are in the order of data sheet 5.5, whatever coefficients stand beside the mark
unfoldable pub LinearAgrees : Type 0
LinearAgrees =
    (f g : Format) (a b : ℕ) → f.direct ≡ false → g.direct ≡ false → a < 65536 → b < 65536 → value_order f a g b ≡ linear_order a b

-- x is a number X with Y = (m X + b) times 10 to the R (PMBus Part II, 7.2.2): the formula by which a host sends a value, for R above and below 0
pub record Encodes (x : Ratio) (y m b r : ℤ) : Type 0 where
  pub some : 0 < x.den
  pub raised : (k : ℕ) → r ≡ pos k → (m *ℤ x.num +ℤ b *ℤ pos x.den) *ℤ pos (10 ^ k) ≡ y *ℤ pos x.den
  pub lowered : (k : ℕ) → r ≡ neg_ℤ (pos k) → m *ℤ x.num +ℤ b *ℤ pos x.den ≡ y *ℤ pos (10 ^ k) *ℤ pos x.den

-- the value of a DIRECT word solves that formula, whatever the signs of m, b and R
unfoldable pub DirectMeans : Type 0
DirectMeans =
    (f : Format) (w : ℕ) → f.direct ≡ true → f.m < 65536 → (f.m ≡ 0 → ⊥)
    → Encodes (value_of f w) (signed_word w) (signed_word f.m) (signed_word f.b) (signed_byte f.r)

-- fractions are in the order of what is left when both are multiplied by both denominators
pub record ByProduct (x y : Ratio) : Type 0 where
  pub below : (ratio_order x y ≡ Less) ↔ ((x.num *ℤ pos y.den) <ℤ (y.num *ℤ pos x.den))
  pub equal : (ratio_order x y ≡ Equal) ↔ (x.num *ℤ pos y.den ≡ y.num *ℤ pos x.den)
  pub above : (ratio_order x y ≡ Greater) ↔ ((y.num *ℤ pos x.den) <ℤ (x.num *ℤ pos y.den))

unfoldable pub OrderExact : Type 0
OrderExact = (x y : Ratio) → ByProduct x y

-- Worked examples. m = -2, b = 3, R = 1: Y = 70 stands for (7 - 3) / -2 = -2. m = 250, b = -125, R = -2: Y = 15 stands for (1500 + 125) / 250 = 6.5.
abbrev falling : Format
falling = record { direct = true; m = 0xFFFE; b = 3; r = 1 }

abbrev rising : Format
rising = record { direct = true; m = 250; b = 0xFF83; r = 0xFE }

pub record Examples : Type 0 where
  -- -2 is the Linear11 word 07FEh, and 6.5 is F01Ah
  pub two_below : comparison falling 70 linear_format 0x07FE ≡ record { answer = 0; order = Equal }
  pub six_and_half : comparison rising 15 linear_format 0xF01A ≡ record { answer = 0; order = Equal }
  -- a greater word is a smaller value where m is negative
  pub turned : comparison falling 71 falling 70 ≡ record { answer = 0; order = Less }
  -- 6.5 is above -2
  pub across : comparison rising 15 falling 70 ≡ record { answer = 0; order = Greater }
  -- Y = -1 stands for (-100 + 125) / 250 = 0.1, between the Linear11 words 9B33h and 9B34h, which are neighbours
  pub tenth_above : comparison rising 0xFFFF linear_format 0x9B33 ≡ record { answer = 0; order = Greater }
  pub tenth_below : comparison rising 0xFFFF linear_format 0x9B34 ≡ record { answer = 0; order = Less }
  -- m 0, and R 7 and -7, are not valid under a DIRECT mark
  pub no_slope : comparison (record { direct = true; m = 0; b = 3; r = 1 }) 70 linear_format 0 ≡ record { answer = 27; order = Equal }
  pub seven : comparison linear_format 0 (record { direct = true; m = 1; b = 3; r = 7 }) 70 ≡ record { answer = 27; order = Equal }
  pub seven_below : comparison linear_format 0 (record { direct = true; m = 1; b = 3; r = 0xF9 }) 70 ≡ record { answer = 27; order = Equal }

pub record Claims : Type 0 where
  pub linear_agrees : LinearAgrees
  pub direct_means : DirectMeans
  pub order_exact : OrderExact
  pub examples : Examples
