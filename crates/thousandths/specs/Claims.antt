-- The guarantees of the conversions (data sheet 19.7): what is worked out (Conversion.antt, Vout.antt) is what it has to be (Nearest.antt).
-- Assumes nothing.
use Rattle.std.specs.Prelude.{ℕ, ◌≡◌, ℤ, pos, ◌+ℤ◌, ◌-ℤ◌, ◌*ℤ◌}
use Rattle.linear11.specs.Linear11.{scaled_of}
use Rattle.thousandths.specs.Conversion.{converted, conversion_of, thousandths_of}
use Rattle.thousandths.specs.Vout.{vout_conversion_of, vout_thousandths_of}
use Rattle.thousandths.specs.Nearest.{Nearest, Inside, Halves, VoutNearest, VoutInside}

-- ---- Linear11

-- a count inside gets the nearest word,
unfoldable pub NearestFound : Type 0
NearestFound = (count : ℤ) → Inside count → ((conversion_of count).answer ≡ 0) × Nearest count (conversion_of count).word

-- of which there is one only;
unfoldable pub OnlyOne : Type 0
OnlyOne = (count : ℤ) (word other : ℕ) → Nearest count word → Nearest count other → word ≡ other

-- every other count gets 25 and word 0000h
unfoldable pub OutsideRefused : Type 0
OutsideRefused = (count : ℤ) → (Inside count → ⊥) → conversion_of count ≡ converted 25 0

-- the thousandths of a word are its value within half a thousandth, and away from zero at a half
unfoldable pub BackWithinHalf : Type 0
BackWithinHalf = (word : ℕ) → Halves 65536 (pos 1000 *ℤ scaled_of word) (thousandths_of word)

-- the lowest and the highest word come back from their own thousandths, and one thousandth beyond either is outside
pub record Limits : Type 0 where
  pub lowest : conversion_of (thousandths_of 0x7C00) ≡ converted 0 0x7C00
  pub highest : conversion_of (thousandths_of 0x7BFF) ≡ converted 0 0x7BFF
  pub below : conversion_of (thousandths_of 0x7C00 -ℤ pos 1) ≡ converted 25 0
  pub above : conversion_of (thousandths_of 0x7BFF +ℤ pos 1) ≡ converted 25 0

-- ---- VOUT words

unfoldable pub VoutNearestFound : Type 0
VoutNearestFound = (count : ℤ) → VoutInside count → ((vout_conversion_of count).answer ≡ 0) × VoutNearest count (vout_conversion_of count).word

unfoldable pub VoutOnlyOne : Type 0
VoutOnlyOne = (count : ℤ) (word other : ℕ) → VoutNearest count word → VoutNearest count other → word ≡ other

unfoldable pub VoutOutsideRefused : Type 0
VoutOutsideRefused = (count : ℤ) → (VoutInside count → ⊥) → vout_conversion_of count ≡ converted 25 0

unfoldable pub VoutBackWithinHalf : Type 0
VoutBackWithinHalf = (word : ℕ) → Halves 8192 (pos 1000 *ℤ pos word) (vout_thousandths_of word)

-- a count inside comes back as it was
unfoldable pub VoutComesBack : Type 0
VoutComesBack = (count : ℤ) → VoutInside count → vout_thousandths_of (vout_conversion_of count).word ≡ count

-- ---- all of them

pub record Claims : Type 0 where
  pub nearest_found : NearestFound
  pub only_one : OnlyOne
  pub outside_refused : OutsideRefused
  pub back-within_half : BackWithinHalf
  pub limits : Limits
  pub vout-nearest_found : VoutNearestFound
  pub vout-only_one : VoutOnlyOne
  pub vout-outside_refused : VoutOutsideRefused
  pub vout-back_within_half : VoutBackWithinHalf
  pub vout-comes_back : VoutComesBack
