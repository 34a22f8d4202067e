-- Worked examples (data sheet 19.7): what is worked out, and what it has to be.
-- Assumes nothing.
use Rattle.std.specs.Prelude.{◌≡◌, refl, List, [], ◌∷◌, map, ℤ, pos, neg_ℤ}
use Rattle.linear11.specs.Linear11.{signed_of, mantissa, exponent, scaled_of}
use Rattle.thousandths.specs.declared.Converted.{Converted}
use Rattle.thousandths.specs.Conversion.{unit, start, spot, rounded, row_best, nearer, best, target, converted, conversion_of, thousandths_of}
use Rattle.thousandths.specs.Vout.{vout_conversion_of, vout_thousandths_of}

abbrev pub words : List (Converted × Converted)
words =
    (conversion_of (pos 0), converted 0 0x8000)
    ∷ (conversion_of (pos 1), converted 0 0x8042)
    ∷ (conversion_of (pos 1025000), converted 0 0x0A00)  -- as near as 0A01h, 1026: the smaller value
    ∷ (conversion_of (neg_ℤ (pos 1025000)), converted 0 0x0400)  -- as near as 0DFFh, -1026: the smaller exponent
    ∷ (conversion_of (pos 1023400), converted 0 0x03FF)  -- nearer than 0A00h, although the row of 03FFh ends at 1023
    ∷ (conversion_of (pos 33521664000), converted 0 0x7BFF)
    ∷ (conversion_of (pos 33521664001), converted 25 0x0000)
    ∷ (conversion_of (neg_ℤ (pos 33554432000)), converted 0 0x7C00)
    ∷ (conversion_of (neg_ℤ (pos 33554432001)), converted 25 0x0000)
    ∷ (vout_conversion_of (pos 3300), converted 0 0x699A)
    ∷ (vout_conversion_of (pos 7999), converted 0 0xFFF8)
    ∷ (vout_conversion_of (pos 8000), converted 25 0x0000)
    ∷ (vout_conversion_of (neg_ℤ (pos 1)), converted 25 0x0000)
    ∷ []

abbrev pub thousandths : List (ℤ × ℤ)
thousandths =
    (thousandths_of 0x8042, pos 1)
    ∷ (thousandths_of 0xE001, pos 63)  -- 62.5
    ∷ (thousandths_of 0xE7FF, neg_ℤ (pos 63))  -- -62.5
    ∷ (thousandths_of 0x7BFF, pos 33521664000)
    ∷ (thousandths_of 0x7C00, neg_ℤ (pos 33554432000))
    ∷ (vout_thousandths_of 0x699A, pos 3300)
    ∷ (vout_thousandths_of 0xFFFF, pos 8000)
    ∷ []

pub words-agree : map (λ row. row.0) words ≡ map (λ row. row.1) words
unfolding
    signed_of mantissa exponent scaled_of unit start spot rounded row_best nearer best target conversion_of vout_conversion_of
words-agree = refl

pub thousandths-agree : map (λ row. row.0) thousandths ≡ map (λ row. row.1) thousandths
unfolding signed_of mantissa exponent scaled_of thousandths_of vout_thousandths_of
thousandths-agree = refl
