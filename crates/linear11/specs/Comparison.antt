-- What the answers of a comparison mean, in numbers (data sheet 5.2, 5.5).
-- Assumes nothing.
use Rattle.std.specs.Prelude.{ℕ, ◌<◌, ◌≡◌, ◌↔◌, ◌<ℤ◌}
use Rattle.std.specs.declared.cmp.Ordering.TheVariants.{Less, Equal, Greater}
use Rattle.linear11.specs.Linear11.{scaled_of, linear_order, word_order}

-- Linear11 words are in the order of their values, whichever way these are written
pub record ByValue (a b : ℕ) : Type 0 where
  pub below : (linear_order a b ≡ Less) ↔ (scaled_of a <ℤ scaled_of b)
  pub equal : (linear_order a b ≡ Equal) ↔ (scaled_of a ≡ scaled_of b)
  pub above : (linear_order a b ≡ Greater) ↔ (scaled_of b <ℤ scaled_of a)

-- VOUT words are in the order of numbers
pub record ByNumber (a b : ℕ) : Type 0 where
  pub below : (word_order a b ≡ Less) ↔ (a < b)
  pub equal : (word_order a b ≡ Equal) ↔ (a ≡ b)
  pub above : (word_order a b ≡ Greater) ↔ (b < a)

unfoldable pub ComparesExactly : Type 0
ComparesExactly = (a b : ℕ) → ByValue a b × ByNumber a b
