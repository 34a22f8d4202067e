-- The ends of what words mean: the tests on thousandths are those on the values of the lowest and the highest word.
-- Assumes nothing.
use mathlib.Core.Path.{◌≡◌}
use mathlib.Core.Bool.{true}
use Prim.Native.Nat.{ℕ, ◌≤◌}
use native.Mathlib.Omega.{arith}
use lib.IntN.{ℤ, pos, negsuc, nat_abs}
use Rattle.std.proofs.lemmas.Int.{ints}
use Rattle.linear11.specs.Linear11.{signed_of, mantissa, exponent, scaled_of}
use Rattle.signs.specs.Signs.{is_within}
use Rattle.thousandths.specs.Conversion.{lowest, highest}
use Rattle.thousandths.specs.Vout.{vout_highest}
use Rattle.thousandths.specs.Nearest.{Inside, VoutInside}

-- ---- Linear11

pub small : (count : ℤ) → is_within lowest highest count ≡ true → nat_abs count ≤ 33554432000
small count e = grind (arith, ints)

pub inside_within : (count : ℤ) → Inside count → is_within lowest highest count ≡ true
unfolding scaled_of mantissa exponent signed_of
inside_within count i = grind (arith, ints)

pub within-inside : (count : ℤ) → is_within lowest highest count ≡ true → Inside count
unfolding scaled_of mantissa exponent signed_of
within-inside count e = record { low = grind (arith, ints); high = grind (arith, ints) }

-- ---- VOUT words

pub vout-small : (count : ℤ) → is_within (pos 0) vout_highest count ≡ true → nat_abs count ≤ 7999
vout-small count e = grind (arith, ints)

pub vout-not_below : (n : ℕ) → VoutInside (negsuc n) → ⊥
vout-not_below n i = omega (arith, ints)

pub vout-inside_within : (count : ℤ) → VoutInside count → is_within (pos 0) vout_highest count ≡ true
vout-inside_within count i = grind (arith, ints)

pub vout-within_inside : (count : ℤ) → is_within (pos 0) vout_highest count ≡ true → VoutInside count
vout-within_inside count e = record { low = grind (arith, ints); high = grind (arith, ints) }
