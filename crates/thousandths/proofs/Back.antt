-- The thousandths of a word lie within half of its value, and a half goes away from zero.
-- Assumes nothing.
use native.Mathlib.Omega.{arith}
use lib.IntN.{ℤ, pos, negsuc, ◌*ℤ◌}
use borrow.Author.Tests.{le-ltb}
use Rattle.std.proofs.lemmas.Int.{ints}
use Rattle.linear11.specs.Linear11.{scaled_of}
use Rattle.thousandths.specs.Conversion.{rounded_away, thousandths_of}
use Rattle.thousandths.specs.Vout.{vout_thousandths_of}
use Rattle.thousandths.specs.Nearest.{Halves}
use Rattle.thousandths.specs.Claims.{BackWithinHalf, VoutBackWithinHalf}

half : (z : ℤ) → Halves 65536 z (rounded_away z)
half (pos n) = rw (le-ltb n 0 (omega arith)) (record { within = omega (arith, ints); farther = λ e. omega (arith, ints) })
half (negsuc n) = record { within = omega (arith, ints); farther = λ e. omega (arith, ints) }

pub back-within_half : BackWithinHalf
unfolding BackWithinHalf thousandths_of
back-within_half word = half (pos 1000 *ℤ scaled_of word)

pub vout-back_within_half : VoutBackWithinHalf
unfolding VoutBackWithinHalf vout_thousandths_of
vout-back_within_half word =
    record { within = omega (arith, ints); farther = λ e. omega (arith, ints) }
