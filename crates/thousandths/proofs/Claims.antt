-- The guarantees of the conversions hold.
-- Assumes nothing.
use mathlib.Core.Path.{◌≡◌, refl}
use mathlib.Core.Bool.{true}
use Prim.Native.Nat.{ℕ, ◌*◌, ◌≤◌}
use native.Mathlib.Omega.{arith}
use lib.IntN.{ℤ, pos, nat_abs, ◌+ℤ◌}
use Rattle.std.proofs.lemmas.Int.{ints}
use Rattle.laws.proofs.Branches.{either}
use Rattle.linear11.specs.Linear11.{signed_of, mantissa, exponent, scaled_of}
use Rattle.signs.specs.Signs.{is_within}
use Rattle.thousandths.specs.Conversion.{unit, start, spot, rounded, row_best, nearer, best, target, lowest, highest, conversion_of, thousandths_of}
use Rattle.thousandths.specs.Nearest.{Nearest}
use Rattle.thousandths.specs.Claims.{NearestFound, OnlyOne, OutsideRefused, Limits, Claims}
use Rattle.thousandths.proofs.Raised.{Raised}
use Rattle.thousandths.proofs.Search.{best-is}
use Rattle.thousandths.proofs.Words.{nearest_is, only}
use Rattle.thousandths.proofs.Ends.{small, inside_within, within-inside}
use Rattle.thousandths.proofs.Back.{back-within_half, vout-back_within_half}
use Rattle.thousandths.proofs.Units.{vout-nearest_found, vout-only_one, vout-outside_refused, vout-comes_back}

-- a count moved up by at least its size
moved : (z : ℤ) (k : ℕ) → nat_abs z ≤ k → Raised z k (nat_abs (z +ℤ pos k))
moved z k h = omega (arith, ints)

within-nearest : (count : ℤ) → is_within lowest highest count ≡ true → Nearest count (best (target count) 31).word
unfolding target
within-nearest count e =
    let s = nat_abs (count +ℤ pos 33554432000) in
    nearest_is count s (moved count 33554432000 (small count e)) (best (s * 65536) 31) (best-is (s * 65536) 31 (omega arith))

nearest_found : NearestFound
unfolding NearestFound conversion_of
nearest_found count i = let e = inside_within count i in rw e (refl, within-nearest count e)

only_one : OnlyOne
unfolding OnlyOne
only_one count w v a b = only count w v a b

outside_refused : OutsideRefused
unfolding OutsideRefused conversion_of
outside_refused count h =
    either (is_within lowest highest count) (λ e. absurd (h (within-inside count e))) (λ e. rw e)

limits : Limits
unfolding
    signed_of mantissa exponent scaled_of unit start spot rounded row_best nearer best target conversion_of
    thousandths_of
limits = record { lowest = refl; highest = refl; below = refl; above = refl }

pub claims : Claims
claims = record {
  nearest_found = nearest_found;
  only_one = only_one;
  outside_refused = outside_refused;
  back-within_half = back-within_half;
  limits = limits;
  vout-nearest_found = vout-nearest_found;
  vout-only_one = vout-only_one;
  vout-outside_refused = vout-outside_refused;
  vout-back_within_half = vout-back_within_half;
  vout-comes_back = vout-comes_back;
}
