-- Where a Linear11 word lies among the places: its exponent, its value and its place, moved up so that they are not negative.
-- Assumes nothing.
use mathlib.Core.Path.{◌≡◌, sym, subst}
use Prim.Native.Nat.{ℕ, ◌+◌, ◌*◌, ◌-◌, ◌/◌, ◌%◌, ◌^◌, ◌<◌}
use native.Mathlib.Nat.{mul_comm, mul_assoc}
use native.Mathlib.Omega.{arith}
use lib.Dec.{ltb}
use lib.Pow.{pow_mono}
use lib.IntN.{pos, ◌*ℤ◌, *ℤ_comm}
use borrow.Author.Tests.{ltb-true, ltb-false}
use Rattle.std.proofs.lemmas.Int.{ints}
use Rattle.laws.proofs.Branches.{either}
use Rattle.linear11.specs.Linear11.{signed_of, mantissa, exponent, scaled_of}
use Rattle.linear11.proofs.Range.{below-zero, shift_is}
use Rattle.thousandths.specs.Conversion.{unit, start, spot}
use Rattle.thousandths.proofs.Search.{row, offset}
use Rattle.thousandths.proofs.Raised.{Raised, raised-times, raised-more}

module _ (w : ℕ) (h : w < 65536) where
  mantissa-raised : Raised (mantissa w) 1024 (offset w)
  unfolding mantissa signed_of
  mantissa-raised =
      either (ltb (w % 2048) 1024)
      (λ e. rw e (omega (arith, ints, ltb-true (w % 2048) 1024 e)))
      (λ e. rw (e, below-zero (w % 2048) 2048 (omega arith)) (omega (arith, ints, ltb-false (w % 2048) 1024 e)))

  pub exponent-raised : Raised (exponent w) 16 (row w)
  unfolding exponent signed_of
  exponent-raised =
      either (ltb (w / 2048) 16)
      (λ e. rw e (omega (arith, ints, ltb-true (w / 2048) 16 e)))
      (λ e. rw (e, below-zero (w / 2048) 32 (omega arith)) (omega (arith, ints, ltb-false (w / 2048) 16 e)))

  pub scaled_raised : Raised (scaled_of w) (1024 * 2 ^ row w) (offset w * 2 ^ row w)
  unfolding scaled_of
  scaled_raised = rw (shift_is w h) (raised-times (mantissa w) (2 ^ row w) 1024 (offset w) mantissa-raised)

  spot_is : offset w * 2 ^ row w * 1000 + (2199023255552000 - 1024 * 2 ^ row w * 1000) ≡ spot (row w) (offset w)
  unfolding spot start unit
  spot_is = omega (arith, mul_assoc 1000 (2 ^ row w) (offset w), mul_comm (2 ^ row w) (offset w))

  pub spot-raised : Raised (pos 1000 *ℤ scaled_of w) 2199023255552000 (spot (row w) (offset w))
  spot-raised =
      let s = scaled_raised in
      let more = 2199023255552000 - 1024 * 2 ^ row w * 1000 in
      let all : 1024 * 2 ^ row w * 1000 + more ≡ 2199023255552000 = omega (arith, pow_mono {i = row w} {j = 31} (omega arith)) in
      rw (*ℤ_comm (pos 1000) (scaled_of w), sym spot_is)
      (subst (λ (k : ℕ). Raised (scaled_of w *ℤ pos 1000) k (offset w * 2 ^ row w * 1000 + more)) all
      (raised-more (scaled_of w *ℤ pos 1000) (1024 * 2 ^ row w * 1000) (offset w * 2 ^ row w * 1000) more
      (raised-times (scaled_of w) 1000 (1024 * 2 ^ row w) (offset w * 2 ^ row w) s)))
