-- The size of a word's value, for the way back.
-- Assumes nothing.
use Prim.Native.Nat.{ℕ, ◌+◌, ◌*◌, ◌^◌, ◌<◌, ◌≤◌}
use native.Mathlib.Nat.{mul-le-mul_right}
use native.Mathlib.Omega.{arith}
use lib.Pow.{pow_mono}
use lib.IntN.{ℤ, nat_abs}
use Rattle.std.proofs.lemmas.Int.{ints}
use Rattle.linear11.specs.Linear11.{scaled_of}
use Rattle.thousandths.proofs.Search.{row, offset}
use Rattle.thousandths.proofs.Places.{scaled_raised}
use Rattle.thousandths.proofs.Raised.{Raised}

abs_raised : (z : ℤ) (k p : ℕ) → Raised z k p → p ≤ k + k → nat_abs z ≤ k
abs_raised z k p r h = omega (arith, ints)

pub scaled_size : (w : ℕ) → w < 65536 → nat_abs (scaled_of w) ≤ 2199023255552
scaled_size w h =
    omega (
      arith,
      abs_raised (scaled_of w) (1024 * 2 ^ row w) (offset w * 2 ^ row w) (scaled_raised w h)
          (omega (arith, mul-le-mul_right {m = offset w} {n = 2048} (2 ^ row w) (omega arith))),
      pow_mono {i = row w} {j = 31} (omega arith),
    )
