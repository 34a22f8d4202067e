-- A mask's bits are taken out of a byte.
-- Assumes nothing.
use Prim.Native.Nat.{ℕ, ◌-◌, ◌+◌, ◌*◌, ◌/◌, ◌%◌, ◌<◌}
use mathlib.Core.Path.{◌≡◌}
use native.Mathlib.Omega.{arith}
use Rattle.std.specs.Int.Bits.{bit_and, bit_xor}
use Rattle.laws.proofs.Every.{agree}

pub cleared : (x m : ℕ) → x < 256 → m < 256 → bit_and x (255 - m) ≡ bit_xor x (bit_and x m)
cleared x m h k =
    let a : (x * 256 + m) / 256 ≡ x = omega arith in
    let b : (x * 256 + m) % 256 ≡ m = omega arith in
    rw (a, b) at (agree (λ n. bit_and (n / 256) (255 - n % 256)) (λ n. bit_xor (n / 256) (bit_and (n / 256) (n % 256))) 65536 tt (x * 256 + m) (omega arith))
