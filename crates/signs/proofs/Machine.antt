-- Signed numbers as the machine's 64 bits hold them: what fits, by the number's size.
-- Assumes nothing.
use mathlib.Core.Path.{◌≡◌, refl}
use Prim.Native.Nat.{suc, ◌+◌, ◌*◌, ◌≤◌, ◌<◌}
use native.Mathlib.Omega.{arith}
use lib.IntN.{ℤ, pos, negsuc, neg_ℤ, nat_abs, ◌-ℤ◌, ◌*ℤ◌}
use mir.Syntax.{w64}
use mir.Val.{to_z, of_z, SFits}
use Rattle.std.proofs.lemmas.Int.{ints, to_z-of_z}

pub fits_size : (z : ℤ) → nat_abs z < 9223372036854775808 → SFits w64 z
fits_size (pos n) h = record { sfits = h }
fits_size (negsuc n) h = record { sfits = omega arith }

-- the machine's number, read back
pub held : (z : ℤ) → nat_abs z < 9223372036854775808 → to_z w64 (of_z w64 z) ≡ z
held z h = to_z-of_z w64 z (fits_size z h)

-- sizes
pub abs_neg : (z : ℤ) → nat_abs (neg_ℤ z) ≡ nat_abs z
abs_neg z = omega (arith, ints)

pub abs_times : (x y : ℤ) → nat_abs (x *ℤ y) ≡ nat_abs x * nat_abs y
abs_times (pos a) (pos b) = refl
abs_times (pos a) (negsuc b) = abs_neg (pos (a * suc b))
abs_times (negsuc a) (pos b) = abs_neg (pos (suc a * b))
abs_times (negsuc a) (negsuc b) = refl

pub abs_minus : (x y : ℤ) → nat_abs (x -ℤ y) ≤ nat_abs x + nat_abs y
abs_minus x y = omega (arith, ints)
