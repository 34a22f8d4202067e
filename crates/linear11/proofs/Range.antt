-- The size of the signed numbers of a Linear11 value, so that the machine's 64 bits hold them.
-- Assumes nothing.
use mathlib.Core.Path.{◌≡◌, sym, ap, ◌∙◌}
use Prim.Native.Nat.{ℕ, zero, suc, ◌+◌, ◌*◌, ◌-◌, ◌%◌, ◌/◌, ◌^◌, ◌<◌, ◌≤◌, zero-le}
use native.Mathlib.Nat.{mul-le-mul, mod-eq_of_lt, one-mul}
use native.Mathlib.Omega.{arith}
use lib.IntN.{ℤ, pos, negsuc, neg_ℤ, nat_abs, ◌+ℤ◌, ◌-ℤ◌, ◌*ℤ◌}
use lib.Signed.{mag, non_neg, pos-nat_abs}
use lib.Dec.{ltb}
use lib.Pow.{pow-lt, pow_mono}
use borrow.Author.Tests.{lt-ltb, ltb-true, ltb-false}
use mir.Syntax.{w64}
use mir.Val.{to_z, SFits}
use mir.ValLaws.{to_z_pos}
use Rattle.laws.proofs.Branches.{either}
use Rattle.laws.proofs.Every.{each, agree}
use Rattle.linear11.specs.Linear11.{signed_of, mantissa, exponent, scaled_of}

-- a difference that is negative
pub below-zero : (n m : ℕ) → n < m → pos n -ℤ pos m ≡ negsuc (m - suc n)
below-zero n zero h = absurd (omega arith)
below-zero n (suc m) h = simp (lt-ltb n (suc m) h)

-- a number in two's complement has at most the size of its high bit
pub signed_size : (half n : ℕ) → n < half * 2 → nat_abs (signed_of half n) ≤ half
unfolding signed_of
signed_size half n h =
    either (ltb n half)
    (λ e. rw e (omega (arith, ltb-true n half e)))
    (λ e. rw (e, below-zero n (half * 2) h) (omega (arith, ltb-false n half e)))

-- Y is -1024 to 1023
pub mantissa-size : (word : ℕ) → nat_abs (mantissa word) ≤ 1024
unfolding mantissa
mantissa-size word = signed_size 1024 (word % 2048) (omega arith)

-- N + 16 is the high five bits, with the highest turned over
pub shift_is : (word : ℕ) → word < 2 ^ 16 → exponent word +ℤ pos 16 ≡ pos ((word / 2048 + 16) % 32)
unfolding exponent signed_of
shift_is word h =
    sym (pos-nat_abs (signed_of 16 (word / 2048) +ℤ pos 16) (each (λ n. non_neg (signed_of 16 n +ℤ pos 16)) 32 tt (word / 2048) (omega arith)))
    ∙ ap pos (agree (λ n. nat_abs (signed_of 16 n +ℤ pos 16)) (λ n. (n + 16) % 32) 32 tt (word / 2048) (omega arith))

-- 1 << e
pub one_shifted : (e : ℕ) → e < 32 → to_z w64 (1 * 2 ^ e % 2 ^ 64) ≡ pos (2 ^ e)
one_shifted e h =
    ap (to_z w64) (ap (λ (n : ℕ). n % 2 ^ 64) (one-mul (2 ^ e)) ∙ mod-eq_of_lt (pow-lt {i = e} {j = 64} (omega arith)))
    ∙ to_z_pos w64 (2 ^ e) (pow-lt {i = e} {j = 63} (omega arith))

product_fits : (y : ℤ) (p : ℕ) → nat_abs y ≤ 1024 → p ≤ 2 ^ 31 → SFits w64 (y *ℤ pos p)
product_fits (pos a) p h k = record { sfits = omega (arith, mul-le-mul h k) }
product_fits (negsuc a) p h k = record { sfits = omega (arith, mag_neg (suc a * p), mul-le-mul h k) }
  where
    mag_neg : (n : ℕ) → mag (neg_ℤ (pos n)) ≤ n
    mag_neg zero = zero-le
    mag_neg (suc n) = omega arith

pub scaled_fits : (word : ℕ) → word < 2 ^ 16 → SFits w64 (scaled_of word)
unfolding scaled_of
scaled_fits word h =
    product_fits (mantissa word) _ (mantissa-size word)
    (rw (shift_is word h) (pow_mono {i = (word / 2048 + 16) % 32} {j = 31} (omega arith)))
