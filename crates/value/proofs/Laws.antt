-- What the fractions mean: a Linear11 fraction is the scaled value over 65,536, and the order of such fractions is that of the values.
-- Assumes nothing.
use mathlib.Core.Path.{◌≡◌, refl, sym, ap, ap₂, ◌∙◌}
use Prim.Native.Nat.{ℕ, zero, suc, ◌*◌, ◌/◌, ◌^◌, ◌<◌}
use native.Mathlib.Nat.{mul_assoc, mul_comm, mul-pos, mul-le-mul_right, mul-lt-mul_of_pos_right}
use native.Mathlib.Omega.{arith}
use lib.IntN.{ℤ, pos, negsuc, neg_ℤ, nat_abs, ◌+ℤ◌, ◌*ℤ◌, neg_ℤ-neg_ℤ, *ℤ-negsuc}
use lib.Signed.{lt_z}
use lib.Pow.{pow_pos}
use lib.Dec.{ltb}
use borrow.Author.Tests.{le-ltb}
use Rattle.laws.proofs.Branches.{either}
use Rattle.laws.proofs.Every.{agree}
use Rattle.linear11.specs.Linear11.{signed_of, mantissa, exponent, scaled_of, order_of, word_order, linear_order}
use Rattle.value.specs.Value.{above, under, linear_num, linear_den, signed_by, direct_top, direct_num}
use Rattle.value.proofs.Orders.{both-up, both-down, down-up, up-down, same_test, same_order}
use Rattle.value.proofs.Powers.{times_one}

neg_times : (m q : ℕ) → neg_ℤ (pos m) *ℤ pos q ≡ neg_ℤ (pos (m * q))
neg_times zero q = let e : 0 * q ≡ 0 = omega arith in rw e
neg_times (suc m) q = refl

pub times_times : (z : ℤ) (p q : ℕ) → z *ℤ pos p *ℤ pos q ≡ z *ℤ pos (p * q)
times_times (pos a) p q = ap pos (mul_assoc a p q)
times_times (negsuc a) p q = neg_times (suc a * p) q ∙ ap (λ (n : ℕ). neg_ℤ (pos n)) (mul_assoc (suc a) p q)

powers : (w : ℕ) → w < 65536 → 2 ^ above (exponent w) * 65536 ≡ 2 ^ nat_abs (exponent w +ℤ pos 16) * 2 ^ under (exponent w)
unfolding exponent signed_of above under
powers w h = agree (λ n. 2 ^ above (signed_of 16 n) * 65536) (λ n. 2 ^ nat_abs (signed_of 16 n +ℤ pos 16) * 2 ^ under (signed_of 16 n)) 32 tt (w / 2048) (omega arith)

pub linear_means : (w : ℕ) → w < 65536 → linear_num w *ℤ pos 65536 ≡ scaled_of w *ℤ pos (linear_den w)
unfolding linear_num linear_den scaled_of
linear_means w h =
    times_times (mantissa w) (2 ^ above (exponent w)) 65536
    ∙ ap (λ (n : ℕ). mantissa w *ℤ pos n) (powers w h)
    ∙ sym (times_times (mantissa w) (2 ^ nat_abs (exponent w +ℤ pos 16)) (2 ^ under (exponent w)))

-- a common factor
word-scale : (a b k : ℕ) → 0 < k → word_order (a * k) (b * k) ≡ word_order a b
word-scale a b k h = sym (same_order a b (a * k) (b * k) (test a b) (test b a))
  where
    test : (x y : ℕ) → ltb x y ≡ ltb (x * k) (y * k)
    test x y = same_test x y (x * k) (y * k) (λ l. mul-lt-mul_of_pos_right {m = x} {n = y} {k = k} l h) (λ l. mul-le-mul_right {m = y} {n = x} k l)

pub scale : (x y : ℤ) (k : ℕ) → 0 < k → order_of (x *ℤ pos k) (y *ℤ pos k) ≡ order_of x y
scale x y k h =
    either (lt_z x (pos 0))
    (λ e. either (lt_z y (pos 0))
    (λ f. sym (both-down k k x y e f) ∙ word-scale (nat_abs y) (nat_abs x) k h ∙ sym (word-scale (nat_abs y) (nat_abs x) 1 (omega arith)) ∙ both-down 1 1 x y e f ∙ plain)
    (λ f. sym (down-up k k x y h e f) ∙ down-up 1 1 x y (omega arith) e f ∙ plain))
    (λ e. either (lt_z y (pos 0))
    (λ f. sym (up-down k k x y h e f) ∙ up-down 1 1 x y (omega arith) e f ∙ plain)
    (λ f. sym (both-up k k x y e f) ∙ word-scale (nat_abs x) (nat_abs y) k h ∙ sym (word-scale (nat_abs x) (nat_abs y) 1 (omega arith)) ∙ both-up 1 1 x y e f ∙ plain))
  where
    plain : order_of (x *ℤ pos 1) (y *ℤ pos 1) ≡ order_of x y
    plain = ap₂ order_of (times_one x) (times_one y)

some : (w : ℕ) → 0 < linear_den w
unfolding linear_den
some w = pow_pos (under (exponent w))

cross : (w c : ℕ) → w < 65536 → linear_num w *ℤ pos c *ℤ pos 65536 ≡ scaled_of w *ℤ pos (linear_den w * c)
cross w c h =
    times_times (linear_num w) c 65536 ∙ ap (λ (n : ℕ). linear_num w *ℤ pos n) (mul_comm c 65536) ∙ sym (times_times (linear_num w) 65536 c)
    ∙ ap (λ (z : ℤ). z *ℤ pos c) (linear_means w h) ∙ times_times (scaled_of w) (linear_den w) c

-- the order of two Linear11 fractions is the order of data sheet 5.5 of the words
pub linear_agrees : (a b : ℕ) → a < 65536 → b < 65536
    → order_of (linear_num a *ℤ pos (linear_den b)) (linear_num b *ℤ pos (linear_den a)) ≡ linear_order a b
unfolding linear_order
linear_agrees a b h k =
    sym (scale (linear_num a *ℤ pos (linear_den b)) (linear_num b *ℤ pos (linear_den a)) 65536 (omega arith))
    ∙ ap₂ order_of (cross a (linear_den b) h) (cross b (linear_den a) k ∙ ap (λ (n : ℕ). scaled_of b *ℤ pos n) (mul_comm (linear_den b) (linear_den a)))
    ∙ scale (scaled_of a) (scaled_of b) (linear_den a * linear_den b) (mul-pos {m = linear_den a} {n = linear_den b} (some a) (some b))

-- a DIRECT fraction is (Y times 10 to the -R, less b) over m, whatever m's sign
pub turned : (t : ℤ) (k : ℕ) → neg_ℤ (neg_ℤ t *ℤ pos k) ≡ t *ℤ pos k
turned (pos zero) k = let e : 0 * k ≡ 0 = omega arith in rw e
turned (pos (suc a)) k = neg_ℤ-neg_ℤ (pos (suc a * k))
turned (negsuc a) k = refl

pub direct_means : (y m b r : ℤ) → direct_num y m b r *ℤ m ≡ direct_top y b r *ℤ pos (nat_abs m)
unfolding direct_num signed_by
direct_means y (pos n) b r = rw (le-ltb n 0 (omega arith))
direct_means y (negsuc n) b r = *ℤ-negsuc (neg_ℤ (direct_top y b r)) n ∙ turned (direct_top y b r) (suc n)
