-- Words and bytes in two's complement: what the machine's cast of them gives, and the order of two such numbers.
-- Assumes nothing.
use mathlib.Core.Path.{◌≡◌}
use Prim.Native.Nat.{ℕ, ◌-◌, ◌<◌, ◌≤◌, ◌^◌}
use native.Mathlib.Nat.{mul-le-mul}
use native.Mathlib.Omega.{arith}
use lib.Dec.{ltb}
use lib.IntN.{ℤ, pos, negsuc, nat_abs, ◌-ℤ◌, ◌*ℤ◌}
use lib.Signed.{lt_z}
use mir.Syntax.{Width, w8, w16, w64, w128}
use mir.Val.{to_z, of_z, SFits}
use mir.ValLaws.{to_z-of_z}
use Rattle.std.specs.Ordering.{ordering_reverse}
use Rattle.std.proofs.Math.Dec.{lit<}
use Rattle.std.proofs.lemmas.Int.{fits_signed_mul}
use Rattle.laws.proofs.Branches.{either}
use Rattle.signs.proofs.Machine.{fits_size, abs_times, abs_minus}
use Rattle.linear11.specs.Linear11.{signed_of, order_of}
use Rattle.linear11.proofs.Picked.{one_way}
use Rattle.linear11.proofs.Range.{below-zero}
use Rattle.value.specs.Format.{signed_word, signed_byte}

pub cast_word : (w : ℕ) → w < 65536 → to_z w16 w ≡ signed_word w
unfolding signed_of
cast_word w h = either (ltb w 32768) (λ e. rw e) (λ e. rw (e, below-zero w 65536 h))

pub cast_byte : (x : ℕ) → x < 256 → to_z w8 x ≡ signed_byte x
unfolding signed_of
cast_byte x h = either (ltb x 128) (λ e. rw e) (λ e. rw (e, below-zero x 256 h))

pub reversed : (x y : ℤ) → ordering_reverse (order_of x y) ≡ order_of y x
unfolding order_of
reversed x y =
    either (lt_z x y) (λ e. rw (e, one_way x y e))
    (λ e. either (lt_z y x) (λ f. rw (e, f)) (λ f. rw (e, f)))

-- what the machine's product of two numbers gives, at a width that holds it
module _ (w : Width) {x y : ℤ} (a b : ℤ) (f : SFits w x) (g : SFits w y) (e : x ≡ a) (d : y ≡ b) where
  pub product : SFits w (a *ℤ b) → to_z w (of_z w (to_z w (of_z w x) *ℤ to_z w (of_z w y))) ≡ a *ℤ b
  product h = rw (to_z-of_z w x f, to_z-of_z w y g, e, d) (to_z-of_z w (a *ℤ b) h)

abs_fits : (x : ℤ) → SFits w64 x → nat_abs x ≤ 2 ^ 63
abs_fits (pos n) f = omega arith
abs_fits (negsuc n) f = omega arith

-- 64 bits by 64 bits: at the lowest number and the greatest, 2 ^ 127 less 2 ^ 63
pub product_fits : (x : ℤ) (p : ℕ) → SFits w64 x → p < 2 ^ 64 → SFits w128 (x *ℤ pos p)
product_fits x p f h = fits_signed_mul w128 x (pos p) (2 ^ 63) (2 ^ 64 - 1) (abs_fits x f) (omega arith) (lit< tt)

-- a word by at most a million, less such a product
factor : (y : ℤ) (p : ℕ) → SFits w16 y → p ≤ 1000000 → nat_abs (y *ℤ pos p) ≤ 32768000000
factor y p f h = rw (abs_times y (pos p)) (mul-le-mul {n₁ = nat_abs y} {m₁ = p} {n₂ = 32768} {m₂ = 1000000} (small y f) h)
  where
    small : (x : ℤ) → SFits w16 x → nat_abs x ≤ 32768
    small (pos n) f = omega arith
    small (negsuc n) f = omega arith

pub factor_fits : (y : ℤ) (p : ℕ) → SFits w16 y → p ≤ 1000000 → SFits w64 (y *ℤ pos p)
factor_fits y p f h = fits_size (y *ℤ pos p) (omega (arith, factor y p f h))

pub top_size : (y : ℤ) (p : ℕ) (b : ℤ) (q : ℕ) → SFits w16 y → p ≤ 1000000 → SFits w16 b → q ≤ 1000000
    → nat_abs (y *ℤ pos p -ℤ b *ℤ pos q) < 2 ^ 63
top_size y p b q f h g k = omega (arith, abs_minus (y *ℤ pos p) (b *ℤ pos q), factor y p f h, factor b q g k)
