-- A whole number moved up by k, so that its facts become facts of numbers from 0 up.
-- Assumes nothing.
use mathlib.Core.Path.{◌≡◌, sym, ap, ◌∙◌}
use Prim.Native.Nat.{ℕ, suc, ◌+◌, ◌*◌, ◌≤◌, ◌<◌}
use native.Mathlib.Nat.{add-mul}
use native.Mathlib.Omega.{arith}
use lib.IntN.{ℤ, pos, negsuc, nat_abs, ◌+ℤ◌, ◌-ℤ◌, ◌*ℤ◌}
use lib.Signed.{◌≤ℤ◌, ◌<ℤ◌}
use Rattle.std.proofs.lemmas.Int.{ints}
use Rattle.thousandths.specs.Conversion.{distance}

-- a + k is p
abbrev pub Raised : ℤ → ℕ → ℕ → Type 0
Raised a k p = a +ℤ pos k ≡ pos p

-- products
pub raised-times : (a : ℤ) (q k p : ℕ) → Raised a k p → Raised (a *ℤ pos q) (k * q) (p * q)
raised-times (pos n) q k p h =
    let e : n + k ≡ p = omega (arith, ints) in
    let m : n * q + k * q ≡ p * q = sym (add-mul n k q) ∙ ap (λ (x : ℕ). x * q) e in
    omega (arith, ints)
raised-times (negsuc n) q k p h =
    let e : p + suc n ≡ k = omega (arith, ints) in
    let m : p * q + suc n * q ≡ k * q = sym (add-mul p (suc n) q) ∙ ap (λ (x : ℕ). x * q) e in
    omega (arith, ints)

pub raised-more : (a : ℤ) (k p m : ℕ) → Raised a k p → Raised a (k + m) (p + m)
raised-more a k p m h = omega (arith, ints)

-- differences
pub raised-gap : (a b : ℤ) (k p t : ℕ) → Raised a k p → Raised b k t → nat_abs (a -ℤ b) ≡ distance t p
raised-gap a b k p t h j = omega (arith, ints)

-- order
pub raised-le : (a b : ℤ) (k p q : ℕ) → Raised a k p → Raised b k q → p ≤ q → a ≤ℤ b
raised-le a b k p q h j l = omega (arith, ints)

pub raised_lt : (a b : ℤ) (k p q : ℕ) → Raised a k p → Raised b k q → p < q → a <ℤ b
raised_lt a b k p q h j l = omega (arith, ints)

pub raised-same : (a b : ℤ) (k p : ℕ) → Raised a k p → Raised b k p → a ≡ b
raised-same a b k p h j = omega (arith, ints)

-- and the other way
pub raised-lt_back : (a b : ℤ) (k p q : ℕ) → Raised a k p → Raised b k q → a <ℤ b → p < q
raised-lt_back a b k p q h j l = omega (arith, ints)

pub raised-le-back : (a b : ℤ) (k p q : ℕ) → Raised a k p → Raised b k q → a ≤ℤ b → p ≤ q
raised-le-back a b k p q h j l = omega (arith, ints)

pub raised-same-back : (a : ℤ) (k p q : ℕ) → Raised a k p → Raised a k q → p ≡ q
raised-same-back a k p q h j = omega (arith, ints)
