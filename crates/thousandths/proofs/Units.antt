-- VOUT words: the nearest to a count, and the count back from it.
-- Assumes nothing.
use mathlib.Core.Path.{◌≡◌, refl, sym, ap, ◌∙◌}
use mathlib.Core.Bool.{true}
use Prim.Native.Nat.{ℕ, ◌<◌, ◌≤◌}
use native.Mathlib.Omega.{arith}
use lib.Dec.{ltb}
use lib.IntN.{ℤ, pos, negsuc, nat_abs}
use borrow.Author.Tests.{ltb-true, ltb-false}
use Rattle.std.proofs.lemmas.Int.{ints}
use Rattle.laws.proofs.Branches.{either}
use Rattle.signs.specs.Signs.{is_within}
use Rattle.thousandths.specs.Conversion.{converted}
use Rattle.thousandths.specs.Vout.{vout_highest, vout_word, vout_conversion_of, vout_thousandths_of}
use Rattle.thousandths.specs.Nearest.{vout_gap, VoutNearest}
use Rattle.thousandths.specs.Claims.{VoutNearestFound, VoutOnlyOne, VoutOutsideRefused, VoutComesBack}
use Rattle.thousandths.proofs.Ends.{vout-small, vout-not_below, vout-inside_within, vout-within_inside}

made : (count : ℤ) → is_within (pos 0) vout_highest count ≡ true → vout_conversion_of count ≡ converted 0 (vout_word (nat_abs count))
unfolding vout_conversion_of
made count e = rw e

-- ---- the nearest word

nearest_is : (n : ℕ) → n ≤ 7999 → VoutNearest (pos n) (vout_word n)
unfolding vout_gap
nearest_is n l = record {
  a_word = omega arith;
  first = λ v k. omega (arith, ints);
}

pub vout-nearest_found : VoutNearestFound
unfolding VoutNearestFound
vout-nearest_found (pos n) i =
    let e = vout-inside_within (pos n) i in
    rw (made (pos n) e) (refl, nearest_is n (vout-small (pos n) e))
vout-nearest_found (negsuc n) i = absurd (vout-not_below n i)

-- ---- is the only one: n * 8192 / 1000 is n * 1024 / 125, which is never a half

module _ (n w : ℕ) (a : VoutNearest (pos n) w) where
  near : vout_word n < 65536 → w ≡ vout_word n
  unfolding vout_gap
  near h = omega (arith, ints, a.first (vout_word n) h)

  top : 65536 ≤ vout_word n → w ≡ 65535
  unfolding vout_gap
  top h = omega (arith, ints, a.first 65535 (omega arith))

bottom : (n w : ℕ) → VoutNearest (negsuc n) w → w ≡ 0
unfolding vout_gap
bottom n w a = omega (arith, ints, a.first 0 (omega arith))

pub vout-only_one : VoutOnlyOne
unfolding VoutOnlyOne
vout-only_one (pos n) w v a b =
    either (ltb (vout_word n) 65536)
    (λ e. let h = ltb-true (vout_word n) 65536 e in near n w a h ∙ sym (near n v b h))
    (λ e. let h = ltb-false (vout_word n) 65536 e in top n w a h ∙ sym (top n v b h))
vout-only_one (negsuc n) w v a b = bottom n w a ∙ sym (bottom n v b)

-- ---- outside, and back

pub vout-outside_refused : VoutOutsideRefused
unfolding VoutOutsideRefused vout_conversion_of
vout-outside_refused count h =
    either (is_within (pos 0) vout_highest count) (λ e. absurd (h (vout-within_inside count e))) (λ e. rw e)

pub vout-comes_back : VoutComesBack
unfolding VoutComesBack vout_thousandths_of
vout-comes_back (pos n) i = rw (made (pos n) (vout-inside_within (pos n) i)) (ap pos (omega arith))
vout-comes_back (negsuc n) i = absurd (vout-not_below n i)
